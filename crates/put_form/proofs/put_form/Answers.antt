-- `put_form::put_form` meets its contract: everything before the footer, its checksum, and the footer.
use mathlib.Core.Path.{sym}
use native.Mathlib.Omega.{arith}
use lib.Seq.{length-take-le}
use Rattle.put_form.proofs.Body.{records-at, body-room, form-done}
use Rattle.put_form.proofs.put_form.Goals as goal

pub put_body-requires : goal.put_body-requires
put_body-requires c = let a = c.args in record { lines = c.requires.lines; shaped = c.requires.shaped; plan = c.requires.plan; h_value = records-at _ c.requires.shaped a.frame.heading a.h a.frame.bloom.now _ _ a.out.now c.requires.plan c.requires.h_value }

pub overflow_sub-body : goal.overflow_sub-body
overflow_sub-body c = let a = c.args in omega (arith, body-room _ c.requires.shaped a.frame.heading a.h a.frame.bloom.now _ _ a.out.now c.requires.plan c.requires.h_value _ c.put_body.ensures)

pub slice_bounds-checksum_by-end-2 : goal.slice_bounds-checksum_by-end-2
slice_bounds-checksum_by-end-2 c = sym (length-take-le _ _ (omega arith))

pub put_footer-requires : goal.put_footer-requires
put_footer-requires c = let a = c.args in omega (arith, body-room _ c.requires.shaped a.frame.heading a.h a.frame.bloom.now _ _ a.out.now c.requires.plan c.requires.h_value _ c.put_body.ensures)

pub returns : goal.returns
returns c = let a = c.args in
    form-done _ c.requires.shaped a.frame.heading a.h a.frame.bloom.now _ _ a.out.now c.requires.plan c.requires.h_value _ c.put_body.ensures _ _ c.checksum_by-checksum.ensures c.put_footer.ensures
