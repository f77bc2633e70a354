-- `put_form::put_body` meets its contract: header, bloom bytes and sections, one behind the other.
use native.Mathlib.Omega.{arith}
use Rattle.put_form.proofs.Body.{head-room, long₁, stretch-room, same-plan, body-done}
use Rattle.put_form.proofs.put_body.Goals as goal

pub put_header-requires : goal.put_header-requires
put_header-requires c = let a = c.args in
    omega (arith, head-room _ c.requires.shaped a.h a.frame.bloom.now _ _ a.out.now c.requires.plan c.requires.h_value)

pub copy_bytes-requires : goal.copy_bytes-requires
copy_bytes-requires c = let a = c.args in
    omega (arith, head-room _ c.requires.shaped a.h a.frame.bloom.now _ _ a.out.now c.requires.plan c.requires.h_value, long₁ _ c.requires.shaped a.h a.frame.bloom.now _ _ a.out.now c.requires.plan c.requires.h_value _ c.put_header.ensures)

pub overflow_sub-end : goal.overflow_sub-end
overflow_sub-end c = let a = c.args in
    omega (arith, stretch-room _ c.requires.shaped a.h a.frame.bloom.now _ _ a.out.now c.requires.plan c.requires.h_value _ c.put_header.ensures _ c.copy_bytes.ensures)

pub slice_bounds-put_sections-count : goal.slice_bounds-put_sections-count
slice_bounds-put_sections-count c = let a = c.args in
    omega (arith, stretch-room _ c.requires.shaped a.h a.frame.bloom.now _ _ a.out.now c.requires.plan c.requires.h_value _ c.put_header.ensures _ c.copy_bytes.ensures)

pub slice_bounds-put_sections-start : goal.slice_bounds-put_sections-start
slice_bounds-put_sections-start c = let a = c.args in
    omega (arith, stretch-room _ c.requires.shaped a.h a.frame.bloom.now _ _ a.out.now c.requires.plan c.requires.h_value _ c.put_header.ensures _ c.copy_bytes.ensures)

pub put_sections-requires : goal.put_sections-requires
put_sections-requires c = let a = c.args in
    record { lines = c.requires.lines; shaped = c.requires.shaped; plan = same-plan _ c.requires.shaped a.h a.frame.bloom.now _ _ a.out.now c.requires.plan c.requires.h_value _ c.put_header.ensures _ c.copy_bytes.ensures }

pub returns : goal.returns
returns c = let a = c.args in
    body-done _ c.requires.shaped a.h a.frame.bloom.now _ _ a.out.now c.requires.plan c.requires.h_value _ c.put_header.ensures _ c.copy_bytes.ensures _ c.put_sections.ensures
