-- `put_form::emit` meets its contract: the four answers.
use Prim.Native.Nat.{ℕ, ◌≤◌}
use mathlib.Core.Path.{◌≡◌, sym}
use native.Mathlib.Omega.{arith}
use lib.Seq.{length-take-le}
use Rattle.put_item.proofs.ItemRows.{counted-in}
use Rattle.put_form.proofs.Planning.{moderate, bounded, form-header, form-long, plan, too_large, no_room, written, bloom-large}
use Rattle.put_form.proofs.emit.Goals as goal

cut : {m n k : ℕ} → m ≡ n → n ≤ k → m ≤ k
cut e h = omega arith

pub returns-then-size-gt-LIMIT : goal.returns-then-size-gt-LIMIT
returns-then-size-gt-LIMIT c =
    let a = c.args in
    too_large _ _ (bloom-large a.frame c.requires.shaped _ (omega arith))

pub measure-s-requires : goal.measure-s-requires
measure-s-requires c =
    let a = c.args in
    record { each = counted-in a.source a.numbers.now c.requires.lines; numbers_len_bound = c.requires.numbers_len_bound }

pub header_for-h-requires : goal.header_for-h-requires
header_for-h-requires c =
    let a = c.args in record { shaped = c.requires.shaped; moderate = moderate a.source a.frame c.requires.shaped a.numbers.now c.requires.lines c.requires.numbers_len_bound _ c.measure-s.ensures (omega arith) }

pub overflow_mul-n : goal.overflow_mul-n
overflow_mul-n c =
    let a = c.args in
    omega (arith, bounded a.source a.frame c.requires.shaped a.numbers.now c.requires.lines c.requires.numbers_len_bound _ c.measure-s.ensures _ c.header_for-h.ensures (omega arith))

pub overflow_add-n : goal.overflow_add-n
overflow_add-n c =
    let a = c.args in
    omega (arith, bounded a.source a.frame c.requires.shaped a.numbers.now c.requires.lines c.requires.numbers_len_bound _ c.measure-s.ensures _ c.header_for-h.ensures (omega arith))

pub overflow_add-n-2 : goal.overflow_add-n-2
overflow_add-n-2 c =
    let a = c.args in
    omega (arith, bounded a.source a.frame c.requires.shaped a.numbers.now c.requires.lines c.requires.numbers_len_bound _ c.measure-s.ensures _ c.header_for-h.ensures (omega arith))

pub returns-then-n-gt-LIMIT : goal.returns-then-n-gt-LIMIT
returns-then-n-gt-LIMIT c =
    let a = c.args in
    let n = form-long a.source a.frame c.requires.shaped a.numbers.now c.requires.lines c.requires.numbers_len_bound _ c.measure-s.ensures _ c.header_for-h.ensures in
    too_large _ _ (omega (arith, n, c.if-n-gt-LIMIT.true))

pub returns-then-out-n : goal.returns-then-out-n
returns-then-out-n c =
    let a = c.args in
    let n = form-long a.source a.frame c.requires.shaped a.numbers.now c.requires.lines c.requires.numbers_len_bound _ c.measure-s.ensures _ c.header_for-h.ensures in
    no_room _ _ (omega (arith, n, c.if-n-gt-LIMIT.false)) (omega (arith, n, c.if-out-n.true))

pub slice_bounds-put_form-end-2 : goal.slice_bounds-put_form-end-2
slice_bounds-put_form-end-2 c = sym (length-take-le _ _ (omega arith))

pub put_form-requires : goal.put_form-requires
put_form-requires c =
    let a = c.args in record {
      lines = c.requires.lines;
      shaped = c.requires.shaped;
      plan = plan a.source a.frame c.requires.shaped a.numbers.now c.requires.lines c.requires.numbers_len_bound _ c.measure-s.ensures _ c.header_for-h.ensures _ (length-take-le _ _ (omega (arith, c.if-out-n.false)))
          (cut (length-take-le _ _ (omega (arith, c.if-out-n.false))) c.if-n-gt-LIMIT.false);
      h_value = form-header a.source a.frame c.requires.shaped a.numbers.now c.requires.lines c.requires.numbers_len_bound _ c.measure-s.ensures _ c.header_for-h.ensures;
    }

pub returns : goal.returns
returns c =
    let a = c.args in
    let n = form-long a.source a.frame c.requires.shaped a.numbers.now c.requires.lines c.requires.numbers_len_bound _ c.measure-s.ensures _ c.header_for-h.ensures in
    written _ _ _ _ (sym n) (omega (arith, n, c.if-n-gt-LIMIT.false)) (omega (arith, n, c.if-out-n.false)) c.put_form.ensures
