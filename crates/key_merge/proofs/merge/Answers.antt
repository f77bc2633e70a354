-- `key_merge::merge` meets its contract: what is passed is merged, and the merge of the rest is still to be written.
use native.Mathlib.Omega.{arith}
use borrow.Author.Rules.{rules}
use Rattle.key_merge.proofs.Merging.{left-stands, right-stands, merge-starts, next-left, next-right, merged}
use Rattle.key_merge.proofs.merge.Goals as goal

pub loop-i-init : goal.loop-i-init
loop-i-init c = search (merge-starts, rules)

pub bounds-a-i : goal.bounds-a-i
bounds-a-i c = search left-stands

pub loop-i-preserved-then-left_next : goal.loop-i-preserved-then-left_next
loop-i-preserved-then-left_next c =
    let e = c.left_next.ensures in
    let h = left-stands _ _ _ c.loop-i.i c.loop-i.j _ e c.if-left_next.true in
    let v = c.loop-i.invariant in
    (omega arith, omega arith, search rules, next-left _ _ _ _ c.args.out.now c.loop-i.i c.loop-i.j v.3 c.requires.b_in_bounds v.2 _ e c.if-left_next.true (omega arith))

pub bounds-b-j : goal.bounds-b-j
bounds-b-j c = search right-stands

pub loop-i-preserved : goal.loop-i-preserved
loop-i-preserved c =
    let e = c.left_next.ensures in
    let h = right-stands _ _ _ c.loop-i.i c.loop-i.j _ e c.if-left_next.false (omega arith) (omega arith) in
    let v = c.loop-i.invariant in
    (omega arith, omega arith, search rules, next-right _ _ _ _ c.args.out.now c.loop-i.i c.loop-i.j v.3 c.requires.b_in_bounds v.2 _ e c.if-left_next.false (omega arith) (omega arith))

pub returns : goal.returns
returns c = search merged
