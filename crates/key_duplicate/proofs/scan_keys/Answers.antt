-- `key_duplicate::scan_keys` meets its contract: every item known or passed is new, and the item at hand equals none of those passed in the inner loop.
use native.Mathlib.Omega.{arith}
use Rattle.answer.proofs.Order.{none_yet}
use Rattle.key.proofs.Duplicates.{keys-book}
use Rattle.key.proofs.KeyColumns.{place-fits}
use Rattle.key.specs.Lent.{key_in}
use Rattle.key_duplicate.proofs.Scanning.{another, passed, found-twice, stopped-before}
use Rattle.key_duplicate.proofs.scan_keys.Goals as goal
use Rattle.key_duplicate.proofs.scan_keys.Goals.{then-loop-i-test+then-loop-j-test+then-same_key, else-loop-i-test}

pub loop-i-init : goal.loop-i-init
loop-i-init c = (c.requires.known.within, (keys-book _ _ _).1 c.requires.known.fresh)

pub loop-j-init : goal.loop-j-init
loop-j-init c = (omega arith, none_yet _)

pub loop-j-preserved : goal.loop-j-preserved
loop-j-preserved c =
    let a = c.args in
    another (key_in a.items) _ c.loop-j.j c.loop-j-test.true c.loop-j.invariant.1 c.same_key.ensures c.if-same_key.false

pub loop-i-preserved : goal.loop-i-preserved
loop-i-preserved c =
    let loop = c.loop-j in
    passed _ _ _ c.loop-i.invariant.1 _ loop.j c.loop-i-test.true c.loop-j-test.false loop.invariant.0 loop.invariant.1

pub place-requires : goal.place-requires
place-requires c =
    let items = c.requires.items in
    place-fits _ _ _ _ (items.each _ c.if-found-n.true) (omega arith) (omega arith)

pub returns-then-found-n : goal.returns-then-found-n
returns-then-found-n c =
    elim c.loop-i-test.branch [
      | then-loop-i-test+then-loop-j-test+then-same_key w ↦
          found-twice _ _ _ c.loop-i.invariant.1 _ w.loop-j.j _ w.found-is c.if-found-n.true w.loop-j-test.true w.same_key.ensures w.if-same_key.true c.place.ensures
      | else-loop-i-test w ↦ stopped-before _ _ w.found-is c.if-found-n.true
    ]
