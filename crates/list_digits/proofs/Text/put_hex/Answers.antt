-- `Text::put_hex` meets its contract: the bytes before this one are spelled.
use native.Mathlib.Omega.{arith}
use Rattle.list_digits.proofs.TextLaws.{puts_of, spelling-start, spelling-more, spelling-done}
use Rattle.list_digits.proofs.Text.put_hex.Goals as goal

pub loop-b-init : goal.loop-b-init
loop-b-init c = spelling-start _ _ (omega arith)

pub loop-b-preserved : goal.loop-b-preserved
loop-b-preserved c =
    let v = c.loop-b.invariant.puts in
    record {
      puts = puts_of v.same_reference (spelling-more _ _ _ _ _ _ v.put _ _ c.loop-b-test.true (omega arith) c.glyph.ensures c.glyph-in-loop-b.ensures);
      stops = omega arith;
    }

pub returns : goal.returns
returns c =
    let v = c.loop-b.invariant.puts in
    puts_of v.same_reference (spelling-done _ _ _ _ _ _ v.put _ (omega arith) (omega arith))
