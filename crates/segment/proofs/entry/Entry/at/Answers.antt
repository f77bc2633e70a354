-- `segment::entry::Entry::at` meets its contract: field by field.
use Prim.Native.Nat.{ℕ, ◌+◌, ◌*◌}
use mathlib.Core.Path.{◌≡◌, ap, ◌∙◌}
use native.Mathlib.Omega.{arith}
use lib.ListN.{get_or}
use Rattle.segment.specs.Write.{entry_no}
use Rattle.segment.proofs.entry.Entry.at.Goals as goal

pub returns : goal.returns
unfolding entry_no
returns c =
    let args = c.args in
    let first : 9 * args.k + 0 ≡ 9 * args.k = omega arith in
    λ j. record {
      hash_id = (c.number.ensures ∙ ap (λ (i : ℕ). get_or args.list.now i 0) first) j;
      digest_start = c.number-2.ensures j;
      digest_length = c.number-3.ensures j;
      visibility = c.number-4.ensures j;
      imported = c.number-5.ensures j;
      source = c.number-6.ensures j;
      gone = c.number-7.ensures j;
      first_extent = c.number-8.ensures j;
      extent_count = c.number-9.ensures j;
    }
