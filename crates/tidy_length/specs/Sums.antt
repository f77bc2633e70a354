-- What the length of a tidy form is told from.
--   Summed       the bytes of the records' digests, and their extents
--   sized_under   what is answered under a good table
-- Assumes nothing: these are definitions.
use Rattle.std.specs.Prelude.{ℕ, ◌≤◌, ◌≡◌, List, leb, length, Ok}
use Rattle.answer.specs.declared.Rule.TheVariants.{Large}
use Rattle.answer.specs.Rules.{must, ◌then◌}
use Rattle.answer.specs.Answers.{refusal, Written}
use Rattle.segment.specs.declared.header.Header.{Header}
use Rattle.segment.specs.declared.shape.Shape.{Shape}
use Rattle.segment.specs.Format.{v3, file_limit}
use Rattle.segment.specs.Check.{segment_verdict}
use Rattle.segment.specs.Meaning.{rows_of, meaning_of}
use Rattle.segment.specs.Tidy.{digest_bytes, extent_total, tidy_form}
use Rattle.tidy_length.specs.declared.Sums.{Sums}

-- at most 1,024 bytes of digest and 2^32 extents for each of 65,536 records
pub record Summed (sh : Shape) (s : List ℕ) (h : Header) (r : Sums) : Type 0 where
  pub digests : r.digests ≡ length (digest_bytes (rows_of sh s h))
  pub extents : r.extents ≡ extent_total (rows_of sh s h)
  pub short : r.digests ≤ 67108864
  pub few : r.extents ≤ 281474976710656

unfoldable pub sized_under : List ℕ → List ℕ → Written
sized_under pairs s =
    let n = length (tidy_form v3 (meaning_of v3 s)) in
    (segment_verdict v3 pairs s then must (leb n file_limit) (refusal Large 0)) then Ok n
