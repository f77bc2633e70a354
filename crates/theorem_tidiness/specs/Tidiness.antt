-- docs/FORMAT.md, "Meaning and tidy form", as a property of a file:
-- records ascend by hash id, then by digest bytes compared as unsigned bytes from the first. Digests are packed in
-- record order, then zeros up to a multiple of 8. Extents are packed in record order with none shared or unused.
--   sum_below    f 0 + f 1 + .., n of them
--   IsTidy      a file is tidy
-- Assumes nothing: these are definitions.
use Rattle.std.specs.Prelude.{ℕ, zero, suc, ◌+◌, ◌*◌, ◌≤◌, ◌<◌, ◌≡◌, true, List, get_or}
use Rattle.segment.specs.Format.{v3, extent_size, header_of, record_count, digests_offset, digests_size, extents_offset, extent_count}
use Rattle.lists.specs.Lists.{lex_leq}
use Rattle.segment.specs.Check.{key_no}
use Rattle.theorem_demands.specs.Refusals.{record_in}

unfoldable pub sum_below : ℕ → (ℕ → ℕ) → ℕ
sum_below zero f = 0
sum_below (suc n) f = sum_below n f + f n

-- the digest bytes and the extents of record k, and of all before it
abbrev pub digest_length : List ℕ → ℕ → ℕ
digest_length s k = (record_in s k).digest_length

abbrev pub digests_before : List ℕ → ℕ → ℕ
digests_before s k = sum_below k (digest_length s)

abbrev pub extents_of : List ℕ → ℕ → ℕ
extents_of s k = (record_in s k).extent_count

abbrev pub extents_before : List ℕ → ℕ → ℕ
extents_before s k = sum_below k (extents_of s)

-- the digests and the extents, each packed in record order
pub record IsPacked (s : List ℕ) : Type 0 where
  -- each digest begins where the one before it ends
  pub digests : (k : ℕ) → k < record_count (header_of s) → (record_in s k).digest_offset.0 ≡ digests_offset (header_of s) + digests_before s k
  -- the section's size, which the layout rules have divide by 8, is the least that has room for them; then zeros
  pub rounded : digests_size (header_of s) < digests_before s (record_count (header_of s)) + 8
  pub zeros : (i : ℕ) → digests_before s (record_count (header_of s)) ≤ i → i < digests_size (header_of s) → get_or s (digests_offset (header_of s) + i) 0 ≡ 0
  -- the extents of a record that is not gone begin where those before them end: none is shared, and none stands between
  pub extents : (k : ℕ) → k < record_count (header_of s) → ¬ ((record_in s k).flags ≡ 1)
      → (record_in s k).extents_offset.0 ≡ extents_offset (header_of s) + extent_size * extents_before s k
  -- nor behind the last
  pub none-unused : extent_count (header_of s) ≡ extents_before s (record_count (header_of s))

pub record IsTidy (s : List ℕ) : Type 0 where
  pub ascends : (k : ℕ) → suc k < record_count (header_of s) → lex_leq (key_no v3 s (header_of s) k) (key_no v3 s (header_of s) (suc k)) ≡ true
  pub packed : IsPacked s
