-- The layout rules of Meets, gathered by the refusal that is given where one of them is broken: 51 to 55. Each has the name of its table in Check, with a
-- capital. Where `Shaped` holds of the shape, the five together say what LayoutMeets says.
-- Assumes nothing: these are definitions.
use Rattle.std.specs.Prelude.{ℕ, ◌+◌, ◌*◌, ◌%◌, ◌≤◌, ◌≡◌}
use Rattle.segment.specs.declared.header.Header.{Header}
use Rattle.segment.specs.declared.shape.Shape.{Shape}
use Rattle.segment.specs.Format.{
  header_size,
  extent_size,
  footer_size,
  record_limit,
  record_count,
  records_offset,
  bloom_offset,
  bloom_size,
  digests_offset,
  digests_size,
  extents_offset,
  extent_count,
}

-- 51
pub record BloomLaid (h : Header) : Type 0 where
  pub none : bloom_size h ≡ 0 → bloom_offset h ≡ 0
  pub some : (bloom_size h ≡ 0 → ⊥) → bloom_offset h ≡ header_size
  pub divides : bloom_size h % 8 ≡ 0

-- 52
pub record RecordsLaid (h : Header) : Type 0 where
  pub few : record_count h ≤ record_limit
  pub starts : records_offset h ≡ header_size + bloom_size h

-- 53
pub record DigestsLaid (sh : Shape) (h : Header) : Type 0 where
  pub starts : digests_offset h ≡ records_offset h + sh.record_size * record_count h
  pub divides : digests_size h % 8 ≡ 0

-- 54
abbrev pub ExtentsLaid : Header → Type 0
ExtentsLaid h = extents_offset h ≡ digests_offset h + digests_size h

-- 55, of a file of n bytes
abbrev pub LengthLaid : ℕ → Header → Type 0
LengthLaid n h = n ≡ extents_offset h + extent_size * extent_count h + footer_size
