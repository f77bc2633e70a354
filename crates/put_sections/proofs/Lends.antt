-- A part of a list that was lent, and is back with other bytes; and the digest section in its two parts.
-- Assumes nothing.
use Prim.Native.Nat.{ℕ, ◌+◌}
use mathlib.Core.Path.{◌≡◌, sym, ◌∙◌}
use mathlib.Core.List.{List, ◌++◌, append_assoc}
use native.Mathlib.Omega.{arith}
use borrow.Rule.Slice.PartMut.{put_mid}
use lib.ListN.{length, take, drop, replicate, length-drop}
use lib.Seq.{drop-drop}
use Rattle.numbers.specs.Numbers.{put}
use Rattle.segment.specs.Tidy.{lacking}
use Rattle.key.specs.declared.Kind.{Kind}
use Rattle.put_sections.specs.Sections.{item_digests, item_section}

-- a part that is filled with other bytes
pub lent : (o q bs : List ℕ) (at k : ℕ) → q ≡ bs → k ≡ length bs → put_mid at k o q ≡ put o at bs
unfolding put
lent o q bs at k e n = rw (e, n, drop-drop (length bs) at o) (sym (append_assoc (take at o) bs (drop (at + length bs) o)))

-- ---- the digest section

module _ (kind : Kind) (bytes list numbers out : List ℕ) (used : ℕ) (u : used ≡ length (item_digests kind bytes list numbers)) (l : length out ≡ used + lacking used) where
  pub section-done : (p q : List ℕ) → p ≡ item_digests kind bytes list numbers → q ≡ replicate (length (drop used out)) 0
      → p ++ q ≡ item_section kind bytes list numbers
  unfolding item_section
  section-done p q e f =
      let n : length (drop used out) ≡ lacking used = length-drop used out ∙ omega arith in
      rw (e, f, n, u)
