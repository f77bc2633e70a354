-- The extents that stand in a segment: how many there are, and those from one of them on; and a record's extents in its row of the meaning.
-- Assumes nothing.
use Prim.Native.Nat.{ℕ, zero, suc, ◌+◌, ◌*◌, ◌≤◌, ◌<◌}
use mathlib.Core.Path.{◌≡◌, refl, sym, ap, ◌∙◌}
use mathlib.Core.List.{List, [], ◌∷◌}
use native.Mathlib.Nat.{not-suc-le-zero}
use native.Mathlib.Omega.{arith}
use borrow.Author.Tests.{eqb-true}
use lib.ListN.{length, drop, drop_of_length-le}
use Rattle.lists.proofs.Tests.{by-test}
use Rattle.segment.specs.declared.record.Record.{Record}
use Rattle.segment.specs.Format.{extent_of, extents_at, extents_in}
use Rattle.segment.specs.Check.{is_gone}
use Rattle.segment.specs.Meaning.{row_extents, row_of}

pub extents-counted : (s : List ℕ) (at n : ℕ) → length (extents_at s at n) ≡ n
unfolding extents_at
extents-counted s at zero = refl
extents-counted s at (suc n) = ap suc (extents-counted s (at + 16) n)

pub extents-past : (s : List ℕ) (at n j : ℕ) → n ≤ j → drop j (extents_at s at n) ≡ []
extents-past s at n j l = drop_of_length-le (extents_at s at n) {i = j} (omega (arith, extents-counted s at n))

pub extents-here : (s : List ℕ) (at n j : ℕ) → j < n → drop j (extents_at s at n) ≡ extent_of s (at + 16 * j) ∷ drop (suc j) (extents_at s at n)
unfolding extents_at
extents-here s at zero j l = absurd (not-suc-le-zero l)
extents-here s at (suc n) zero l = ap (λ (i : ℕ). extent_of s i ∷ extents_at s (at + 16) n) (omega arith)
extents-here s at (suc n) (suc j) l =
    extents-here s (at + 16) n j (omega arith) ∙ ap (λ (i : ℕ). extent_of s i ∷ drop (suc j) (extents_at s (at + 16) n)) (omega arith)

-- a record's row has its extents, where a gone record has none
pub row-extents : (s : List ℕ) (r : Record) → (r.flags ≡ 1 → r.extent_count ≡ 0) → row_extents (row_of s r) ≡ extents_in s r
unfolding row_of extents_at
row-extents s r none =
    by-test (is_gone r)
    (λ g. rw g (sym (ap (extents_at s r.extents_offset.0) (none (eqb-true r.flags 1 g)))))
    (λ g. rw g)
