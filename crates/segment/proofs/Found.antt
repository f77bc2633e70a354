-- The laws of look up's definitions: what is said of a record is never absent, and the first answer that is not absent is the whole search's.
-- Assumes nothing.
use Prim.Native.Nat.{ℕ, zero, suc, ◌+◌, ◌<◌}
use mathlib.Core.Path.{◌≡◌, refl, sym, ap}
use mathlib.Core.Bool.{Bool, true, false, cond}
use mathlib.Core.Logic.{⊎_elim}
use native.Mathlib.Nat.{not-suc-le-zero, eq-or-lt_of_le, le_of_suc-le-suc}
use native.Mathlib.Numerals.{add-one}
use native.Mathlib.Omega.{arith}
use Rattle.answer.specs.declared.Found.{Found}
use Rattle.answer.specs.declared.Found.TheVariants.{Absent, Gone, Present}
use Rattle.segment.specs.declared.record.Record.{Record}
use Rattle.segment.specs.Check.{is_gone}
use Rattle.segment.specs.Meaning.{source_of}
use Rattle.segment.specs.LookUp.{record_found, ◌or_else◌, found_over}

-- a record that was found is not absent
pub never-absent : (r : Record) → record_found r ≡ Absent → ⊥
unfolding record_found
never-absent r = go (is_gone r)
  where
    go : (b : Bool)
        → cond b (Gone r.visibility r.domain (source_of r.imported r.source))
        (Present r.visibility r.domain (source_of r.imported r.source) r.total_length r.extents_offset r.extent_count)
        ≡ Absent → ⊥
    go true e = let z : ◌≡◌ {A = ℕ} 0 1 = cc in omega arith
    go false e = let z : ◌≡◌ {A = ℕ} 0 1 = cc in omega arith

-- ---- the first that is not absent

pub found_none : (f : ℕ → Found) → found_over 0 f ≡ Absent
unfolding found_over
found_none f = refl

pub found-more : (k : ℕ) (f : ℕ → Found) → found_over k f ≡ Absent → f k ≡ Absent → found_over (k + 1) f ≡ Absent
unfolding found_over
found-more k f p q = rw (add-one, p) q

pub found_all : (n : ℕ) (f : ℕ → Found) → ((k : ℕ) → k < n → f k ≡ Absent) → found_over n f ≡ Absent
unfolding found_over
found_all zero f h = refl
found_all (suc n) f h = rw (found_all n f (λ k l. h k (omega arith))) (h n (omega arith))

stays : (f g : Found) → (f ≡ Absent → ⊥) → (f or_else g) ≡ f
stays Absent g h = absurd (h refl)
stays (Gone v d s) g h = refl
stays (Present v d s t a n) g h = refl

pub found_first : (n k : ℕ) (f : ℕ → Found) → k < n → found_over k f ≡ Absent → (f k ≡ Absent → ⊥) → found_over n f ≡ f k
unfolding found_over
found_first zero k f h p q = absurd (not-suc-le-zero h)
found_first (suc n) k f h p q =
    ⊎_elim
    (λ (e : k ≡ n). let p' : found_over n f ≡ Absent = rw e at p in rw p' (ap f (sym e)))
    (λ (l : k < n). rw (found_first n k f l p q) (stays (f k) (f n) q))
    (eq-or-lt_of_le (le_of_suc-le-suc h))
