-- Fields put one after the other, each behind the one before, are their packed bytes put at once.
-- Assumes nothing.
use Prim.Native.Nat.{ℕ, ◌+◌, ◌≤◌}
use mathlib.Core.Path.{◌≡◌, refl, sym, ap, ◌∙◌}
use mathlib.Core.List.{List, [], ◌∷◌, ◌++◌, append_assoc}
use native.Mathlib.Omega.{arith}
use lib.ListN.{length}
use Rattle.numbers.specs.Numbers.{bytes_of, put}
use Rattle.numbers.proofs.NumberLaws.{length-bytes_of, put-put, put-none, length-put}
use Rattle.segment.specs.Tidy.{Field, packed}
use Rattle.form_laws.proofs.PackedFields.{widths}

-- fields behind fields are packed behind them
pub packed-append : (fs gs : List Field) → packed (fs ++ gs) ≡ packed fs ++ packed gs
unfolding packed
packed-append [] gs = refl
packed-append (f ∷ fs) gs = ap (λ (t : List ℕ). bytes_of f.width f.value ++ t) (packed-append fs gs) ∙ sym (append_assoc (bytes_of f.width f.value) (packed fs) (packed gs))

-- what fields leave that are put from k bytes behind the place a on
abbrev pub puts : List ℕ → ℕ → ℕ → List Field → List ℕ
puts s a k [] = s
puts s a k (f ∷ fs) = puts (put s (a + k) (bytes_of f.width f.value)) a (k + f.width) fs

turns : (s : List ℕ) (a k : ℕ) (fs : List Field) → a + k + widths fs ≤ length s → puts s a k fs ≡ put s (a + k) (packed fs)
unfolding packed widths
turns s a k [] h = sym (put-none s (a + k))
turns s a k (f ∷ fs) h =
    let b : List ℕ = bytes_of f.width f.value in
    let l : length b ≡ f.width = length-bytes_of f.width f.value in
    let p : length (put s (a + k) b) ≡ length s = length-put s (a + k) b (omega arith) in
    let e : a + (k + f.width) ≡ a + k + length b = omega arith in
    turns (put s (a + k) b) a (k + f.width) fs (omega arith) ∙ rw e (put-put s (a + k) b (packed fs) (omega arith))

pub in_turn : (s w : List ℕ) (a : ℕ) (fs : List Field) → w ≡ puts s a 0 fs → a + widths fs ≤ length s → w ≡ put s a (packed fs)
in_turn s w a fs e h =
    let z : a + 0 ≡ a = omega arith in
    e ∙ rw z at (turns s a 0 fs (omega arith))
