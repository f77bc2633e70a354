-- What a promise of an entry point says settles the number that it returns and every byte that it leaves: two that one promise allows are equal.
-- Assumes nothing.
use Prim.Native.Nat.{ℕ}
use mathlib.Core.Path.{◌≡◌, sym, ap, ◌∙◌}
use mathlib.Core.List.{List}
use Rattle.c_answer.specs.Boundary.{Left, left}

pub one_left : {n n' : ℕ} {xs xs' : List ℕ} {a : Left} → left n xs ≡ a → left n' xs' ≡ a → (n ≡ n') × (xs ≡ xs')
one_left e f = let same = e ∙ sym f in (ap (λ (a : Left). a.bits) same, ap (λ (a : Left). a.output) same)
