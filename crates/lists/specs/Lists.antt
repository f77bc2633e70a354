-- Lists, of whatever they hold.
--   eq_list, lex_leq       two lists of numbers are equal; the first comes no later than the second, number by number
--   insert, sort_by       a list sorted by a test, by insertion
--   merge_by, left_next    two lists in one, and whether the left one gives the next element
--   count_from            the numbers from one on
--   Each, Ascending      what holds of each element; each element comes no later than the next
-- Assumes nothing: these are definitions.
use Rattle.std.specs.Prelude.{ℕ, zero, suc, ◌≡◌, Bool, true, false, cond, ◌&&◌, ◌||◌, List, [], ◌∷◌, ltb, eqb}

unfoldable pub eq_list : List ℕ → List ℕ → Bool
eq_list [] [] = true
eq_list [] (y ∷ ys) = false
eq_list (x ∷ xs) [] = false
eq_list (x ∷ xs) (y ∷ ys) = eqb x y && eq_list xs ys

unfoldable pub lex_leq : List ℕ → List ℕ → Bool
lex_leq [] ys = true
lex_leq (x ∷ xs) [] = false
lex_leq (x ∷ xs) (y ∷ ys) = ltb x y || (eqb x y && lex_leq xs ys)

-- x before the first element that it comes no later than
unfoldable pub insert : {A : Type 0} → (A → A → Bool) → A → List A → List A
insert leq x [] = x ∷ []
insert leq x (y ∷ ys) = cond (leq x y) (x ∷ y ∷ ys) (y ∷ insert leq x ys)

unfoldable pub sort_by : {A : Type 0} → (A → A → Bool) → List A → List A
sort_by leq [] = []
sort_by leq (x ∷ xs) = insert leq x (sort_by leq xs)

-- the left list's element goes first where the test allows it
unfoldable pub merge_by : {A : Type 0} → (A → A → Bool) → List A → List A → List A
merge_by leq [] ys = ys
merge_by leq (x ∷ xs) [] = x ∷ xs
merge_by leq (x ∷ xs) (y ∷ ys) = cond (leq x y) (x ∷ merge_by leq xs (y ∷ ys)) (y ∷ merge_by leq (x ∷ xs) ys)

unfoldable pub left_next : {A : Type 0} → (A → A → Bool) → List A → List A → Bool
left_next leq [] ys = false
left_next leq (x ∷ xs) [] = true
left_next leq (x ∷ xs) (y ∷ ys) = leq x y

-- k, k + 1, .., n of them
unfoldable pub count_from : ℕ → ℕ → List ℕ
count_from k zero = []
count_from k (suc n) = k ∷ count_from (suc k) n

unfoldable pub Each : {A : Type 0} → (A → Type 0) → List A → Type 0
Each P [] = Unit
Each P (x ∷ xs) = P x × Each P xs

unfoldable pub Ascending : {A : Type 0} → (A → A → Bool) → List A → Type 0
Ascending leq [] = Unit
Ascending leq (x ∷ []) = Unit
Ascending leq (x ∷ y ∷ ys) = (leq x y ≡ true) × Ascending leq (y ∷ ys)
