-- The store's table as a list of pairs, hash id and digest length.
--   length_in       the digest length for a hash id: that of the first pair that has it
--   length_answer   the same in numbers: answered with the length, or with no value
--   pair_numbers    the pairs as a flat list of numbers, two to a pair
-- Assumes nothing: these are definitions.
use Rattle.std.specs.Prelude.{ℕ, cond, List, [], ◌∷◌, eqb, Option, Some, None}
use Rattle.answer.specs.Answers.{Answer, answered}
use Rattle.table_pairs.specs.declared.Pair.{Pair}

unfoldable pub length_in : List Pair → ℕ → Option ℕ
length_in [] hash = None
length_in (p ∷ pairs) hash = cond (eqb p.hash_id hash) (Some p.digest_length) (length_in pairs hash)

abbrev pub length_answer : Option ℕ → Answer
length_answer (Some n) = answered (n ∷ [])
length_answer None = answered []

unfoldable pub length_of : List Pair → ℕ → Answer
length_of pairs hash = length_answer (length_in pairs hash)

unfoldable pub pair_numbers : List Pair → List ℕ
pair_numbers [] = []
pair_numbers (p ∷ pairs) = p.hash_id ∷ p.digest_length ∷ pair_numbers pairs
