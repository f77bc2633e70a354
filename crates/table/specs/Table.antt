-- docs/SERVICES.md, "The store's table": a list of 1 to 16 pairs, hash id and digest length. Lengths are 1 to 1,024 and no hash id
-- stands twice. It is lent as a flat list of numbers, two to a pair.
--   good_table   the list is such a table
--   allows      does it allow this hash id with this length
--   by_value     the table by value that a list is copied into
-- Assumes nothing: these are definitions.
use Rattle.std.specs.Prelude.{ℕ, ◌-◌, Bool, true, false, ◌&&◌, ◌||◌, not, List, [], ◌∷◌, ◌++◌, leb, ltb, eqb, length, replicate}
use Rattle.answer.specs.declared.Rule.TheVariants.{Table}
use Rattle.answer.specs.Rules.{must, Verdict}
use Rattle.answer.specs.Answers.{refusal}

-- a hash id stands in a list of pairs
unfoldable pub stands : List ℕ → ℕ → Bool
stands [] hash = false
stands (x ∷ []) hash = false
stands (x ∷ n ∷ pairs) hash = eqb x hash || stands pairs hash

-- a pair: a hash id that fits its field, and a length from 1 to 1,024
abbrev pub good_pair : ℕ → ℕ → Bool
good_pair hash n = ltb hash 4294967296 && (leb 1 n && leb n 1024)

-- whole pairs, each good, with no hash id twice
unfoldable pub good_pairs : List ℕ → Bool
good_pairs [] = true
good_pairs (x ∷ []) = false
good_pairs (x ∷ n ∷ pairs) = good_pair x n && (not (stands pairs x) && good_pairs pairs)

-- and 1 to 16 of them
unfoldable pub good_table : List ℕ → Bool
good_table pairs = leb 1 (length pairs) && (leb (length pairs) 32 && good_pairs pairs)

unfoldable pub allows : List ℕ → ℕ → ℕ → Bool
allows [] hash len = false
allows (x ∷ []) hash len = false
allows (x ∷ n ∷ pairs) hash len = (eqb x hash && eqb n len) || allows pairs hash len

unfoldable pub table_verdict : List ℕ → Verdict
table_verdict pairs = must (good_table pairs) (refusal Table 0)

-- a list copied into a table by value, with zeros after it
unfoldable pub by_value : List ℕ → List ℕ
by_value pairs = pairs ++ replicate (32 - length pairs) 0
