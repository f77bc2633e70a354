-- What a key holds beside its digest, and how keys stand to each other.
--   head_numbers   the numbers of a key that stand before its digest
--   head_key       the key of a head and a digest
--   lex           how two lists of numbers stand to each other: number by number, and the shorter first
-- Assumes nothing: these are definitions.
use Rattle.std.specs.Prelude.{ℕ, List, [], ◌∷◌}
use Rattle.std.specs.declared.cmp.Ordering.{Ordering}
use Rattle.std.specs.Ordering.{nat_cmp}
use Rattle.std.specs.Cmp.Lexicographic.{slice_cmp}
use Rattle.segment.specs.Keys.{Key, key_from}
use Rattle.key.specs.declared.head.Head.{Head}

abbrev pub head_numbers : Head → List ℕ
head_numbers h = h.hash_id ∷ []

abbrev pub head_key : Head → List ℕ → Key
head_key h digest = key_from h.hash_id digest

abbrev pub lex : List ℕ → List ℕ → Ordering
lex xs ys = slice_cmp nat_cmp xs ys
