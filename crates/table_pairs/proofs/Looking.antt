-- What a list of pairs says from a place on: the pair there, or what follows it; and past the end nothing.
-- Assumes nothing.
use Prim.Native.Nat.{ℕ, ◌+◌, ◌<◌, ◌≤◌}
use mathlib.Core.Path.{◌≡◌}
use mathlib.Core.Bool.{cond}
use mathlib.Core.List.{List}
use native.Mathlib.Numerals.{add-one}
use lib.Dec.{eqb}
use lib.ListN.{length, get_or, drop, drop_of_length-le}
use lib.Seq.{drop-cons}
use Rattle.table_pairs.specs.declared.Pair.{Pair}
use Rattle.std.specs.Prelude.{Some, None}
use Rattle.table_pairs.specs.Pairs.{length_in}

-- what is read past the end
abbrev pub no_pair : Pair
no_pair = record { hash_id = 0; digest_length = 0 }

module _ (pairs : List Pair) (hash i : ℕ) where
  pub here : i < length pairs
      → length_in (drop i pairs) hash
      ≡ cond (eqb (get_or pairs i no_pair).hash_id hash) (Some (get_or pairs i no_pair).digest_length) (length_in (drop (i + 1) pairs) hash)
  unfolding length_in
  here l = rw (add-one, drop-cons pairs i no_pair)

  pub past : length pairs ≤ i → length_in (drop i pairs) hash ≡ None
  unfolding length_in
  past l = rw (drop_of_length-le pairs l)
