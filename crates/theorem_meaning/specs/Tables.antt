-- docs/SERVICES.md, "The store's table", pair by pair:
-- a list of 1 to 16 pairs, hash id and digest length. Lengths are 1 to 1,024 and no hash id stands twice. It is lent
-- as a flat list of numbers, of which no pair is unfinished and each hash id fits its field.
--   TableMeets   the table's rule
--   Allowed      a pair has this hash id and this length
-- Assumes nothing: these are definitions.
use Rattle.std.specs.Prelude.{ℕ, ◌+◌, ◌*◌, ◌/◌, ◌%◌, ◌≤◌, ◌<◌, ◌≡◌, List, length, get_or}

-- the whole pairs, and the hash id and the digest length of pair i
abbrev pub pair_count : List ℕ → ℕ
pair_count pairs = length pairs / 2

abbrev pub hash_no : List ℕ → ℕ → ℕ
hash_no pairs i = get_or pairs (2 * i) 0

abbrev pub length_no : List ℕ → ℕ → ℕ
length_no pairs i = get_or pairs (2 * i + 1) 0

pub record TableMeets (pairs : List ℕ) : Type 0 where
  pub whole : length pairs % 2 ≡ 0
  pub some : 1 ≤ pair_count pairs
  pub most : pair_count pairs ≤ 16
  pub fits : (i : ℕ) → i < pair_count pairs → hash_no pairs i < 4294967296
  pub least : (i : ℕ) → i < pair_count pairs → 1 ≤ length_no pairs i
  pub longest : (i : ℕ) → i < pair_count pairs → length_no pairs i ≤ 1024
  pub once : (i j : ℕ) → i < pair_count pairs → j < pair_count pairs → hash_no pairs i ≡ hash_no pairs j → i ≡ j

pub record Allowed (pairs : List ℕ) (hash len : ℕ) : Type 0 where
  pub at : ℕ
  pub within : at < pair_count pairs
  pub same : hash_no pairs at ≡ hash
  pub long : length_no pairs at ≡ len
