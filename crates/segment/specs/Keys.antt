-- docs/FORMAT.md, "A record": no two records have the same key, hash id and digest bytes; tidy order is by hash id, then by digest bytes
-- compared as unsigned bytes from the first.
--   Key           what a record is looked up by
--   key_of         a key as one list of numbers, in the order in which keys are compared
--   allows_key     the table allows a key
--   fresh_key      the rule of the i-th of some keys: it stands nowhere earlier; and the place of each, where it is refused
--   EarlierKey, FirstTwice   a key stands earlier; the lowest place at which one does
--   NoKeyTwice    no two of n places have the same key
-- Assumes nothing: these are definitions.
use Rattle.std.specs.Prelude.{ℕ, ◌<◌, ◌≡◌, Bool, not, List, ◌∷◌, length}
use Rattle.lists.specs.Lists.{eq_list}
use Rattle.table.specs.Table.{allows}
use Rattle.answer.specs.declared.Rule.TheVariants.{Duplicate}
use Rattle.answer.specs.Rules.{must, some_below, Verdict}
use Rattle.answer.specs.Answers.{refusal}

pub record Key : Type 0 where
  pub hash_id : ℕ
  pub digest : List ℕ

abbrev pub key_of : Key → List ℕ
key_of k = k.hash_id ∷ k.digest

-- the key of a hash id and a digest
abbrev pub key_from : ℕ → List ℕ → Key
key_from hash digest = record { hash_id = hash; digest = digest }

abbrev pub allows_key : List ℕ → Key → Bool
allows_key pairs k = allows pairs k.hash_id (length k.digest)

abbrev pub same_key : (ℕ → List ℕ) → ℕ → ℕ → Bool
same_key key i j = eq_list (key i) (key j)

unfoldable pub fresh_key : (ℕ → List ℕ) → (ℕ → ℕ) → ℕ → Verdict
fresh_key key place i = must (not (some_below i (same_key key i))) (refusal Duplicate (place i))

-- the key of place k stands at an earlier one
pub record EarlierKey (key : ℕ → List ℕ) (k : ℕ) : Type 0 where
  pub at : ℕ
  pub before : at < k
  pub same : key k ≡ key at

-- and k is the lowest of n places of which this is so
pub record FirstTwice (key : ℕ → List ℕ) (n k : ℕ) : Type 0 where
  pub within : k < n
  pub earlier : EarlierKey key k
  pub lowest : (j : ℕ) → j < k → ¬ EarlierKey key j

abbrev pub NoKeyTwice : (ℕ → List ℕ) → ℕ → Type 0
NoKeyTwice key n = (i j : ℕ) → i < n → j < n → key i ≡ key j → i ≡ j
