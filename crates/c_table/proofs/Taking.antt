-- The numbers of a table that C lends, one after another, and that a table by value says what the bytes say.
-- Assumes nothing.
use Prim.Native.Nat.{ℕ, ◌+◌, ◌*◌, ◌/◌, ◌%◌, ◌≤◌, ◌<◌}
use mathlib.Core.Path.{◌≡◌, sym, ap, ◌∙◌}
use mathlib.Core.Bool.{false}
use mathlib.Core.Logic.{◌⊎◌, inl, inr, ⊎_elim}
use mathlib.Core.List.{List, []}
use native.Mathlib.Nat.{le_refl}
use native.Mathlib.Omega.{arith}
use borrow.Author.Tests.{eqb-true, leb-true, leb-false}
use lib.Dec.{eqb, leb}
use lib.ListN.{length, get_or, take, set}
use Rattle.lists.proofs.Tests.{tests, by-test}
use Rattle.table.specs.Table.{good_table, by_value}
use Rattle.table.proofs.Pairs.{empty-table, long-table, Filling, filling-more, in-front, front-is, front_long}
use Rattle.lists.proofs.Counted.{counted-long, counted-at}
use Rattle.c_table.specs.Lent.{word_no, table_in, taken}

module _ (bytes : List ℕ) where
  pub unfinished : (length bytes % 8 ≡ 0 → ⊥) → 0 ≡ length (taken bytes)
  unfolding taken
  unfinished h = simp tests

  pub too_many : 256 < length bytes → 0 ≡ length (taken bytes)
  unfolding taken
  too_many h = by-test (eqb (length bytes % 8) 0) (λ f. simp (tests, f)) (λ f. rw f)

  -- number k, among those that are there
  table-long : length bytes % 8 ≡ 0 → length (table_in bytes) ≡ length bytes / 8
  unfolding table_in
  table-long e = simp (tests, e) (counted-long (word_no bytes) 0 (length bytes / 8))

  table_at : (k : ℕ) → length bytes % 8 ≡ 0 → k < length bytes / 8 → get_or (table_in bytes) k 0 ≡ word_no bytes k
  unfolding table_in
  table_at k e h = let n : 0 + k ≡ k = omega arith in simp (tests, e) (counted-at (word_no bytes) 0 (length bytes / 8) k 0 h ∙ ap (word_no bytes) n)

  -- whole numbers that are not too many are taken
  module _ (e : length bytes % 8 ≡ 0) (h : length bytes ≤ 256) where
    all-taken : taken bytes ≡ table_in bytes
    unfolding taken
    all-taken = simp (tests, e)

    pub whole : length bytes / 8 ≡ length (taken bytes)
    whole = sym (ap length all-taken ∙ table-long e)

  not-whole : eqb (length bytes % 8) 0 ≡ false → table_in bytes ≡ []
  unfolding table_in
  not-whole f = rw f

  -- otherwise none is, and the bytes hold no good table
  fits-or-not : ((length bytes % 8 ≡ 0) × (length bytes ≤ 256)) ⊎ ((taken bytes ≡ []) × (good_table (table_in bytes) ≡ false))
  unfolding taken
  fits-or-not =
      by-test (eqb (length bytes % 8) 0)
      (λ f.
      let e : length bytes % 8 ≡ 0 = eqb-true (length bytes % 8) 0 f in
      by-test (leb (length bytes) 256)
      (λ g. inl (e, leb-true (length bytes) 256 g))
      (λ g.
      let more : 256 < length bytes = leb-false (length bytes) 256 g in
      inr (rw (f, g), sym (long-table (table_in bytes) (omega (arith, table-long e, more)) (omega (arith, table-long e, more))))))
      (λ f. inr (rw f, rw (not-whole f) (sym (empty-table [] (omega arith)))))

pub taken_fits : (bytes : List ℕ) → length (taken bytes) ≤ 32
taken_fits bytes = ⊎_elim (λ f. omega (arith, whole bytes f.0 f.1, f.1)) (λ n. omega (arith, ap length n.0)) (fits-or-not bytes)

-- a number that is taken: it has a place in the table by value, its bytes are there, and it is what they say
pub record Word (bytes : List ℕ) (k : ℕ) : Type 0 where
  pub among : k < length (taken bytes)
  pub place : k < 32
  pub inside : 8 * k + 8 ≤ length bytes
  pub is : get_or (taken bytes) k 0 ≡ word_no bytes k

pub word : (bytes : List ℕ) (count k : ℕ) → count ≡ length (taken bytes) → k < count → Word bytes k
word bytes count k e l =
    ⊎_elim
    (λ f.
    let n : count ≡ length bytes / 8 = e ∙ sym (whole bytes f.0 f.1) in
    record {
      among = rw (sym e) l;
      place = omega (arith, n, l, f.1);
      inside = omega (arith, n, l);
      is = rw (all-taken bytes f.0 f.1) (table_at bytes k f.0 (omega (arith, n, l)));
    })
    (λ n. let none : count ≡ 0 = e ∙ ap length n.0 in absurd (omega (arith, none, l)))
    (fits-or-not bytes)

-- one number more is put together
pub taking-more : (bytes words : List ℕ) (i v : ℕ) → Filling (taken bytes) words i → Word bytes i → v ≡ word_no bytes i
    → Filling (taken bytes) (set words i v) (i + 1)
taking-more bytes words i v c w e = filling-more (taken bytes) words i c v w.place w.among (e ∙ sym w.is)

-- what a caller knows of numbers that were taken of bytes: they are those that the bytes hold, or neither is a good table
abbrev pub Alike : List ℕ → List ℕ → Type 0
Alike bytes part = (part ≡ table_in bytes) ⊎ ((good_table part ≡ false) × (good_table (table_in bytes) ≡ false))

pub taken-alike : (bytes : List ℕ) {part : List ℕ} → part ≡ taken bytes → Alike bytes part
taken-alike bytes {part} e =
    ⊎_elim
    (λ f. inl (e ∙ all-taken bytes f.0 f.1))
    (λ none. inr (ap good_table (e ∙ none.0) ∙ sym (empty-table [] (omega arith)), none.1))
    (fits-or-not bytes)

-- the same of a table by value and its count
pub record Copied (bytes table : List ℕ) (count : ℕ) : Type 0 where
  pub within : count ≤ length table
  pub long : count ≡ length (take count table)
  pub alike : Alike bytes (take count table)

pub copied : (bytes table : List ℕ) (count : ℕ) → table ≡ by_value (taken bytes) → count ≡ length (taken bytes) → Copied bytes table count
copied bytes table count e n =
    rw n (record {
      within = in-front (taken bytes) table e (length (taken bytes)) (le_refl _);
      long = front_long (taken bytes) table e (length (taken bytes)) (le_refl _);
      alike = taken-alike bytes (front-is (taken bytes) table e);
    })

-- a service that says one thing of all that is no good table says the same of both
pub said-alike : {A : Type 0} (f : List ℕ → A) (bad : A) → ((p : List ℕ) → good_table p ≡ false → bad ≡ f p) → (bytes : List ℕ) {part : List ℕ}
    → Alike bytes part → f part ≡ f (table_in bytes)
said-alike f bad says bytes l = ⊎_elim (λ e. ap f e) (λ n. sym (says _ n.0) ∙ says _ n.1) l

pub alike-said : {A : Type 0} (f : List ℕ → A) (bad : A) → ((p : List ℕ) → good_table p ≡ false → bad ≡ f p) → {bytes table : List ℕ} {count : ℕ}
    → Copied bytes table count → f (take count table) ≡ f (table_in bytes)
alike-said f bad says {bytes} l = said-alike f bad says bytes l.alike
