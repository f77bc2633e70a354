-- An answer's numbers settle it: two refusals with one number and one place are equal, and so are two answers of a service
-- that say the same in numbers. Each by a function that takes the numbers back.
-- Assumes nothing.
use Prim.Native.Nat.{ℕ, zero, suc, ◌≤◌, ◌<◌}
use mathlib.Core.Path.{◌≡◌, refl, sym, ap, ap₂, ◌∙◌}
use mathlib.Core.Bool.{Bool, true, false, cond, not, ◌&&◌, ◌||◌, true≢false}
use mathlib.Core.Logic.{⊎_elim}
use mathlib.Core.List.{List, [], ◌∷◌}
use native.Mathlib.Omega.{arith}
use borrow.Author.Tests.{ne_eqb, eqb-true, leb-true}
use lib.Dec.{eqb, leb}
use lib.ListN.{length, get_or}
use Rattle.std.specs.Prelude.{Result, None, Some, Ok, Err}
use Rattle.lists.proofs.Tests.{by-test, and-iff, or-either}
use Rattle.answer.specs.declared.Refusal.{Refusal}
use Rattle.answer.specs.declared.Rule.{Rule}
use Rattle.answer.specs.declared.Rule.TheVariants.{
  Size,
  Magic,
  Version,
  Header,
  LayoutBloom,
  LayoutRecords,
  LayoutDigests,
  LayoutExtents,
  LayoutLength,
  Checksum,
  Record,
  Digest,
  Extents,
  Total,
  Visibility,
  Duplicate,
  Room,
  Table,
  List as ListEnd,
  Large,
  Key,
}
use Rattle.answer.specs.declared.Found.{Found}
use Rattle.answer.specs.declared.Found.TheVariants.{Absent, Gone, Present}
use Rattle.answer.specs.Rules.{some_below, Verdict}
use Rattle.answer.proofs.Order.{some-found}
use Rattle.answer.specs.Answers.{rule_number, in_table, refusal, number_of, place_of, Answer, refused, check_answer, found_answer, written_answer, Source, Written}

-- the rules, in no order; and the first of some rules that has a number
rules : List Rule
rules =
    Size ∷ Magic ∷ Version ∷ Header ∷ Checksum ∷ Record ∷ Digest ∷ Extents ∷ Total ∷ Visibility ∷ Duplicate ∷ Room ∷ Table
    ∷ ListEnd ∷ Large ∷ Key ∷ LayoutBloom ∷ LayoutRecords ∷ LayoutDigests ∷ LayoutExtents ∷ LayoutLength ∷ []

numbered : List Rule → ℕ → Rule
numbered [] n = Size
numbered (r ∷ rs) n = cond (eqb (rule_number r) n) r (numbered rs n)

-- a rule's number is its own, and one of the table's
rule_number-one : (r : Rule) → (numbered rules (rule_number r) ≡ r) × (in_table (rule_number r) ≡ true)
unfolding rules numbered
rule_number-one Size = (refl, refl)
rule_number-one Magic = (refl, refl)
rule_number-one Version = (refl, refl)
rule_number-one Header = (refl, refl)
rule_number-one Checksum = (refl, refl)
rule_number-one Record = (refl, refl)
rule_number-one Digest = (refl, refl)
rule_number-one Extents = (refl, refl)
rule_number-one Total = (refl, refl)
rule_number-one Visibility = (refl, refl)
rule_number-one Duplicate = (refl, refl)
rule_number-one Room = (refl, refl)
rule_number-one Table = (refl, refl)
rule_number-one ListEnd = (refl, refl)
rule_number-one Large = (refl, refl)
rule_number-one Key = (refl, refl)
rule_number-one LayoutBloom = (refl, refl)
rule_number-one LayoutRecords = (refl, refl)
rule_number-one LayoutDigests = (refl, refl)
rule_number-one LayoutExtents = (refl, refl)
rule_number-one LayoutLength = (refl, refl)

pub in-table : (r : Rule) → in_table (rule_number r) ≡ true
in-table r = (rule_number-one r).1

pub no-5 : in_table 5 ≡ false
no-5 = refl

-- the table's numbers are small, and each is a rule's
between : (low high n : ℕ) → 1 ≤ low → high ≤ 55 → (leb low n && leb n high) ≡ true → (1 ≤ n) × (n ≤ 55)
between low high n a b e =
    let p = (and-iff (leb low n) (leb n high)).0 e in
    omega (arith, leb-true low n p.0, leb-true n high p.1)

table-within : (n : ℕ) → in_table n ≡ true → (1 ≤ n) × (n ≤ 55)
table-within n e =
    ⊎_elim (between 1 4 n (omega arith) (omega arith))
    (λ f. ⊎_elim (between 6 17 n (omega arith) (omega arith)) (between 51 55 n (omega arith) (omega arith)) (or-either (leb 6 n && leb n 17) (leb 51 n && leb n 55) f))
    (or-either (leb 1 n && leb n 4) ((leb 6 n && leb n 17) || (leb 51 n && leb n 55)) e)

pub table-small : (n : ℕ) → in_table n ≡ true → (1 ≤ n) × (n < 256)
table-small n e = omega (arith, table-within n e)

-- whether a number of the table is no rule's: none of those up to 55 is so
spare : ℕ → Bool
spare n = in_table n && not (eqb (rule_number (numbered rules n)) n)

none-spare : some_below 56 spare ≡ false
unfolding some_below spare rules numbered
none-spare = refl

rule-there : (n : ℕ) → in_table n ≡ true → rule_number (numbered rules n) ≡ n
unfolding spare
rule-there n e =
    by-test (eqb (rule_number (numbered rules n)) n)
    (eqb-true (rule_number (numbered rules n)) n)
    (λ f.
    let here : spare n ≡ true = rw (e, f) in
    absurd (true≢false (sym (some-found 56 n spare (omega (arith, table-within n e)) here) ∙ none-spare)))

pub refusal_of : ℕ → ℕ → Refusal
refusal_of n p = refusal (numbered rules n) p

pub table-full : (n : ℕ) → in_table n ≡ true → number_of (refusal_of n 0) ≡ n
unfolding refusal_of
table-full n e = rule-there n e

refusal-back : (r : Refusal) → refusal_of (number_of r) (place_of r) ≡ r
unfolding refusal_of
refusal-back r = ap (λ (q : Rule). refusal q r.1) (rule_number-one r.0).0

pub refusal-settled : (q r : Refusal) → number_of q ≡ number_of r → place_of q ≡ place_of r → q ≡ r
refusal-settled q r e f = sym (refusal-back q) ∙ ap₂ refusal_of e f ∙ refusal-back r

-- no refusal has the number of an answer
pub not-answered : (r : Refusal) → eqb (number_of r) 0 ≡ false
not-answered r = ne_eqb (number_of r) 0 (λ e. omega (arith, table-small (number_of r) (in-table r.0)))

-- a service's answer from its numbers: where the number is 0, what the values make of it
unfoldable pub taken : {A : Type 0} → (List ℕ → A) → Answer → Result A Refusal
taken make a = cond (eqb a.number 0) (Ok (make a.values)) (Err (refusal_of a.number a.place))

pub taken_refused : {A : Type 0} (make : List ℕ → A) (r : Refusal) → taken make (refused r) ≡ Err r
unfolding taken
taken_refused make r = rw (not-answered r) (ap Err (refusal-back r))

check-back : (v : Verdict) → taken (λ vs. _) (check_answer v) ≡ v
unfolding taken
check-back (Ok _) = refl
check-back (Err r) = taken_refused (λ vs. _) r

pub check-settled : (v w : Verdict) → check_answer v ≡ check_answer w → v ≡ w
check-settled v w e = sym (check-back v) ∙ ap (taken (λ vs. _)) e ∙ check-back w

source_from : ℕ → ℕ → Source
source_from zero d = None
source_from (suc i) d = Some d

-- the answers of look up by the count of their values: none, four or seven
found_from : List ℕ → Found
found_from vs =
    let v = get_or vs 0 0 in
    let d = get_or vs 1 0 in
    let s = source_from (get_or vs 2 0) (get_or vs 3 0) in
    get_or
    (Absent ∷ Absent ∷ Absent ∷ Absent ∷ Gone v d s ∷ Absent ∷ Absent ∷ Present v d s (get_or vs 4 0) (record { 0 = get_or vs 5 0 }) (get_or vs 6 0) ∷ [])
    (length vs) Absent

found_back : (f : Result Found Refusal) → taken found_from (found_answer f) ≡ f
unfolding taken found_from source_from
found_back (Ok Absent) = refl
found_back (Ok (Gone v d None)) = refl
found_back (Ok (Gone v d (Some s))) = refl
found_back (Ok (Present v d None t a n)) = refl
found_back (Ok (Present v d (Some s) t a n)) = refl
found_back (Err r) = taken_refused found_from r

pub found-settled : (f g : Result Found Refusal) → found_answer f ≡ found_answer g → f ≡ g
found-settled f g e = sym (found_back f) ∙ ap (taken found_from) e ∙ found_back g

written_from : List ℕ → ℕ
written_from vs = get_or vs 0 0

written_back : (w : Written) → taken written_from (written_answer w) ≡ w
unfolding taken written_from
written_back (Ok n) = refl
written_back (Err r) = taken_refused written_from r

pub written-settled : (v w : Written) → written_answer v ≡ written_answer w → v ≡ w
written-settled v w e = sym (written_back v) ∙ ap (taken written_from) e ∙ written_back w
