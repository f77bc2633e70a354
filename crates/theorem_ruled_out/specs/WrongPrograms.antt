-- docs/SERVICES.md, "Wrong programs": what each would answer and leave, and an input on which no program that keeps the promise does so.
--   instead     another result in place of the right one: refused as that is, and otherwise put where that would be
--   RuledOut    a program that keeps a promise does not do, on an input, what a wrong one would
--   ruled_out    the wrong programs, each with such an input
-- Assumes nothing: these are definitions.
use Rattle.std.specs.Prelude.{ℕ, ◌≡◌, cond, ◌≢◌, List, [], ◌∷◌, ◌++◌, map, eqb, length, take, drop, replicate}
use Rattle.answer.specs.Rules.{Verdict}
use Rattle.lists.specs.Lists.{sort_by}
use Rattle.answer.specs.Answers.{Answer, answered}
use Rattle.table_pairs.specs.declared.Pair.{Pair}
use Rattle.table_pairs.specs.Pairs.{length_of}
use Rattle.segment.specs.Format.{v3}
use Rattle.segment.specs.Keys.{Key, key_from}
use Rattle.segment.specs.Check.{checked, check_of}
use Rattle.segment.specs.LookUp.{look_up_of}
use Rattle.segment.specs.Meaning.{Row, meaning_of}
use Rattle.segment.specs.Tidy.{row_leq, form_of, tidy_form, settled, output_after, Outcome, outcome, tidy_of}
use Rattle.segment.specs.Write.{Request, requested, request_verdict, wrote, write_of}
use Rattle.theorem_demands.specs.Answered.{accepted, absent}
use Rattle.theorem_demands.specs.Asking.{request_for}
use Rattle.theorem_cases.specs.PCases.{tidy_of_rows}
use Rattle.theorem_cases.specs.Members.{zeros}
use Rattle.theorem_two_orders.specs.Orders.{turned_l}
use Rattle.theorem_three_demands.specs.Members.{table_l, meaning_l}

-- ---- tidy and write, under the table 7 → 4

abbrev pub instead : Verdict → List ℕ → List ℕ → Outcome
instead v result out = outcome (settled v result (length out)) (output_after (settled v result (length out)) result out)

abbrev pub instead_of_tidied : (List ℕ → List ℕ) → List ℕ → List ℕ → Outcome
instead_of_tidied result s out = instead (checked table_l s) (result s) out

abbrev pub copied : List ℕ → List ℕ
copied s = s

abbrev pub in_file_order : List ℕ → List ℕ
in_file_order s = let m = meaning_of v3 s in form_of v3 m.heading m.bloom m.records

abbrev pub emptied : List ℕ → List ℕ
emptied s = tidy_of_rows (meaning_of v3 s).heading []

-- the right answer, and an output that stays
abbrev pub writes_nothing : Request → List ℕ → Outcome
writes_nothing q out = outcome (wrote table_l q (length out)) out

-- a digest of zeros
abbrev pub faked : Row → Row
faked r = record { key = key_from r.key.hash_id (replicate (length r.key.digest) 0); visibility = r.visibility; source = r.source; state = r.state }

-- the first record truly, and each other with such a one
abbrev pub first_true : List Row → List Row
first_true rows = take 1 rows ++ map faked (drop 1 rows)

abbrev pub fakes_others : Request → List ℕ → Outcome
fakes_others q out =
    let m = requested q in
    instead (request_verdict v3 table_l q) (form_of v3 m.heading m.bloom (first_true (sort_by row_leq m.records))) out

-- ---- check, look up and a length in the table

abbrev pub accepts_all : List ℕ → List ℕ → Answer
accepts_all pairs s = accepted

-- by any refusal
abbrev pub RefusesAll : (List ℕ → List ℕ → Answer) → Type 0
RefusesAll check = (pairs s : List ℕ) → (check pairs s).number ≢ 0

-- refused as look up is, and otherwise absent
abbrev pub says_absent : List ℕ → Key → Answer
says_absent s key = let a = look_up_of table_l s key in cond (eqb a.number 0) absent a

abbrev pub misses_first : List Pair → ℕ → Answer
misses_first pairs hash = length_of (drop 1 pairs) hash

abbrev pub length_of_first : List Pair → ℕ → Answer
length_of_first [] hash = answered []
length_of_first (p ∷ pairs) hash = answered (p.digest_length ∷ [])

-- ---- ruled out

-- a program that answers and leaves what is promised, on every input, does not do what the wrong one would on this one
abbrev pub RuledOut : {A B C : Type 0} (right wrong : A → B → C) → A → B → Type 0
RuledOut {A} {B} {C} right wrong a b = (program : A → B → C) → ((x : A) (y : B) → program x y ≡ right x y) → program a b ≢ wrong a b

-- case L's tidy form, and its records in the other order
abbrev pub form_l : List ℕ
form_l = tidy_form v3 meaning_l

unfoldable pub turned : List ℕ
turned = form_of v3 meaning_l.heading [] turned_l

abbrev pub first_key : Key
first_key = key_from 7 (0x0a ∷ 0x0b ∷ 0x0c ∷ 0x0d ∷ [])

abbrev pub two_pairs : List Pair
two_pairs = record { hash_id = 1; digest_length = 32 } ∷ record { hash_id = 7; digest_length = 4 } ∷ []

abbrev pub ruled_out : List (Type 0)
ruled_out =
    RuledOut (tidy_of table_l) (instead_of_tidied copied) turned (zeros 256)
    ∷ RuledOut (tidy_of table_l) (instead_of_tidied in_file_order) turned (zeros 256)
    ∷ RuledOut (tidy_of table_l) (instead_of_tidied emptied) turned (zeros 256)
    ∷ RuledOut (write_of table_l) writes_nothing (request_for meaning_l) (zeros 256)
    ∷ RuledOut (write_of table_l) fakes_others (request_for meaning_l) (zeros 256)
    ∷ RuledOut check_of accepts_all table_l []
    ∷ ((check : List ℕ → List ℕ → Answer) → RefusesAll check → RuledOut check_of check table_l form_l)
    ∷ RuledOut (look_up_of table_l) says_absent form_l first_key
    ∷ RuledOut length_of misses_first two_pairs 1
    ∷ RuledOut length_of length_of_first two_pairs 7
    ∷ []
