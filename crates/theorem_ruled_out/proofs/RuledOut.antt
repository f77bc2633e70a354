-- Each wrong program is ruled out: on its input it would write another result, or give another answer, than the one that the promise allows.
-- Assumes nothing.
use Prim.Native.Nat.{ℕ, ◌≤◌}
use mathlib.Core.Path.{◌≡◌, refl, sym, ap, subst, ◌∙◌}
use mathlib.Core.Bool.{true}
use mathlib.Core.Logic.{◌≢◌}
use mathlib.Core.List.Permᴰ
use mathlib.Core.List.{List, [], ◌∷◌, ◌++◌}
use native.Mathlib.Omega.{arith}
use lib.Dec.{lit<}
use lib.ListN.{length, get_or, drop}
use Rattle.std.specs.Prelude.{Ok}
use Rattle.answer.specs.Rules.{accepted}
use Rattle.numbers.specs.Numbers.{le, num_at, bytes_of}
use Rattle.lists.specs.Lists.{lex_leq, insert, sort_by}
use Rattle.answer.specs.Answers.{Answer, answered, found_answer}
use Rattle.table.specs.Table.{good_table, good_pairs, stands, allows}
use Rattle.table_pairs.specs.Pairs.{length_in, length_of}
use Rattle.segment.specs.Format.{v3, header_of, record_of, record_no}
use Rattle.segment.specs.Keys.{allows_key}
use Rattle.segment.specs.Check.{sum_lengths, digest_in, key_no, checked, check_of}
use Rattle.segment.specs.LookUp.{record_found, look_up_of}
use Rattle.segment.specs.Meaning.{meaning_of}
use Rattle.segment.specs.Tidy.{
  packed,
  header_fields,
  extent_fields,
  record_fields,
  footer_fields,
  record_for,
  records_bytes,
  digest_bytes,
  extent_list_bytes,
  extent_bytes,
  digest_section,
  form_header,
  form_body,
  form_of,
  row_leq,
  tidy_form,
  Outcome,
  tidy_of,
}
use Rattle.segment.specs.Write.{Request, request_verdict, write_of}
use Rattle.segment.proofs.Shapes.{v3-shaped}
use Rattle.form_laws.specs.Form.{Form}
use Rattle.form_laws.proofs.RoundTrip.{form-means, form-meets}
use Rattle.form_laws.proofs.SortedForm.{contents-permuted}
use Rattle.theorem_demands.specs.LookUps.{HasKey}
use Rattle.theorem_demands.specs.Tidying.{Wrote, tidy_bytes}
use Rattle.theorem_demands.specs.Asking.{request_for, AskedFor}
use Rattle.theorem_demands.proofs.Rulebook.{answer-is, accepts-iff}
use Rattle.theorem_demands.proofs.Settling.{Passes, wrote-iff}
use Rattle.theorem_demands.proofs.LookUps.{look-up-finds}
use Rattle.theorem_demands.proofs.Tidying.{tidied-iff}
use Rattle.theorem_demands.proofs.Requests.{request-accepted}
use Rattle.theorem_demands.proofs.Writing.{written-iff}
use Rattle.theorem_demands.proofs.Asking.{asked-for}
use Rattle.theorem_cases.specs.PCases.{case_l, AllHold}
use Rattle.theorem_cases.specs.Members.{zeros}
use Rattle.theorem_cases.proofs.PCases.{empty, short, case-l}
use Rattle.theorem_two_orders.specs.Orders.{turned_l}
use Rattle.theorem_three_demands.specs.Members.{table_l, meaning_l}
use Rattle.theorem_three_demands.proofs.Members.{case-l-writable, case-l-supposed}
use Rattle.theorem_ruled_out.specs.WrongPrograms.{
  instead_of_tidied,
  copied,
  in_file_order,
  emptied,
  writes_nothing,
  first_true,
  fakes_others,
  accepts_all,
  RefusesAll,
  says_absent,
  misses_first,
  length_of_first,
  RuledOut,
  form_l,
  turned,
  first_key,
  two_pairs,
  ruled_out,
}

-- ---- what is computed, with the checksums left as they are

abbrev out : List ℕ
out = zeros 256

abbrev request_l : Request
request_l = request_for meaning_l

abbrev fakes : List ℕ
fakes = form_of v3 meaning_l.heading [] (first_true (sort_by row_leq case_l))

-- what look up tells of case L's first record
abbrev told : Answer
told = answered (1 ∷ 5 ∷ 0 ∷ 0 ∷ 3 ∷ 216 ∷ 1 ∷ [])

record Computed : Type 0 where
  good : good_table table_l ≡ true
  allowed : allows_key table_l first_key ≡ true
  sorted : tidy_form v3 (record { heading = meaning_l.heading; bloom = []; records = turned_l }) ≡ form_l
  turned-long : length turned ≡ 256
  fakes-long : length fakes ≡ 256
  form-begins : get_or (form_l ++ drop (length form_l) out) 0 0 ≡ 65
  -- record 0 is gone as the records stand in the file, and is not in the tidy form
  turned-flags : get_or turned 156 0 ≡ 1
  form-flags : get_or form_l 156 0 ≡ 0
  -- the last byte of the second digest
  fakes-digest : get_or fakes 215 0 ≡ 0
  form-digest : get_or form_l 215 0 ≡ 0x0e
  has_first : HasKey form_l first_key 0
  tells_first : found_answer (Ok (record_found (record_no v3 form_l (header_of form_l) 0))) ≡ told

computed : Computed
unfolding good_table good_pairs stands allows turned tidy_form form_of form_body form_header sort_by insert lex_leq packed header_fields record_fields record_for sum_lengths records_bytes digest_bytes digest_section extent_list_bytes extent_bytes extent_fields footer_fields bytes_of num_at le header_of record_of record_no digest_in key_no record_found
computed = record {
  good = refl;
  allowed = refl;
  sorted = refl;
  turned-long = refl;
  fakes-long = refl;
  form-begins = refl;
  turned-flags = refl;
  form-flags = refl;
  fakes-digest = refl;
  form-digest = refl;
  has_first = record { within = lit< tt; same = refl };
  tells_first = refl;
}

-- ---- of any promise

differs : {A B C : Type 0} (right wrong : A → B → C) (a : A) (b : B) → right a b ≢ wrong a b → RuledOut right wrong a b
differs right wrong a b n program keeps e = n (sym (keeps a b) ∙ e)

apart-at : (x y : List ℕ) (k : ℕ) → get_or x k 0 ≢ get_or y k 0 → x ≢ y
apart-at x y k n e = n (ap (λ (r : List ℕ). get_or r k 0) e)

-- ---- tidy

turned-form : Form v3 table_l meaning_l.heading [] turned_l
unfolding turned
turned-form = record {
  contents = contents-permuted v3 table_l meaning_l.heading [] (Permᴰ.swap refl refl) case-l-writable.contents;
  fits = rw computed.turned-long (omega arith);
}

turned-means : meaning_of v3 turned ≡ record { heading = meaning_l.heading; bloom = []; records = turned_l }
unfolding turned
turned-means = form-means v3 v3-shaped table_l meaning_l.heading [] turned_l turned-form

turned-accepted : checked table_l turned ≡ accepted
unfolding turned
turned-accepted =
    let meets = form-meets v3 v3-shaped table_l meaning_l.heading [] turned_l turned-form in
    (answer-is table_l turned accepted).0 ((accepts-iff table_l turned).1 (computed.good, meets))

-- another result than case L's tidy form
other-tidied : (result : List ℕ → List ℕ) → length (result turned) ≤ 256 → result turned ≢ form_l
    → RuledOut (tidy_of table_l) (instead_of_tidied result) turned out
other-tidied result l n =
    let r = result turned in
    differs (tidy_of table_l) (instead_of_tidied result) turned out
    (λ e.
    let wrote = (wrote-iff (checked table_l turned) r out r).1 ((turned-accepted, (omega arith, omega arith)), refl) in
    let is : r ≡ tidy_bytes turned = ((tidied-iff table_l turned out r).0 (subst (λ (o : Outcome). Wrote o out r) (sym e) wrote)).1 in
    n (is ∙ ap (tidy_form v3) turned-means ∙ computed.sorted))

not-tidy : turned ≢ form_l
not-tidy = apart-at turned form_l 156 (λ e. omega (arith, computed.turned-flags, computed.form-flags))

in-file-order : in_file_order turned ≡ turned
unfolding turned
in-file-order = rw turned-means

emptied-long : length (emptied turned) ≡ 136
emptied-long = (empty.form-lies _).long

form-long : length form_l ≡ 256
form-long = (case-l.form-lies meaning_l.heading).long

-- ---- write

asked : AskedFor table_l meaning_l
asked = asked-for meaning_l table_l computed.good case-l-writable.contents

nothing_written : RuledOut (write_of table_l) writes_nothing request_l out
nothing_written =
    differs (write_of table_l) writes_nothing request_l out
    (λ e.
    let written = case-l-supposed.written out (omega (arith, form-long)) in
    apart-at (form_l ++ drop (length form_l) out) out 0
    (λ f. omega (arith, computed.form-begins)) (sym written.output ∙ ap (λ (o : Outcome). o.output) e))

others-faked : RuledOut (write_of table_l) fakes_others request_l out
others-faked =
    let v = request_verdict v3 table_l request_l in
    let passes : Passes v fakes (length out) =
    ((request-accepted table_l request_l).1 asked.asks, (omega (arith, computed.fakes-long), omega (arith, computed.fakes-long))) in
    differs (write_of table_l) fakes_others request_l out
    (λ e.
    let wrote : Wrote (fakes_others request_l out) out fakes = rw asked.means ((wrote-iff v fakes out fakes).1 (passes, refl)) in
    let is = ((written-iff table_l request_l out fakes).0 (subst (λ (o : Outcome). Wrote o out fakes) (sym e) wrote)).1 in
    apart-at fakes form_l 215 (λ f. omega (arith, computed.fakes-digest, computed.form-digest)) (is ∙ ap (tidy_form v3) asked.means))

-- ---- check, look up and a length in the table

other-number : (a b : Answer) → a.number ≢ b.number → a ≢ b
other-number a b n e = n (ap (λ (x : Answer). x.number) e)

other-value : (a b : Answer) → get_or a.values 0 0 ≢ get_or b.values 0 0 → a ≢ b
other-value a b n e = n (ap (λ (x : Answer). get_or x.values 0 0) e)

all-accepted : RuledOut check_of accepts_all table_l []
all-accepted = differs check_of accepts_all table_l [] (rw (short.none table_l [] computed.good refl) (other-number _ _ (λ f. omega arith)))

all-refused : (check : List ℕ → List ℕ → Answer) → RefusesAll check → RuledOut check_of check table_l form_l
all-refused check n =
    differs check_of check table_l form_l (λ e. n table_l form_l (ap (λ (a : Answer). a.number) (sym e ∙ case-l-supposed.can.accepts)))

found_first : look_up_of table_l form_l first_key ≡ told
found_first =
    (look-up-finds table_l form_l first_key case-l-supposed.can.accepts computed.allowed).that-record 0 computed.has_first
    ∙ computed.tells_first

absent-said : RuledOut (look_up_of table_l) says_absent form_l first_key
absent-said = differs (look_up_of table_l) says_absent form_l first_key (rw found_first (other-value _ _ (λ f. omega arith)))

first-missed : RuledOut length_of misses_first two_pairs 1
unfolding length_of length_in
first-missed = differs length_of misses_first two_pairs 1 (other-value _ _ (λ f. omega arith))

always-first : RuledOut length_of length_of_first two_pairs 7
unfolding length_of length_in
always-first = differs length_of length_of_first two_pairs 7 (other-value _ _ (λ f. omega arith))

-- ---- all of them

pub ruled-out : AllHold ruled_out
ruled-out =
    let copies = other-tidied copied (omega (arith, computed.turned-long)) not-tidy in
    let keeps-order = other-tidied in_file_order (rw in-file-order (omega (arith, computed.turned-long))) (λ e. not-tidy (sym in-file-order ∙ e)) in
    let empties = other-tidied emptied (omega (arith, emptied-long)) (λ e. omega (arith, emptied-long, form-long, ap length e)) in
    (copies, (keeps-order, (empties, (nothing_written, (others-faked, (all-accepted, (all-refused, (absent-said, (first-missed, (always-first, tt))))))))))
