-- Segments that hold case L's records in two orders mean the same, and so by the theorem of demand 3 they have one tidy form; the calls that tidy them
-- answer alike and leave the same bytes.
-- Assumes nothing.
use Prim.Native.Nat.{ℕ, ◌≤◌}
use mathlib.Core.Path.{◌≡◌, refl, sym, ap, subst, ◌∙◌}
use mathlib.Core.List.Perm
use mathlib.Core.List.Permᴰ
use mathlib.Core.List.{List, [], ◌∷◌}
use native.Mathlib.Omega.{arith}
use lib.ListN.{length, take}
use lib.Seq.{take_at}
use Rattle.std.specs.Prelude.{Ok}
use Rattle.numbers.specs.Numbers.{bytes_of}
use Rattle.answer.specs.Answers.{answered, Written}
use Rattle.answer.proofs.Settled.{check-settled, written-settled}
use Rattle.segment.specs.Format.{v3, file_limit}
use Rattle.lists.specs.Lists.{lex_leq, insert, sort_by}
use Rattle.segment.specs.Check.{checked, check_of}
use Rattle.segment.specs.Meaning.{meaning_of, SameMeaning}
use Rattle.segment.specs.Tidy.{
  tidy_form,
  form_of,
  form_body,
  packed,
  header_fields,
  record_fields,
  records_bytes,
  digest_bytes,
  digest_section,
  extent_list_bytes,
  extent_bytes,
  extent_fields,
  footer_fields,
  Outcome,
  outcome,
  tidied,
  tidy_of,
}
use Rattle.theorem_demands.specs.Answered.{accepted}
use Rattle.theorem_cases.specs.PCases.{case_l, tidy_of_rows}
use Rattle.theorem_demands.specs.Tidying.{Wrote, tidy_bytes, Keeps}
use Rattle.theorem_cases.proofs.PCases.{case-l}
use Rattle.theorem_demands.proofs.Rulebook.{accepts-iff}
use Rattle.theorem_demands.proofs.Tidying.{form-keeps, form-same-iff, accepted-form}
use Rattle.theorem_two_orders.specs.declared.Answers.{Answers}
use Rattle.theorem_two_orders.specs.Orders.{table, heading_l, turned_l, Holds, form_l, OneForm}

long : length form_l ≡ 256
unfolding form_l
long = (case-l.form-lies heading_l).long

turned-long : length (tidy_of_rows heading_l turned_l) ≡ 256
unfolding tidy_form form_of form_body sort_by insert lex_leq packed header_fields record_fields records_bytes digest_bytes digest_section extent_list_bytes extent_bytes extent_fields footer_fields bytes_of
turned-long = refl

module _ (s t : List ℕ) (p : Holds s case_l) (q : Holds t turned_l) where
  same-meaning : SameMeaning (meaning_of v3 s) (meaning_of v3 t)
  same-meaning =
      rw (p.means, q.means) (record { heading = refl; bloom = refl; records = λ r. Perm.mem_iff ∣ Permᴰ.swap refl refl ∣₁ })

  first-form : tidy_bytes s ≡ form_l
  unfolding form_l
  first-form = ap (tidy_form v3) p.means

  first_small : length (tidy_bytes s) ≤ file_limit
  first_small = let m : length (tidy_bytes s) ≡ 256 = ap length first-form ∙ long in omega arith

  second-small : length (tidy_bytes t) ≤ file_limit
  second-small = let m : length (tidy_bytes t) ≡ 256 = rw q.means turned-long in omega arith

  -- the theorem: what means the same has the same tidy form
  second-form : tidy_bytes t ≡ form_l
  second-form =
      sym ((form-same-iff table s table t p.bytes q.bytes p.accepts q.accepts first_small second-small).1 same-meaning)
      ∙ first-form

  form-keeps-it : Keeps table (meaning_of v3 s) form_l
  form-keeps-it =
      let form = accepted-form table s p.bytes p.accepts first_small in
      subst (Keeps table (meaning_of v3 s)) first-form (form-keeps table (meaning_of v3 s) (tidy_bytes s) ((accepts-iff table s).0 p.accepts).0 form)

  -- tidied, a segment with this tidy form leaves what the form itself does
  tidied-as : (u out : List ℕ) → check_of table u ≡ accepted → tidy_bytes u ≡ form_l → tidy_of table u out ≡ tidy_of table form_l out
  unfolding tidy_of tidied check_of
  tidied-as u out a e =
      rw (check-settled (checked table u) (Ok _) a, check-settled (checked table form_l) (Ok _) form-keeps-it.accepts, e, form-keeps-it.itself)

  -- a call into an output that has room
  module _ (w : Written) (out after : List ℕ) (e : outcome w after ≡ tidy_of table form_l out) (room : 256 ≤ length out) where
    wrote : Wrote (tidy_of table form_l out) out form_l
    wrote = form-keeps-it.again out (rw long room)

    done : w ≡ Ok 256
    done = written-settled w (Ok 256) (ap (λ (o : Outcome). o.answer) e ∙ wrote.answer ∙ ap (λ (n : ℕ). answered (n ∷ [])) long)

    front : take 256 after ≡ form_l
    front = ap (λ (o : Outcome). take 256 o.output) e ∙ ap (take 256) wrote.output ∙ take_at form_l _ 256 long

  pub one_form : (x x' y y' : List ℕ) (r : Answers) → outcome r.first x' ≡ tidy_of table s x → outcome r.second y' ≡ tidy_of table t y
      → OneForm x x' y y' r
  one_form x x' y y' r e f =
      let first = e ∙ tidied-as s x p.accepts first-form in
      let second = f ∙ tidied-as t y q.accepts second-form in
      record {
        first = first;
        second = second;
        alike = λ l m.
            record {
              first = done r.first x x' first l;
              second = done r.second y y' second m;
              same = front r.first x x' first l ∙ sym (front r.second y y' second m);
            };
      }
