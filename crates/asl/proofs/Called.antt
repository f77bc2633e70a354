-- Each entry point says what its service says, in one number and in bytes.
-- Assumes nothing.
use Prim.Native.Nat.{ℕ, ◌<◌}
use mathlib.Core.Path.{◌≡◌, sym, ap, ◌∙◌}
use mathlib.Core.Bool.{false}
use mathlib.Core.List.{List}
use Rattle.std.specs.Prelude.{Err, None, Ok, Some}
use Rattle.answer.specs.Rules.{Verdict, accepted}
use Rattle.answer.specs.declared.Refusal.{Refusal}
use Rattle.answer.specs.declared.Rule.TheVariants.{Table as TableWrong}
use Rattle.answer.specs.Answers.{Answer, refusal, check_answer, found_answer, written_answer, Written}
use Rattle.answer.proofs.Settled.{check-settled, found-settled}
use Rattle.segment.specs.declared.record.Record.{Record}
use Rattle.segment.specs.Keys.{Key}
use Rattle.segment.specs.Check.{checked, check_of}
use Rattle.segment.specs.LookUp.{LookedUp, looked_up, look_up_of}
use Rattle.segment.specs.Walk.{record_values, stepped, step_answer, step_of, Step}
use Rattle.segment.specs.Tidy.{Outcome, outcome, tidy_length_of, tidy_of}
use Rattle.segment.specs.Write.{Request, write_of}
use Rattle.segment.proofs.StepSettled.{step-settled}
use Rattle.table.specs.Table.{good_table, table_verdict}
use Rattle.check_segment.proofs.SegmentOrder.{table_bad as check-bad}
use Rattle.look_up.proofs.Finding.{table-bad as look-up-bad}
use Rattle.tidy.proofs.TidyRead.{table-bad as tidy-bad}
use Rattle.tidy_length.proofs.Summing.{table-bad as length-bad}
use Rattle.write.proofs.RequestItems.{table-bad as write-bad}
use Rattle.c_answer.specs.declared.Reply.{Reply}
use Rattle.c_answer.specs.Boundary.{value_limit, answer_bits, bits_of, refused_bits, length_bits, Left, left, given_to, reply_of, reply_left, step_left, Small, Sayable, sealed_as}
use Rattle.c_answer.proofs.Replies.{refused-is, reply-sayable}
use Rattle.c_table.specs.Lent.{table_in}
use Rattle.c_table.proofs.Taking.{Alike, said-alike}
use Rattle.asl.proofs.Places.{checked-place, looked-up-place, stepped-place, tidied-small, sized-small, wrote-small}

step-bad : (pairs s : List ℕ) (k : ℕ) → good_table pairs ≡ false → step_answer (Err (refusal TableWrong 0)) ≡ step_of pairs s k
unfolding step_of stepped checked table_verdict
step-bad pairs s k e = rw e

module _ (bytes part : List ℕ) (l : Alike bytes part) where
  -- check
  module _ (s : List ℕ) (v : Verdict) (c : check_answer v ≡ check_of part s) where
    checked-alike : check_answer v ≡ check_of (table_in bytes) s
    checked-alike = c ∙ said-alike (λ p. check_of p s) (check_answer (Err (refusal TableWrong 0))) (λ p. check-bad p s) bytes l

    pub check-accepted : v ≡ accepted → 0 ≡ bits_of (check_of (table_in bytes) s) 0
    unfolding bits_of answer_bits
    check-accepted e = ap (λ (a : Answer). bits_of a 0) (sym (ap check_answer e) ∙ checked-alike)

    pub check-refused : {x : Refusal} {b : ℕ} → v ≡ Err x → b ≡ refused_bits x → b ≡ bits_of (check_of (table_in bytes) s) 0
    check-refused {x} e g = g ∙ refused-is x 0 ∙ ap (λ (a : Answer). bits_of a 0) (sym (ap check_answer e) ∙ checked-alike)

    pub check-place : {x : Refusal} → v ≡ Err x → x.1 < value_limit
    unfolding check_of
    check-place {x} e = checked-place part s x (sym (check-settled v (checked part s) c) ∙ e)

  -- look up
  module _ (s : List ℕ) (key : Key) (f : LookedUp) (c : found_answer f ≡ look_up_of part s key) where
    found_alike : f ≡ looked_up (table_in bytes) s key
    unfolding look_up_of
    found_alike =
        found-settled f (looked_up (table_in bytes) s key)
        (c ∙ said-alike (λ p. look_up_of p s key) (found_answer (Err (refusal TableWrong 0))) (λ p. look-up-bad p s key) bytes l)

    pub look-up-sayable : (a : Reply) → a ≡ reply_of f → Sayable a
    look-up-sayable a e = reply-sayable a f e (λ r g. looked-up-place (table_in bytes) s key r (sym found_alike ∙ g))

    pub looked-up : (a : Reply) (n : ℕ) (found after : List ℕ) → a ≡ reply_of f → left n after ≡ reply_left a found
        → left n after ≡ reply_left (reply_of (looked_up (table_in bytes) s key)) found
    looked-up a n found after e g = g ∙ ap (λ (b : Reply). reply_left b found) (e ∙ ap reply_of found_alike)

  -- a step
  module _ (s : List ℕ) (k : ℕ) (t : Step) (c : step_answer t ≡ step_of part s k) where
    step-alike : t ≡ stepped (table_in bytes) s k
    unfolding step_of
    step-alike =
        step-settled t (stepped (table_in bytes) s k) (c ∙ said-alike (λ p. step_of p s k) (step_answer (Err (refusal TableWrong 0))) (λ p. step-bad p s k) bytes l)

    pub step-place : {x : Refusal} → t ≡ Err x → x.1 < value_limit
    step-place {x} e = stepped-place (table_in bytes) s k x (sym step-alike ∙ e)

    module _ (fields : List ℕ) where
      by-step : (x : Left) → x ≡ step_left t fields → x ≡ step_left (stepped (table_in bytes) s k) fields
      by-step x e = e ∙ ap (λ (u : Step). step_left u fields) step-alike

      pub step_row : {r : Record} (values after : List ℕ) (b : ℕ) → t ≡ Ok (Some r) → values ≡ record_values r → left b after ≡ given_to 1 values fields
          → left b after ≡ step_left (stepped (table_in bytes) s k) fields
      unfolding step_left
      step_row values after b e v g = by-step (left b after) (rw e (g ∙ ap (λ (u : List ℕ). given_to 1 u fields) v))

      pub step-done : {b : ℕ} → t ≡ Ok None → b ≡ answer_bits 0 0 2 → left b fields ≡ step_left (stepped (table_in bytes) s k) fields
      unfolding step_left
      step-done {b} e g = by-step (left b fields) (rw (e, g))

      pub step-refused : {x : Refusal} {b : ℕ} → t ≡ Err x → b ≡ refused_bits x → left b fields ≡ step_left (stepped (table_in bytes) s k) fields
      unfolding step_left
      step-refused {b = b} e g = by-step (left b fields) (rw (e, g))

  -- tidy's length
  module _ (s : List ℕ) (w : Written) (c : written_answer w ≡ tidy_length_of part s) where
    pub length-small : Small w
    length-small = sized-small part s w c

    pub length-said : {b : ℕ} → b ≡ length_bits (written_answer w) → b ≡ length_bits (tidy_length_of (table_in bytes) s)
    length-said g =
        g ∙ ap (λ (a : Answer). length_bits a) (c ∙ said-alike (λ p. tidy_length_of p s) (written_answer (Err (refusal TableWrong 0))) (λ p. length-bad p s) bytes l)

  -- tidy and write
  sealed : (w : Written) (o : Outcome) {b : ℕ} {after : List ℕ} → outcome w after ≡ o → b ≡ length_bits (written_answer w) → left b after ≡ sealed_as o
  unfolding sealed_as
  sealed w o e f = rw f (ap sealed_as e)

  module _ (s out after : List ℕ) (w : Written) (c : outcome w after ≡ tidy_of part s out) where
    pub tidy-small : Small w
    tidy-small = tidied-small part s out after w c

    pub tidied : {b : ℕ} → b ≡ length_bits (written_answer w) → left b after ≡ sealed_as (tidy_of (table_in bytes) s out)
    tidied f = sealed w (tidy_of (table_in bytes) s out) (c ∙ said-alike (λ p. tidy_of p s out) (outcome (Err (refusal TableWrong 0)) out) (λ p. tidy-bad p s out) bytes l) f

  module _ (q : Request) (out after : List ℕ) (w : Written) (c : outcome w after ≡ write_of part q out) where
    pub write-small : Small w
    write-small = wrote-small part q out after w c

    pub written : {b : ℕ} → b ≡ length_bits (written_answer w) → left b after ≡ sealed_as (write_of (table_in bytes) q out)
    written f = sealed w (write_of (table_in bytes) q out) (c ∙ said-alike (λ p. write_of p q out) (outcome (Err (refusal TableWrong 0)) out) (λ p. write-bad p q out) bytes l) f
