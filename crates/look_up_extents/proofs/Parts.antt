-- The extents that look up's answer speaks of lie in the segment, and are the part that is handed back.
--   Lie   the extents of an answer lie in the segment
-- Assumes nothing.
use Prim.Native.Nat.{ℕ, zero, suc, ◌+◌, ◌-◌, ◌*◌, ◌≤◌, ◌<◌}
use mathlib.Core.Path.{◌≡◌, refl, sym, subst, ap, ◌∙◌}
use mathlib.Core.Bool.{Bool, true, false, cond}
use mathlib.Core.List.{List}
use native.Mathlib.Omega.{arith}
use lib.ListN.{length, take, drop}
use Rattle.std.specs.Prelude.{Result, Ok, Err, IfOk}
use Rattle.offset.specs.declared.FileOffset.{FileOffset}
use Rattle.answer.specs.declared.Refusal.{Refusal}
use Rattle.answer.specs.declared.Found.{Found}
use Rattle.answer.specs.declared.Found.TheVariants.{Absent, Gone, Present}
use Rattle.answer.specs.Answers.{found_answer, Source}
use Rattle.answer.specs.Rules.{◌then◌, Verdict, accepted}
use Rattle.answer.proofs.Settled.{found-settled}
use Rattle.table.specs.Table.{table_verdict}
use Rattle.lists.specs.Lists.{eq_list}
use Rattle.segment.specs.declared.header.Header.{Header}
use Rattle.segment.specs.declared.record.Record.{Record}
use Rattle.segment.specs.declared.shape.Shape.{Shape}
use Rattle.segment.specs.Format.{v3, header_of, record_count, record_no}
use Rattle.segment.specs.Keys.{Key, key_of}
use Rattle.segment.specs.Check.{is_gone, key_no, segment_verdict}
use Rattle.segment.specs.LookUp.{key_verdict, record_found, ◌or_else◌, found_over, found_no, found_in, found_under, looked_up, look_up_of, extents_part, LookedUp}
use Rattle.segment.proofs.Shapes.{v3-shaped}
use Rattle.check_book.specs.Readable.{RecordReadable, Readable}
use Rattle.check_book.proofs.TablesHeader.{table-book}
use Rattle.check_book.proofs.Readable.{under-readable}

-- as many bytes as lie between two places
pub between : (s : List ℕ) (start size : ℕ) → take (start + size - start) (drop start s) ≡ take size (drop start s)
between s start size =
    let e : start + size - start ≡ size = omega arith in
    rw e

-- what holds of what is answered where no verdict before it refuses
ok-then : {A : Type 0} (P : A → Type 0) (v : Verdict) (r : Result A Refusal) → (v ≡ accepted → IfOk r P) → IfOk (v then r) P
ok-then P (Ok _) r p = p refl
ok-then P (Err x) r p = tt

-- ---- the extents of every answer lie in the segment

unfoldable Lie : List ℕ → Found → Type 0
Lie s Absent = Unit
Lie s (Gone v d o) = Unit
Lie s (Present v d o t at n) = at.0 + 16 * n ≤ length s

module _ (s : List ℕ) where
  lie-else : (f g : Found) → Lie s f → Lie s g → Lie s (f or_else g)
  unfolding Lie
  lie-else Absent g p q = q
  lie-else (Gone v d o) g p q = p
  lie-else (Present v d o t at n) g p q = p

  lie-cond : (b : Bool) (f g : Found) → Lie s f → Lie s g → Lie s (cond b f g)
  lie-cond true f g p q = p
  lie-cond false f g p q = q

  lie-over : (n : ℕ) (f : ℕ → Found) → ((k : ℕ) → k < n → Lie s (f k)) → Lie s (found_over n f)
  unfolding Lie found_over
  lie-over zero f p = tt
  lie-over (suc n) f p = lie-else (found_over n f) (f n) (lie-over n f (λ k l. p k (omega arith))) (p n (omega arith))

  lie-record : (sh : Shape) (h : Header) (r : Record) → RecordReadable sh s h r → Lie s (record_found r)
  unfolding Lie record_found
  lie-record sh h r v = lie-cond (is_gone r) _ _ tt v.extents

  lie-found : (sh : Shape) (h : Header) (key : Key) → Readable sh s h → Lie s (found_in sh s h key)
  unfolding Lie found_in found_no
  lie-found sh h key v =
      lie-over (record_count h) (found_no sh s h key)
      (λ k l. lie-cond (eq_list (key_no sh s h k) (key_of key)) (record_found (record_no sh s h k)) Absent (lie-record sh h (record_no sh s h k) (v.each k l)) tt)

looked-lies : (pairs s : List ℕ) (key : Key) → IfOk (looked_up pairs s key) (Lie s)
unfolding looked_up found_under
looked-lies pairs s key =
    ok-then (Lie s) (table_verdict pairs) _
    (λ t. ok-then (Lie s) (key_verdict pairs key) _
    (λ a. ok-then (Lie s) (segment_verdict v3 pairs s) _
    (λ e. lie-found s v3 (header_of s) key (under-readable v3 v3-shaped pairs s ((table-book pairs).0 t) e))))

-- ---- each answer's own part

module _ (pairs s : List ℕ) (key : Key) (f : LookedUp) (told : found_answer f ≡ look_up_of pairs s key) where
  is : f ≡ looked_up pairs s key
  unfolding look_up_of
  is = found-settled f (looked_up pairs s key) told

  pub inside : {v d : ℕ} {o : Source} {t : ℕ} {at : FileOffset} {n : ℕ} → f ≡ Ok (Present v d o t at n) → at.0 + 16 * n ≤ length s
  unfolding Lie
  inside e = subst (λ (x : LookedUp). IfOk x (Lie s)) (sym is ∙ e) (looked-lies pairs s key)

  module _ (p : List ℕ) where
    part : (g : LookedUp) → f ≡ g → p ≡ extents_part g s → p ≡ extents_part (looked_up pairs s key) s
    part g e q = q ∙ ap (λ (x : LookedUp). extents_part x s) (sym e ∙ is)

    pub part-absent : f ≡ Ok Absent → p ≡ take 0 (drop 0 s) → p ≡ extents_part (looked_up pairs s key) s
    unfolding extents_part
    part-absent e q = part (Ok Absent) e q

    pub part-gone : {v d : ℕ} {o : Source} → f ≡ Ok (Gone v d o) → p ≡ take 0 (drop 0 s) → p ≡ extents_part (looked_up pairs s key) s
    unfolding extents_part
    part-gone e q = part (Ok (Gone _ _ _)) e q

    pub part-present : {v d : ℕ} {o : Source} {t : ℕ} {at : FileOffset} {n : ℕ} → f ≡ Ok (Present v d o t at n) → p ≡ take (16 * n) (drop at.0 s)
        → p ≡ extents_part (looked_up pairs s key) s
    unfolding extents_part
    part-present e q = part (Ok (Present _ _ _ _ _ _)) e q

    pub part-refused : {r : Refusal} → f ≡ Err r → p ≡ take 0 (drop 0 s) → p ≡ extents_part (looked_up pairs s key) s
    unfolding extents_part
    part-refused e q = part (Err _) e q
