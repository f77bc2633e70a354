-- Demand 1, service by service: whatever it answers is answered, or refused by a number of the table and its place; and what is refused is left.
-- Assumes nothing.
use Prim.Native.Nat.{ℕ, ◌<◌}
use mathlib.Core.Path.{◌≡◌, refl, sym, ◌∙◌}
use mathlib.Core.Bool.{true, false, true≢false}
use mathlib.Core.Logic.{⊎_elim}
use mathlib.Core.List.{List, []}
use lib.Dec.{eqb}
use lib.ListN.{length}
use Rattle.std.specs.Prelude.{Err, None, Ok, Some}
use Rattle.answer.specs.Rules.{Verdict}
use Rattle.answer.specs.declared.Refusal.{Refusal}
use Rattle.answer.specs.declared.Rule.{Rule}
use Rattle.answer.specs.declared.Rule.TheVariants.{
  Size,
  Magic,
  Version,
  Header,
  LayoutBloom,
  LayoutRecords,
  LayoutDigests,
  LayoutExtents,
  LayoutLength,
  Checksum,
  Record,
  Digest,
  Extents,
  Total,
  Visibility,
  Duplicate,
  Room,
  Table,
  List as ListEnd,
  Large,
  Key as KeyWrong,
}
use Rattle.answer.specs.declared.Found.TheVariants.{Absent, Gone, Present}
use Rattle.answer.specs.Answers.{rule_number, refusal, answered, refused, check_answer, found_answer, written_answer, Written}
use Rattle.answer.proofs.Order.{or_right}
use Rattle.answer.proofs.Settled.{in-table}
use Rattle.segment.specs.declared.entry.Entry.{Entry}
use Rattle.segment.specs.Keys.{Key}
use Rattle.segment.specs.Check.{checked, check_of}
use Rattle.segment.specs.LookUp.{LookedUp, looked_up, look_up_of}
use Rattle.segment.specs.Walk.{stepped, Step}
use Rattle.segment.specs.Meaning.{meaning_of}
use Rattle.segment.specs.Format.{v3, header_of, record_count}
use Rattle.segment.specs.Tidy.{tidy_form, outcome, output_after, tidied, tidy_sized, tidy_length_of, tidy_of}
use Rattle.segment.specs.Write.{Request, entry_count, requested, wrote, write_of}
use Rattle.walk_step.proofs.Stepping.{step-refused-iff}
use Rattle.theorem_demands.specs.Refusals.{
  place_in,
  Given,
  by-table,
  by_size,
  by-magic,
  by-version,
  by-header,
  by-layout-bloom,
  by-layout-records,
  by-layout-digests,
  by-layout-extents,
  by-layout-length,
  by-checksum,
  by-marks,
  by-digest,
  by-extents,
  by_total,
  by-visibility,
  by-duplicate,
}
use Rattle.theorem_demands.specs.LookUps.{LookGiven, by-table as look-table, by_key, by-segment}
use Rattle.theorem_demands.specs.Tidying.{SizeGiven, by-limit, by-room}
use Rattle.theorem_demands.specs.Writing.{
  EntryGiven,
  by-marks as entry-marks,
  by-lists,
  by-digest as entry-digest,
  by-places,
  by_total as entry-total,
  RequestGiven,
  by-table as by-bad-table,
  by_count,
  by-bloom,
  by-entry,
  by_key as by-twice,
}
use Rattle.theorem_three_demands.specs.Answering.{Numbered, PlaceRule, of_record, in_segment, in_request, PlacedBy, Leaves, Stays}
use Rattle.theorem_demands.proofs.Refusals.{refused-iff}
use Rattle.theorem_demands.proofs.LookUps.{look-refused-iff}
use Rattle.theorem_demands.proofs.Tidying.{tidy-refused-iff, length-refused}
use Rattle.theorem_demands.proofs.Writing.{write-refused-iff}

-- ---- the table's numbers and places

rule-numbered : (q : Rule) (p : ℕ) → Numbered (refused (refusal q p))
rule-numbered q p = or_right (eqb (rule_number q) 0) (in-table q)

module _ {P : PlaceRule} (q : Rule) where
  -- at an item, and elsewhere
  at_item : {p : ℕ} → P.of_item (rule_number q) ≡ true → P.Item p → PlacedBy P (refused (refusal q p))
  at_item {p} t i = record { numbered = rule-numbered q p; of-item = λ e. i; otherwise = λ e. absurd (true≢false (sym t ∙ e)) }

  no_item : {p : ℕ} → P.of_item (rule_number q) ≡ false → p ≡ P.elsewhere (rule_number q) → PlacedBy P (refused (refusal q p))
  no_item {p} f e = record { numbered = rule-numbered q p; of-item = λ t. absurd (true≢false (sym t ∙ f)); otherwise = λ g. e }

-- where an answer is placed, and the refusals of any output
pub record Common (P : PlaceRule) : Type 0 where
  pub answers : (values : List ℕ) → PlacedBy P (answered values)
  pub large : PlacedBy P (refused (refusal Large 0))
  pub room : PlacedBy P (refused (refusal Room 0))

answers-placed : {P : PlaceRule} → P.of_item 0 ≡ false → 0 ≡ P.elsewhere 0 → (values : List ℕ) → PlacedBy P (answered values)
answers-placed f e values = record { numbered = refl; of-item = λ t. absurd (true≢false (sym t ∙ f)); otherwise = λ g. e }

pub segment-common : (s : List ℕ) → Common (in_segment s)
segment-common s = record { answers = answers-placed refl refl; large = no_item Large refl refl; room = no_item Room refl refl }

pub request-common : (n : ℕ) → Common (in_request n)
request-common n = record { answers = answers-placed refl refl; large = no_item Large refl refl; room = no_item Room refl refl }

-- ---- the place of a refusal that is given

module _ (pairs s : List ℕ) where
  record-placed : (q : Rule) (k : ℕ) → of_record (rule_number q) ≡ true → k < record_count (header_of s) → PlacedBy (in_segment s) (refused (refusal q (place_in s k)))
  record-placed q k t l = at_item q t (record { number = k; within = l; here = refl })

  given-placed : (r : Refusal) → Given pairs s r → PlacedBy (in_segment s) (refused r)
  given-placed r (by-table e) = no_item Table refl refl
  given-placed r (by_size g n) = no_item Size refl refl
  given-placed r (by-magic u n) = no_item Magic refl refl
  given-placed r (by-version u m n) = no_item Version refl refl
  given-placed r (by-header u m v n) = no_item Header refl refl
  given-placed r (by-layout-bloom u n) = no_item LayoutBloom refl refl
  given-placed r (by-layout-records u b n) = no_item LayoutRecords refl refl
  given-placed r (by-layout-digests u b k n) = no_item LayoutDigests refl refl
  given-placed r (by-layout-extents u b k d n) = no_item LayoutExtents refl refl
  given-placed r (by-layout-length u b k d x n) = no_item LayoutLength refl refl
  given-placed r (by-checksum u n) = no_item Checksum refl refl
  given-placed r (by-marks k u n) = record-placed Record k refl u.within
  given-placed r (by-digest k u m n) = record-placed Digest k refl u.within
  given-placed r (by-extents k u m d n) = record-placed Extents k refl u.within
  given-placed r (by_total k u m d x n) = record-placed Total k refl u.within
  given-placed r (by-visibility u n) = no_item Visibility refl refl
  given-placed r (by-duplicate k u t) = record-placed Duplicate k refl t.within

  look-placed : (key : Key) (r : Refusal) → LookGiven pairs s key r → PlacedBy (in_segment s) (refused r)
  look-placed key r (look-table g) = no_item Table refl refl
  look-placed key r (by_key g a) = no_item KeyWrong refl refl
  look-placed key r (by-segment g a n) = given-placed r n

size-placed : {P : PlaceRule} {m room : ℕ} → Common P → (r : Refusal) → SizeGiven m room r → PlacedBy P (refused r)
size-placed o r (by-limit l) = o.large
size-placed o r (by-room l h) = o.room

entry-placed : {pairs digests extents : List ℕ} {x : Entry} {k n : ℕ} (r : Refusal) → k < n → EntryGiven pairs digests extents x k r → PlacedBy (in_request n) (refused r)
entry-placed r l (entry-marks a) = at_item Record refl l
entry-placed r l (by-lists a b) = at_item ListEnd refl l
entry-placed r l (entry-digest a b c) = at_item Digest refl l
entry-placed r l (by-places a b c d) = at_item Extents refl l
entry-placed r l (entry-total a b c d f) = at_item Total refl l

request-placed : (pairs : List ℕ) (q : Request) (r : Refusal) → RequestGiven pairs q r → PlacedBy (in_request (entry_count q.entries)) (refused r)
request-placed pairs q r (by-bad-table g) = no_item Table refl refl
request-placed pairs q r (by_count g l) = no_item Large refl refl
request-placed pairs q r (by-bloom g l n) = no_item LayoutBloom refl refl
request-placed pairs q r (by-entry k u g) = entry-placed r u.within g
request-placed pairs q r (by-twice k u t) = at_item Duplicate refl t.within

-- ---- what is answered

module _ {P : PlaceRule} (o : Common P) where
  verdict-placed : (v : Verdict) → ((r : Refusal) → v ≡ Err r → PlacedBy P (refused r)) → PlacedBy P (check_answer v)
  verdict-placed (Ok _) b = o.answers []
  verdict-placed (Err r) b = b r refl

  found-placed : (f : LookedUp) → ((r : Refusal) → f ≡ Err r → PlacedBy P (refused r)) → PlacedBy P (found_answer f)
  found-placed (Ok Absent) b = o.answers _
  found-placed (Ok (Gone v d x)) b = o.answers _
  found-placed (Ok (Present v d x t a c)) b = o.answers _
  found-placed (Err r) b = b r refl

  step_stays : (t : Step) (at : ℕ) → ((r : Refusal) → t ≡ Err r → PlacedBy P (refused r)) → Stays P t at
  step_stays (Ok (Some x)) at b = record { placed = o.answers _; kept = λ f. absurd (f refl) }
  step_stays (Ok None) at b = record { placed = o.answers _; kept = λ f. absurd (f refl) }
  step_stays (Err r) at b = record { placed = b r refl; kept = λ f. refl }

  written-placed : (w : Written) → ((r : Refusal) → w ≡ Err r → PlacedBy P (refused r)) → PlacedBy P (written_answer w)
  written-placed (Ok m) b = o.answers _
  written-placed (Err r) b = b r refl

written-leaves : {P : PlaceRule} (w : Written) (result out : List ℕ) → PlacedBy P (written_answer w) → Leaves P (outcome w (output_after w result out)) out
written-leaves (Ok m) result out p = record { placed = p; kept = λ f. absurd (f refl) }
written-leaves (Err r) result out p = record { placed = p; kept = λ f. refl }

-- ---- the services, on every input

module _ (pairs s : List ℕ) where
  pub check-placed : PlacedBy (in_segment s) (check_of pairs s)
  unfolding check_of
  check-placed = verdict-placed (segment-common s) (checked pairs s) (λ r e. given-placed pairs s r ((refused-iff pairs s r).0 e))

  pub look-up-placed : (key : Key) → PlacedBy (in_segment s) (look_up_of pairs s key)
  unfolding look_up_of
  look-up-placed key = found-placed (segment-common s) (looked_up pairs s key) (λ r e. look-placed pairs s key r ((look-refused-iff pairs s key r).0 e))

  pub stepped-stays : (at : ℕ) → Stays (in_segment s) (stepped pairs s at) at
  stepped-stays at =
      step_stays (segment-common s) (stepped pairs s at) at
      (λ r e. given-placed pairs s r ((refused-iff pairs s r).0 ((step-refused-iff pairs s at r).0 e)))

  tidied-placed : (room : ℕ) (r : Refusal) → tidied pairs s room ≡ Err r → PlacedBy (in_segment s) (refused r)
  tidied-placed room r e = ⊎_elim (given-placed pairs s r) (λ z. size-placed (segment-common s) r z.1) ((tidy-refused-iff pairs s room r).0 e)

  pub tidy-length-placed : PlacedBy (in_segment s) (tidy_length_of pairs s)
  unfolding tidy_length_of
  tidy-length-placed = written-placed (segment-common s) (tidy_sized pairs s) (λ r e. tidied-placed 0 r (length-refused pairs s 0 r e))

  pub tidy-leaves : (out : List ℕ) → Leaves (in_segment s) (tidy_of pairs s out) out
  unfolding tidy_of
  tidy-leaves out =
      written-leaves (tidied pairs s (length out)) (tidy_form v3 (meaning_of v3 s)) out
      (written-placed (segment-common s) (tidied pairs s (length out)) (tidied-placed (length out)))

pub write-leaves : (pairs : List ℕ) (q : Request) (out : List ℕ) → Leaves (in_request (entry_count q.entries)) (write_of pairs q out) out
unfolding write_of
write-leaves pairs q out =
    let o = request-common (entry_count q.entries) in
    written-leaves (wrote pairs q (length out)) (tidy_form v3 (requested q)) out
    (written-placed o (wrote pairs q (length out))
    (λ r e. ⊎_elim (request-placed pairs q r) (λ z. size-placed o r z.1) ((write-refused-iff pairs q (length out) r).0 e)))
