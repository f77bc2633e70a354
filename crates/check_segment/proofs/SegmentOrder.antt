-- How the tables stand in order after the header's, and the whole.
-- Assumes nothing.
use Prim.Native.Nat.{ℕ, ◌≤◌, ◌<◌}
use mathlib.Core.Path.{◌≡◌, refl, sym, ap, ◌∙◌}
use mathlib.Core.Bool.{true, false}
use mathlib.Core.List.{List}
use borrow.Author.Tests.{eq-eqb, ne_eqb}
use lib.ListN.{length}
use Rattle.std.specs.Prelude.{Err, Ok}
use Rattle.answer.specs.declared.Refusal.{Refusal}
use Rattle.answer.specs.declared.Rule.TheVariants.{Size, Visibility, Table as TableWrong}
use Rattle.answer.specs.Rules.{◌then◌, first_over, Verdict, accepted}
use Rattle.answer.specs.Answers.{refusal, check_answer}
use Rattle.lists.proofs.Tests.{tests}
use Rattle.answer.proofs.Order.{then-assoc}
use Rattle.segment.specs.declared.header.Header.{Header}
use Rattle.segment.specs.declared.shape.Shape.{Shape}
use Rattle.segment.specs.Format.{v3, header_of, record_at, record_no, record_count}
use Rattle.table.specs.Table.{good_table, table_verdict}
use Rattle.segment.specs.Check.{size_verdict, head_verdict, layout_verdict, segment_rules, segment_verdict, checked, check_of, record_verdict, largest_below, visibility_no, visibility_verdict, digest_in, key_no}
use Rattle.segment.specs.Keys.{fresh_key}
use Rattle.key.specs.declared.Kind.TheVariants.{Records}
use Rattle.key.specs.Items.{item_key, item_hash, item_digest, item_span, item_place, record_span}
use Rattle.check_header.specs.HeaderRules.{header_rules}
use Rattle.check_records.specs.RecordsPassed.{passed}
use Rattle.check_segment.specs.SegmentParts.{contents_verdict, body_rules}

-- ---- after the checksum

-- the keys of the records, as items and as records
same_keys : (sh : Shape) (s list : List ℕ) (h : Header) (n : ℕ)
    → first_over n (fresh_key (item_key (Records h.records_offset sh) s list) (item_place (Records h.records_offset sh))) ≡ first_over n (fresh_key (key_no sh s h) (record_at sh h))
unfolding item_key item_place item_hash item_digest item_span record_span key_no digest_in record_no
same_keys sh s list h n = refl

by-verdict : (v : Verdict) (P : Type 0) → (v ≡ accepted → P) → ((x : Refusal) → v ≡ Err x → P) → P
by-verdict (Ok _) P f g = f refl
by-verdict (Err x) P f g = g x refl

module _ (sh : Shape) (pairs s : List ℕ) (h : Header) where
  every : Verdict
  every = first_over (record_count h) (record_verdict sh pairs s h)

  -- what the pass says of the records
  pass-told : (x : Refusal) → Err x ≡ passed sh pairs s h (record_count h) → every ≡ Err x
  unfolding passed every
  pass-told x e =
      by-verdict every (every ≡ Err x)
      (λ f. let q : Err x ≡ Ok (largest_below (record_count h) (visibility_no sh s h)) = e ∙ rw f in cc)
      (λ y f. let q : Err x ≡ Err y = e ∙ rw f in cc)

  module _ (v : ℕ) (e : Ok v ≡ passed sh pairs s h (record_count h)) where
    pub all-passed : first_over (record_count h) (record_verdict sh pairs s h) ≡ accepted
    unfolding passed every
    all-passed =
        by-verdict every (every ≡ accepted) (λ f. f)
        (λ y f. let q : Ok v ≡ Err y = e ∙ rw f in cc)

    largest-is : v ≡ largest_below (record_count h) (visibility_no sh s h)
    unfolding passed
    largest-is =
        let q : Ok v ≡ Ok (largest_below (record_count h) (visibility_no sh s h)) = e ∙ rw all-passed in
        cc

    pub shown-wrong : (v ≡ h.visibility → ⊥) → Err (refusal Visibility 0) ≡ contents_verdict sh pairs s h
    unfolding contents_verdict visibility_verdict
    shown-wrong d = rw (all-passed, ← largest-is, ne_eqb h.visibility v (λ q. d (sym q)))

    pub keys-told : (list : List ℕ) {w : Verdict} → v ≡ h.visibility
        → w ≡ first_over (record_count h) (fresh_key (item_key (Records h.records_offset sh) s list) (item_place (Records h.records_offset sh)))
        → w ≡ contents_verdict sh pairs s h
    unfolding contents_verdict visibility_verdict
    keys-told list d f = f ∙ same_keys sh s list h (record_count h) ∙ rw (all-passed, ← largest-is, eq-eqb h.visibility v (sym d))

  pub contents-stop : (x : Refusal) → Err x ≡ passed sh pairs s h (record_count h) → Err x ≡ contents_verdict sh pairs s h
  unfolding contents_verdict every
  contents-stop x e = rw (pass-told x e)

-- ---- the whole

module _ (sh : Shape) (pairs s : List ℕ) (h : Header) where
  in_parts : segment_rules sh pairs s h ≡ (header_rules sh h (length s) then body_rules sh pairs s h)
  unfolding segment_rules header_rules body_rules contents_verdict
  in_parts = sym (then-assoc (head_verdict sh h) (layout_verdict sh h (length s)) (body_rules sh pairs s h))

  pub header-stop : (x : Refusal) → header_rules sh h (length s) ≡ Err x → Err x ≡ segment_rules sh pairs s h
  header-stop x e = sym (in_parts ∙ rw e)

  pub header-pass : {v : Verdict} → header_rules sh h (length s) ≡ accepted → v ≡ body_rules sh pairs s h → v ≡ segment_rules sh pairs s h
  header-pass e f = f ∙ sym (in_parts ∙ rw e)

module _ (sh : Shape) (pairs s : List ℕ) where
  pub too_small : length s < 136 → Err (refusal Size 0) ≡ segment_verdict sh pairs s
  unfolding segment_verdict size_verdict
  too_small a = simp tests

  module _ (a : 136 ≤ length s) where
    pub too_large : 1073741824 < length s → Err (refusal Size 0) ≡ segment_verdict sh pairs s
    unfolding segment_verdict size_verdict
    too_large b = simp tests

    pub sized : {v : Verdict} (h : Header) → length s ≤ 1073741824 → h ≡ header_of s → v ≡ segment_rules sh pairs s h → v ≡ segment_verdict sh pairs s
    unfolding segment_verdict size_verdict
    sized h b e f = f ∙ ap (segment_rules sh pairs s) e ∙ simp tests

pub table_bad : (pairs s : List ℕ) → good_table pairs ≡ false → check_answer (Err (refusal TableWrong 0)) ≡ check_of pairs s
unfolding check_of checked table_verdict
table_bad pairs s e = rw e

pub table_good : (pairs part s : List ℕ) {v : Verdict} → good_table pairs ≡ true → part ≡ pairs → v ≡ segment_verdict v3 part s → check_answer v ≡ check_of pairs s
unfolding check_of checked table_verdict
table_good pairs part s e p f = rw e (ap check_answer (f ∙ ap (λ (q : List ℕ). segment_verdict v3 q s) p))
