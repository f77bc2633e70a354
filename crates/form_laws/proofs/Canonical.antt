-- The tidy form is canonical. It keeps the rules, means what it was written for, and is its own tidy form; and two meanings have the same one exactly
-- when they are the same.
-- Assumes nothing.
use Prim.Native.Nat.{ℕ}
use mathlib.Core.Path.{◌≡◌, refl, sym, ap, ◌∙◌}
use mathlib.Core.Logic.Iff
use mathlib.Core.Logic.{◌↔◌, ⊎_elim, ∥∥₁_elim}
use mathlib.Core.List.Memᴰ
use mathlib.Core.List.Perm
use mathlib.Core.List.Pairwise
use mathlib.Core.List.{
  List,
  [],
  ◌∷◌,
  Permᴰ,
  Memᴰ,
  is_set,
  Nodup,
  rel_of_Pairwise-cons,
  perm_ext_iff_of_Nodup,
}
use native.Mathlib.Nat.{ℕ_set}
use Rattle.segment.specs.declared.shape.Shape.{Shape}
use Rattle.lists.specs.Lists.{sort_by, Each, Ascending}
use Rattle.segment.specs.Meets.{Meets}
use Rattle.segment.specs.Meaning.{Row, row_key, Meaning, meaning_of, SameMeaning}
use Rattle.segment.specs.Tidy.{form_of, row_leq, tidy_form}
use Rattle.lists.proofs.Lex.{lex-anti, key-order}
use Rattle.lists.proofs.Arranged.{Anti, sort-permutes, sort-keeps, sort-ascends, sorts-same}
use Rattle.form_laws.specs.Form.{KeysApart, Tidies}
use Rattle.segment.specs.Shapes.{Shaped}
use Rattle.form_laws.proofs.RoundTrip.{form-means, form-meets}
use Rattle.form_laws.proofs.SortedForm.{tidy-form}

-- ---- a key decides its row

one-row : (rs : List Row) → KeysApart rs → (a b : Row) → Memᴰ a rs → Memᴰ b rs → row_key a ≡ row_key b → a ≡ b
one-row [] p a b m n k = absurd (Memᴰ.not-nil m)
one-row (r ∷ rs) p a b m n k =
    ⊎_elim
    (λ (e : a ≡ r). ⊎_elim
    (λ (f : b ≡ r). e ∙ sym f)
    (λ (n' : Memᴰ b rs). absurd (rel_of_Pairwise-cons p ∣ n' ∣₁ (ap row_key (sym e) ∙ k)))
    (Memᴰ.cases_cons n))
    (λ (m' : Memᴰ a rs). ⊎_elim
    (λ (f : b ≡ r). absurd (rel_of_Pairwise-cons p ∣ m' ∣₁ (ap row_key (sym f) ∙ sym k)))
    (λ (n' : Memᴰ b rs). one-row rs (Pairwise.of_cons p) a b m' n' k)
    (Memᴰ.cases_cons n))
    (Memᴰ.cases_cons m)

each_member : {A : Type 0} (P : A → Type 0) (xs : List A) → ((x : A) → Memᴰ x xs → P x) → Each P xs
unfolding Each
each_member P [] h = tt
each_member P (x ∷ xs) h = (h x (Memᴰ.head refl), each_member P xs (λ y m. h y (Memᴰ.tail m)))

sorted-same : {xs ys : List Row} → KeysApart xs → Permᴰ xs ys → sort_by row_leq xs ≡ sort_by row_leq ys
sorted-same {xs} p q =
    let among : Row → Type 0 = λ r. Memᴰ r xs in
    let anti : Anti row_leq among = λ a b m n h l. one-row xs p a b m n (lex-anti (row_key a) (row_key b) h l) in
    sorts-same row_leq (key-order row_key) among anti q (each_member among xs (λ r m. m))

none-twice : {rs : List Row} → KeysApart rs → Nodup rs
none-twice p = Pairwise.imp (λ a b n e. n (ap row_key e)) p

-- rows that are sorted stay as they are
already-sorted : (sh : Shape) (m : Meaning)
    → tidy_form sh (record { heading = m.heading; bloom = m.bloom; records = sort_by row_leq m.records }) ≡ tidy_form sh m
unfolding tidy_form
already-sorted sh m =
    let rs = sort_by row_leq m.records in
    ap (form_of sh m.heading m.bloom) (sort-keeps row_leq rs (sort-ascends row_leq (key-order row_key) m.records))

-- ---- one meaning

module _ (sh : Shape) (k : Shaped sh) (pairs : List ℕ) (m : Meaning) (w : Tidies sh pairs m) where
  pub tidy-meets : Meets sh pairs (tidy_form sh m)
  unfolding tidy_form
  tidy-meets = form-meets sh k pairs m.heading m.bloom (sort_by row_leq m.records) (tidy-form sh m pairs w)

  pub tidy-means : meaning_of sh (tidy_form sh m) ≡ record { heading = m.heading; bloom = m.bloom; records = sort_by row_leq m.records }
  unfolding tidy_form
  tidy-means = form-means sh k pairs m.heading m.bloom (sort_by row_leq m.records) (tidy-form sh m pairs w)

  pub tidy-same : SameMeaning (meaning_of sh (tidy_form sh m)) m
  tidy-same = rw tidy-means (record { heading = refl; bloom = refl; records = λ r. Perm.mem_iff ∣ sort-permutes row_leq m.records ∣₁ })

  pub tidy-ascends : Ascending row_leq (meaning_of sh (tidy_form sh m)).records
  tidy-ascends = rw tidy-means (sort-ascends row_leq (key-order row_key) m.records)

  pub tidy-again : tidy_form sh (meaning_of sh (tidy_form sh m)) ≡ tidy_form sh m
  tidy-again = ap (tidy_form sh) tidy-means ∙ already-sorted sh m

-- ---- two meanings

module _ (sh : Shape) (m n : Meaning) where
  same-form : KeysApart m.records → KeysApart n.records → SameMeaning m n → tidy_form sh m ≡ tidy_form sh n
  unfolding tidy_form
  same-form p q e =
      ∥∥₁_elim ((perm_ext_iff_of_Nodup (none-twice p) (none-twice q)).1 e.records) (is_set ℕ_set (tidy_form sh m) (tidy_form sh n))
      (λ d. rw (e.heading, e.bloom, sorted-same p d))

  module _ (k : Shaped sh) (pairs others : List ℕ) (v : Tidies sh pairs m) (w : Tidies sh others n) where
    same-meaning : tidy_form sh m ≡ tidy_form sh n → SameMeaning m n
    same-meaning e =
        let means : meaning_of sh (tidy_form sh m) ≡ meaning_of sh (tidy_form sh n) = ap (meaning_of sh) e in
        let first : SameMeaning (meaning_of sh (tidy_form sh m)) m = tidy-same sh k pairs m v in
        let second : SameMeaning (meaning_of sh (tidy_form sh m)) n = rw means (tidy-same sh k others n w) in
        record {
          heading = sym first.heading ∙ second.heading;
          bloom = sym first.bloom ∙ second.bloom;
          records = λ r. Iff.trans (Iff.symm (first.records r)) (second.records r);
        }

    pub tidy-canonical : tidy_form sh m ≡ tidy_form sh n ↔ SameMeaning m n
    tidy-canonical = (same-meaning, same-form v.contents.apart w.contents.apart)
