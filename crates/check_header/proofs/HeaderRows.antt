-- The rows of the header's tables: which verdict there is where a row's rule is broken, and where all are kept; by the rule book. Each premise is as
-- the code's test or call leaves it.
-- Assumes nothing.
use Prim.Native.Nat.{ℕ, ◌+◌, ◌-◌, ◌*◌, ◌/◌, ◌%◌, ◌≤◌, ◌<◌}
use mathlib.Core.Path.{◌≡◌, sym, ◌∙◌}
use mathlib.Core.Bool.{Bool, true, false, not}
use mathlib.Core.List.{List}
use native.Mathlib.Omega.{arith}
use borrow.Author.Tests.{eq-eqb, ne_eqb, eqb-true, eqb-false}
use lib.Dec.{eqb}
use lib.ListN.{length, take}
use Rattle.std.specs.Prelude.{Err}
use Rattle.answer.specs.Rules.{accepted}
use Rattle.numbers.specs.Numbers.{num_at}
use Rattle.crc64.specs.Crc.{crc}
use Rattle.answer.specs.declared.Rule.TheVariants.{
  Magic,
  Version,
  Header as HeaderWrong,
  LayoutBloom,
  LayoutRecords,
  LayoutDigests,
  LayoutExtents,
  LayoutLength,
  Checksum,
}
use Rattle.answer.specs.Answers.{refusal}
use Rattle.lists.proofs.Tests.{by-test, was-true, was-false}
use Rattle.segment.specs.declared.header.Header.{Header}
use Rattle.segment.specs.declared.shape.Shape.{Shape}
use Rattle.segment.specs.Format.{record_count, records_offset, bloom_offset, bloom_size, digests_offset, digests_size, extents_offset, extent_count, footer_of}
use Rattle.segment.specs.Check.{head_verdict, bloom_place, layout_verdict, checksum_verdict}
use Rattle.segment.specs.Meets.{HeaderMeets}
use Rattle.check_book.specs.Layout.{BloomLaid, RecordsLaid, DigestsLaid}
use Rattle.check_book.proofs.TablesHeader.{
  magic-broken,
  version-broken,
  header-book,
  header-broken,
  bloom-laid-starts,
  bloom-laid-broken,
  records-laid-broken,
  digests-laid-broken,
  extents-laid-broken,
  length-laid-broken,
  all_laid,
}

-- ---- 2, 3 and 4

module _ (sh : Shape) (h : Header) where
  pub head-magic : (h.magic ≡ sh.magic → ⊥) → Err (refusal Magic 0) ≡ head_verdict sh h
  head-magic n = sym (magic-broken sh h n)

  module _ (m : h.magic ≡ sh.magic) where
    pub head-version : (h.version ≡ sh.version → ⊥) → Err (refusal Version 0) ≡ head_verdict sh h
    head-version n = sym (version-broken sh h m n)

    module _ (v : h.version ≡ sh.version) where
      header-wrong : ¬ HeaderMeets h → Err (refusal HeaderWrong 0) ≡ head_verdict sh h
      header-wrong n = sym (header-broken sh h m v n)

      pub head-size : (h.header_size ≡ 112 → ⊥) → Err (refusal HeaderWrong 0) ≡ head_verdict sh h
      head-size n = header-wrong (λ k. n k.size)

      pub head-federation : (h.federation ≡ 0 → ⊥) → Err (refusal HeaderWrong 0) ≡ head_verdict sh h
      head-federation n = header-wrong (λ k. n k.federation)

      pub head-reserved : (h.reserved ≡ 0 → ⊥) → Err (refusal HeaderWrong 0) ≡ head_verdict sh h
      head-reserved n = header-wrong (λ k. n k.reserved)

      pub head-flags : (h.flags ≡ 0 → ⊥) → Err (refusal HeaderWrong 0) ≡ head_verdict sh h
      head-flags n = header-wrong (λ k. n k.flags)

      pub head-visibility : 1 < h.visibility → Err (refusal HeaderWrong 0) ≡ head_verdict sh h
      head-visibility l = header-wrong (λ k. omega (arith, k.visibility))

      pub head-accepted : h.header_size ≡ 112 → h.federation ≡ 0 → h.reserved ≡ 0 → h.flags ≡ 0 → h.visibility ≤ 1 → accepted ≡ head_verdict sh h
      head-accepted z f r g l =
          sym ((header-book sh h m v).1 (record { size = z; federation = f; reserved = r; flags = g; visibility = l }))

pub ruleset head_rows = (head-magic, head-version, head-size, head-federation, head-reserved, head-flags, head-visibility, head-accepted)

-- ---- sums over whole numbers

-- two tests of equality that hold together say the same
same_test : (x y z w : ℕ) → (x ≡ y → z ≡ w) → (z ≡ w → x ≡ y) → eqb x y ≡ eqb z w
same_test x y z w f g =
    by-test (eqb x y)
    (λ e. e ∙ sym (eq-eqb z w (f (eqb-true x y e))))
    (λ e. e ∙ sym (ne_eqb z w (λ q. eqb-false x y e (g q))))

pub below-part : (whole a b : ℕ) → whole < a → false ≡ eqb whole (a + b)
below-part whole a b h = sym (ne_eqb whole (a + b) (λ e. omega arith))

pub rest-told : (whole a b : ℕ) → a ≤ whole → eqb (whole - a) b ≡ eqb whole (a + b)
rest-told whole a b h = same_test (whole - a) b whole (a + b) (λ e. omega arith) (λ e. omega arith)

module _ (n extents count : ℕ) where
  pub too_short : n < 24 → false ≡ eqb n (extents + 16 * count + 24)
  too_short h = sym (ne_eqb n (extents + 16 * count + 24) (λ e. omega arith))

  pub no-extents : n - 24 < extents → 24 ≤ n → false ≡ eqb n (extents + 16 * count + 24)
  no-extents h l = sym (ne_eqb n (extents + 16 * count + 24) (λ e. omega arith))

  pub not-whole : 24 ≤ n → extents ≤ n - 24 → ((n - 24 - extents) % 16 ≡ 0 → ⊥) → false ≡ eqb n (extents + 16 * count + 24)
  not-whole l m h = sym (ne_eqb n (extents + 16 * count + 24) (λ e. h (omega arith)))

  pub counted : 24 ≤ n → extents ≤ n - 24 → (n - 24 - extents) % 16 ≡ 0 → eqb ((n - 24 - extents) / 16) count ≡ eqb n (extents + 16 * count + 24)
  counted l m h = same_test ((n - 24 - extents) / 16) count n (extents + 16 * count + 24) (λ e. omega arith) (λ e. omega arith)

-- ---- 51 to 55: each premise gives or breaks a rule of the book

module _ (sh : Shape) (h : Header) (n : ℕ) (start : ℕ) (p : start ≡ bloom_place (bloom_size h)) where
  pub layout-bloom : (bloom_offset h ≡ start → ⊥) → Err (refusal LayoutBloom 48) ≡ layout_verdict sh h n
  layout-bloom c = sym (bloom-laid-broken sh n h (λ m. c (((bloom-laid-starts h).0 m).0 ∙ sym p)))

  module _ (b : bloom_offset h ≡ start) where
    pub layout-bloom-size : (bloom_size h % 8 ≡ 0 → ⊥) → Err (refusal LayoutBloom 48) ≡ layout_verdict sh h n
    layout-bloom-size c = sym (bloom-laid-broken sh n h (λ m. c m.divides))

    module _ (z : bloom_size h % 8 ≡ 0) where
      bloom : BloomLaid h
      bloom = (bloom-laid-starts h).1 (b ∙ p, z)

      pub layout-count : 65536 < record_count h → Err (refusal LayoutRecords 32) ≡ layout_verdict sh h n
      layout-count c = sym (records-laid-broken sh n h bloom (λ m. omega (arith, m.few)))

      module _ (c : record_count h ≤ 65536) (t₁ : Bool) (e₁ : t₁ ≡ eqb (records_offset h) (112 + bloom_size h)) where
        pub layout-records : not t₁ ≡ true → Err (refusal LayoutRecords 32) ≡ layout_verdict sh h n
        layout-records f = sym (records-laid-broken sh n h bloom (λ m. eqb-false _ _ (was-false e₁ f) m.starts))

        module _ (f₁ : not t₁ ≡ false) (t₂ : Bool) (e₂ : t₂ ≡ eqb (digests_offset h) (records_offset h + sh.record_size * record_count h)) where
          records : RecordsLaid h
          records = record { few = c; starts = eqb-true _ _ (was-true e₁ f₁) }

          pub layout-digests : not t₂ ≡ true → Err (refusal LayoutDigests 64) ≡ layout_verdict sh h n
          layout-digests f = sym (digests-laid-broken sh n h bloom records (λ m. eqb-false _ _ (was-false e₂ f) m.starts))

          module _ (f₂ : not t₂ ≡ false) where
            pub layout-digests-size : (digests_size h % 8 ≡ 0 → ⊥) → Err (refusal LayoutDigests 64) ≡ layout_verdict sh h n
            layout-digests-size d = sym (digests-laid-broken sh n h bloom records (λ m. d m.divides))

            module _ (d : digests_size h % 8 ≡ 0) (t₃ : Bool) (e₃ : t₃ ≡ eqb (extents_offset h) (digests_offset h + digests_size h)) where
              digests : DigestsLaid sh h
              digests = record { starts = eqb-true _ _ (was-true e₂ f₂); divides = d }

              pub layout-extents : not t₃ ≡ true → Err (refusal LayoutExtents 80) ≡ layout_verdict sh h n
              layout-extents f = sym (extents-laid-broken sh n h bloom records digests (eqb-false _ _ (was-false e₃ f)))

              module _ (f₃ : not t₃ ≡ false) (t₄ : Bool) (e₄ : t₄ ≡ eqb n (extents_offset h + 16 * extent_count h + 24)) where
                pub layout-length : not t₄ ≡ true → Err (refusal LayoutLength 88) ≡ layout_verdict sh h n
                layout-length f =
                    sym (length-laid-broken sh n h bloom records digests (eqb-true _ _ (was-true e₃ f₃)) (eqb-false _ _ (was-false e₄ f)))

                pub layout-accepted : not t₄ ≡ false → accepted ≡ layout_verdict sh h n
                layout-accepted f =
                    sym (all_laid sh n h bloom records digests (eqb-true _ _ (was-true e₃ f₃)) (eqb-true _ _ (was-true e₄ f)))

pub ruleset layout-rows = (
  layout-bloom,
  layout-bloom-size,
  layout-count,
  layout-records,
  layout-digests,
  layout-digests-size,
  layout-extents,
  layout-length,
  layout-accepted,
)

-- ---- 6

module _ (s : List ℕ) (stored computed : ℕ) (p : stored ≡ num_at 8 s (length s - 24)) (q : computed ≡ crc (take (length s - 24) s)) where
  pub checksum-differs : (computed ≡ stored → ⊥) → Err (refusal Checksum 0) ≡ checksum_verdict s
  unfolding checksum_verdict footer_of
  checksum-differs d = rw (← p, ← q, ne_eqb stored computed (λ e. d (sym e)))

  pub checksum-right : computed ≡ stored → accepted ≡ checksum_verdict s
  unfolding checksum_verdict footer_of
  checksum-right d = rw (← p, ← q, eq-eqb stored computed (sym d))
