-- Each description of the P cases has a member: the tables of rules, computed on its bytes, accept, and by the books its rules are kept. The checksum is
-- not computed; a body of bytes with its footer meets it.
-- Assumes nothing.
use Prim.Native.Nat.{ℕ, zero, suc, ◌<◌}
use mathlib.Core.Path.{◌≡◌, refl}
use mathlib.Core.Bool.{true}
use mathlib.Core.List.{List}
use native.Mathlib.Omega.{arith}
use lib.Dec.{lit<}
use lib.ListN.{length}
use Rattle.std.specs.Prelude.{Some}
use Rattle.numbers.specs.Numbers.{le, num_at, bytes_of}
use Rattle.answer.specs.Rules.{first_over, some_below, accepted}
use Rattle.segment.specs.Format.{v3, header_of, record_of, extent_of, record_at, record_no, extents_at, record_count}
use Rattle.table.specs.Table.{stands, good_pairs, good_table, allows}
use Rattle.segment.specs.Keys.{fresh_key}
use Rattle.lists.specs.Lists.{lex_leq, insert, sort_by, eq_list, Each}
use Rattle.segment.specs.Check.{
  size_verdict,
  head_verdict,
  layout_verdict,
  bloom_laid,
  records_laid,
  digests_laid,
  extents_laid,
  length_laid,
  marks_verdict,
  digest_verdict,
  gone_extents,
  live_extents,
  extents_verdict,
  all_fit,
  sum_lengths,
  live_total,
  total_verdict,
  record_rules,
  record_verdict,
  visibility_no,
  largest_below,
  visibility_verdict,
  digest_in,
  key_no,
}
use Rattle.segment.specs.Meets.{KeysDiffer}
use Rattle.segment.specs.Tidy.{
  packed,
  header_fields,
  record_fields,
  extent_fields,
  footer_fields,
  record_for,
  records_bytes,
  digest_bytes,
  digest_section,
  extent_list_bytes,
  extent_bytes,
  extent_total,
  form_header,
  form_body,
  form_of,
  tidy_form,
}
use Rattle.key.proofs.Duplicates.{keys-book}
use Rattle.check_book.proofs.TablesRecord.{marks-book, digest-book, extents-book}
use Rattle.check_book.proofs.TablesVisibility.{visibility-book}
use Rattle.check_book.proofs.Book.{records-book}
use Rattle.theorem_demands.specs.Refusals.{record_in, UpToChecksum, UpToRecords}
use Rattle.theorem_cases.specs.PCases.{UpToDigest, UpToExtents, AllBut10, OthersFit}
use Rattle.theorem_cases.specs.Members.{
  table,
  heading,
  sealed,
  record_list_bytes,
  body_of,
  extent_with,
  unused,
  among,
  at_end,
  exported,
  without,
  gone_among,
  wrapped,
  Members,
}
use Rattle.theorem_cases.proofs.PCases.{row-writable}
use Rattle.theorem_cases.proofs.Sealed.{all_bytes, all-bytes, footed, up-to-header, up-to-checksum}

-- ---- rules that are kept, as the tables have them

-- every rule up to 6, of a body with its footer
sealed-kept : (pairs body : List ℕ) → good_table pairs ≡ true → size_verdict (length (sealed body)) ≡ accepted
    → head_verdict v3 (header_of (sealed body)) ≡ accepted → layout_verdict v3 (header_of (sealed body)) (length (sealed body)) ≡ accepted
    → all_bytes body ≡ true → UpToChecksum pairs (sealed body)
unfolding sealed
sealed-kept pairs body g size head layout b =
    up-to-checksum pairs (sealed body) g size head layout (footed body heading.seal_snapshot heading.seal_time (all-bytes body b))

module _ (pairs s : List ℕ) (u : UpToChecksum pairs s) where
  -- 7 to 10 of every record
  records-kept : first_over (record_count (header_of s)) (record_verdict v3 pairs s (header_of s)) ≡ accepted → UpToRecords pairs s
  records-kept e = record { before = u; each = (records-book v3 pairs s (header_of s) (record_count (header_of s))).0 e }

  -- those of the records before k, and 7 and 8 of k
  digest-kept : (k : ℕ) → k < record_count (header_of s) → first_over k (record_verdict v3 pairs s (header_of s)) ≡ accepted
      → marks_verdict (header_of s) (record_in s k) 0 ≡ accepted → digest_verdict pairs (header_of s) (record_in s k) 0 ≡ accepted → UpToDigest pairs s k
  digest-kept k w e m d = record {
    before = record { before = u; within = w; earlier = (records-book v3 pairs s (header_of s) k).0 e };
    marks = (marks-book (header_of s) (record_in s k) 0).0 m;
    digest = (digest-book pairs (header_of s) (record_in s k) 0).0 d;
  }

-- and 9
extents-kept : (pairs s : List ℕ) (k : ℕ) → UpToDigest pairs s k → extents_verdict (header_of s) (record_in s k) 0 ≡ accepted → UpToExtents pairs s k
extents-kept pairs s k d e = record { before = d; extents = (extents-book (header_of s) (record_in s k) 0).0 e }

-- 12
keys_kept : (s : List ℕ) → first_over (record_count (header_of s)) (fresh_key (key_no v3 s (header_of s)) (record_at v3 (header_of s))) ≡ accepted
    → KeysDiffer v3 s (header_of s)
keys_kept s = (keys-book (key_no v3 s (header_of s)) (record_at v3 (header_of s)) (record_count (header_of s))).0

-- where all are kept, all but one are
module _ (pairs s : List ℕ) (u : UpToRecords pairs s) (k : ℕ) (w : k < record_count (header_of s)) where
  all-kept : visibility_verdict v3 s (header_of s) ≡ accepted
      → first_over (record_count (header_of s)) (fresh_key (key_no v3 s (header_of s)) (record_at v3 (header_of s))) ≡ accepted → AllBut10 pairs s k
  all-kept v d =
      let here = u.each k w in
      record {
        before = record {
          before = record {
            before = record { before = u.before; within = w; earlier = λ j l. u.each j (omega arith) };
            marks = here.marks;
            digest = here.digest;
          };
          extents = here.extents;
        };
        later = λ j l i. u.each j i;
        visibility = (visibility-book v3 s (header_of s)).0 v;
        distinct = keys_kept s d;
      }

  others-fit : (j : ℕ) → (record_in s k).flags ≡ 0 → OthersFit s k j
  others-fit j live =
      let m = (u.each k w).total.live (λ g. omega arith) in
      record { fits = λ i l n. m.fits i l; sum = m.sum; total = m.total }

-- ---- the members

only_gone : (v j : ℕ) → j < 3 → (j ≡ 1 → ⊥) → (record_in (sealed (gone_among v)) j).visibility ≡ 0
unfolding sealed among body_of record_list_bytes packed header_fields record_fields record_for extent_list_bytes extent_fields footer_fields bytes_of num_at le header_of record_of record_no
only_gone v zero l n = refl
only_gone v (suc zero) l n = absurd (n refl)
only_gone v (suc (suc zero)) l n = refl
only_gone v (suc (suc (suc j))) l n = absurd (omega arith)

pub members : Members
unfolding sealed among wrapped body_of record_list_bytes packed header_fields record_fields record_for extent_list_bytes extent_fields footer_fields bytes_of num_at le tidy_form form_of form_body form_header sort_by insert lex_leq records_bytes digest_bytes digest_section extent_bytes extent_total Each good_table good_pairs stands allows size_verdict head_verdict layout_verdict bloom_laid records_laid digests_laid extents_laid length_laid all_bytes header_of record_of extent_of record_no extents_at first_over some_below marks_verdict digest_verdict gone_extents live_extents extents_verdict all_fit sum_lengths live_total total_verdict record_rules record_verdict visibility_no largest_below visibility_verdict eq_list fresh_key digest_in key_no
members =
    let good = records-kept table (sealed (at_end 1)) (sealed-kept table (at_end 1) refl refl refl refl refl) refl in
    let past = sealed-kept table (at_end 2) refl refl refl refl refl in
    let export = records-kept table (sealed exported) (sealed-kept table exported refl refl refl refl refl) refl in
    let bare = sealed-kept table without refl refl refl refl refl in
    let shown = records-kept table (sealed (gone_among 1)) (sealed-kept table (gone_among 1) refl refl refl refl refl) refl in
    let hidden = records-kept table (sealed (gone_among 0)) (sealed-kept table (gone_among 0) refl refl refl refl refl) refl in
    record {
      good-table = refl;
      good-key = refl;
      no-records = record { before = sealed-kept table (unused 0) refl refl refl refl refl; none = refl; shown = refl };
      sections-none = record { bloom = refl; records = refl; digests = refl; listed = refl };
      nothing = refl;
      one_less = refl;
      sections-one = record { bloom = refl; records = refl; digests = refl; listed = refl };
      one-row =
          row-writable table (Some 6) (extent_with 4294967295 1) refl (omega arith)
          (record { block = omega arith; offset = omega arith; size = omega arith; inside = omega arith });
      sections-l = record { bloom = refl; records = refl; digests = refl; listed = refl };
      seven = refl;
      great-bloom = (up-to-header table (sealed wrapped) refl refl refl, refl, refl, refl);
      block-good = (
        all-kept table (sealed (at_end 1)) good 1 (lit< tt) refl refl,
        record { live = refl; within = lit< tt; offset = refl; size = refl },
        others-fit table (sealed (at_end 1)) good 1 (lit< tt) 1 refl,
      );
      block-past = (
        extents-kept table (sealed (at_end 2)) 1 (digest-kept table (sealed (at_end 2)) past 1 (lit< tt) refl refl refl) refl,
        record { live = refl; within = lit< tt; offset = refl; size = refl },
      );
      empty-export = (
        all-kept table (sealed exported) export 1 (lit< tt) refl refl,
        record { live = refl; one = refl; offset = omega arith; size = refl; total = refl },
      );
      live-without = (digest-kept table (sealed without) bare 1 (lit< tt) refl refl refl, refl, refl);
      shown-nothing = record { before = sealed-kept table (unused 1) refl refl refl refl refl; none = refl; shown = refl };
      gone-shown = (
        record { before = shown; within = lit< tt; flags = refl; published = refl; shown = refl },
        keys_kept (sealed (gone_among 1)) refl,
      );
      gone-hidden = record { before = hidden; within = lit< tt; flags = refl; published = refl; shown = refl };
      only_gone = only_gone;
    }
