-- The ten P cases of docs/SERVICES.md, "Cases", hold of the written meanings: what is refused by the law that each refusal is given exactly when, what is accepted by
-- the law that check accepts what meets the rules, and what is found by the law of look up.
-- Assumes nothing.
use Prim.Native.Nat.{ℕ, ◌+◌, ◌*◌, ◌%◌, ◌≤◌, ◌<◌}
use mathlib.Core.Path.{◌≡◌, refl, sym, ap, ◌∙◌}
use mathlib.Core.HLevel.{¬_prop}
use mathlib.Core.Bool.{true}
use mathlib.Core.Logic.{◌↔◌, ◌≢◌, by_cases}
use mathlib.Core.List.{List, [], ◌∷◌, ◌++◌, Pairwise-singleton, Pairwise-pair}
use native.Mathlib.Decide.{dec_lt, ℕ_discrete}
use native.Mathlib.Omega.{arith}
use lib.Dec.{lit<}
use lib.ListN.{length, get_or, take, drop, length-drop}
use lib.Seq.{length-take-le}
use Rattle.std.specs.Prelude.{None, Ok}
use Rattle.numbers.specs.Numbers.{le, num_at, bytes_of}
use Rattle.answer.specs.declared.Refusal.{Refusal}
use Rattle.answer.specs.Answers.{refused, answered, source_values, found_answer, Source}
use Rattle.segment.specs.declared.header.Heading.{Heading}
use Rattle.segment.specs.declared.record.Record.{Record}
use Rattle.segment.specs.declared.extent.Extent.{Extent}
use Rattle.segment.specs.Format.{v3, least_file, in_block, file_limit, record_limit, header_of, extents_at, record_count, records_offset, digests_offset, extents_offset}
use Rattle.table.specs.Table.{good_table, allows}
use Rattle.segment.specs.Keys.{Key, allows_key}
use Rattle.lists.specs.Lists.{lex_leq, insert, sort_by, Each}
use Rattle.segment.specs.Check.{size_verdict, head_verdict, layout_verdict, bloom_laid, records_laid, digests_laid, extents_laid, length_laid, sum_lengths, visibility_no, digest_in, record_key, key_no, check_of}
use Rattle.check_book.specs.Layout.{BloomLaid}
use Rattle.segment.specs.Meets.{LayoutMeets, SumMeets, TotalMeets, RecordMeets, VisibilityMeets, KeysDiffer, Meets}
use Rattle.segment.specs.Meaning.{Row, row_key, source_of}
use Rattle.segment.specs.Tidy.{
  row_leq,
  domain_of,
  tidy_form,
  form_of,
  form_body,
  form_header,
  packed,
  header_fields,
  record_fields,
  record_for,
  records_bytes,
  digest_bytes,
  digest_section,
  extent_list_bytes,
  extent_bytes,
  extent_fields,
  footer_fields,
  extent_total,
  largest_visibility,
}
use Rattle.segment.specs.LookUp.{record_found, look_up_of}
use Rattle.form_laws.specs.Form.{HeadingWritable, ExtentWritable, Writable, KeysApart, Contents, Tidies}
use Rattle.form_laws.proofs.Checksum.{body_bytes}
use Rattle.theorem_demands.specs.Answered.{accepted, absent, refused_by}
use Rattle.theorem_demands.specs.LookUps.{HasKey}
use Rattle.theorem_demands.specs.Refusals.{record_in, UpToRecords, Given, by_size, by-layout-records, by-extents, by_total, by-visibility}
use Rattle.theorem_demands.proofs.Rulebook.{accepts-iff}
use Rattle.theorem_demands.proofs.Refusals.{refused-numbers}
use Rattle.theorem_demands.proofs.LookUps.{look-up-finds}
use Rattle.theorem_demands.proofs.Tidying.{FormFor, form-keeps}
use Rattle.theorem_cases.specs.PCases.{
  AllBut10,
  Sections,
  Lies,
  tidy_of_rows,
  row_with,
  case_l,
  NoRecords,
  EmptyAt,
  Empty,
  Short,
  OneRow,
  CaseL,
  GreatBloom,
  BlockEnd,
  EmptyExport,
  LiveWithout,
  ShownNothing,
  GoneShown,
  p_cases,
  AllHold,
}
use Rattle.theorem_cases.proofs.AnyHeading.{cut, cut_fits, form-cut}
use Rattle.theorem_cases.proofs.Sealed.{all_bytes, all-bytes, footed, up-to-checksum}

-- ---- refused and accepted

refuses : (pairs s : List ℕ) {r : Refusal} → Given pairs s r → check_of pairs s ≡ refused r
refuses pairs s {r} g = (refused-numbers pairs s r).1 g

-- every rule up to 10 is kept, and 11 and 12
accepts : (pairs s : List ℕ) → UpToRecords pairs s → VisibilityMeets v3 s (header_of s) → KeysDiffer v3 s (header_of s) → check_of pairs s ≡ accepted
accepts pairs s u v d =
    let header = u.before.before.before in
    (accepts-iff pairs s).1 (
      header.before.table,
      record {
        size = header.before.size;
        magic = header.magic;
        version = header.version;
        header = header.header;
        layout = u.before.before.layout;
        checksum = u.before.checksum;
        each = u.each;
        visibility = v;
        distinct = d;
      },
    )

-- ---- where sections lie

module _ (s : List ℕ) (n d x : ℕ) (c : Sections s n d x) where
  laid : LayoutMeets v3 s (header_of s) → Lies s 112 (112 + 48 * n) d (112 + 48 * n + d) (112 + 48 * n + d + 16 * x + 24)
  laid y =
      let at_records : records_offset (header_of s) ≡ 112 = omega (arith, y.records, c.bloom) in
      let at-digests : digests_offset (header_of s) ≡ 112 + 48 * n = omega (arith, y.digests, at_records, c.records) in
      let at-extents : extents_offset (header_of s) ≡ 112 + 48 * n + d = omega (arith, y.extents, at-digests, c.digests) in
      record {
        bloom_at = y.no_bloom c.bloom;
        records_at = at_records;
        digests_at = at-digests;
        digests_long = c.digests;
        extents_at = at-extents;
        long = omega (arith, y.file, at-extents, c.listed);
      }

  lays : n ≤ 65536 → d % 8 ≡ 0 → Lies s 112 (112 + 48 * n) d (112 + 48 * n + d) (112 + 48 * n + d + 16 * x + 24) → LayoutMeets v3 s (header_of s)
  lays few whole l = record {
    no_bloom = λ z. l.bloom_at;
    bloom = λ some. absurd (some c.bloom);
    few = omega (arith, c.records);
    records = omega (arith, l.records_at, c.bloom);
    digests = omega (arith, l.records_at, l.digests_at, c.records);
    extents = omega (arith, l.digests_at, l.extents_at, c.digests);
    file = omega (arith, l.extents_at, l.long, c.listed);
    bloom_divides = omega (arith, l.bloom_at);
    records_divide = omega (arith, l.records_at);
    digests_divide = omega (arith, l.digests_at);
    extents_divide = omega (arith, l.extents_at);
  }

  lies-iff : n ≤ 65536 → d % 8 ≡ 0 → LayoutMeets v3 s (header_of s) ↔ Lies s 112 (112 + 48 * n) d (112 + 48 * n + d) (112 + 48 * n + d + 16 * x + 24)
  lies-iff few whole = (laid, lays few whole)

-- ---- no records

none-records : (pairs s : List ℕ) {v : ℕ} → NoRecords pairs s v → UpToRecords pairs s
none-records pairs s f = record { before = f.before; each = λ j l. absurd (omega (arith, f.none)) }

module _ (pairs s : List ℕ) (f : NoRecords pairs s 0) where
  none-accepted : check_of pairs s ≡ accepted
  none-accepted =
      accepts pairs s (none-records pairs s f) (
      record {
        largest = λ k l. absurd (omega (arith, f.none));
        none = λ z. f.shown;
        shown = λ l. absurd (omega (arith, f.none));
      }
      )
      (λ i j l m e. absurd (omega (arith, f.none)))

  none_found : (key : Key) → allows_key pairs key ≡ true → look_up_of pairs s key ≡ absent
  none_found key a = (look-up-finds pairs s key none-accepted a).absent-iff.1 (λ k h. omega (arith, f.none, h.within))

-- the tidy form of no records
empty-lies : (t : Heading) → Lies (tidy_of_rows t []) 112 112 0 112 136
unfolding tidy_form form_of form_body form_header sort_by packed header_fields records_bytes digest_bytes digest_section extent_bytes footer_fields bytes_of header_of num_at le
empty-lies t = record { bloom_at = refl; records_at = refl; digests_at = refl; digests_long = refl; extents_at = refl; long = refl }

empty-form : (pairs : List ℕ) (t : Heading) → good_table pairs ≡ true → NoRecords pairs (tidy_of_rows t []) 0
unfolding tidy_form form_of form_body form_header sort_by packed header_fields records_bytes digest_bytes digest_section extent_bytes footer_fields bytes_of header_of num_at le extent_total largest_visibility size_verdict head_verdict layout_verdict bloom_laid records_laid digests_laid extents_laid length_laid Each
empty-form pairs t g = record {
  before =
      up-to-checksum pairs (tidy_of_rows t []) g refl refl refl
      (footed (form_body v3 t [] []) t.seal_snapshot t.seal_time (body_bytes v3 [] t [] [] (λ i. lit< tt) tt));
  none = refl;
  shown = refl;
}

pub empty : Empty
empty = record {
  lies-iff = λ s c. lies-iff s 0 0 0 c (omega arith) refl;
  accepts = none-accepted;
  finds-none = λ pairs s key f. none_found pairs s f key;
  form-lies = empty-lies;
  form-empty = empty-form;
}

pub shown-nothing : ShownNothing
shown-nothing = λ pairs s f. refuses pairs s (by-visibility (none-records pairs s f) (λ m. omega (arith, m.none f.none, f.shown)))

-- ---- too short, and a bloom size that would wrap

too_short : (pairs s : List ℕ) → good_table pairs ≡ true → length s < least_file → check_of pairs s ≡ refused_by 1 0
too_short pairs s g l = refuses pairs s (by_size g (λ m. omega (arith, m.least)))

pub short : Short
short = record { none = λ pairs s g e. too_short pairs s g (omega arith); one_less = λ pairs s g e. too_short pairs s g (omega arith) }

pub great-bloom : GreatBloom
great-bloom = λ pairs s u at size records.
    let bloom : BloomLaid (header_of s) = record { none = λ z. absurd (omega arith); some = λ z. at; divides = omega arith } in
    refuses pairs s (by-layout-records u bloom (λ m. omega (arith, m.starts)))

-- ---- one record of any file

pub live-without : LiveWithout
live-without = λ pairs s k u live none.
    refuses pairs s (by-extents k u.before u.marks u.digest (λ m. omega (arith, (m.live (λ g. omega arith)).some)))

module _ (pairs s : List ℕ) (k : ℕ) (u : AllBut10 pairs s k) where
  all-records : TotalMeets v3 s (record_in s k) → UpToRecords pairs s
  all-records t = record { before = u.before.before.before.before; each = each }
    where
      here : RecordMeets v3 pairs s (header_of s) (record_in s k)
      here = record { marks = u.before.before.marks; digest = u.before.before.digest; extents = u.before.extents; total = t }

      each : (j : ℕ) → j < record_count (header_of s) → RecordMeets v3 pairs s (header_of s) (record_in s j)
      each j l =
          by_cases (ℕ_discrete j k)
          (λ (e : j ≡ k). rw e here)
          (λ (n : ¬ (j ≡ k)).
          by_cases (dec_lt k j) (λ (a : k < j). u.later j a l) (λ (a : ¬ (k < j)). u.before.before.before.earlier j (omega arith)))

  -- with its 10, the whole is accepted
  with-total : (record_in s k).flags ≡ 0 → SumMeets v3 s (record_in s k) → check_of pairs s ≡ accepted
  with-total live m =
      accepts pairs s (all-records (record { gone = λ g. absurd (omega arith); live = λ n. m })) u.visibility u.distinct

pub block-end : BlockEnd
block-end = record {
  good = λ pairs s k j u e f.
      with-total pairs s k u e.live (
      record {
        fits = λ i l.
            by_cases (ℕ_discrete i j)
            (λ (same : i ≡ j). rw same (omega (arith, e.offset, e.size)))
            (λ (other : ¬ (i ≡ j)). f.fits i l other);
        sum = f.sum;
        total = f.total;
      }
      );
  past = λ pairs s k j u e.
      refuses pairs s (by_total k u.before.before u.before.marks u.before.digest u.extents
      (λ m. omega (arith, (m.live (λ g. omega (arith, e.live))).fits j e.within, e.offset, e.size)));
}

-- ---- an empty export

-- whether a record was imported, and from where, as its marks have it
source_told : (i d : ℕ) → i ≤ 1 → (i ≡ 0 → d ≡ 0) → source_values (source_of i d) ≡ i ∷ d ∷ []
source_told i d l z =
    by_cases (ℕ_discrete i 0)
    (λ (e : i ≡ 0). rw (e, z e))
    (λ (n : ¬ (i ≡ 0)). let one : i ≡ 1 = omega arith in rw one)

live-told : (r : Record) → r.flags ≡ 0 → r.imported ≤ 1 → (r.imported ≡ 0 → r.source ≡ 0) → found_answer (Ok (record_found r))
    ≡ answered (r.visibility ∷ r.domain ∷ r.imported ∷ r.source ∷ r.total_length ∷ r.extents_offset.0 ∷ r.extent_count ∷ [])
unfolding record_found
live-told r live l z =
    rw live
    (ap (λ (v : List ℕ). answered (r.visibility ∷ r.domain ∷ v ++ (r.total_length ∷ r.extents_offset.0 ∷ r.extent_count ∷ [])))
    (source_told r.imported r.source l z))

module _ (pairs s : List ℕ) (k : ℕ) (u : AllBut10 pairs s k) (f : EmptyAt s k) where
  export-sum : SumMeets v3 s (record_in s k)
  unfolding extents_at sum_lengths
  export-sum = record {
    fits = λ i l.
        let first : i ≡ 0 = omega (arith, f.one) in
        rw first (omega (arith, f.offset, f.size));
    sum =
        let here : (record_in s k).extents_offset.0 + 16 * 0 ≡ (record_in s k).extents_offset.0 = omega arith in
        let nothing = rw here at f.size in
        rw (f.one, f.total) (omega arith);
    total = omega (arith, f.total);
  }

  -- its key is one that the table allows
  export-allowed : allows_key pairs (record_key s (record_in s k)) ≡ true
  unfolding digest_in
  export-allowed =
      let r : Record = record_in s k in
      let y : LayoutMeets v3 s (header_of s) = u.before.before.before.before.before.layout in
      let long : length (take r.digest_length (drop r.digest_offset.0 s)) ≡ r.digest_length =
      length-take-le r.digest_length (drop r.digest_offset.0 s) (simp length-drop (omega (arith, u.before.before.digest, y))) in
      rw long u.before.before.digest.allowed

  export-has : HasKey s (record_key s (record_in s k)) k
  unfolding key_no
  export-has = record { within = u.before.before.before.within; same = refl }

  export-found : look_up_of pairs s (record_key s (record_in s k)) ≡ found_answer (Ok (record_found (record_in s k)))
  export-found =
      (look-up-finds pairs s (record_key s (record_in s k)) (with-total pairs s k u f.live export-sum) export-allowed).that-record k export-has

pub empty-export : EmptyExport
empty-export = λ pairs s k u f.
    let m = u.before.before.marks in
    export-found pairs s k u f ∙ live-told (record_in s k) f.live m.imported m.source ∙ rw (f.total, f.one)

-- ---- a gone record that is published

pub gone-shown : GoneShown
unfolding visibility_no
gone-shown = record {
  must-show = λ pairs s k e l g v.
      let m : Meets v3 pairs s = ((accepts-iff pairs s).0 e).1 in
      let shown = m.visibility.largest k l in
      let most = m.header.visibility in
      omega arith;
  accepts = λ pairs s k f d.
      accepts pairs s f.before (
      record {
        largest = λ j l. omega (arith, (f.before.each j l).marks.visibility, f.shown);
        none = λ z. absurd (omega (arith, f.within));
        shown = λ l. record { at = k; within = f.within; here = f.published ∙ sym f.shown };
      }
      )
      d;
  refuses = λ pairs s k f. refuses pairs s (by-visibility f.before (λ m. omega (arith, m.largest k f.within, f.published, f.shown)));
}

-- ---- tidy forms

-- of records that may be written, under any heading
form-accepted : (pairs : List ℕ) (t : Heading) (rows : List Row) → good_table pairs ≡ true → length rows ≤ record_limit → Each (Writable v3 pairs) rows
    → KeysApart rows → length (tidy_of_rows t rows) ≤ file_limit → check_of pairs (tidy_of_rows t rows) ≡ accepted
unfolding tidy_form
form-accepted pairs t rows g few each apart small =
    let same : tidy_of_rows (cut t) rows ≡ tidy_of_rows t rows = form-cut t [] (sort_by row_leq rows) in
    let contents : Contents v3 pairs (cut t) [] rows =
    record { heading = cut_fits t; bloom_bytes = λ i. lit< tt; bloom_divides = refl; few = few; each = each; apart = apart } in
    let form : FormFor pairs (record { heading = cut t; bloom = []; records = rows }) (tidy_of_rows t rows) =
    record { tidies = record { contents = contents; fits = rw same small }; is = sym same } in
    (form-keeps pairs (record { heading = cut t; bloom = []; records = rows }) (tidy_of_rows t rows) g form).accepts

one-row-lies : (t : Heading) (hash a b c d visibility : ℕ) (source : Source) (e : Extent)
    → Lies (tidy_of_rows t (row_with hash a b c d visibility source e ∷ [])) 112 160 8 168 208
unfolding tidy_form form_of form_body form_header sort_by insert packed header_fields record_fields record_for records_bytes digest_bytes digest_section extent_list_bytes extent_bytes extent_fields footer_fields bytes_of header_of num_at le
one-row-lies t hash a b c d v source e = record { bloom_at = refl; records_at = refl; digests_at = refl; digests_long = refl; extents_at = refl; long = refl }

one-row-padded : (t : Heading) (hash a b c d visibility : ℕ) (source : Source) (e : Extent)
    → take 8 (drop 160 (tidy_of_rows t (row_with hash a b c d visibility source e ∷ []))) ≡ a ∷ b ∷ c ∷ d ∷ 0 ∷ 0 ∷ 0 ∷ 0 ∷ []
unfolding tidy_form form_of form_body form_header sort_by insert packed header_fields record_fields record_for records_bytes digest_bytes digest_section extent_list_bytes extent_bytes extent_fields footer_fields bytes_of
one-row-padded t hash a b c d v source e = refl

case-l-lies : (t : Heading) → Lies (tidy_of_rows t case_l) 112 208 8 216 256
unfolding tidy_form form_of form_body form_header sort_by insert lex_leq packed header_fields record_fields record_for records_bytes digest_bytes digest_section extent_list_bytes extent_bytes extent_fields footer_fields bytes_of header_of num_at le
case-l-lies t = record { bloom_at = refl; records_at = refl; digests_at = refl; digests_long = refl; extents_at = refl; long = refl }

pub one-row : OneRow
unfolding Each
one-row = record {
  lies-iff = λ s c. lies-iff s 1 8 1 c (omega arith) refl;
  form-lies = one-row-lies;
  padded = one-row-padded;
  accepts = λ pairs t hash a b c d v source e g w.
      let r : Row = row_with hash a b c d v source e in
      form-accepted pairs t (r ∷ []) g (omega arith) (w, tt) (Pairwise-singleton (λ (p q : Row). row_key p ≢ row_key q) r)
      (rw (one-row-lies t hash a b c d v source e).long (omega arith));
}

-- a record of case L's first key with one extent
pub row-writable : (pairs : List ℕ) (source : Source) (e : Extent) → allows pairs 7 4 ≡ true → domain_of source < 4294967296 → ExtentWritable e
    → Writable v3 pairs (row_with 7 0x0a 0x0b 0x0c 0x0d 1 source e)
unfolding Each all_bytes sum_lengths
row-writable pairs source e allowed small w = record {
  hash = omega arith;
  digest = all-bytes (0x0a ∷ 0x0b ∷ 0x0c ∷ 0x0d ∷ []) refl;
  size = omega arith;
  allowed = allowed;
  visibility = omega arith;
  source = small;
  state = record { some = omega arith; count = omega arith; each = (w, tt); total = omega (arith, w.size) };
}

-- the digests of its two records differ in the last byte
keys-apart : ¬ Path (List ℕ) (7 ∷ 0x0a ∷ 0x0b ∷ 0x0c ∷ 0x0d ∷ []) (7 ∷ 0x0a ∷ 0x0b ∷ 0x0c ∷ 0x0e ∷ [])
keys-apart e = let last : Path ℕ 0x0d 0x0e = ap (λ (l : List ℕ). get_or l 4 0) e in omega arith

-- case L may be written under any table that allows its keys
case-l-each : (pairs : List ℕ) → allows pairs 7 4 ≡ true → Each (Writable v3 pairs) case_l
unfolding Each all_bytes
case-l-each pairs allowed = (
  row-writable pairs None (record { block = 9; offset = in_block 64; length = 3 }) allowed (omega arith)
      (record { block = omega arith; offset = omega arith; size = omega arith; inside = omega arith }),
  (
    record {
      hash = omega arith;
      digest = all-bytes (0x0a ∷ 0x0b ∷ 0x0c ∷ 0x0e ∷ []) refl;
      size = omega arith;
      allowed = allowed;
      visibility = omega arith;
      source = omega arith;
      state = tt;
    },
    tt,
  ),
)

case-l-apart : KeysApart case_l
case-l-apart = (Pairwise-pair {R = λ (p q : Row). row_key p ≢ row_key q} (λ p q. ¬_prop)).1 keys-apart

pub case-l-tidies : (pairs : List ℕ) (t : Heading) → allows pairs 7 4 ≡ true → HeadingWritable t → Tidies v3 pairs (record { heading = t; bloom = []; records = case_l })
case-l-tidies pairs t allowed w = record {
  contents = record { heading = w; bloom_bytes = λ i. lit< tt; bloom_divides = refl; few = omega arith; each = case-l-each pairs allowed; apart = case-l-apart };
  fits = rw (case-l-lies t).long (omega arith);
}

pub case-l : CaseL
case-l = record {
  lies-iff = λ s c. lies-iff s 2 8 1 c (omega arith) refl;
  form-lies = case-l-lies;
  accepts = λ pairs t g allowed. form-accepted pairs t case_l g (omega arith) (case-l-each pairs allowed) case-l-apart (rw (case-l-lies t).long (omega arith));
}

-- ---- all of them

pub p-cases : AllHold p_cases
p-cases =
    (empty, (short, (one-row, (case-l, (great-bloom, (block-end, (empty-export, (live-without, (shown-nothing, (gone-shown, tt))))))))))
