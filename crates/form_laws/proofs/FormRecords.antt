-- The records of a form, one after the other: each is read back as the row it was written for, and keeps the rules of 7 to 10.
--   Bounded   the header's domain and sections are within their bounds
--   Placed    the records of some rows stand at a place of a segment, and their digests and extents at two others
-- Assumes nothing.
use Prim.Native.Nat.{ℕ, zero, suc, ◌+◌, ◌-◌, ◌*◌, ◌%◌, ◌≤◌, ◌<◌}
use mathlib.Core.Path.{◌≡◌, refl}
use mathlib.Core.List.{List, [], ◌∷◌, map}
use native.Mathlib.Nat.{not-suc-le-zero}
use native.Mathlib.Omega.{arith}
use lib.ListN.{length, length-append}
use Rattle.segment.specs.Keys.{key_from}
use Rattle.segment.specs.declared.header.Header.{Header}
use Rattle.segment.specs.declared.record.Record.{Record}
use Rattle.segment.specs.declared.shape.Shape.{Shape}
use Rattle.segment.specs.Format.{file_limit, record_of, records_offset, digests_offset, digests_size, extents_offset, extent_count, record_no}
use Rattle.segment.specs.Check.{digest_in}
use Rattle.segment.specs.Meets.{RecordMeets}
use Rattle.segment.specs.Meaning.{Row, row_extents, row_of, row_no}
use Rattle.lists.specs.Lists.{count_from, Each}
use Rattle.segment.proofs.Sources.{imported-fits, own-source, source-read}
use Rattle.segment.specs.Tidy.{packed, record_fields, record_for, records_bytes, digest_bytes, extent_list_bytes, extent_bytes, extent_total}
use Rattle.form_laws.specs.Form.{Writable}
use Rattle.form_laws.proofs.PartsAt.{HasAt, has_left, has_right, has-taken}
use Rattle.form_laws.proofs.Structures.{extents-long}
use Rattle.segment.specs.Shapes.{Shaped}
use Rattle.form_laws.proofs.Shapes.{RecordFits, record-long, record-read}
use Rattle.form_laws.proofs.States.{Says, StateFits, state-fits, extents-meet, total-meets, state-read}

pub record Bounded (h : Header) : Type 0 where
  pub domain : h.domain < 4294967296
  pub digests : digests_offset h + digests_size h ≤ file_limit
  pub extents : extents_offset h + 16 * extent_count h ≤ file_limit

pub record Placed (sh : Shape) (pairs s : List ℕ) (h : Header) (rs : List Row) (at digestAt extents_at : ℕ) : Type 0 where
  pub records : HasAt s at (records_bytes sh h.domain rs digestAt extents_at)
  pub digests : HasAt s digestAt (digest_bytes rs)
  pub extents : HasAt s extents_at (extent_bytes rs)
  pub digests_from : digests_offset h ≤ digestAt
  pub digests_to : digestAt + length (digest_bytes rs) ≤ digests_offset h + digests_size h
  pub extents_from : extents_offset h ≤ extents_at
  pub aligned : (extents_at - extents_offset h) % 16 ≡ 0
  pub extents_to : extents_at + 16 * extent_total rs ≤ extents_offset h + 16 * extent_count h
  pub rows : Each (Writable sh pairs) rs

-- a record is read as a row, and keeps its rules
pub record ReadsAs (sh : Shape) (pairs s : List ℕ) (h : Header) (r : Row) (q : Record) : Type 0 where
  pub row : row_of s q ≡ r
  pub meets : RecordMeets sh pairs s h q

-- ---- the first record

says : (domain : ℕ) (r : Row) (digestAt extents_at : ℕ) → Says (record_for domain r digestAt extents_at) r.state extents_at
unfolding record_for
says domain r digestAt extents_at = record { flags = refl; place = refl; count = refl; total = refl }

module _ (sh : Shape) (k : Shaped sh) (pairs s : List ℕ) (h : Header) (o : Bounded h) where
  module _ (r : Row) (rs : List Row) (at digestAt extents_at : ℕ) (p : Placed sh pairs s h (r ∷ rs) at digestAt extents_at) where
    abbrev first : Record
    first = record_for h.domain r digestAt extents_at

    writable : Writable sh pairs r
    unfolding Each
    writable = p.rows.0

    digest-has : HasAt s digestAt r.key.digest
    unfolding digest_bytes
    digest-has = has_left r.key.digest (digest_bytes rs) p.digests

    digest-ends : digestAt + length r.key.digest + length (digest_bytes rs) ≤ digests_offset h + digests_size h
    unfolding digest_bytes
    digest-ends = omega (arith, p.digests_to, length-append r.key.digest (digest_bytes rs))

    extents-have : HasAt s extents_at (extent_list_bytes (row_extents r))
    unfolding extent_bytes
    extents-have = has_left (extent_list_bytes (row_extents r)) (extent_bytes rs) p.extents

    extents-end : extents_at + 16 * length (row_extents r) + 16 * extent_total rs ≤ extents_offset h + 16 * extent_count h
    unfolding extent_total
    extents-end = omega (arith, p.extents_to)

    first_fits : RecordFits sh first
    unfolding record_for
    first_fits =
        let place : extents_at < 18446744073709551616 = omega (arith, extents-end, o.extents) in
        let f : StateFits sh first = state-fits sh first r.state extents_at (says h.domain r digestAt extents_at) writable.state place in
        record {
          hash = writable.hash;
          size = writable.size;
          reserved = refl;
          digest_place = omega (arith, digest-ends, o.digests);
          extents_place = f.place;
          count = f.count;
          total = f.total;
          domain = o.domain;
          visibility = writable.visibility;
          imported = imported-fits r.source;
          reserved_last = refl;
          source = writable.source;
          flags = f.flags;
        }

    first_read : record_of sh s at ≡ first
    unfolding records_bytes
    first_read = record-read sh k s at first (has_left (packed (record_fields sh first)) _ p.records) first_fits

    row_read : row_of s first ≡ r
    unfolding row_of record_for digest_in
    row_read =
        let digest = has-taken r.key.digest (length r.key.digest) digest-has refl in
        let source = source-read r.source in
        let state = state-read sh s first r.state extents_at (says h.domain r digestAt extents_at) writable.state extents-have in
        λ j. record { key = key_from r.key.hash_id (digest j); visibility = r.visibility; source = source j; state = state j }

    first-meets : RecordMeets sh pairs s h first
    unfolding record_for
    first-meets =
        let m = says h.domain r digestAt extents_at in
        let f : RecordFits sh first = first_fits in
        record {
          marks = record {
            reserved = refl;
            reserved_last = refl;
            flags = f.flags;
            visibility = f.visibility;
            imported = f.imported;
            source = own-source r.source;
            domain = refl;
          };
          digest = record { allowed = writable.allowed; starts = p.digests_from; ends = omega (arith, digest-ends) };
          extents =
              extents-meet sh h first r.state extents_at m writable.state p.extents_from p.aligned (omega (arith, extents-end));
          total = total-meets sh s first r.state extents_at m writable.state extents-have;
        }

    first_reads : ReadsAs sh pairs s h r (record_of sh s at)
    first_reads = rw first_read (record { row = row_read; meets = first-meets })

    -- and the others stand behind it
    others : Placed sh pairs s h rs (at + sh.record_size) (digestAt + length r.key.digest) (extents_at + 16 * length (row_extents r))
    unfolding records_bytes digest_bytes extent_bytes Each
    others = record {
      records = rw (record-long sh k first) at (has_right (packed (record_fields sh first)) _ p.records);
      digests = has_right r.key.digest (digest_bytes rs) p.digests;
      extents = rw (extents-long (row_extents r)) at (has_right (extent_list_bytes (row_extents r)) (extent_bytes rs) p.extents);
      digests_from = omega (arith, p.digests_from);
      digests_to = digest-ends;
      extents_from = omega (arith, p.extents_from);
      aligned = omega (arith, p.aligned, p.extents_from);
      extents_to = extents-end;
      rows = p.rows.1;
    }

  -- ---- all of them

  pub rows-read : (rs : List Row) (at digestAt extents_at j : ℕ) → Placed sh pairs s h rs at digestAt extents_at → at ≡ records_offset h + sh.record_size * j
      → map (row_no sh s h) (count_from j (length rs)) ≡ rs
  unfolding row_no record_no count_from
  rows-read [] at d e j p l = refl
  rows-read (r ∷ rs) at d e j p l =
      let here : row_of s (record_of sh s at) ≡ r = (first_reads r rs at d e p).row in
      let there = rows-read rs _ _ _ (suc j) (others r rs at d e p) (omega arith) in
      rw (← l) cc

  pub records-meet : (rs : List Row) (at digestAt extents_at : ℕ) → Placed sh pairs s h rs at digestAt extents_at
      → (j : ℕ) → j < length rs → RecordMeets sh pairs s h (record_of sh s (at + sh.record_size * j))
  records-meet [] at d e p j l = absurd (not-suc-le-zero l)
  records-meet (r ∷ rs) at d e p zero l =
      let here : at + sh.record_size * 0 ≡ at = omega arith in
      rw here (first_reads r rs at d e p).meets
  records-meet (r ∷ rs) at d e p (suc j) l =
      let there : at + sh.record_size * suc j ≡ at + sh.record_size + sh.record_size * j = omega arith in
      rw there (records-meet rs _ _ _ (others r rs at d e p) j (omega arith))
