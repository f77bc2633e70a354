-- The meaning of a segment that meets the rules can be written: the numbers that were read fit their fields, and what the rules say of the records holds
-- of their meanings.
-- Assumes nothing.
use Prim.Native.Nat.{ℕ, zero, suc, ◌+◌, ◌-◌, ◌*◌, ◌≤◌, ◌<◌}
use mathlib.Core.Path.{◌≡◌}
use mathlib.Core.HLevel.{¬_prop}
use mathlib.Core.Logic.{◌≢◌}
use mathlib.Core.List.{List}
use native.Mathlib.Omega.{arith}
use borrow.Author.Tests.{eqb-false}
use lib.ListN.{length, take, drop, length-drop}
use lib.Seq.{length-take-le}
use Rattle.numbers.specs.Numbers.{Bytes}
use Rattle.numbers.proofs.NumberLaws.{bytes_take, bytes_drop, num-fits}
use Rattle.lists.proofs.Tests.{by-test}
use Rattle.segment.specs.declared.header.Header.{Header}
use Rattle.segment.specs.declared.record.Record.{Record}
use Rattle.segment.specs.declared.shape.Shape.{Shape}
use Rattle.segment.specs.Format.{block_end, header_of, record_of, extent_of, footer_of, record_count, bloom_size, record_no, extents_at, extents_in}
use Rattle.segment.specs.Check.{is_gone, digest_in, key_no}
use Rattle.segment.specs.Meets.{LayoutMeets, RecordMeets, LiveMeets, SumMeets, Meets}
use Rattle.segment.specs.Meaning.{Row, row_key, row_of, row_no, rows_of, heading_of, meaning_of}
use Rattle.segment.proofs.Extents.{extents-counted}
use Rattle.segment.proofs.Sources.{source_fits}
use Rattle.lists.specs.Lists.{Each}
use Rattle.form_laws.specs.Form.{ExtentWritable, LiveWritable, Writable, Contents}
use Rattle.lists.proofs.Counted.{counted-long, each-iff, pairwise_iff}

-- ---- extents

module _ (s : List ℕ) (b : Bytes s) where
  extents-writable : (at n : ℕ)
      → ((j : ℕ) → j < n → (extent_of s (at + 16 * j)).offset.0 + (extent_of s (at + 16 * j)).length ≤ block_end)
      → Each ExtentWritable (extents_at s at n)
  unfolding extents_at Each extent_of
  extents-writable at zero h = tt
  extents-writable at (suc n) h =
      let here : at + 16 * 0 ≡ at = omega arith in
      let there : (j : ℕ) → at + 16 * suc j ≡ at + 16 + 16 * j = λ j. omega arith in (
        record { block = num-fits 8 s at b; offset = num-fits 4 s (at + 8) b; size = num-fits 4 s (at + 12) b; inside = rw here at (h 0 (omega arith)) },
        extents-writable (at + 16) n (λ j l. rw (there j) at (h (suc j) (omega arith))),
      )

  live-writable : (sh : Shape) (h : Header) (q : Record) → q.extent_count < 4294967296 → LiveMeets h q → SumMeets sh s q
      → LiveWritable sh (extents_in s q)
  live-writable sh h q c l m =
      let long = extents-counted s q.extents_offset.0 q.extent_count in
      record {
        some = omega (arith, l.some);
        count = omega arith;
        each = extents-writable q.extents_offset.0 q.extent_count m.fits;
        total = omega (arith, m.sum, m.total);
      }

  -- ---- one record

  row-writable : (sh : Shape) (pairs : List ℕ) (h : Header) → LayoutMeets sh s h → (at : ℕ) → RecordMeets sh pairs s h (record_of sh s at)
      → Writable sh pairs (row_of s (record_of sh s at))
  unfolding row_of digest_in record_of
  row-writable sh pairs h y at m =
      let q : Record = record_of sh s at in
      let long : length (take q.digest_length (drop q.digest_offset.0 s)) ≡ q.digest_length =
      length-take-le q.digest_length (drop q.digest_offset.0 s) (simp length-drop (omega (arith, m.digest, y))) in
      record {
        hash = num-fits 4 s at b;
        digest = bytes_take q.digest_length (drop q.digest_offset.0 s) (bytes_drop q.digest_offset.0 s b);
        size = rw long (num-fits 2 s (at + 4) b);
        allowed = rw long m.digest.allowed;
        visibility = m.marks.visibility;
        source = source_fits q.imported q.source (num-fits 4 s (at + 40) b);
        state =
            by-test (is_gone q) (λ g. rw g tt)
            (λ g. let n = eqb-false q.flags 1 g in
            rw g (live-writable sh h q (num-fits 4 s (at + 24) b) (m.extents.live n) (m.total.live n)));
      }

  -- ---- all of them

  module _ (sh : Shape) (pairs : List ℕ) (m : Meets sh pairs s) where
    bloom-long : length (take (bloom_size (header_of s)) (drop 112 s)) ≡ bloom_size (header_of s)
    bloom-long = length-take-le (bloom_size (header_of s)) (drop 112 s) (simp length-drop (omega (arith, m.layout)))

    pub meaning-writable : Contents sh pairs (meaning_of sh s).heading (meaning_of sh s).bloom (meaning_of sh s).records
    unfolding meaning_of heading_of rows_of row_no row_of record_no key_no header_of footer_of
    meaning-writable = record {
      heading = record {
        shard = num-fits 2 s 10 b;
        snapshot_min = num-fits 8 s 16 b;
        snapshot_max = num-fits 8 s 24 b;
        domain = num-fits 4 s 96 b;
        seal_snapshot = num-fits 8 s (length s - 24 + 8) b;
        seal_time = num-fits 8 s (length s - 24 + 16) b;
      };
      bloom_bytes = bytes_take (bloom_size (header_of s)) (drop 112 s) (bytes_drop 112 s b);
      bloom_divides = rw bloom-long (omega (arith, m.layout.records, m.layout.records_divide));
      few = rw (counted-long (row_no sh s (header_of s)) 0 (record_count (header_of s))) m.layout.few;
      each =
          (each-iff (row_no sh s (header_of s)) (Writable sh pairs) (record_count (header_of s))).1
          (λ k l. row-writable sh pairs (header_of s) m.layout _ (m.each k l));
      apart =
          (pairwise_iff (row_no sh s (header_of s)) (λ (p q : Row). row_key p ≢ row_key q) (λ p q. ¬_prop) (record_count (header_of s))).1
          (λ i j l u e. let same : i ≡ j = m.distinct i j (omega arith) u e in omega arith);
    }
