-- A record that is gone, and one with its extents: what such a record says in its fields keeps the rules of 9 and 10, fits those fields, and is read back.
--   Says     a record's fields are those of a state, whose extents stand at a place
-- Assumes nothing.
use Prim.Native.Nat.{ℕ, ◌+◌, ◌-◌, ◌*◌, ◌%◌, ◌≤◌, ◌<◌}
use mathlib.Core.Path.{◌≡◌, sym, ap, ◌∙◌}
use mathlib.Core.Bool.{cond}
use mathlib.Core.List.{List}
use native.Mathlib.Omega.{arith}
use lib.ListN.{length}
use Rattle.segment.specs.declared.header.Header.{Header}
use Rattle.segment.specs.declared.record.Record.{Record}
use Rattle.segment.specs.declared.extent.Extent.{Extent}
use Rattle.segment.specs.declared.shape.Shape.{Shape}
use Rattle.segment.specs.Format.{extents_offset, extent_count, extents_in}
use Rattle.segment.specs.Check.{is_gone, sum_lengths}
use Rattle.segment.specs.Meets.{ExtentsMeet, TotalMeets}
use Rattle.segment.specs.Meaning.{State, gone, live, extents_of_state}
use Rattle.segment.specs.Tidy.{flags_of, extents_place, extent_list_bytes}
use Rattle.form_laws.specs.Form.{StateWritable}
use Rattle.form_laws.proofs.PartsAt.{HasAt}
use Rattle.form_laws.proofs.Structures.{extents-read, extents-inside}

pub record Says (q : Record) (st : State) (at : ℕ) : Type 0 where
  pub flags : q.flags ≡ flags_of st
  pub place : q.extents_offset.0 ≡ extents_place st at
  pub count : q.extent_count ≡ length (extents_of_state st)
  pub total : q.total_length ≡ sum_lengths (extents_of_state st)

-- the numbers that a state gives fit their fields
pub record StateFits (sh : Shape) (q : Record) : Type 0 where
  pub place : q.extents_offset.0 < 18446744073709551616
  pub count : q.extent_count < 4294967296
  pub total : q.total_length ≤ sh.total_limit
  pub flags : q.flags ≤ 1

pub state-fits : (sh : Shape) (q : Record) (st : State) (at : ℕ) → Says q st at → StateWritable sh st → at < 18446744073709551616 → StateFits sh q
unfolding sum_lengths
state-fits sh q gone at m w l = omega arith
state-fits sh q (live es) at m w l = omega arith

pub extents-meet : (sh : Shape) (h : Header) (q : Record) (st : State) (at : ℕ) → Says q st at → StateWritable sh st
    → extents_offset h ≤ at → (at - extents_offset h) % 16 ≡ 0 → at + 16 * length (extents_of_state st) ≤ extents_offset h + 16 * extent_count h
    → ExtentsMeet h q
extents-meet sh h q gone at m w from aligned to = record { gone = λ g. omega arith; live = λ n. absurd (n m.flags) }
extents-meet sh h q (live es) at m w from aligned to = record {
  gone = λ g. absurd (omega arith);
  live = λ n. record { some = omega arith; starts = omega arith; aligned = rw m.place aligned; ends = omega arith };
}

module _ (sh : Shape) (s : List ℕ) (q : Record) where
  extents-same : (es : List Extent) (at : ℕ) → Says q (live es) at → StateWritable sh (live es) → HasAt s at (extent_list_bytes es) → extents_in s q ≡ es
  extents-same es at m w p = rw (m.place, m.count) (extents-read s at es p w.each)

  pub total-meets : (st : State) (at : ℕ) → Says q st at → StateWritable sh st → HasAt s at (extent_list_bytes (extents_of_state st)) → TotalMeets sh s q
  unfolding sum_lengths
  total-meets gone at m w p = record { gone = λ g. m.total; live = λ n. absurd (n m.flags) }
  total-meets (live es) at m w p = record {
    gone = λ g. absurd (omega arith);
    live = λ n. record {
      fits = rw (m.place, m.count) (extents-inside s at es p w.each);
      sum = ap sum_lengths (extents-same es at m w p) ∙ sym m.total;
      total = omega arith;
    };
  }

  pub state-read : (st : State) (at : ℕ) → Says q st at → StateWritable sh st → HasAt s at (extent_list_bytes (extents_of_state st))
      → cond (is_gone q) gone (live (extents_in s q)) ≡ st
  state-read gone at m w p = rw m.flags
  state-read (live es) at m w p = rw m.flags (ap live (extents-same es at m w p))
