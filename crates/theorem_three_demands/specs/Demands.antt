-- The three demands, each as one statement about any tables, segments, key, place, request and output.
-- Assumes nothing: these are definitions.
use Rattle.std.specs.Prelude.{ℕ, ◌≤◌, ◌≡◌, true, false, ◌↔◌, List, [], length}
use Rattle.numbers.specs.Numbers.{Bytes}
use Rattle.answer.specs.declared.Refusal.{Refusal}
use Rattle.answer.specs.Answers.{in_table, number_of}
use Rattle.segment.specs.Keys.{Key, allows_key}
use Rattle.segment.specs.Format.{v3, file_limit}
use Rattle.table.specs.Table.{good_table}
use Rattle.table_pairs.specs.declared.Pair.{Pair}
use Rattle.table_pairs.specs.Pairs.{length_of}
use Rattle.segment.specs.Check.{check_of}
use Rattle.segment.specs.LookUp.{looked_up, look_up_of, extents_part}
use Rattle.segment.specs.Walk.{stepped}
use Rattle.segment.specs.Meets.{Meets}
use Rattle.segment.specs.Meaning.{meaning_of, SameMeaning}
use Rattle.segment.specs.Tidy.{tidy_length_of, tidy_of}
use Rattle.segment.specs.Write.{Request, entry_count, requested, write_of}
use Rattle.c_table.specs.Lent.{table_in}
use Rattle.c_answer.specs.Boundary.{bits_of, length_bits, reply_of, reply_left, step_left, sealed_as}
use Rattle.theorem_demands.specs.Answered.{accepted}
use Rattle.theorem_demands.specs.LookUps.{Finds}
use Rattle.theorem_demands.specs.Tidying.{Wrote, tidy_bytes, Tidiable, Keeps, SameForm}
use Rattle.theorem_demands.specs.Writing.{Lent, written_bytes, Writes}
use Rattle.theorem_demands.specs.Asking.{request_for}
use Rattle.theorem_tidiness.specs.Tidiness.{IsTidy}
use Rattle.theorem_three_demands.specs.Answering.{in_segment, in_request, PlacedBy, IsRefused, Leaves, Stays, said_in, LeavesAt}

-- ---- demand 1

-- Every public call that may refuse is answered or refused so; that it ends is part of each function's own promise. The others write to nothing. The interface
-- for Rattle is lent a table of numbers, the entry points for C one of bytes; a key and a request stand for what the calls are lent of them
pub record DemandOne (pairs table s : List ℕ) (key : Key) (at : ℕ) (q : Request) (out : List ℕ) : Type 0 where
  pub check : PlacedBy (in_segment s) (check_of pairs s)
  pub look_up : PlacedBy (in_segment s) (look_up_of pairs s key)
  -- `extents_of` hands back nothing where look up refuses
  pub extents : IsRefused (look_up_of pairs s key) → extents_part (looked_up pairs s key) s ≡ []
  -- `next` and `step_from`
  pub step : Stays (in_segment s) (stepped pairs s at) at
  pub tidy_length : PlacedBy (in_segment s) (tidy_length_of pairs s)
  pub tidy : Leaves (in_segment s) (tidy_of pairs s out) out
  pub write : Leaves (in_request (entry_count q.entries)) (write_of pairs q out) out
  -- `length_in` refuses nothing
  pub length_in : (listed : List Pair) (hash : ℕ) → (length_of listed hash).number ≡ 0
  -- `number` of any refusal; `place`, `start`, `asl_raw_version` and the checksum's calls refuse nothing and write to nothing
  pub number : (r : Refusal) → in_table (number_of r) ≡ true
  -- each number of the table is some refusal's, and 5 is none of them
  pub numbers : (n : ℕ) → in_table n ≡ true → (r : Refusal) × (number_of r ≡ n)
  pub gap : in_table 5 ≡ false
  -- `asl_raw_check`, .. `asl_raw_write`, each by any engine too
  pub raw_check : PlacedBy (in_segment s) (said_in (bits_of (check_of (table_in table) s) 0))
  pub raw_look_up : LeavesAt (in_segment s) (reply_left (reply_of (looked_up (table_in table) s key)) out) out
  pub raw_step : LeavesAt (in_segment s) (step_left (stepped (table_in table) s at) out) out
  pub raw_tidy_length : PlacedBy (in_segment s) (said_in (length_bits (tidy_length_of (table_in table) s)))
  pub raw_tidy : LeavesAt (in_segment s) (sealed_as (tidy_of (table_in table) s out)) out
  pub raw_write : LeavesAt (in_request (entry_count q.entries)) (sealed_as (write_of (table_in table) q out)) out

-- ---- demand 2

-- an accepted segment that is tidy
pub record TidySegment (pairs s : List ℕ) : Type 0 where
  pub bytes : Bytes s
  pub accepts : check_of pairs s ≡ accepted
  pub tidy : IsTidy s

pub record DemandTwo (pairs s : List ℕ) (key : Key) (q : Request) (out : List ℕ) : Type 0 where
  -- under a good table a segment is accepted exactly when it meets every rule
  pub check : good_table pairs ≡ true → (check_of pairs s ≡ accepted) ↔ Meets v3 pairs s
  -- a lookup says absent exactly when no record has the key, and otherwise gives that record
  pub look_up : check_of pairs s ≡ accepted → allows_key pairs key ≡ true → Finds pairs s key
  -- write writes exactly when nothing is refused, and then one result only
  pub write : (r : List ℕ) → Wrote (write_of pairs q out) out r ↔ Writes pairs q (length out) × (r ≡ written_bytes q)
  -- records written and read back are the same set
  pub read_back : (r : List ℕ) → Lent q → Wrote (write_of pairs q out) out r → Keeps pairs (requested q) r
  -- a tidy segment read and written back is the same bytes: read record by record, and by any request that means the same
  pub write-back : TidySegment pairs s → length s ≤ length out → Wrote (write_of pairs (request_for (meaning_of v3 s)) out) out s
  pub same_back : TidySegment pairs s → Lent q → SameMeaning (requested q) (meaning_of v3 s) → (r : List ℕ) → Wrote (write_of pairs q out) out r → r ≡ s

-- ---- demand 3

-- an accepted segment whose tidy form is within the limit
pub record CanTidy (pairs s : List ℕ) : Type 0 where
  pub bytes : Bytes s
  pub accepts : check_of pairs s ≡ accepted
  pub small : length (tidy_bytes s) ≤ file_limit

pub record DemandThree (pairs a b out : List ℕ) : Type 0 where
  -- two accepted segments under one table have equal tidy forms exactly when they mean the same
  pub same : CanTidy pairs a → CanTidy pairs b → SameForm a b
  -- the tidy form is accepted, means what the original meant, and tidying it again changes no byte
  pub keeps : CanTidy pairs a → Keeps pairs (meaning_of v3 a) (tidy_bytes a)
  -- and it is tidy as demand 2 has it
  pub is-tidy : CanTidy pairs a → TidySegment pairs (tidy_bytes a)
  -- tidy writes it exactly when nothing is refused, and nothing else
  pub tidy : (r : List ℕ) → Wrote (tidy_of pairs a out) out r ↔ Tidiable pairs a (length out) × (r ≡ tidy_bytes a)
