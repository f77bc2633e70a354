-- The three demands hold of the definitions.
-- Assumes nothing.
use Prim.Native.Nat.{ℕ}
use mathlib.Core.Path.{◌≡◌, refl}
use mathlib.Core.List.{List, []}
use Rattle.std.specs.Prelude.{Option, None, Some, Ok, Err}
use Rattle.answer.specs.declared.Found.TheVariants.{Absent, Gone, Present}
use Rattle.answer.specs.Answers.{found_answer}
use Rattle.answer.proofs.Settled.{in-table, no-5, refusal_of, table-full}
use Rattle.table_pairs.specs.Pairs.{length_in, length_answer, length_of}
use Rattle.segment.specs.Keys.{Key}
use Rattle.segment.specs.Format.{v3}
use Rattle.segment.specs.Check.{check_of}
use Rattle.segment.specs.LookUp.{LookedUp, looked_up, look_up_of, extents_part}
use Rattle.segment.specs.Walk.{stepped}
use Rattle.segment.specs.Meaning.{meaning_of}
use Rattle.segment.specs.Tidy.{tidy_length_of, tidy_of}
use Rattle.segment.specs.Write.{Request, entry_count, write_of}
use Rattle.c_table.specs.Lent.{table_in}
use Rattle.c_answer.specs.Boundary.{reply_of}
use Rattle.theorem_demands.specs.Tidying.{tidy_bytes, Keeps}
use Rattle.theorem_demands.proofs.Rulebook.{accepted-iff, accepts-iff}
use Rattle.theorem_demands.proofs.LookUps.{look-up-finds}
use Rattle.theorem_demands.proofs.Tidying.{tidied-iff, form-keeps, form-same-iff, accepted-form}
use Rattle.theorem_demands.proofs.Writing.{written-iff, write_keeps, write-back}
use Rattle.theorem_tidiness.proofs.Tidiness.{tidy-iff, kept-is-tidy, tidy-comes-back}
use Rattle.theorem_three_demands.specs.Answering.{IsRefused}
use Rattle.theorem_three_demands.specs.Demands.{DemandOne, DemandTwo, CanTidy, DemandThree}
use Rattle.theorem_three_demands.proofs.Answering.{segment-common, request-common, check-placed, look-up-placed, stepped-stays, tidy-length-placed, tidy-leaves, write-leaves}
use Rattle.theorem_three_demands.proofs.Entering.{bits-placed, reply-leaves, step-leaves, sealed-leaves}

length-answered : (l : Option ℕ) → (length_answer l).number ≡ 0
length-answered (Some n) = refl
length-answered None = refl

no_part : (s : List ℕ) (f : LookedUp) → IsRefused (found_answer f) → extents_part f s ≡ []
unfolding extents_part
no_part s (Ok Absent) n = refl
no_part s (Ok (Gone v d o)) n = refl
no_part s (Ok (Present v d o t a c)) n = absurd (n refl)
no_part s (Err r) n = refl

pub demand-one : (pairs table s : List ℕ) (key : Key) (at : ℕ) (q : Request) (out : List ℕ) → DemandOne pairs table s key at q out
unfolding look_up_of length_of reply_of
demand-one pairs table s key at q out = record {
  check = check-placed pairs s;
  look_up = look-up-placed pairs s key;
  extents = no_part s (looked_up pairs s key);
  step = stepped-stays pairs s at;
  tidy_length = tidy-length-placed pairs s;
  tidy = tidy-leaves pairs s out;
  write = write-leaves pairs q out;
  length_in = λ listed hash. length-answered (length_in listed hash);
  number = λ r. in-table r.0;
  numbers = λ n e. (refusal_of n 0, table-full n e);
  gap = no-5;
  raw_check = bits-placed (segment-common s) (check_of (table_in table) s) 0 (check-placed (table_in table) s);
  raw_look_up =
      let p = look-up-placed (table_in table) s key in
      reply-leaves (segment-common s) (reply_of (looked_up (table_in table) s key)) out
      (record { numbered = p.numbered; of-item = p.of-item; otherwise = p.otherwise });
  raw_step = step-leaves (segment-common s) (stepped (table_in table) s at) out (stepped-stays (table_in table) s at).placed;
  raw_tidy_length = bits-placed (segment-common s) (tidy_length_of (table_in table) s) _ (tidy-length-placed (table_in table) s);
  raw_tidy = sealed-leaves (segment-common s) (tidy_of (table_in table) s out) out (tidy-leaves (table_in table) s out);
  raw_write = sealed-leaves (request-common (entry_count q.entries)) (write_of (table_in table) q out) out (write-leaves (table_in table) q out);
}

pub demand-two : (pairs s : List ℕ) (key : Key) (q : Request) (out : List ℕ) → DemandTwo pairs s key q out
demand-two pairs s key q out = record {
  check = accepted-iff pairs s;
  look_up = look-up-finds pairs s key;
  write = written-iff pairs q out;
  read_back = write_keeps pairs q out;
  write-back = λ t. tidy-comes-back pairs s out t.bytes t.accepts t.tidy;
  same_back = λ t l m r. write-back pairs s pairs q out r t.bytes t.accepts ((tidy-iff pairs s t.bytes t.accepts).1 t.tidy) l m;
}

module _ (pairs a : List ℕ) (can : CanTidy pairs a) where
  form-kept : Keeps pairs (meaning_of v3 a) (tidy_bytes a)
  form-kept =
      form-keeps pairs (meaning_of v3 a) (tidy_bytes a) ((accepts-iff pairs a).0 can.accepts).0 (accepted-form pairs a can.bytes can.accepts can.small)

pub demand-three : (pairs a b out : List ℕ) → DemandThree pairs a b out
demand-three pairs a b out = record {
  same = λ p q. form-same-iff pairs a pairs b p.bytes q.bytes p.accepts q.accepts p.small q.small;
  keeps = form-kept pairs a;
  is-tidy = λ p. let k = form-kept pairs a p in record { bytes = k.bytes; accepts = k.accepts; tidy = kept-is-tidy pairs (meaning_of v3 a) (tidy_bytes a) k };
  tidy = tidied-iff pairs a out;
}
