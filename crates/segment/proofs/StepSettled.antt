-- A step's numbers settle it: two steps that say the same in numbers are equal.
-- Assumes nothing.
use Prim.Native.Nat.{ℕ}
use mathlib.Core.Path.{◌≡◌, refl, sym, ap, ◌∙◌}
use mathlib.Core.List.{List, [], ◌∷◌}
use lib.ListN.{get_or}
use Rattle.std.specs.Prelude.{Option, None, Some, Ok, Err}
use Rattle.answer.proofs.Settled.{taken, taken_refused}
use Rattle.segment.specs.declared.record.Record.{Record}
use Rattle.segment.specs.Format.{in_file}
use Rattle.segment.specs.Walk.{step_answer, Step}

-- the record of thirteen values
record_from : List ℕ → Record
record_from vs = record {
  hash_id = get_or vs 0 0;
  digest_length = get_or vs 1 0;
  reserved = get_or vs 2 0;
  digest_offset = in_file (get_or vs 3 0);
  extents_offset = in_file (get_or vs 4 0);
  extent_count = get_or vs 5 0;
  total_length = get_or vs 6 0;
  domain = get_or vs 7 0;
  visibility = get_or vs 8 0;
  imported = get_or vs 9 0;
  reserved_last = get_or vs 10 0;
  source = get_or vs 11 0;
  flags = get_or vs 12 0;
}

-- with no value they are done, and with any it is a record
step_from : List ℕ → Option Record
step_from [] = None
step_from (v ∷ vs) = Some (record_from (v ∷ vs))

step_back : (t : Step) → taken step_from (step_answer t) ≡ t
unfolding taken step_from record_from
step_back (Ok (Some r)) = refl
step_back (Ok None) = refl
step_back (Err r) = taken_refused step_from r

pub step-settled : (t u : Step) → step_answer t ≡ step_answer u → t ≡ u
step-settled t u e = sym (step_back t) ∙ ap (taken step_from) e ∙ step_back u
