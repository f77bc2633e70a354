-- What the demands suppose holds of every meaning that may be written under a good table, and so of case L.
-- Assumes nothing.
use Prim.Native.Nat.{ℕ}
use mathlib.Core.Path.{◌≡◌, refl, sym, ap}
use mathlib.Core.Bool.{true}
use mathlib.Core.Logic.Iff
use mathlib.Core.List.{List}
use lib.Dec.{lit<}
use Rattle.table.specs.Table.{good_table, good_pairs, stands, allows}
use Rattle.segment.specs.Format.{v3}
use Rattle.segment.specs.Meaning.{Meaning}
use Rattle.segment.specs.Tidy.{tidy_form}
use Rattle.segment.specs.Write.{requested}
use Rattle.form_laws.specs.Form.{Tidies}
use Rattle.theorem_demands.specs.Tidying.{Keeps}
use Rattle.theorem_demands.specs.Asking.{request_for, AskedFor}
use Rattle.theorem_demands.proofs.Tidying.{form-keeps}
use Rattle.theorem_demands.proofs.Writing.{written-iff}
use Rattle.theorem_demands.proofs.Asking.{asked-for}
use Rattle.theorem_tidiness.proofs.Tidiness.{kept-is-tidy}
use Rattle.theorem_cases.proofs.PCases.{case-l-tidies}
use Rattle.theorem_three_demands.specs.Members.{Supposed, table_l, meaning_l}

pub supposed : (pairs : List ℕ) (m : Meaning) → good_table pairs ≡ true → Tidies v3 pairs m → Supposed pairs m
supposed pairs m g t =
    let kept : Keeps pairs m (tidy_form v3 m) = form-keeps pairs m (tidy_form v3 m) g (record { tidies = t; is = refl }) in
    let asked : AskedFor pairs m = asked-for m pairs g t.contents in
    let is : tidy_form v3 m ≡ tidy_form v3 (requested (request_for m)) = ap (tidy_form v3) (sym asked.means) in
    record {
      tidy = record { bytes = kept.bytes; accepts = kept.accepts; tidy = kept-is-tidy pairs m (tidy_form v3 m) kept };
      can = record { bytes = kept.bytes; accepts = kept.accepts; small = rw kept.itself t.fits };
      lent = asked.lent;
      same = rw asked.means
          (record { heading = sym kept.means.heading; bloom = sym kept.means.bloom; records = λ r. Iff.symm (kept.means.records r) });
      written = λ out room.
          (written-iff pairs (request_for m) out (tidy_form v3 m)).1
          (record { asks = asked.asks; small = rw (← is) t.fits; fits = rw (← is) room }, is);
    }

-- ---- case L

pub case-l-writable : Tidies v3 table_l meaning_l
unfolding allows
case-l-writable = case-l-tidies table_l meaning_l.heading refl (
    record {
      shard = lit< tt;
      snapshot_min = lit< tt;
      snapshot_max = lit< tt;
      domain = lit< tt;
      seal_snapshot = lit< tt;
      seal_time = lit< tt;
    }
    )

pub case-l-supposed : Supposed table_l meaning_l
unfolding good_table good_pairs stands
case-l-supposed = supposed table_l meaning_l refl case-l-writable
