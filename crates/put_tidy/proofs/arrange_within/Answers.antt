-- `put_tidy::arrange_within` meets its contract: the fronts of the arrays have as many numbers as there are items.
use Prim.Native.Nat.{ℕ}
use mathlib.Core.Path.{refl}
use native.Mathlib.Omega.{arith}
use lib.ListN.{length-replicate}
use Rattle.put_tidy.proofs.SortedItems.{front-long, lent-lines, lent-wrote}
use Rattle.put_tidy.proofs.arrange_within.Goals as goal

pub arrange-requires : goal.arrange-requires
arrange-requires g c =
    let n = c.args.n in record {
      shaped = c.requires.shaped;
      all_lines = lent-lines g.row.N n c.requires.n_bound c.args.source c.requires.all_lines;
      hints_len = refl;
      numbers_in_bounds = omega (arith, front-long g.row.N n c.requires.n_bound, length-replicate {A = ℕ} g.row.N 0);
      numbers_len_bound = omega (arith, front-long g.row.N n c.requires.n_bound, c.requires.N_bound);
    }

pub returns : goal.returns
returns g c = lent-wrote g.row.N c.args.n c.requires.n_bound c.args.source c.args.frame _ _ _ c.arrange.ensures
