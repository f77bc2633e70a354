-- `listing::page` meets its contract: as many zeros as it says.
use Prim.Native.Nat.{ℕ}
use lib.ListN.{length-replicate}
use Rattle.listing.proofs.page.Goals as goal

pub returns : goal.returns
returns c = length-replicate {A = ℕ} 1048576 0
