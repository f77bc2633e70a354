-- `crc64_fast::four` meets its contract: each of the four bytes goes through its own table.
use mathlib.Core.Path.{◌≡◌}
use Prim.Native.Nat.{◌+◌, ◌*◌}
use native.Mathlib.Omega.{arith}
use Rattle.crc64_fast.proofs.Slices.{slices}
use Rattle.crc64_fast.proofs.four.Goals as goal

pub returns : goal.returns
returns c =
    let a = c.args in
    let n = 8 * a.k in
    let e1 : 8 * (a.k + 3) + 8 ≡ n + 8 + 8 + 8 + 8 = omega arith in
    let e2 : 8 * (a.k + 2) + 8 ≡ n + 8 + 8 + 8 = omega arith in
    let e3 : 8 * (a.k + 1) + 8 ≡ n + 8 + 8 = omega arith in
    let e : n + 32 ≡ n + 8 + 8 + 8 + 8 = omega arith in
    rw (c.at.ensures, c.at-2.ensures, c.at-3.ensures, c.at-4.ensures, e1, e2, e3, e)
    (slices n a.x)
