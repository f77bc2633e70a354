-- `tidy_length::length_of` meets its contract: the sums tell the length.
use Prim.Native.Nat.{◌≤◌}
use native.Mathlib.Omega.{arith}
use Rattle.segment.specs.Format.{digests_offset}
use Rattle.tidy_length.proofs.Summing.{length-told}
use Rattle.tidy_length.proofs.length_of.Goals as goal

pub padded-requires : goal.padded-requires
padded-requires c = omega (arith, c.sum_records-s.ensures.short)

pub overflow_add-extents : goal.overflow_add-extents
overflow_add-extents c =
    let small : (c.padded.result ≤ 67108872) × (c.sum_records-s.result.extents ≤ 281474976710656) × (digests_offset c.args.h ≤ 1073741824) = let sums = c.sum_records-s.ensures in
    let laid = c.requires.laid in
    (omega (arith, c.padded.ensures, sums.short), sums.few, omega (arith, laid.layout, laid.most)) in
    omega (arith, small)

pub overflow_mul-result : goal.overflow_mul-result
overflow_mul-result c =
    let small : (c.padded.result ≤ 67108872) × (c.sum_records-s.result.extents ≤ 281474976710656) × (digests_offset c.args.h ≤ 1073741824) = let sums = c.sum_records-s.ensures in
    let laid = c.requires.laid in
    (omega (arith, c.padded.ensures, sums.short), sums.few, omega (arith, laid.layout, laid.most)) in
    omega (arith, small)

pub overflow_add-result : goal.overflow_add-result
overflow_add-result c =
    let small : (c.padded.result ≤ 67108872) × (c.sum_records-s.result.extents ≤ 281474976710656) × (digests_offset c.args.h ≤ 1073741824) = let sums = c.sum_records-s.ensures in
    let laid = c.requires.laid in
    (omega (arith, c.padded.ensures, sums.short), sums.few, omega (arith, laid.layout, laid.most)) in
    omega (arith, small)

pub overflow_add-result-2 : goal.overflow_add-result-2
overflow_add-result-2 c =
    let small : (c.padded.result ≤ 67108872) × (c.sum_records-s.result.extents ≤ 281474976710656) × (digests_offset c.args.h ≤ 1073741824) = let sums = c.sum_records-s.ensures in
    let laid = c.requires.laid in
    (omega (arith, c.padded.ensures, sums.short), sums.few, omega (arith, laid.layout, laid.most)) in
    omega (arith, small)

pub returns : goal.returns
returns c =
    length-told _ _ _ c.requires _ c.sum_records-s.ensures _ c.padded.ensures
