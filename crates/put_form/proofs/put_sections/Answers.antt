-- `put_form::put_sections` meets its contract: three stretches, one behind the other.
use native.Mathlib.Omega.{arith}
use Rattle.put_item.proofs.ItemRows.{read-in}
use Rattle.put_form.specs.Emit.{sections_under}
use Rattle.put_form.proofs.Stretches.{section-same, stretches}
use Rattle.put_form.proofs.put_sections.Goals as goal

pub overflow_sub-records_size : goal.overflow_sub-records_size
overflow_sub-records_size c = omega (arith, stretches _ c.requires.shaped _ c.args.source _ _ _ c.requires.plan)

pub split_at_mut-records-requires : goal.split_at_mut-records-requires
split_at_mut-records-requires c = omega (arith, stretches _ c.requires.shaped _ c.args.source _ _ _ c.requires.plan)

pub split_at_mut-digests-requires : goal.split_at_mut-digests-requires
split_at_mut-digests-requires c = omega (arith, stretches _ c.requires.shaped _ c.args.source _ _ _ c.requires.plan, c.split_at_mut-records.ensures.back_len)

pub put_records-requires : goal.put_records-requires
put_records-requires c =
    let s = stretches _ c.requires.shaped _ c.args.source _ _ _ c.requires.plan in
    record { lines = c.requires.lines; near = s.near; shaped = c.requires.shaped; out_len = omega (arith, c.split_at_mut-records.ensures.front_len) }

pub put_digest_section-requires : goal.put_digest_section-requires
put_digest_section-requires c =
    let s = stretches _ c.requires.shaped _ c.args.source _ _ _ c.requires.plan in
    record {
      each = read-in c.args.source _ c.requires.lines;
      used_value = s.filled;
      out_len = omega (arith, c.split_at_mut-digests.ensures.front_len);
    }

pub put_extents-requires : goal.put_extents-requires
put_extents-requires c =
    let s = stretches _ c.requires.shaped _ c.args.source _ _ _ c.requires.plan in
    record { lines = c.requires.lines; out_len = omega (arith, c.split_at_mut-records.ensures.back_len, c.split_at_mut-digests.ensures.back_len) }

pub returns : goal.returns
unfolding sections_under
returns c =
    rw (c.put_records.ensures, c.put_digest_section.ensures, section-same c.args.source c.args.numbers.now, c.put_extents.ensures)
