-- `theorem_two_orders::segments` meets its contract: the bytes, the check and the meaning of both segments are computed.
use mathlib.Core.Path.{refl}
use Rattle.numbers.specs.Numbers.{le, num_at}
use Rattle.crc64.specs.Crc.{step, steps, byte, run, crc}
use Rattle.answer.specs.Rules.{first_over, some_below}
use Rattle.segment.specs.Format.{header_of, record_of, extent_of, footer_of, record_no, extents_at}
use Rattle.table.specs.Table.{stands, good_pairs, good_table, allows, table_verdict}
use Rattle.lists.specs.Lists.{eq_list, count_from}
use Rattle.segment.specs.Keys.{fresh_key}
use Rattle.segment.specs.Check.{
  size_verdict,
  head_verdict,
  layout_verdict,
  bloom_laid,
  records_laid,
  digests_laid,
  extents_laid,
  length_laid,
  checksum_verdict,
  marks_verdict,
  digest_verdict,
  gone_extents,
  live_extents,
  extents_verdict,
  all_fit,
  sum_lengths,
  live_total,
  total_verdict,
  record_rules,
  record_verdict,
  visibility_no,
  largest_below,
  visibility_verdict,
  digest_in,
  key_no,
  segment_rules,
  segment_verdict,
  checked,
  check_of,
}
use Rattle.segment.specs.Meaning.{row_of, row_no, rows_of, heading_of, meaning_of}
use Rattle.theorem_cases.proofs.Sealed.{all_bytes}
use Rattle.theorem_two_orders.proofs.Holding.{held}
use Rattle.theorem_two_orders.proofs.segments.Goals as goal

pub returns : goal.returns
unfolding le num_at step steps byte run crc first_over some_below header_of record_of extent_of footer_of record_no extents_at stands good_pairs good_table allows table_verdict eq_list fresh_key size_verdict head_verdict layout_verdict bloom_laid records_laid digests_laid extents_laid length_laid checksum_verdict marks_verdict digest_verdict gone_extents live_extents extents_verdict all_fit sum_lengths live_total total_verdict record_rules record_verdict visibility_no largest_below visibility_verdict digest_in key_no segment_rules segment_verdict checked check_of row_of row_no count_from rows_of heading_of meaning_of all_bytes
returns c = (held _ _ refl refl refl, held _ _ refl refl refl)
