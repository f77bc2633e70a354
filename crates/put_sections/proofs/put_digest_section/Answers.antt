-- `put_sections::put_digest_section` meets its contract: the digests in front, zeros behind them.
use Rattle.std.proofs.Common.{rules}
use Rattle.put_sections.proofs.Lends.{section-done}
use Rattle.put_sections.proofs.put_digest_section.Goals as goal

pub returns : goal.returns
returns c =
    section-done _ _ _ _ _ _ c.requires.used_value c.requires.out_len _ _ c.put_digests.ensures (search (rules, c.fill.ensures.after, c.split_at_mut-digests.ensures.back))
