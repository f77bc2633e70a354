-- `c_answer::answered` meets its contract: each answer's own numbers.
use Rattle.c_answer.proofs.Replies.{reply-absent, reply-gone, reply-present}
use Rattle.c_answer.proofs.answered.Goals as goal

pub returns-in-Absent : goal.returns-in-Absent
returns-in-Absent c = reply-absent _ c.in-Absent.is

pub returns-in-Gone : goal.returns-in-Gone
returns-in-Gone c = reply-gone _ {v = c.in-Gone.visibility} {d = c.in-Gone.domain} {o = c.in-Gone.source} c.in-Gone.is c.found.ensures

pub returns-in-Present : goal.returns-in-Present
returns-in-Present c = reply-present _ {v = c.in-Present.visibility} {d = c.in-Present.domain} {o = c.in-Present.source} {t = c.in-Present.total} {at = c.in-Present.start} {n = c.in-Present.count} c.in-Present.is c.found-in-Present.ensures
