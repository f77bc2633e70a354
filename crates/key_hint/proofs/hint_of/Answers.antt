-- `key_hint::hint_of` meets its contract: four digits, and none after 255.
use Rattle.key_hint.proofs.Leads.{first_stops, second-stops, third-stops, fourth-ends}
use Rattle.key_hint.proofs.hint_of.Goals as goal

pub returns-then-w-eq255 : goal.returns-then-w-eq255
returns-then-w-eq255 c = search first_stops

pub returns-then-x-eq255 : goal.returns-then-x-eq255
returns-then-x-eq255 c = search second-stops

pub returns-then-y-eq255 : goal.returns-then-y-eq255
returns-then-y-eq255 c = search third-stops

pub returns : goal.returns
returns c = search fourth-ends
