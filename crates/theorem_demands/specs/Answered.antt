-- The answers of docs/SERVICES.md by name: check accepted, look up absent, any call refused by a number at a place.
-- Assumes nothing: these are definitions.
use Rattle.std.specs.Prelude.{ℕ, []}
use Rattle.answer.specs.Answers.{Answer, answered}

abbrev pub accepted : Answer
accepted = answered []

abbrev pub absent : Answer
absent = answered []

abbrev pub refused_by : ℕ → ℕ → Answer
refused_by number place = record { number = number; place = place; values = [] }
