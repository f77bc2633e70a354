-- docs/SERVICES.md, "The listing": what is written of case L.
--   meaning_under   case L's meaning under a heading
--   five_lines      its listing, whole
-- Assumes nothing: these are definitions.
use Rattle.std.specs.Prelude.{ℕ, List, []}
use Rattle.segment.specs.declared.header.Heading.{Heading}
use Rattle.segment.specs.Meaning.{Meaning}
use Rattle.list_digits.specs.Digits.{ascii}
use Rattle.theorem_cases.specs.PCases.{case_l}

abbrev pub meaning_under : Heading → Meaning
meaning_under t = record { heading = t; bloom = []; records = case_l }

abbrev pub five_lines : List ℕ
five_lines = ascii "records 2\n0 7 0a0b0c0d live published - 3 1\n1 7 0a0b0c0e gone internal - 0 0\nextents 1\n0 0 9 64 3\n"
