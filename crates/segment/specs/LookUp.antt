-- docs/SERVICES.md, "Look up": 14, then 17, then as check; on an accepted segment absent; gone, with visibility, domain and source; or present,
-- with these, the total length and the part of the lent segment that holds its extents.
--   found_over     the first of 0, 1, .. below n that is not absent
--   looked_up      what look up answers: what is found, or a refusal
--   look_up_of      the same in numbers
--   extents_part   the part of the segment that an answer speaks of
-- Assumes nothing: these are definitions.
use Rattle.std.specs.Prelude.{ℕ, zero, suc, ◌*◌, cond, List, [], take, drop, Result, Ok, Err}
use Rattle.answer.specs.declared.Refusal.{Refusal}
use Rattle.answer.specs.declared.Rule.TheVariants.{Key as KeyWrong}
use Rattle.answer.specs.declared.Found.{Found}
use Rattle.answer.specs.declared.Found.TheVariants.{Absent, Gone, Present}
use Rattle.answer.specs.Rules.{must, ◌then◌, Verdict}
use Rattle.answer.specs.Answers.{Answer, refusal, found_answer}
use Rattle.segment.specs.declared.header.Header.{Header}
use Rattle.segment.specs.declared.record.Record.{Record}
use Rattle.segment.specs.declared.shape.Shape.{Shape}
use Rattle.segment.specs.Format.{v3, extent_size, header_of, record_count, record_no}
use Rattle.table.specs.Table.{table_verdict}
use Rattle.segment.specs.Keys.{Key, key_of, allows_key}
use Rattle.lists.specs.Lists.{eq_list}
use Rattle.segment.specs.Check.{is_gone, key_no, segment_verdict}
use Rattle.segment.specs.Meaning.{source_of}

-- 17: hash id unknown or length not the table's
unfoldable pub key_verdict : List ℕ → Key → Verdict
key_verdict pairs key = must (allows_key pairs key) (refusal KeyWrong 0)

-- what is said of a record
unfoldable pub record_found : Record → Found
record_found r =
    cond (is_gone r)
    (Gone r.visibility r.domain (source_of r.imported r.source))
    (Present r.visibility r.domain (source_of r.imported r.source) r.total_length r.extents_offset r.extent_count)

infixr 40 ◌or_else◌
abbrev pub ◌or_else◌ : Found → Found → Found
Absent or_else g = g
Gone v d s or_else g = Gone v d s
Present v d s t a n or_else g = Present v d s t a n

unfoldable pub found_over : ℕ → (ℕ → Found) → Found
found_over zero f = Absent
found_over (suc n) f = found_over n f or_else f n

-- record k, if it has the key
unfoldable pub found_no : Shape → List ℕ → Header → Key → ℕ → Found
found_no sh s h key k = cond (eq_list (key_no sh s h k) (key_of key)) (record_found (record_no sh s h k)) Absent

unfoldable pub found_in : Shape → List ℕ → Header → Key → Found
found_in sh s h key = found_over (record_count h) (found_no sh s h key)

abbrev pub LookedUp : Type 0
LookedUp = Result Found Refusal

-- under a good table: 17, then as check
unfoldable pub found_under : List ℕ → List ℕ → Key → LookedUp
found_under pairs s key = key_verdict pairs key then segment_verdict v3 pairs s then Ok (found_in v3 s (header_of s) key)

unfoldable pub looked_up : List ℕ → List ℕ → Key → LookedUp
looked_up pairs s key = table_verdict pairs then found_under pairs s key

unfoldable pub look_up_of : List ℕ → List ℕ → Key → Answer
look_up_of pairs s key = found_answer (looked_up pairs s key)

unfoldable pub extents_part : LookedUp → List ℕ → List ℕ
extents_part (Ok Absent) s = []
extents_part (Ok (Gone v d src)) s = []
extents_part (Ok (Present v d src t at n)) s = take (extent_size * n) (drop at.0 s)
extents_part (Err r) s = []
