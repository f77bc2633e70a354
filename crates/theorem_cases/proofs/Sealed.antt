-- Files that carry their right checksum: a body of bytes with its footer behind it, and the rules up to the checksum as the tables have them.
--   all_bytes, all-bytes   the test that a list is bytes
--   footed                a body with its footer meets 6
--   up-to-header, up-to-checksum   the tables of 1 to 4, or besides of 51 to 55, accept, and 6 is met
-- Assumes nothing.
use Prim.Native.Nat.{ℕ, zero, suc, ◌+◌, ◌-◌}
use mathlib.Core.Path.{◌≡◌, sym, ap, ◌∙◌}
use mathlib.Core.Bool.{Bool, true, ◌&&◌}
use mathlib.Core.List.{List, [], ◌∷◌, ◌++◌}
use native.Mathlib.Omega.{arith}
use borrow.Author.Tests.{ltb-true}
use lib.Dec.{ltb, lit<}
use lib.ListN.{length, length-append}
use Rattle.answer.specs.Rules.{accepted}
use Rattle.numbers.specs.Numbers.{bytes_of, Bytes}
use Rattle.numbers.proofs.NumberLaws.{length-bytes_of}
use Rattle.crc64.specs.Crc.{crc}
use Rattle.lists.proofs.Tests.{and-iff}
use Rattle.segment.specs.Format.{v3, header_of, footer_of}
use Rattle.table.specs.Table.{good_table}
use Rattle.segment.specs.Check.{size_verdict, head_verdict, layout_verdict}
use Rattle.segment.specs.Meets.{ChecksumMeets}
use Rattle.segment.specs.Tidy.{packed, footer_fields}
use Rattle.segment.proofs.Shapes.{v3-shaped}
use Rattle.form_laws.proofs.PartsAt.{HasAt, has-whole, has_left, has_right, has-taken, has-number}
use Rattle.form_laws.proofs.Checksum.{crc-fits}
use Rattle.check_book.proofs.TablesHeader.{size-book, head-book, layout-book}
use Rattle.theorem_demands.specs.Refusals.{UpToHeader, UpToChecksum}

unfoldable pub all_bytes : List ℕ → Bool
all_bytes [] = true
all_bytes (x ∷ xs) = ltb x 256 && all_bytes xs

pub all-bytes : (s : List ℕ) → all_bytes s ≡ true → Bytes s
unfolding all_bytes
all-bytes [] e i = lit< tt
all-bytes (x ∷ xs) e zero = ltb-true x 256 ((and-iff (ltb x 256) (all_bytes xs)).0 e).0
all-bytes (x ∷ xs) e (suc i) = all-bytes xs ((and-iff (ltb x 256) (all_bytes xs)).0 e).1 i

module _ (body : List ℕ) (snapshot time : ℕ) where
  abbrev behind : List ℕ
  behind = bytes_of 8 snapshot ++ (bytes_of 8 time ++ [])

  abbrev whole : List ℕ
  whole = body ++ (bytes_of 8 (crc body) ++ behind)

  before-footer : length whole - 24 ≡ 0 + length body
  before-footer = simp (length-append, length-bytes_of) (omega arith)

  sealed-here : Bytes body → ChecksumMeets whole
  unfolding footer_of
  sealed-here b =
      let all : HasAt whole 0 body = has_left body (bytes_of 8 (crc body) ++ behind) (has-whole whole) in
      let here : HasAt whole (0 + length body) (bytes_of 8 (crc body)) = has_left (bytes_of 8 (crc body)) behind (has_right body _ (has-whole whole)) in
      rw before-footer (has-number 8 (crc body) here (crc-fits body b) ∙ ap crc (sym (has-taken body (0 + length body) all (omega arith))))

  pub footed : Bytes body → ChecksumMeets (body ++ packed (footer_fields (record { checksum = crc body; seal_snapshot = snapshot; seal_time = time })))
  unfolding packed footer_fields
  footed b = sealed-here b

module _ (pairs s : List ℕ) (g : good_table pairs ≡ true) (size : size_verdict (length s) ≡ accepted) (head : head_verdict v3 (header_of s) ≡ accepted) where
  pub up-to-header : UpToHeader pairs s
  up-to-header =
      let h = (head-book v3 (header_of s)).0 head in
      record { before = record { table = g; size = (size-book s).0 size }; magic = h.0; version = h.1; header = h.2 }

  pub up-to-checksum : layout_verdict v3 (header_of s) (length s) ≡ accepted → ChecksumMeets s → UpToChecksum pairs s
  up-to-checksum layout checksum = record {
    before = record { before = up-to-header; layout = (layout-book v3 v3-shaped s (header_of s)).0 layout };
    checksum = checksum;
  }
