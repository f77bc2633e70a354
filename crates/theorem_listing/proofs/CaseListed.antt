-- Case L's listing is the one that docs/SERVICES.md, "The listing", shows: of its meaning, by computation, and so of its file.
-- Assumes nothing.
use mathlib.Core.Path.{◌≡◌, refl, sym, ap, ◌∙◌}
use mathlib.Core.List.{[]}
use native.Mathlib.Omega.{arith}
use Rattle.std.specs.Prelude.{Ok}
use Rattle.lists.specs.Lists.{lex_leq, insert, sort_by}
use Rattle.table.specs.Table.{stands, good_pairs, good_table, allows}
use Rattle.segment.specs.declared.header.Heading.{Heading}
use Rattle.segment.specs.Format.{v3}
use Rattle.segment.specs.Check.{sum_lengths, checked}
use Rattle.segment.specs.Meaning.{meaning_of}
use Rattle.segment.specs.Tidy.{row_leq, extent_total, tidy_form}
use Rattle.segment.proofs.Shapes.{v3-shaped}
use Rattle.check_book.proofs.Book.{checked-iff}
use Rattle.form_laws.specs.Form.{HeadingWritable, Tidies}
use Rattle.form_laws.proofs.Canonical.{tidy-meets, tidy-means}
use Rattle.theorem_cases.specs.PCases.{tidy_of_rows, case_l}
use Rattle.theorem_cases.proofs.PCases.{case-l, case-l-tidies}
use Rattle.theorem_cases.proofs.AnyHeading.{cut, cut_fits, form-cut}
use Rattle.list_digits.specs.Digits.{decimal_in, decimal, hex}
use Rattle.list_columns.specs.Listing.{count_line, record_line, extent_line, record_lines, extent_lines, extent_section, listing, table_listed, written}
use Rattle.list_input.proofs.PartLaws.{written_listed}
use Rattle.theorem_listing.specs.FiveLines.{meaning_under, five_lines}

pub case-l-listed : (t : Heading) → listing (meaning_under t) ≡ five_lines
unfolding listing count_line record_lines record_line extent_section extent_lines extent_line decimal decimal_in hex extent_total sum_lengths
case-l-listed t = refl

-- ---- the file, of a heading whose numbers fit their fields

module _ (t : Heading) (w : HeadingWritable t) where
  tidies : Tidies v3 table_listed (meaning_under t)
  unfolding allows
  tidies = case-l-tidies table_listed t refl w

  accepted : checked table_listed (tidy_of_rows t case_l) ≡ Ok _
  unfolding good_table good_pairs stands
  accepted = (checked-iff table_listed (tidy_of_rows t case_l) refl).1 (tidy-meets v3 v3-shaped table_listed (meaning_under t) tidies)

  means : meaning_of v3 (tidy_of_rows t case_l) ≡ meaning_under t
  unfolding sort_by insert lex_leq
  means = tidy-means v3 v3-shaped table_listed (meaning_under t) tidies

  fitting-written : written (tidy_of_rows t case_l) ≡ five_lines
  fitting-written =
      written_listed (tidy_of_rows t case_l) (omega (arith, (case-l.form-lies t).long)) accepted ∙ ap listing means ∙ case-l-listed t

-- and so of any other
pub case-l-written : (t : Heading) → written (tidy_of_rows t case_l) ≡ five_lines
unfolding tidy_form
case-l-written t = ap written (sym (form-cut t [] (sort_by row_leq case_l))) ∙ fitting-written (cut t) (cut_fits t)
