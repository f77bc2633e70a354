-- `tidy::tidy_by` meets its contract: the table, and then the rest under the copied table.
use mathlib.Core.Path.{◌≡◌, ap, ◌∙◌}
use mathlib.Core.Bool.{true, false}
use native.Mathlib.Omega.{arith}
use borrow.Author.Rules.{rules}
use Rattle.table.specs.Table.{good_table, by_value}
use Rattle.table.proofs.Pairs.{sized, in-front, front-is, front_long}
use Rattle.tidy.proofs.TidyRead.{table-bad, table-good}
use Rattle.tidy.proofs.tidy_by.Goals as goal

pub returns-in_default : goal.returns-in_default
returns-in_default c =
    let bad : good_table c.args.pairs.now ≡ false = search rules in
    table-bad _ _ _ bad

pub copied-numbers-requires : goal.copied-numbers-requires
copied-numbers-requires c =
    let good : good_table c.args.pairs.now ≡ true = search rules in
    let same : c.pairs.result.now ≡ c.args.pairs.now = search rules in
    rw same (sized _ good)

pub slice_bounds-numbers-end : goal.slice_bounds-numbers-end
slice_bounds-numbers-end c =
    let same : c.pairs.result.now ≡ c.args.pairs.now = search rules in
    let front : c.copied-numbers.result ≡ by_value c.args.pairs.now = c.copied-numbers.ensures ∙ ap by_value same in
    in-front _ _ front _ (omega arith)

pub slice_bounds-tidy_under-end : goal.slice_bounds-tidy_under-end
slice_bounds-tidy_under-end c =
    let same : c.pairs.result.now ≡ c.args.pairs.now = search rules in
    let front : c.copied-numbers.result ≡ by_value c.args.pairs.now = c.copied-numbers.ensures ∙ ap by_value same in
    front_long _ _ front _ (omega arith)

pub tidy_under-requires : goal.tidy_under-requires
tidy_under-requires c =
    let good : good_table c.args.pairs.now ≡ true = search rules in
    let same : c.pairs.result.now ≡ c.args.pairs.now = search rules in
    let front : c.copied-numbers.result ≡ by_value c.args.pairs.now = c.copied-numbers.ensures ∙ ap by_value same in
    ap good_table (front-is _ _ front) ∙ good

pub returns : goal.returns
returns c =
    let good : good_table c.args.pairs.now ≡ true = search rules in
    let same : c.pairs.result.now ≡ c.args.pairs.now = search rules in
    let front : c.copied-numbers.result ≡ by_value c.args.pairs.now = c.copied-numbers.ensures ∙ ap by_value same in
    table-good _ _ _ _ _ _ good (front-is _ _ front) c.tidy_under.ensures
