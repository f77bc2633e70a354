-- `write_request::check_entry` meets its contract: the first rule that is broken.
use mathlib.Core.Path.{sym, ◌∙◌}
use Rattle.write_request.proofs.RequestOrder.{extents-held, entry-five, marks-stop, lists-stop, digest-stops, places-stop, total-stops, all-kept}
use Rattle.write_request.proofs.check_entry.Goals as goal

pub returns-then-not-marks_kept : goal.returns-then-not-marks_kept
returns-then-not-marks_kept c = search marks-stop

pub returns-then-not-lists_kept : goal.returns-then-not-lists_kept
returns-then-not-lists_kept c =
    lists-stop (entry-five _ _ _ _ _ _) (sym c.marks_kept.ensures ∙ c.if-not-marks_kept.false) (sym c.lists_kept.ensures ∙ c.if-not-lists_kept.true)

pub returns-then-not-allows : goal.returns-then-not-allows
returns-then-not-allows c =
    digest-stops (entry-five _ _ _ _ _ _) (sym c.marks_kept.ensures ∙ c.if-not-marks_kept.false)
    (sym c.lists_kept.ensures ∙ c.if-not-lists_kept.false) (sym c.allows.ensures ∙ c.if-not-allows.true)

pub returns-then-not-places_kept : goal.returns-then-not-places_kept
returns-then-not-places_kept c =
    places-stop (entry-five _ _ _ _ _ _) (sym c.marks_kept.ensures ∙ c.if-not-marks_kept.false)
    (sym c.lists_kept.ensures ∙ c.if-not-lists_kept.false) (sym c.allows.ensures ∙ c.if-not-allows.false)
    (sym c.places_kept.ensures ∙ c.if-not-places_kept.true)

pub total_kept-requires : goal.total_kept-requires
total_kept-requires c =
    extents-held _ _ _ _ _ _ _ (sym c.lists_kept.ensures ∙ c.if-not-lists_kept.false) (sym c.places_kept.ensures ∙ c.if-not-places_kept.false)

pub returns-then-not-total_kept : goal.returns-then-not-total_kept
returns-then-not-total_kept c =
    total-stops (entry-five _ _ _ _ _ _) (sym c.marks_kept.ensures ∙ c.if-not-marks_kept.false)
    (sym c.lists_kept.ensures ∙ c.if-not-lists_kept.false) (sym c.allows.ensures ∙ c.if-not-allows.false)
    (sym c.places_kept.ensures ∙ c.if-not-places_kept.false) (sym c.total_kept.ensures ∙ c.if-not-total_kept.true)

pub returns : goal.returns
returns c =
    all-kept (entry-five _ _ _ _ _ _) (sym c.marks_kept.ensures ∙ c.if-not-marks_kept.false)
    (sym c.lists_kept.ensures ∙ c.if-not-lists_kept.false) (sym c.allows.ensures ∙ c.if-not-allows.false)
    (sym c.places_kept.ensures ∙ c.if-not-places_kept.false) (sym c.total_kept.ensures ∙ c.if-not-total_kept.false)
