-- `theorem_two_orders::two_orders` meets its contract: what the two calls leave, by the law of two segments of one meaning.
use Rattle.theorem_two_orders.proofs.OneTidyForm.{one_form}
use Rattle.theorem_two_orders.proofs.two_orders.Goals as goal

pub returns : goal.returns
returns c =
    one_form _ _ c.segments-pair.ensures.0 c.segments-pair.ensures.1 _ _ _ _ _ c.tidy_by-first.ensures c.tidy_by-second.ensures
