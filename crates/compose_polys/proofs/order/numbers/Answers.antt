use Rattle.std.proofs.Common.{◌∙◌, ap, add-one, ℕ, List, [], ◌∷◌, ◌++◌}
use Rattle.compose_polys.proofs.order.numbers.Goals as goal

pub loop-number-preserved : goal.loop-number-preserved
loop-number-preserved c = rw add-one (c.in_ok-push.ensures.items ∙ ap (λ (numbers : List ℕ). numbers ++ c.loop-number.number ∷ []) c.loop-number.invariant)
