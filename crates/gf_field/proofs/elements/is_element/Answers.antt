use Rattle.gf_field.proofs.ShiftLemmas.{below_from_shift, shift_from_below}
use Rattle.gf_field.proofs.elements.is_element.Goals as goal

pub returns-else-k-ge64 : goal.returns-else-k-ge64
returns-else-k-ge64 g c = rw (c.k-k.ensures) (below_from_shift _ c.args.a, shift_from_below _ c.args.a)
