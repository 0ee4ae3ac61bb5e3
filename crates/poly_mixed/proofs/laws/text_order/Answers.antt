use Rattle.poly_mixed.proofs.OrderLemmas.{text_by_exponents, IsWithin-from_ranks}
use Rattle.poly_mixed.proofs.laws.text_order.Goals as goal

pub returns : goal.returns
returns c = λ n x y l p q. text_by_exponents n x y l (IsWithin-from_ranks n x p) (IsWithin-from_ranks n y q)
