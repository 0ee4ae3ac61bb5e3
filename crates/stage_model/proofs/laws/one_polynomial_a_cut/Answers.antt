use Rattle.stage_model.proofs.CutLemmas.{one_cut_of}
use Rattle.stage_model.proofs.SizeLemmas.{same_terms}
use Rattle.stage_model.specs.Cut.{IsCut}
use Rattle.stage_model.proofs.laws.one_polynomial_a_cut.Goals as goal

pub returns : goal.returns
returns c = λ field net variables output sound t ts us a b. same_terms field.k field.product field.ring field.no_zero_divisors (IsCut net variables output t) (λ p x y at first second. one_cut_of net sound variables output t p x y first second) ts us a b
