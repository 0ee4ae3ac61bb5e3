use Rattle.stage_model.proofs.CutLemmas.{one_cut_of}
use Rattle.stage_model.proofs.SizeLemmas.{same_size}
use Rattle.stage_model.specs.Cut.{IsCut}
use Rattle.stage_model.proofs.laws.one_size_a_cut.Goals as goal

pub returns : goal.returns
returns c = λ field net variables output sound t m n a b. same_size field.k field.product field.ring field.no_zero_divisors (IsCut net variables output t) (λ p x y at first second. one_cut_of net sound variables output t p x y first second) m n a b
