use Rattle.stage_model.proofs.CutLemmas.{one_cut_of, wordless_cut}
use Rattle.stage_model.proofs.SizeLemmas.{wordless_stage}
use Rattle.stage_model.specs.Cut.{IsCut}
use Rattle.stage_model.proofs.laws.cuts_in_bits.Goals as goal

pub returns : goal.returns
returns c = λ field net variables output sound t ts is. wordless_stage field.k field.product field.ring field.no_zero_divisors (IsCut net variables output t) (λ p x y at first second. one_cut_of net sound variables output t p x y first second) ts is (λ p x at cut. wordless_cut net variables output t p x cut)
