use Rattle.gf_abs.proofs.OtherRefusalLemmas.{trial_in_order}
use Rattle.gf_abs.proofs.refusals.trial_is_refused_in_order.Goals as goal

pub returns : goal.returns
returns c = λ held words number modulus bound spelled. trial_in_order number modulus bound held words spelled
