use Rattle.gf_abs.proofs.RefusalLemmas.{certify_in_order}
use Rattle.gf_abs.proofs.refusals.certify_is_refused_in_order.Goals as goal

pub returns : goal.returns
returns c = certify_in_order
