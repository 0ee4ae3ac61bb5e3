use Rattle.gf_abs.proofs.RefusalLemmas.{abstract_in_order}
use Rattle.gf_abs.proofs.refusals.abstract_is_refused_in_order.Goals as goal

pub returns : goal.returns
returns c = abstract_in_order
