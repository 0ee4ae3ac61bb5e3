use Rattle.gf_abs.proofs.RefusalLemmas.{stage_of}
use Rattle.gf_abs.proofs.refusals.status_3_is_of_a_stage.Goals as goal

pub returns : goal.returns
returns c = stage_of
