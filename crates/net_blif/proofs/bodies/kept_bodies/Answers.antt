use Rattle.std.proofs.Common.{inr}
use Rattle.std.proofs.lemmas.Result.{IfOk-weaker}
use Rattle.net_blif.proofs.bodies.kept_bodies.Goals as goal

pub returns : goal.returns
returns c = IfOk-weaker c.all_bodies.result _ _ (λ bodies are. inr are) c.all_bodies.ensures
