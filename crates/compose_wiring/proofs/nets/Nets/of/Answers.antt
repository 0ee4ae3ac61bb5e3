use Rattle.compose_wiring.proofs.StepLemmas.{pushed}
use Rattle.compose_wiring.proofs.nets.Nets.of.Goals as goal

pub loop-place-preserved : goal.loop-place-preserved
loop-place-preserved c = pushed c.args.names.now c.loop-place.place c.net_at.result.now c.loop-place.nets c.push.new.self c.net_at.ensures c.loop-place.invariant c.in_ok-push.ensures
