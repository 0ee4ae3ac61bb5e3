use Rattle.std.proofs.Common.{List, ℕ, map, Bor}
use Rattle.compose_wiring.proofs.StepLemmas.{pushed}
use Rattle.compose_wiring.proofs.nets.copied.Goals as goal

pub loop-place-preserved : goal.loop-place-preserved
loop-place-preserved c =
    let f : Bor (List ℕ) → List ℕ = λ name. name.now in
    pushed (map f c.args.names.now) c.loop-place.place c.name_at.result.now c.loop-place.nets c.push.new.self c.name_at.ensures c.loop-place.invariant c.in_ok-push.ensures
