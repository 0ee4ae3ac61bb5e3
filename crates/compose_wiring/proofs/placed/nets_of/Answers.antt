use Rattle.std.proofs.Common.{◌++◌, ◌∷◌, [], ◌∙◌, ap}
use Rattle.compose_model.specs.NamedWord.{NamedWord}
use Rattle.compose_wiring.specs.private.Names.{actuals_by}
use Rattle.compose_wiring.proofs.StepLemmas.{mapped_more}
use Rattle.compose_wiring.proofs.placed.nets_of.Goals as goal

pub loop-place-preserved : goal.loop-place-preserved
loop-place-preserved c =
    mapped_more (λ (word : NamedWord). actuals_by c.args.connections.now word.nets) c.args.words.now c.loop-place.place c.word_at.result.now c.loop-place.list.items c.push.new.self.items c.word_at.ensures c.loop-place.invariant
    (c.in_ok-push.ensures.items ∙ ap (λ x. c.loop-place.list.items ++ x ∷ []) (c.in_ok-nets.ensures ∙ ap (actuals_by c.args.connections.now) c.nets.ensures))
