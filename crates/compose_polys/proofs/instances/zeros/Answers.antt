use Rattle.std.proofs.Common.{◌∙◌, ap, add-one, List, [], ◌∷◌, ◌++◌, map, replicate}
use Rattle.lists.specs.laws.ListLaws.{replicate_more}
use Rattle.poly_mixed.specs.Polynomial.{Terms}
use Rattle.compose_polys.proofs.FeedLemmas.{mapped_more}
use Rattle.compose_polys.proofs.instances.zeros.Goals as goal

pub loop-preserved : goal.loop-preserved
loop-preserved c =
    rw add-one
    (ap (map (λ q. q.terms)) c.in_ok-push.ensures.items
    ∙ (mapped_more (λ q. q.terms) c.loop.polys.items c.zero.result
    ∙ (ap (λ (polys : List Terms). polys ++ c.zero.result.terms ∷ []) c.loop.invariant
    ∙ (ap (λ (ts : Terms). replicate c.loop.counter [] ++ ts ∷ []) c.zero.ensures ∙ replicate_more [] c.loop.counter))))
