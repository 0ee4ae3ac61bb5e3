use Rattle.std.proofs.Common.{map}
use Rattle.compose_polys.specs.Instances.{AreDone}
use Rattle.compose_polys.proofs.instances.instance_polys.Given as goal

abbrev pub invariant-loop-m : goal.invariant-loop-m
invariant-loop-m g l = AreDone (g.F.Ring.degree l.field) (g.F.Ring.product l.field) (map (λ q. q.terms) l.words) (map (λ f. f.now.terms) l.blocks) (map (λ row. row.items) l.rows) l.bound l.order l.m (map (λ q. q.terms) l.polys.items)
