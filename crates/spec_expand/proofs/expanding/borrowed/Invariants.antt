use Rattle.std.proofs.Common.{◌≡◌, map, take}
use Rattle.spec_expand.proofs.expanding.borrowed.Given as goal

abbrev pub invariant-loop-i : goal.invariant-loop-i
invariant-loop-i l = map (λ f. f.now.terms) l.list.items ≡ map (λ q. q.terms) (take l.i l.polys)
