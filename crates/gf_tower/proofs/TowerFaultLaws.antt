-- A list of coefficients has at most one fault.
use Rattle.std.proofs.Common.{refl, ap}
use Rattle.gf_field.proofs.FirstOutsideLemmas.{first_unique}
use Rattle.gf_tower.specs.TowerFault.{HasOneTowerFault}
use Rattle.gf_tower.specs.declared.towers.TowerFault.TheVariants.{BadLength, BadCoefficient}

pub one_tower_fault : HasOneTowerFault
one_tower_fault n cs BadLength BadLength a b = refl
one_tower_fault n cs BadLength (BadCoefficient q) a b = absurd (a b.0)
one_tower_fault n cs (BadCoefficient p) BadLength a b = absurd (b a.0)
one_tower_fault n cs (BadCoefficient p) (BadCoefficient q) a b = ap (λ place. BadCoefficient place) (first_unique n cs p q a.1 b.1)
