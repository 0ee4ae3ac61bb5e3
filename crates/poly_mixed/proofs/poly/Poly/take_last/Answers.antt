use Rattle.std.proofs.Common.{◌-◌, length, Option, Some, None, refl, subst, IfNone}
use Rattle.poly_mixed.specs.Cofactor.{LacksBit}
use Rattle.poly_mixed.specs.Polynomial.{Polynomial}
use Rattle.poly_mixed.specs.private.Indexed.{IsTaken, terms_in}
use Rattle.poly_mixed.proofs.PlaceLemmas.{lacks_bit, none_last, has_place, last_has, taken, taken_indexed}
use Rattle.poly_mixed.proofs.poly.Poly.take_last.Goals as goal

if_none : {A : Type 0} {P : Type 0} (o : Option A) → P → IfNone o P
if_none None p = p
if_none (Some x) p = tt

pub returns-in_err-slot-clause-none : goal.returns-in_err-slot-clause-none
returns-in_err-slot-clause-none c =
    let P : Polynomial → Type 0 = λ p. LacksBit c.args.bit p.terms in
    if_none c.from_residual.result (
      subst P c.self.view_is (lacks_bit c.self.inside.map.entries c.self.inside.index c.self.invariant c.args.bit c.of.result.now c.of.ensures (none_last c.of.result.now c.in_err-slot.ensures.value)),
      refl,
    )

pub invariant_of-self-in_err-place : goal.invariant_of-self-in_err-place
invariant_of-self-in_err-place c = has_place c.self.inside.map.entries c.self.inside.index c.self.invariant c.in_ok-slot.field-0.now c.in_ok-mono.mono c.in_ok-mono.ensures.value c.in_err-place.ensures.value

pub returns-in_err-place-clause-none : goal.returns-in_err-place-clause-none
returns-in_err-place-clause-none c = has_place c.self.inside.map.entries c.self.inside.index c.self.invariant c.in_ok-slot.field-0.now c.in_ok-mono.mono c.in_ok-mono.ensures.value c.in_err-place.ensures.value

pub invariant_of-self-2 : goal.invariant_of-self-2
invariant_of-self-2 c =
    taken_indexed c.self.inside.map.entries c.remove.new.self.entries c.self.inside.index c.take.new.self c.in_ok-mono.mono c.in_ok-slot.field-0.now c.in_ok-place.place c.self.invariant
    c.in_ok-mono.ensures.value c.in_ok-mono.ensures.left c.in_ok-place.ensures.value c.in_ok-place.ensures.entries c.in_ok-place.ensures.updates.0

pub returns-clause-taken : goal.returns-clause-taken
returns-clause-taken c =
    let P : Polynomial → Type 0 = λ p. IsTaken p.terms (c.in_ok-mono.mono, c.in_ok-place.place.coefficient) (terms_in c.remove.new.self.entries) in (
      subst P c.self.view_is (taken c.self.inside.map.entries c.remove.new.self.entries c.self.inside.index c.take.new.self c.in_ok-mono.mono c.in_ok-slot.field-0.now c.in_ok-place.place c.self.invariant c.in_ok-place.ensures.value c.in_ok-place.ensures.entries),
      last_has c.self.inside.map.entries c.self.inside.index c.self.invariant c.args.bit c.in_ok-slot.field-0.now (length c.of.result.now - 1) c.of.result.now c.in_ok-mono.mono c.of.ensures c.in_ok-slot.ensures.value c.in_ok-mono.ensures.value,
    )
