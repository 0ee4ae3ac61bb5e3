use Rattle.std.proofs.Common.{◌≡◌, ◌∙◌, ◌<◌, ap, sym, subst, ℕ, Some, None, Option, OnOk}
use lib.Bits.{xor_zero_r}
use Rattle.lists.specs.Lists.{Has}
use Rattle.net_core.specs.GateValue.{GateValue}
use Rattle.net_core.specs.NetList.{NetList, nets}
use Rattle.poly_mixed.specs.Polynomial.{value}
use Rattle.cert_check.specs.Driver.{driver}
use Rattle.cert_check.specs.Running.{driven_value}
use Rattle.cert_check.specs.private.Generators.{ranked}
use Rattle.cert_check.specs.private.Reading.{AreDrivers}
use Rattle.cert_check.specs.private.Units.{AddsValue}
use Rattle.cert_check.proofs.generator.add_driven.Goals as goal

pub driver-requires-clause-net : goal.driver-requires-clause-net
driver-requires-clause-net g c = let P : NetList → Type 0 = λ m. c.args.n < nets m in subst P (sym c.net.ensures.net) c.requires.net

pub driver-requires-clause-drivers : goal.driver-requires-clause-drivers
driver-requires-clause-drivers g c = let P : NetList → Type 0 = λ m. AreDrivers m c.args.drivers.now in subst P (sym c.net.ensures.net) c.requires.drivers

pub add_gate-requires-clause-gate : goal.add_gate-requires-clause-gate
add_gate-requires-clause-gate g c = let P : NetList → Type 0 = λ m. Has m.gates c.in-Some.gate.now in subst P c.net.ensures.net c.in-Some.ensures.among

pub returns-in-Some-clause-values : goal.returns-in-Some-clause-values
returns-in-Some-clause-values g c =
    let k : ℕ = g.F.Ring.degree c.args.field.now in
    let mul : ℕ → ℕ → ℕ = g.F.Ring.product c.args.field.now in
    let is : Some c.in-Some.gate.now ≡ driver c.args.circuit.now.net c.args.n = c.in-Some.ensures.gate ∙ ap (λ (m : NetList). driver m c.args.n) c.net.ensures.net in
    let P : Option GateValue → Type 0 = λ o. OnOk c.add_gate.result (AddsValue k mul (λ p. driven_value (ranked c.args.circuit.now) p o) c.args.sum.now.terms c.add_gate.new.sum.terms) in
    subst P is c.add_gate.ensures.values

pub returns-in-None-clause-values : goal.returns-in-None-clause-values
returns-in-None-clause-values g c =
    let k : ℕ = g.F.Ring.degree c.args.field.now in
    let mul : ℕ → ℕ → ℕ = g.F.Ring.product c.args.field.now in
    let is : ◌≡◌ {A = Option GateValue} None (driver c.args.circuit.now.net c.args.n) = c.in-None.ensures.gate ∙ ap (λ (m : NetList). driver m c.args.n) c.net.ensures.net in
    let P : Option GateValue → Type 0 = λ o. AddsValue k mul (λ p. driven_value (ranked c.args.circuit.now) p o) c.args.sum.now.terms c.args.sum.now.terms in
    subst P is (λ p at. sym (xor_zero_r (value mul p c.args.sum.now.terms)))
