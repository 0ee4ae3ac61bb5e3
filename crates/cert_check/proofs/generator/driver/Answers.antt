use Rattle.std.proofs.Common.{◌≡◌, ◌∙◌, ap, sym, ℕ, List, Option, Some, None, option_and_then, arith}
use Rattle.std.specs.Prelude.{slice_get}
use Rattle.net_core.specs.GateValue.{GateValue}
use Rattle.cert_check.specs.Driver.{driver_position}
use Rattle.cert_check.proofs.NotedLemmas.{looked_up, looked_among}
use Rattle.cert_check.proofs.generator.driver.Goals as goal

pub bounds-drivers-n : goal.bounds-drivers-n
bounds-drivers-n c = omega (arith, c.requires.net, c.requires.drivers.long)

pub returns-in-Some-clause-gate : goal.returns-in-Some-clause-gate
returns-in-Some-clause-gate c =
    let gates : List GateValue = c.args.net.now.gates in
    let position : ◌≡◌ {A = Option ℕ} (Some c.in-Some.position) (driver_position c.args.net.now c.args.n) = sym c.in-Some.is ∙ c.requires.drivers.each c.args.n c.requires.net in
    looked_up c.gates.result.now c.in-Some.position c.get.result c.get.ensures.lookup
    ∙ (ap (λ (gs : List GateValue). slice_get gs c.in-Some.position) c.gates.ensures.gates
    ∙ ap (λ (o : Option ℕ). option_and_then (slice_get gates) o) position)

pub returns-in-Some-clause-among : goal.returns-in-Some-clause-among
returns-in-Some-clause-among c = looked_among c.gates.result.now c.args.net.now.gates c.in-Some.position c.get.result c.gates.ensures.gates c.get.ensures.lookup

pub returns-in-None-clause-gate : goal.returns-in-None-clause-gate
returns-in-None-clause-gate c =
    let position : ◌≡◌ {A = Option ℕ} None (driver_position c.args.net.now c.args.n) = sym c.in-None.is ∙ c.requires.drivers.each c.args.n c.requires.net in
    ap (λ (o : Option ℕ). option_and_then (slice_get c.args.net.now.gates) o) position
