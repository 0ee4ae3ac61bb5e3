use Rattle.std.proofs.Common.{subst, sym, ℕ}
use Rattle.std.specs.Prelude.{IfOk, IfSome}
use Rattle.outcome.specs.Outcome.{Fits}
use Rattle.net_core.specs.NetList.{NetList}
use Rattle.cert_check.specs.Certificate.{LineOf}
use Rattle.cert_check.specs.Fault.{line_refusal}
use Rattle.cert_check.specs.private.Reading.{said_in, IsLine, AreDrivers}
use Rattle.cert_check.proofs.checking.line_said.Goals as goal

pub returns-clause-value : goal.returns-clause-value
returns-clause-value g c shared long =
    let P : ℕ → Type 0 = λ d. Fits line_refusal (said_in shared) c.read_line.result (LineOf d c.args.circuit.now.net c.args.labels.now c.args.version shared c.args.line.now) in
    let Q : NetList → Type 0 = λ n. Fits line_refusal (said_in shared) c.read_line.result (LineOf c.k-k.result n c.args.labels.now c.args.version shared c.args.line.now) in
    subst P c.k-k.ensures (subst Q c.net-net.ensures.net (c.read_line.ensures.value shared long))

pub returns-clause-is : goal.returns-clause-is
returns-clause-is g c =
    let P : ℕ → Type 0 = λ d. IfOk c.read_line.result (λ said. IfSome said (IsLine d c.args.circuit.now.net c.args.labels.now c.args.count)) in
    let Q : NetList → Type 0 = λ n. IfOk c.read_line.result (λ said. IfSome said (IsLine c.k-k.result n c.args.labels.now c.args.count)) in
    subst P c.k-k.ensures (subst Q c.net-net.ensures.net c.read_line.ensures.is)

pub read_line-requires-clause-drivers : goal.read_line-requires-clause-drivers
read_line-requires-clause-drivers g c = let P : NetList → Type 0 = λ n. AreDrivers n c.args.drivers.now in subst P (sym c.net-net.ensures.net) c.requires
