use Rattle.std.proofs.Common.{rules, ◌≡◌, ◌⊎◌, ◌∙◌, arith, Err}
use Rattle.std.proofs.lemmas.List.{at_drop_all}
use Rattle.net_aiger.specs.Checks.{apart}
use Rattle.net_aiger.specs.declared.fault.AigerFault.TheVariants.{OutOfMemory}
use Rattle.net_aiger.proofs.AloneLemmas.{later_refused}
use Rattle.net_aiger.proofs.checks.check_ports.Goals as goal

pub loop-port-preserved : goal.loop-port-preserved
loop-port-preserved c = record { same = c.loop-port.invariant.same ∙ c.in_ok-check_port.ensures.made; none = c.in_ok-check_port.ensures.none }

pub returns-in_err-check_port-clause-fault : goal.returns-in_err-check_port-clause-fault
returns-in_err-check_port-clause-fault c =
    let fault : (c.in_err-check_port.field-0.0 ≡ OutOfMemory) ⊎ (apart c.args.reader.now 0 c.args.names.now c.args.ports.now ≡ Err c.in_err-check_port.field-0.0) =
    later_refused _ _ c.in_err-check_port.field-0.0 c.loop-port.invariant.same c.in_err-check_port.ensures.fault in
    search rules

pub returns-clause-made : goal.returns-clause-made
returns-clause-made c = c.loop-port.invariant.same ∙ at_drop_all (apart c.args.reader.now c.loop-port.port c.loop-port.names) c.args.ports.now c.loop-port.port (omega (arith, c.loop-port-test.false))
