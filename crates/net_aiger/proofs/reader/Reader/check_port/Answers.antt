use Rattle.std.proofs.Common.{rules, ◌≡◌, ◌⊎◌, ◌∙◌, drop, sym, Err}
use Rattle.net_aiger.specs.Checks.{apart}
use Rattle.net_aiger.specs.declared.fault.AigerFault.TheVariants.{OutOfMemory}
use Rattle.net_aiger.proofs.AloneLemmas.{grown_alone, later_alone, looked_at, passed_over, port_refused}
use Rattle.net_aiger.proofs.SharedLemmas.{alone_with}
use Rattle.net_aiger.proofs.reader.Reader.check_port.Goals as goal

pub returns-then-lacks-clause-made : goal.returns-then-lacks-clause-made
returns-then-lacks-clause-made c =
    let alone = alone_with c.args.self.now c.args.shared.now c.requires.shared c.args.port c.ranges.port.fits (sym c.lacks.ensures ∙ c.if-lacks.true) in
    passed_over c.args.self.now c.args.port c.args.names.now c.args.ports.now c.requires.place c.requires.few alone c.requires.none

pub returns-then-lacks-clause-none : goal.returns-then-lacks-clause-none
returns-then-lacks-clause-none c = later_alone c.args.self.now c.args.port c.args.names.now c.requires.none

pub returns-in_err-check_name-clause-fault : goal.returns-in_err-check_name-clause-fault
returns-in_err-check_name-clause-fault c =
    let fault : (c.in_err-check_name.field-0.0 ≡ OutOfMemory) ⊎ (apart c.args.self.now c.args.port c.args.names.now (drop c.args.port c.args.ports.now) ≡ Err c.in_err-check_name.field-0.0) =
    port_refused c.args.self.now c.args.port c.args.names.now c.args.ports.now c.in_err-check_name.field-0.0 c.requires.place c.in_err-check_name.ensures.fault in
    search rules

pub returns-clause-made : goal.returns-clause-made
returns-clause-made c = looked_at c.args.self.now c.args.port c.args.names.now c.check_name.new.names c.args.ports.now c.requires.place c.in_ok-check_name.ensures.made

pub returns-clause-none : goal.returns-clause-none
returns-clause-none c = grown_alone c.args.self.now c.args.port c.args.names.now c.check_name.new.names c.ranges.port.fits c.requires.none c.in_ok-check_name.ensures.grows
