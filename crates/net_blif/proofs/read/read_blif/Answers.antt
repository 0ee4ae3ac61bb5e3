use Rattle.std.proofs.Common.{rules, ◌≡◌, true}
use Rattle.net_blif.specs.Lines.{lines_of}
use Rattle.net_blif.specs.Models.{begins}
use Rattle.net_blif.specs.declared.fault.BlifFault.TheVariants.{OutOfMemory}
use Rattle.net_blif.proofs.RightLemmas.{read_right, read_some, read_wrong}
use Rattle.net_blif.proofs.read.read_blif.Goals as goal

pub new-requires : goal.new-requires
new-requires c =
    let dot : begins (lines_of c.args.bytes.now) ≡ true = search rules in
    read_some c.args.bytes.now c.read_lines.new.reader c.in_ok-models.models dot c.in_ok-read_lines.ensures.read c.in_ok-models.ensures

pub returns-in-Ok-clause-read : goal.returns-in-Ok-clause-read
returns-in-Ok-clause-read c =
    let dot : begins (lines_of c.args.bytes.now) ≡ true = search rules in
    read_right c.args.bytes.now c.read_lines.new.reader c.in_ok-models.models dot c.in_ok-read_lines.ensures.read c.in_ok-models.ensures c.in-Ok.design c.in-Ok.ensures.design c.in-Ok.ensures.right

pub returns-in-Err-clause-fault : goal.returns-in-Err-clause-fault
returns-in-Err-clause-fault c =
    let dot : begins (lines_of c.args.bytes.now) ≡ true = search rules in
    read_wrong c.args.bytes.now c.read_lines.new.reader c.in_ok-models.models dot c.in_ok-read_lines.ensures.read c.in_ok-models.ensures c.in-Err.fault OutOfMemory c.in-Err.ensures.fault
