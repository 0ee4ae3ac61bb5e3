use Rattle.std.proofs.Common.{rules, ◌≡◌, ◌⊎◌, Ok, Err}
use Rattle.std.specs.Str.Lines.{lines}
use Rattle.net_aiger.specs.Sections.{Text}
use Rattle.net_aiger.specs.declared.fault.AigerFault.TheVariants.{OutOfMemory}
use Rattle.net_aiger.proofs.ReadLemmas.{header_refused, text_made, text_refused}
use Rattle.net_aiger.proofs.read.read_text.Goals as goal

pub returns-in_err-header-clause-fault : goal.returns-in_err-header-clause-fault
returns-in_err-header-clause-fault c =
    let fault : (c.in_err-header.field-0.0 ≡ OutOfMemory) ⊎ Text (lines c.args.text.now) (Err c.in_err-header.field-0.0) =
    header_refused c.args.text.now c.next_line.result.0.now (lines c.next_line.result.1.now) c.in_err-header.field-0.0 c.next_line.ensures.lines c.in_err-header.ensures.fault in
    search rules

pub returns-in-Ok-clause-made : goal.returns-in-Ok-clause-made
returns-in-Ok-clause-made c =
    text_made c.args.text.now c.next_line.result.0.now (lines c.next_line.result.1.now) c.in_ok-header.header (Ok c.read_lines.new.reader) c.next_line.ensures.lines c.in_ok-header.ensures.made (rw c.new-reader.ensures at c.in-Ok.ensures.made)

pub returns-in-Err-clause-fault : goal.returns-in-Err-clause-fault
returns-in-Err-clause-fault c =
    text_refused c.args.text.now c.next_line.result.0.now (lines c.next_line.result.1.now) c.in_ok-header.header c.in-Err.fault c.next_line.ensures.lines c.in_ok-header.ensures.made (rw c.new-reader.ensures at c.in-Err.ensures.fault)
