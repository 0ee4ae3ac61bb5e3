use Rattle.std.proofs.Common.{rules, ◌≡◌, ◌⊎◌, ◌∙◌, true, false, arith, Err}
use Rattle.std.specs.Str.Lines.{lines}
use Rattle.net_aiger.specs.private.Run.{ends, lines_read}
use Rattle.net_aiger.specs.declared.fault.AigerFault.TheVariants.{OutOfMemory}
use Rattle.net_aiger.proofs.ReadLemmas.{end_complete, ended, one_read, refused_lines}
use Rattle.net_aiger.proofs.read.read_lines.Goals as goal

pub returns-then-ends-clause-made : goal.returns-then-ends-clause-made
returns-then-ends-clause-made c =
    let end : ends c.next_line.result.0.now c.loop-rest.reader ≡ true = search rules in
    c.loop-rest.invariant.same ∙ ended c.loop-rest.number (lines c.loop-rest.rest.now) (lines c.next_line.result.1.now) c.next_line.result.0.now c.loop-rest.reader c.next_line.ensures.lines end

pub returns-then-ends-clause-complete : goal.returns-then-ends-clause-complete
returns-then-ends-clause-complete c =
    let end : ends c.next_line.result.0.now c.loop-rest.reader ≡ true = search rules in
    end_complete c.next_line.result.0.now c.loop-rest.reader end

pub returns-in_err-read_line-clause-fault : goal.returns-in_err-read_line-clause-fault
returns-in_err-read_line-clause-fault c =
    let further : ends c.next_line.result.0.now c.loop-rest.reader ≡ false = search rules in
    let fault : (c.in_err-read_line.field-0.0 ≡ OutOfMemory) ⊎ (lines_read 2 (lines c.args.text.now) c.args.reader.now ≡ Err c.in_err-read_line.field-0.0) =
    refused_lines c.loop-rest.number (lines c.loop-rest.rest.now) (lines c.next_line.result.1.now) c.next_line.result.0.now c.loop-rest.reader c.next_line.ensures.lines _ c.in_err-read_line.field-0.0 c.loop-rest.invariant.same further c.in_err-read_line.ensures in
    search rules

pub loop-rest-preserved : goal.loop-rest-preserved
loop-rest-preserved c =
    let further : ends c.next_line.result.0.now c.loop-rest.reader ≡ false = search rules in
    record {
      few = omega (arith, c.loop-rest.invariant.few, c.next_line.ensures.shorter);
      same = c.loop-rest.invariant.same ∙ one_read c.loop-rest.number (lines c.loop-rest.rest.now) (lines c.next_line.result.1.now) c.next_line.result.0.now c.loop-rest.reader c.next_line.ensures.lines c.read_line.new.self further c.in_ok-read_line.ensures;
    }
