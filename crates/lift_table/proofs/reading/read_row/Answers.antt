use Rattle.std.proofs.Common.{◌∙◌, ap, inr, map, Bor, List, ℕ}
use Rattle.std.specs.Str.Lines.{lines}
use Rattle.lift_table.proofs.ReadingLemmas.{row_fault}
use Rattle.lift_table.proofs.reading.read_row.Goals as goal

pub returns-clause-fault : goal.returns-clause-fault
returns-clause-fault c =
    let f : Bor (List ℕ) → List ℕ = λ t. t.now in
    inr (row_fault c.args.k c.args.line (lines c.args.bytes.now) c.next_line.result.0.now (lines c.next_line.result.1.now) (map f c.as_slice.result.now) c.next_line.ensures.lines
    (ap (map f) c.as_slice.ensures.value ∙ c.in_ok-tokens.ensures) c.in-Err.fault c.in-Err.ensures)
