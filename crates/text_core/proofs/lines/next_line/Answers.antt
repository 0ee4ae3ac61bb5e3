use Rattle.std.proofs.Common.{◌≡◌, ◌+◌, length, ◌<◌, ℕ, arith, get_or}
use Rattle.std.proofs.Math.ListN.{drop_of_length-le}
use Rattle.text_core.proofs.LineLemmas.{lines_at, lines_last, rest_of}
use Rattle.text_core.proofs.lines.next_line.Goals as goal

pub returns-then-end-text-clause-lines : goal.returns-then-end-text-clause-lines
returns-then-end-text-clause-lines c =
    rw (rest_of c.args.text.now (c.line_end-end.result + 1), c.without_return.ensures) (lines_at c.args.text.now c.line_end-end.result c.line_end-end.ensures.before c.if-end-text.true (c.line_end-end.ensures.found c.if-end-text.true))

pub returns-else-end-text-clause-lines : goal.returns-else-end-text-clause-lines
returns-else-end-text-clause-lines c =
    let before : (k : ℕ) → k < length c.args.text.now → get_or c.args.text.now k 0 ≡ 10 → ⊥ = λ k less. c.line_end-end.ensures.before k (omega (arith, c.if-end-text.false)) in
    rw (rest_of c.args.text.now c.line_end-end.result, drop_of_length-le c.args.text.now c.if-end-text.false) (lines_last c.args.text.now c.requires before)
