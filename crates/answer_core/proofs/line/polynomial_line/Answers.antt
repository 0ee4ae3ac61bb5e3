use Rattle.answer_core.proofs.line.polynomial_line.Goals as goal

pub returns : goal.returns
returns c = rw (c.output.ensures, c.deref.ensures.value, c.in_ok-polynomial.ensures) at c.line_of.ensures
