use Rattle.std.proofs.Common.{arith, refl}
use Rattle.irreducible.specs.Span.{combination}
use Rattle.irreducible.specs.BitMatrix.{rows_of}
use Rattle.irreducible.proofs.KernelLemmas.{no_solution, solution, least_solution}
use Rattle.irreducible.proofs.bit_matrix.BitMatrix.solve.Goals as goal

pub returns-then-step-ne0-clause-found : goal.returns-then-step-ne0-clause-found
returns-then-step-ne0-clause-found c =
    let p = c.eliminated-pivots in let step = c.reduced-step.result in
    (λ h. cc, λ there. absurd (no_solution (rows_of c.args.self.now) p.result.sums p.result.choices p.result.vectors p.result.rank p.ensures.rank p.ensures.choices (omega arith) p.ensures.kernel c.args.w step.left step.used c.reduced-step.ensures (omega arith) c.if-step-ne0.true there))

pub returns-clause-found : goal.returns-clause-found
returns-clause-found c =
    let p = c.eliminated-pivots in let step = c.reduced-step.result in (
      λ h. record {
        choice = combination p.result.choices step.used;
        is = solution (rows_of c.args.self.now) p.result.sums p.result.choices p.result.vectors p.result.rank p.ensures.rank p.ensures.choices (omega arith) p.ensures.kernel c.args.w step.left step.used c.reduced-step.ensures (omega arith);
      },
      λ there. refl,
    )

pub returns-clause-least : goal.returns-clause-least
returns-clause-least c =
    let p = c.eliminated-pivots in let step = c.reduced-step.result in
    least_solution (rows_of c.args.self.now) p.result.sums p.result.choices p.result.vectors p.result.rank p.ensures.rank p.ensures.choices (omega arith) p.ensures.kernel c.args.w step.left step.used c.reduced-step.ensures (omega arith)
    c.reduced.result.left c.reduced.result.used (rw (c.combined-found.ensures) at c.reduced.ensures)
