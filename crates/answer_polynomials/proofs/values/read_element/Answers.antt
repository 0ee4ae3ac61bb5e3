use Rattle.std.proofs.Common.{sym, subst, ℕ, List, arith}
use Rattle.text_core.specs.Numbers.{IsHex}
use Rattle.answer_polynomials.proofs.values.read_element.Goals as goal

pub returns-in-None-clause-none : goal.returns-in-None-clause-none
returns-in-None-clause-none g c = λ x hex less.
    let P : List ℕ → Type 0 = λ bytes. IsHex bytes x in
    c.in-None.ensures.none x (subst P (sym c.as_bytes.ensures.value) hex) (omega (arith, less, c.greatest.ensures.is))
