use Rattle.std.proofs.Common.{subst, ℕ, List}
use Rattle.std.specs.Prelude.{Option, IfSome}
use Rattle.gf_basis.specs.BasisParts.{elements_of}
use Rattle.poly_mixed.specs.Polynomial.{Polynomial}
use Rattle.word_subst.specs.private.Reading.{IsWordRead}
use Rattle.word_subst.proofs.word.one_word.Goals as goal

pub returns-in-Some-clause-read : goal.returns-in-Some-clause-read
returns-in-Some-clause-read g c =
    let k : ℕ = g.F.Ring.degree c.args.field.now in
    let mul : ℕ → ℕ → ℕ = g.F.Ring.product c.args.field.now in
    let els : List ℕ = elements_of c.args.basis.now in
    let O : Option Polynomial → Type 0 = λ o. IfSome o (λ q. IsWordRead k mul els c.args.word c.args.terms.now c.args.bound (g.T.Steps.steps c.args.steps.now) (g.T.Steps.steps c.args.steps.now) q.terms) in
    subst O c.in-Some.is c.in_ok-poly.ensures

pub returns-in-None-clause-read : goal.returns-in-None-clause-read
returns-in-None-clause-read g c = c.told_word.ensures.read

pub returns-in-None-clause-fault : goal.returns-in-None-clause-fault
returns-in-None-clause-fault g c = c.told_word.ensures.fault
