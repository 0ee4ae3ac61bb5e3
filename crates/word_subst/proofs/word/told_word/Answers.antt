use Rattle.std.proofs.Common.{subst, ℕ, List}
use Rattle.std.specs.Prelude.{Option, IfSome}
use Rattle.std.specs.List.{AllByRecursion}
use Rattle.gf_basis.specs.BasisParts.{elements_of}
use Rattle.poly_mixed.specs.Polynomial.{Polynomial}
use Rattle.word_subst.specs.AtOnce.{IsReadAtOnce}
use Rattle.word_subst.specs.Whole.{HasFirst}
use Rattle.word_subst.proofs.word.told_word.Goals as goal

pub tell_firsts-requires-clause-firsts : goal.tell_firsts-requires-clause-firsts
tell_firsts-requires-clause-firsts g c =
    let O : Option Polynomial → Type 0 = λ o. IfSome o (λ _. AllByRecursion (HasFirst c.args.word (g.F.Ring.degree c.args.field.now)) c.args.terms.now) in
    subst O c.in-Some.is c.in_ok-poly.ensures.firsts

pub returns-in_ok-tell_firsts-in-Some-clause-read : goal.returns-in_ok-tell_firsts-in-Some-clause-read
returns-in_ok-tell_firsts-in-Some-clause-read g c =
    let k : ℕ = g.F.Ring.degree c.args.field.now in
    let mul : ℕ → ℕ → ℕ = g.F.Ring.product c.args.field.now in
    let els : List ℕ = elements_of c.args.basis.now in
    let O : Option Polynomial → Type 0 = λ o. IfSome o (λ q. IsReadAtOnce k mul els c.args.word c.args.terms.now c.args.bound q.terms) in
    let is : IsReadAtOnce k mul els c.args.word c.args.terms.now c.args.bound c.in-Some.poly.terms = subst O c.in-Some.is c.in_ok-poly.ensures.read in
    record { sum = is.sum; small = is.small; within = is.within; told = c.in_ok-tell_firsts-in-Some.ensures }

pub returns-in-None-clause-read : goal.returns-in-None-clause-read
returns-in-None-clause-read g c = c.term_by_term.ensures.read

pub returns-in-None-clause-fault : goal.returns-in-None-clause-fault
returns-in-None-clause-fault g c = c.term_by_term.ensures.fault
