use Rattle.std.proofs.Common.{rules, ◌≡◌, subst, ℕ, ◌≤◌, ◌^◌, Option, length, arith}
use Rattle.std.specs.Prelude.{IfSome}
use Rattle.std.specs.List.{AllByRecursion}
use Rattle.poly_mixed.specs.Monomial.{Monomial}
use Rattle.word_subst.specs.Rest.{rest_of}
use Rattle.word_subst.proofs.at_once.at_once.Goals as goal

pub one_rest-requires-clause-k : goal.one_rest-requires-clause-k
one_rest-requires-clause-k g c = omega (arith, c.k-2.ensures, (g.met.F.Ring.laws c.args.field.now).small)

pub read_all-requires-clause-rest : goal.read_all-requires-clause-rest
read_all-requires-clause-rest g c =
    let w : ℕ = c.args.word in
    let terms = c.args.terms.now in
    let O : Option Monomial → Type 0 = λ o. IfSome o (λ m. AllByRecursion (λ t. rest_of c.k-2.result w t.0 ≡ m) terms) in
    let here : AllByRecursion (λ t. rest_of c.k-2.result w t.0 ≡ c.in-Some.rest) terms = subst O c.in-Some.is c.in_ok-rest.ensures.rest in
    let N : ℕ → Type 0 = λ n. AllByRecursion (λ t. rest_of n w t.0 ≡ c.in-Some.rest) terms in
    subst N c.k-2.ensures here

pub read_all-requires-clause-some : goal.read_all-requires-clause-some
read_all-requires-clause-some g c =
    let O : Option Monomial → Type 0 = λ o. IfSome o (λ m. 1 ≤ length c.args.terms.now) in
    subst O c.in-Some.is c.in_ok-rest.ensures.some

pub read_all-requires-clause-wide : goal.read_all-requires-clause-wide
read_all-requires-clause-wide g c =
    let here : 2 ^ c.k.result ≤ c.args.bound = search rules in
    let N : ℕ → Type 0 = λ n. 2 ^ n ≤ c.args.bound in
    subst N c.k.ensures here

pub returns-in_ok-poly-in-Some : goal.returns-in_ok-poly-in-Some
returns-in_ok-poly-in-Some g c = c.in_ok-poly-in-Some.ensures
