use Rattle.std.proofs.Common.{sym, subst, ◌∙◌, ap, ℕ}
use Rattle.std.specs.List.{AllByRecursion}
use Rattle.std.proofs.lemmas.Result.{on_ok_weaker}
use Rattle.poly_mixed.specs.Polynomial.{Terms, IsReduced, value}
use Rattle.poly_mixed.proofs.SimpleLemmas.{no_ranks_rise}
use Rattle.lift_table.specs.private.Lifting.{IsOfWords}
use Rattle.lift_table.proofs.LiftingLemmas.{added_terms, no_word_added, reduced_with, value_with, value_without}
use Rattle.lift_table.proofs.lifting.add_term.Goals as goal

pub returns-then-coefficient-eq0-clause-values : goal.returns-then-coefficient-eq0-clause-values
returns-then-coefficient-eq0-clause-values g c = λ p at.
    value_without (g.F.Ring.degree c.args._field.now) (g.F.Ring.product c.args._field.now) (g.met.F.Ring.laws c.args._field.now) (g.met.F.Field.no_zero_divisors c.args._field.now)
    c.args.exponents.now c.args.coefficient c.args.sum.now.terms c.if-coefficient-eq0.true p

pub new-requires : goal.new-requires
new-requires g c = no_ranks_rise

pub returns-clause-reduced : goal.returns-clause-reduced
returns-clause-reduced g c =
    let k = g.F.Ring.degree c.args._field.now in
    let P : Terms → Type 0 = IsReduced k in
    on_ok_weaker c.add_term.result (λ added.
    subst P (sym (added_terms c.args.exponents.now c.in_ok-mono.mono c.args.coefficient c.args.sum.now.terms c.add_term.new.self.terms c.in_ok-mono.ensures added))
    (reduced_with k (g.F.Ring.product c.args._field.now) (g.met.F.Ring.laws c.args._field.now) (g.met.F.Field.no_zero_divisors c.args._field.now) c.args.exponents.now c.args.coefficient c.args.sum.now.terms
    c.told-exponents c.requires.exponents c.requires.coefficient c.if-coefficient-eq0.false c.requires.sum)) c.add_term.ensures

pub returns-clause-values : goal.returns-clause-values
returns-clause-values g c =
    let k = g.F.Ring.degree c.args._field.now in
    let mul : ℕ → ℕ → ℕ = g.F.Ring.product c.args._field.now in
    on_ok_weaker c.add_term.result (λ added p at.
    ap (λ (ts : Terms). value mul p ts) (added_terms c.args.exponents.now c.in_ok-mono.mono c.args.coefficient c.args.sum.now.terms c.add_term.new.self.terms c.in_ok-mono.ensures added)
    ∙ value_with k mul (g.met.F.Ring.laws c.args._field.now) (g.met.F.Field.no_zero_divisors c.args._field.now) c.args.exponents.now c.args.coefficient c.args.sum.now.terms
    c.told-exponents c.requires.exponents c.requires.coefficient c.requires.sum p at) c.add_term.ensures

pub returns-clause-words : goal.returns-clause-words
returns-clause-words g c =
    on_ok_weaker c.add_term.result (λ added every zeros each.
    let P : Terms → Type 0 = λ ts. AllByRecursion (IsOfWords every) ts in
    subst P (sym (added_terms c.args.exponents.now c.in_ok-mono.mono c.args.coefficient c.args.sum.now.terms c.add_term.new.self.terms c.in_ok-mono.ensures added))
    (no_word_added every c.args.exponents.now c.args.coefficient c.args.sum.now.terms zeros each)) c.add_term.ensures
