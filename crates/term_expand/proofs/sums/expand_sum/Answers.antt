use Rattle.std.proofs.Common.{rules, ◌≡◌, ◌∙◌, ◌<◌, ◌≤◌, ◌+◌, sym, ap, subst, ℕ, List, Some, length, map, arith}
use Rattle.std.specs.Prelude.{slice_get}
use Rattle.lists.specs.laws.ReadLaws.{got_read, all_at}
use Rattle.poly_mixed.specs.Polynomial.{Point, Terms}
use Rattle.term_expand.specs.declared.stage.SumFault.{SumFault}
use Rattle.term_expand.specs.declared.stage.SumFault.TheVariants.{TooManyTerms}
use Rattle.term_expand.specs.declared.stage.SumStage.TheVariants.{TermSum}
use Rattle.term_expand.specs.Sums.{SumOfProducts, IsFedTerm}
use Rattle.term_expand.specs.Feeds.{feed_values}
use Rattle.term_expand.specs.SumListing.{IsSumOver}
use Rattle.term_expand.proofs.Summed.{IsSummed}
use Rattle.term_expand.proofs.StageLemmas.{all_summed, all_within, nothing_summed, small_exponents, sum_refused, summed_more, term_refused}
use Rattle.term_expand.proofs.sums.expand_sum.Goals as goal

pub loop-s-init : goal.loop-s-init
loop-s-init g c =
    let k : ℕ = g.F.Ring.degree c.args.field.now in
    let mul : ℕ → ℕ → ℕ = g.F.Ring.product c.args.field.now in
    let ring = g.met.F.Ring.laws c.args.field.now in
    let free = g.met.F.Field.no_zero_divisors c.args.field.now in
    let feeds : Point → List ℕ = feed_values mul (map (λ f. f.now.terms) c.args.feeds.now) in
    let P : Terms → Type 0 = λ ts. IsSummed k mul feeds c.args.terms.now c.args.bound 0 ts in
    subst P (sym c.zero-sum.ensures) (nothing_summed k mul feeds ring free c.args.terms.now c.args.bound)

pub one_term-requires-clause-term : goal.one_term-requires-clause-term
one_term-requires-clause-term g c =
    let k : ℕ = g.F.Ring.degree c.args.field.now in
    let sum : SumOfProducts = c.args.terms.now in
    let s : ℕ = c.loop-s.s in
    let t : ℕ × List (ℕ × ℕ) = c.index-terms-s.result in
    let at : slice_get sum s ≡ Some t = got_read sum s t c.loop-s-test.true c.index-terms-s.is in
    all_at (IsFedTerm k (length c.args.feeds.now)) sum s t c.requires.terms at

pub returns-in_err-product-clause-fault : goal.returns-in_err-product-clause-fault
returns-in_err-product-clause-fault g c =
    let k : ℕ = g.F.Ring.degree c.args.field.now in
    let mul : ℕ → ℕ → ℕ = g.F.Ring.product c.args.field.now in
    let ring = g.met.F.Ring.laws c.args.field.now in
    let free = g.met.F.Field.no_zero_divisors c.args.field.now in
    let feeds : Point → List ℕ = feed_values mul (map (λ f. f.now.terms) c.args.feeds.now) in
    let sum : SumOfProducts = c.args.terms.now in
    let s : ℕ = c.loop-s.s in
    let t : ℕ × List (ℕ × ℕ) = c.index-terms-s.result in
    let at : slice_get sum s ≡ Some t = got_read sum s t c.loop-s-test.true c.index-terms-s.is in
    let fault : IsSumOver k mul feeds sum c.args.bound c.in_err-product.field-0.0 =
    term_refused k mul feeds ring free sum c.args.bound s t c.loop-s.sum.terms c.in_err-product.field-0.0 at c.loop-s.invariant c.in_err-product.ensures.fault in
    search rules

pub returns-in_err-check_stage-clause-fault : goal.returns-in_err-check_stage-clause-fault
returns-in_err-check_stage-clause-fault g c =
    let k : ℕ = g.F.Ring.degree c.args.field.now in
    let mul : ℕ → ℕ → ℕ = g.F.Ring.product c.args.field.now in
    let ring = g.met.F.Ring.laws c.args.field.now in
    let free = g.met.F.Field.no_zero_divisors c.args.field.now in
    let feeds : Point → List ℕ = feed_values mul (map (λ f. f.now.terms) c.args.feeds.now) in
    let sum : SumOfProducts = c.args.terms.now in
    let s : ℕ = c.loop-s.s in
    let t : ℕ × List (ℕ × ℕ) = c.index-terms-s.result in
    let at : slice_get sum s ≡ Some t = got_read sum s t c.loop-s-test.true c.index-terms-s.is in
    let small = small_exponents k (length c.args.feeds.now) t (all_at (IsFedTerm k (length c.args.feeds.now)) sum s t c.requires.terms at) in
    let new : Terms = c.add_into.new.self.terms in
    let over : c.args.bound < length new = omega (arith, c.in_err-check_stage.ensures.over.1, c.len.ensures) in
    let said = c.in_err-check_stage.ensures.over.0 ∙ ap (TooManyTerms (TermSum (s + 1))) c.len.ensures in
    let P : SumFault → Type 0 = λ f. IsSumOver k mul feeds sum c.args.bound f in
    let fault : IsSumOver k mul feeds sum c.args.bound c.in_err-check_stage.field-0.0 =
    subst P (sym said) (sum_refused k mul feeds ring free sum c.args.bound s t at small c.loop-s.sum.terms c.in_ok-product.product.terms new c.loop-s.invariant c.in_ok-product.ensures.reached c.in_ok-add_into.ensures.reduced c.in_ok-add_into.ensures.values over) in
    search rules

pub loop-s-preserved : goal.loop-s-preserved
loop-s-preserved g c =
    let k : ℕ = g.F.Ring.degree c.args.field.now in
    let mul : ℕ → ℕ → ℕ = g.F.Ring.product c.args.field.now in
    let ring = g.met.F.Ring.laws c.args.field.now in
    let free = g.met.F.Field.no_zero_divisors c.args.field.now in
    let feeds : Point → List ℕ = feed_values mul (map (λ f. f.now.terms) c.args.feeds.now) in
    let sum : SumOfProducts = c.args.terms.now in
    let s : ℕ = c.loop-s.s in
    let t : ℕ × List (ℕ × ℕ) = c.index-terms-s.result in
    let at : slice_get sum s ≡ Some t = got_read sum s t c.loop-s-test.true c.index-terms-s.is in
    let small = small_exponents k (length c.args.feeds.now) t (all_at (IsFedTerm k (length c.args.feeds.now)) sum s t c.requires.terms at) in
    let new : Terms = c.add_into.new.self.terms in
    let low : length new ≤ c.args.bound = omega (arith, c.in_ok-check_stage.ensures.within, c.len.ensures) in
    summed_more k mul feeds ring free sum c.args.bound s t at small c.loop-s.sum.terms c.in_ok-product.product.terms new c.loop-s.invariant c.in_ok-product.ensures.reached c.in_ok-add_into.ensures.reduced c.in_ok-add_into.ensures.values low

pub returns-clause-polynomial : goal.returns-clause-polynomial
returns-clause-polynomial g c =
    let k : ℕ = g.F.Ring.degree c.args.field.now in
    let mul : ℕ → ℕ → ℕ = g.F.Ring.product c.args.field.now in
    let ring = g.met.F.Ring.laws c.args.field.now in
    let free = g.met.F.Field.no_zero_divisors c.args.field.now in
    let feeds : Point → List ℕ = feed_values mul (map (λ f. f.now.terms) c.args.feeds.now) in
    let sum : SumOfProducts = c.args.terms.now in
    let last : length sum ≤ c.loop-s.s = omega (arith, c.loop-s-test.false) in
    all_summed k mul feeds ring free sum c.args.bound c.loop-s.s c.loop-s.sum.terms last c.loop-s.invariant

pub returns-clause-within : goal.returns-clause-within
returns-clause-within g c =
    let k : ℕ = g.F.Ring.degree c.args.field.now in
    let mul : ℕ → ℕ → ℕ = g.F.Ring.product c.args.field.now in
    let ring = g.met.F.Ring.laws c.args.field.now in
    let free = g.met.F.Field.no_zero_divisors c.args.field.now in
    let feeds : Point → List ℕ = feed_values mul (map (λ f. f.now.terms) c.args.feeds.now) in
    let sum : SumOfProducts = c.args.terms.now in
    let last : length sum ≤ c.loop-s.s = omega (arith, c.loop-s-test.false) in
    all_within k mul feeds ring free sum c.args.bound c.loop-s.s c.loop-s.sum.terms last c.loop-s.invariant
