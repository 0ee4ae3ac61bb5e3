use Rattle.std.proofs.Common.{rules, ◌≢◌, ◌≤◌, ◌<◌, ◌∙◌, ◌+◌, ◌/◌, ◌^◌, refl, ap, sym, subst, ℕ, List, length, map, arith}
use Rattle.std.proofs.lemmas.Option.{slice_get_within}
use Rattle.poly_mixed.specs.Polynomial.{Point}
use Rattle.term_expand.specs.declared.stage.SumFault.{SumFault}
use Rattle.term_expand.specs.declared.stage.SumFault.TheVariants.{TooManyTerms}
use Rattle.term_expand.specs.declared.stage.SumStage.TheVariants.{TermProduct}
use Rattle.term_expand.specs.SumValue.{factors_of}
use Rattle.term_expand.specs.Feeds.{feed_values}
use Rattle.term_expand.specs.private.Reached.{digits_left, IsTermRefusal}
use Rattle.term_expand.proofs.LeftLemmas.{after_left, digit_is_one, digit_is_zero, first_left}
use Rattle.term_expand.proofs.StageLemmas.{reached_more, product_refused}
use Rattle.term_expand.proofs.factors.one_digit.Goals as goal

pub mul-requires-clause-over : goal.mul-requires-clause-over
mul-requires-clause-over g c = c.requires.reached.is.reduced

pub mul-requires-clause-other_over : goal.mul-requires-clause-other_over
mul-requires-clause-other_over g c = let some : c.args.left ≢ 0 = omega (arith, c.if-left-eq1.true) in (c.requires.power some).reduced

pub overflow_add-factor : goal.overflow_add-factor
overflow_add-factor g c =
    let ps : List (ℕ × ℕ) = c.args._term.now.1 in
    let word : ℕ = c.args._word in
    let j : ℕ = c.args._j in
    let left : ℕ = c.args.left in
    let pair : ℕ = c.args._pair in
    let n : ℕ = c.args.reached.now.factors in
    let factor = first_left (factors_of ps) (digits_left word (j + 1) (left / 2) pair ps) n (word, 2 ^ j) (c.requires.rest ∙ digit_is_one word j left pair c.requires.j ps c.if-left-eq1.true) in
    omega (arith, slice_get_within (factors_of ps) n (word, 2 ^ j) factor, c.requires.few)

pub returns-in_err-check_stage-clause-fault : goal.returns-in_err-check_stage-clause-fault
returns-in_err-check_stage-clause-fault g c =
    let k : ℕ = g.F.Ring.degree c.args.field.now in
    let mul : ℕ → ℕ → ℕ = g.F.Ring.product c.args.field.now in
    let ring = g.met.F.Ring.laws c.args.field.now in
    let free = g.met.F.Field.no_zero_divisors c.args.field.now in
    let feeds : Point → List ℕ = feed_values mul (map (λ f. f.now.terms) c.args._feeds.now) in
    let t : ℕ × List (ℕ × ℕ) = c.args._term.now in
    let word : ℕ = c.args._word in
    let j : ℕ = c.args._j in
    let left : ℕ = c.args.left in
    let n : ℕ = c.args.reached.now.factors in
    let some : left ≢ 0 = omega (arith, c.if-left-eq1.true) in
    let factor = first_left (factors_of t.1) (digits_left word (j + 1) (left / 2) c.args._pair t.1) n (word, 2 ^ j) (c.requires.rest ∙ digit_is_one word j left c.args._pair c.requires.j t.1 c.if-left-eq1.true) in
    let over : c.args.bound < length c.in_ok-product.product.terms = omega (arith, c.in_err-check_stage.ensures.over.1, c.len.ensures) in
    let said = c.in_err-check_stage.ensures.over.0 ∙ ap (TooManyTerms (TermProduct c.args.number (n + 1))) c.len.ensures in
    let P : SumFault → Type 0 = λ f. IsTermRefusal k mul feeds t c.args.number c.args.bound f in
    let fault : IsTermRefusal k mul feeds t c.args.number c.args.bound c.in_err-check_stage.field-0.0 =
    subst P (sym said) (product_refused k mul feeds ring free t c.args.bound n word j c.args.number c.args.reached.now.poly.terms c.args.power.now.terms c.in_ok-product.product.terms factor c.requires.reached (c.requires.power some) c.in_ok-product.ensures.reduced c.in_ok-product.ensures.values over) in
    search rules

pub returns-in_ok-check_stage-clause-rest : goal.returns-in_ok-check_stage-clause-rest
returns-in_ok-check_stage-clause-rest g c =
    let ps : List (ℕ × ℕ) = c.args._term.now.1 in
    let word : ℕ = c.args._word in
    let j : ℕ = c.args._j in
    let left : ℕ = c.args.left in
    let pair : ℕ = c.args._pair in
    let n : ℕ = c.args.reached.now.factors in
    after_left (factors_of ps) (digits_left word (j + 1) (left / 2) pair ps) n (n + 1) (word, 2 ^ j) refl (c.requires.rest ∙ digit_is_one word j left pair c.requires.j ps c.if-left-eq1.true)

pub returns-in_ok-check_stage-clause-reached : goal.returns-in_ok-check_stage-clause-reached
returns-in_ok-check_stage-clause-reached g c =
    let k : ℕ = g.F.Ring.degree c.args.field.now in
    let mul : ℕ → ℕ → ℕ = g.F.Ring.product c.args.field.now in
    let ring = g.met.F.Ring.laws c.args.field.now in
    let free = g.met.F.Field.no_zero_divisors c.args.field.now in
    let feeds : Point → List ℕ = feed_values mul (map (λ f. f.now.terms) c.args._feeds.now) in
    let t : ℕ × List (ℕ × ℕ) = c.args._term.now in
    let word : ℕ = c.args._word in
    let j : ℕ = c.args._j in
    let left : ℕ = c.args.left in
    let n : ℕ = c.args.reached.now.factors in
    let some : left ≢ 0 = omega (arith, c.if-left-eq1.true) in
    let factor = first_left (factors_of t.1) (digits_left word (j + 1) (left / 2) c.args._pair t.1) n (word, 2 ^ j) (c.requires.rest ∙ digit_is_one word j left c.args._pair c.requires.j t.1 c.if-left-eq1.true) in
    let low : length c.in_ok-product.product.terms ≤ c.args.bound = omega (arith, c.in_ok-check_stage.ensures.within, c.len.ensures) in
    reached_more k mul feeds ring free t c.args.bound n word j c.args.reached.now.poly.terms c.args.power.now.terms c.in_ok-product.product.terms factor c.requires.reached (c.requires.power some) c.in_ok-product.ensures.reduced c.in_ok-product.ensures.values low

pub returns-else-left-eq1-clause-rest : goal.returns-else-left-eq1-clause-rest
returns-else-left-eq1-clause-rest g c = c.requires.rest ∙ digit_is_zero c.args._word c.args._j c.args.left c.args._pair c.requires.j c.args._term.now.1 c.if-left-eq1.false

pub returns-else-left-eq1-clause-reached : goal.returns-else-left-eq1-clause-reached
returns-else-left-eq1-clause-reached g c = c.requires.reached
