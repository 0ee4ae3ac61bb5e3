use Rattle.std.proofs.Common.{rules, ◌≡◌, ◌≤◌, ◌∙◌, ap, sym, subst, true, ℕ, List, slice_index}
use Rattle.std.specs.List.{AllByRecursion}
use Rattle.gf_basis.specs.BasisParts.{elements_of}
use Rattle.poly_mixed.specs.Monomial.{Monomial}
use Rattle.poly_mixed.specs.Polynomial.{IsElement}
use Rattle.poly_mixed.proofs.FieldLaws.{field_of}
use Rattle.stage_model.specs.WordStage.{is_of_word, word_bits}
use Rattle.word_subst.specs.Prefix.{IsProductRefusal}
use Rattle.word_subst.specs.ReadRefusal.{IsTermRefusal}
use Rattle.word_subst.proofs.OneTermLemmas.{few_own}
use Rattle.word_subst.proofs.TermPartLemmas.{own_are, own_found, start_element, term_refusal}
use Rattle.word_subst.proofs.term.follow_term.Goals as goal

pub own_ranks-requires-clause-k : goal.own_ranks-requires-clause-k
own_ranks-requires-clause-k g c =
    let P : ℕ → Type 0 = λ n. n ≤ 64 in
    subst P (sym c.k.ensures) (g.met.F.Ring.laws c.args.field.now).small

pub restart-requires-clause-start : goal.restart-requires-clause-start
restart-requires-clause-start g c =
    let k : ℕ = g.F.Ring.degree c.args.field.now in
    let w : ℕ = c.args.word in
    let t : Monomial × ℕ = c.args.term.now in
    let f = field_of k (g.F.Ring.product c.args.field.now) (g.met.F.Ring.laws c.args.field.now) (g.met.F.Field.no_zero_divisors c.args.field.now) in
    let exponents : c.exponents.result.now ≡ t.0.exponents = c.exponents.ensures.value ∙ ap (λ (m : Monomial). m.exponents) c.mono.ensures in
    let P : List ℕ → Type 0 = λ es. IsElement k (slice_index es w) in
    subst P (sym exponents) (start_element f (elements_of c.args.basis.now) w c.requires.word t c.requires.term)

pub follow-requires-clause-own : goal.follow-requires-clause-own
follow-requires-clause-own g c =
    let k : ℕ = g.F.Ring.degree c.args.field.now in
    let w : ℕ = c.args.word in
    let own : c.deref.result.now ≡ word_bits k w c.args.term.now = own_found k c.k.result w c.args.term.now c.mono-2.result.now c.bits.result.now c.in_ok-own.own.items c.deref.result.now c.deref.ensures.value c.in_ok-own.ensures c.bits.ensures.value c.mono-2.ensures c.k.ensures in
    let P : List ℕ → Type 0 = AllByRecursion (λ r. is_of_word k w r ≡ true) in
    subst P (sym own) (own_are k w c.args.term.now.0.bits)

pub follow-requires-clause-few : goal.follow-requires-clause-few
follow-requires-clause-few g c =
    let k : ℕ = g.F.Ring.degree c.args.field.now in
    let w : ℕ = c.args.word in
    let own : c.deref.result.now ≡ word_bits k w c.args.term.now = own_found k c.k.result w c.args.term.now c.mono-2.result.now c.bits.result.now c.in_ok-own.own.items c.deref.result.now c.deref.ensures.value c.in_ok-own.ensures c.bits.ensures.value c.mono-2.ensures c.k.ensures in
    few_own k w c.args.term.now c.deref.result.now c.requires.term (g.met.F.Ring.laws c.args.field.now).small own

pub returns-in_err-follow-clause-fault : goal.returns-in_err-follow-clause-fault
returns-in_err-follow-clause-fault g c =
    let k : ℕ = g.F.Ring.degree c.args.field.now in
    let mul : ℕ → ℕ → ℕ = g.F.Ring.product c.args.field.now in
    let els : List ℕ = elements_of c.args.basis.now in
    let w : ℕ = c.args.word in
    let t : Monomial × ℕ = c.args.term.now in
    let f = field_of k mul (g.met.F.Ring.laws c.args.field.now) (g.met.F.Field.no_zero_divisors c.args.field.now) in
    let own : c.deref.result.now ≡ word_bits k w t = own_found k c.k.result w t c.mono-2.result.now c.bits.result.now c.in_ok-own.own.items c.deref.result.now c.deref.ensures.value c.in_ok-own.ensures c.bits.ensures.value c.mono-2.ensures c.k.ensures in
    let exponents : c.exponents.result.now ≡ t.0.exponents = c.exponents.ensures.value ∙ ap (λ (m : Monomial). m.exponents) c.mono.ensures in
    let start : c.restart.new.products.start ≡ slice_index t.0.exponents w = c.in_ok-restart.ensures.start ∙ ap (λ es. slice_index es w) exponents in
    let P : ℕ → Type 0 = λ s. IsProductRefusal k mul els w s c.deref.result.now c.args.number c.args.bound c.in_err-follow.field-0.0 in
    let Q : List ℕ → Type 0 = λ rs. IsProductRefusal k mul els w (slice_index t.0.exponents w) rs c.args.number c.args.bound c.in_err-follow.field-0.0 in
    let fault : IsTermRefusal k mul els w t c.args.number c.args.bound c.in_err-follow.field-0.0 =
    term_refusal f els w c.requires.word t c.requires.term c.requires.some c.args.bound c.args.number c.in_err-follow.field-0.0 (subst Q own (subst P start c.in_err-follow.ensures.fault)) in
    search rules

pub returns-clause-followed : goal.returns-clause-followed
returns-clause-followed g c =
    let k : ℕ = g.F.Ring.degree c.args.field.now in
    let w : ℕ = c.args.word in
    let t : Monomial × ℕ = c.args.term.now in
    let own : c.deref.result.now ≡ word_bits k w t = own_found k c.k.result w t c.mono-2.result.now c.bits.result.now c.in_ok-own.own.items c.deref.result.now c.deref.ensures.value c.in_ok-own.ensures c.bits.ensures.value c.mono-2.ensures c.k.ensures in
    let exponents : c.exponents.result.now ≡ t.0.exponents = c.exponents.ensures.value ∙ ap (λ (m : Monomial). m.exponents) c.mono.ensures in
    let start : c.restart.new.products.start ≡ slice_index t.0.exponents w = c.in_ok-restart.ensures.start ∙ ap (λ es. slice_index es w) exponents in
    record { term = c.requires.term; some = c.requires.some; products = c.in_ok-follow.ensures.products; ranks = c.in_ok-follow.ensures.ranks ∙ own; start = c.in_ok-follow.ensures.start ∙ start }
