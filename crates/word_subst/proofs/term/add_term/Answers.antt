use Rattle.std.proofs.Common.{◌≡◌, ◌≤◌, ◌∙◌, ap, sym, subst, ℕ, List, length}
use Rattle.std.proofs.lemmas.Result.{on_ok_weaker}
use Rattle.gf_basis.specs.BasisParts.{elements_of}
use Rattle.poly_mixed.specs.Monomial.{Monomial}
use Rattle.poly_mixed.proofs.ValueLemmas.{zero_element}
use Rattle.poly_mixed.proofs.FieldLaws.{field_of}
use Rattle.stage_model.specs.WordStage.{word_bits}
use Rattle.word_subst.specs.Univariate.{IsPower, IsMultiple}
use Rattle.word_subst.specs.Spread.{IsRest}
use Rattle.word_subst.specs.Rest.{rest_of}
use Rattle.word_subst.proofs.TermPartLemmas.{is_rest}
use Rattle.word_subst.proofs.ToldLemmas.{has_last, read_term}
use Rattle.word_subst.proofs.term.add_term.Goals as goal

pub at-requires : goal.at-requires
at-requires g c = has_last (g.F.Ring.degree c.args.field.now) (g.F.Ring.product c.args.field.now) (elements_of c.args._basis.now) c.args.word c.args._bound c.args.products.now c.ranks-own.result.now c.requires.followed.products c.ranks-own.ensures

pub scaled-requires-clause-powers : goal.scaled-requires-clause-powers
scaled-requires-clause-powers g c = (c.requires.followed.products.each (length c.ranks-own.result.now) c.at.result.now c.at.ensures).univariate

pub scaled-requires-clause-c : goal.scaled-requires-clause-c
scaled-requires-clause-c g c =
    let f = field_of _ _ (g.met.F.Ring.laws c.args.field.now) (g.met.F.Field.no_zero_divisors c.args.field.now) in
    let P : ℕ → Type 0 = λ x. IsPower (g.F.Ring.degree c.args.field.now) (0, x) in
    subst P (sym c.coefficient.ensures) (record { exponent = zero_element f; element = c.requires.followed.term.element; some = c.requires.followed.some })

pub rest-requires-clause-k : goal.rest-requires-clause-k
rest-requires-clause-k g c =
    let P : ℕ → Type 0 = λ n. n ≤ 64 in
    subst P (sym c.k.ensures) (g.met.F.Ring.laws c.args.field.now).small

pub add-requires-clause-rest : goal.add-requires-clause-rest
add-requires-clause-rest g c =
    let k : ℕ = g.F.Ring.degree c.args.field.now in
    let f = field_of k (g.F.Ring.product c.args.field.now) (g.met.F.Ring.laws c.args.field.now) (g.met.F.Field.no_zero_divisors c.args.field.now) in
    let P : Monomial → Type 0 = IsRest c.args.word k in
    subst P (sym (c.in_ok-others.ensures ∙ (λ i. rest_of (c.k.ensures i) c.args.word (c.mono.ensures i)))) (is_rest f (elements_of c.args._basis.now) c.args.word c.requires.word c.args.term.now c.requires.followed.term)

pub add-requires-clause-part : goal.add-requires-clause-part
add-requires-clause-part g c = c.in_ok-part.ensures.multiple.univariate

pub returns-clause-groups : goal.returns-clause-groups
returns-clause-groups g c = c.add.ensures.groups

pub returns-clause-ordered : goal.returns-clause-ordered
returns-clause-ordered g c = c.add.ensures.ordered

pub returns-clause-values : goal.returns-clause-values
returns-clause-values g c =
    let k : ℕ = g.F.Ring.degree c.args.field.now in
    let mul : ℕ → ℕ → ℕ = g.F.Ring.product c.args.field.now in
    let els : List ℕ = elements_of c.args._basis.now in
    let w : ℕ = c.args.word in
    let t : Monomial × ℕ = c.args.term.now in
    let is = c.requires.followed in
    let f = field_of k mul (g.met.F.Ring.laws c.args.field.now) (g.met.F.Field.no_zero_divisors c.args.field.now) in
    let own : c.ranks-own.result.now ≡ word_bits k w t = c.ranks-own.ensures ∙ is.ranks in
    let P : ℕ → Type 0 = λ x. IsMultiple k mul (0, x) c.at.result.now c.in_ok-part.part in
    on_ok_weaker c.add.result (λ adds. read_term f els w c.requires.word t is.term is.some c.args._bound c.args.products.now is.products is.ranks is.start (length c.ranks-own.result.now) c.at.result.now c.in_ok-part.part c.in_ok-others.others
    c.args.sums.now c.add.new.self (ap length own) c.at.ensures (subst P c.coefficient.ensures c.in_ok-part.ensures.multiple) (c.in_ok-others.ensures ∙ (λ i. rest_of (c.k.ensures i) w (c.mono.ensures i))) adds) c.add.ensures.values
