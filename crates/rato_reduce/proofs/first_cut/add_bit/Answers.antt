use Rattle.poly_mixed.proofs.FieldLaws.{field_of}
use Rattle.std.proofs.Common.{◌≡◌, ℕ, List, [], ◌∷◌, sym, ◌∙◌, ap, subst}
use Rattle.std.specs.List.Sorted.{IsStrictlySortedBy}
use Rattle.std.specs.Ordering.{nat_cmp}
use Rattle.std.proofs.lemmas.Result.{on_ok_weaker}
use Rattle.poly_mixed.specs.Monomial.{text_cmp}
use Rattle.poly_mixed.specs.Polynomial.{Terms, IsReduced, value}
use Rattle.poly_mixed.specs.Product.{with_rank}
use Rattle.poly_mixed.specs.Sum.{plus_term}
use Rattle.poly_mixed.proofs.SimpleLemmas.{one_rank_rises}
use Rattle.rato_reduce.specs.private.CutTerms.{of_bits}
use Rattle.rato_reduce.proofs.ProductLemmas.{reduced_bit, value_bit}
use Rattle.rato_reduce.proofs.first_cut.add_bit.Goals as goal

pub add-requires-clause-rising : goal.add-requires-clause-rising
add-requires-clause-rising g c =
    let bits : c.in_ok-bits.bits ≡ c.args.rank ∷ [] = c.in_ok-bits.ensures ∙ ap (λ (rs : List ℕ). with_rank rs c.args.rank) c.none.ensures in
    let P : List ℕ → Type 0 = IsStrictlySortedBy nat_cmp in
    subst P (sym bits) (one_rank_rises c.args.rank)

pub returns-clause-reduced : goal.returns-clause-reduced
returns-clause-reduced g c =
    let degree = g.F.Ring.degree c.args._field.now in
    let f = field_of degree (g.F.Ring.product c.args._field.now) (g.met.F.Ring.laws c.args._field.now) (g.met.F.Field.no_zero_divisors c.args._field.now) in
    let old = c.args.cut.now.terms in
    let bits : c.in_ok-bits.bits ≡ c.args.rank ∷ [] = c.in_ok-bits.ensures ∙ ap (λ (rs : List ℕ). with_rank rs c.args.rank) c.none.ensures in
    let P : Terms → Type 0 = IsReduced degree in
    on_ok_weaker c.add.result (λ e.
    subst P (sym (e ∙ ap (λ (rs : List ℕ). plus_term text_cmp old (of_bits rs, c.args.element)) bits))
    (reduced_bit f old c.args.rank c.args.element c.requires.cut c.requires.element c.if-element-eq0.false)) c.add.ensures

pub returns-clause-values : goal.returns-clause-values
returns-clause-values g c =
    let degree = g.F.Ring.degree c.args._field.now in
    let mul = g.F.Ring.product c.args._field.now in
    let f = field_of degree mul (g.met.F.Ring.laws c.args._field.now) (g.met.F.Field.no_zero_divisors c.args._field.now) in
    let old = c.args.cut.now.terms in
    let bits : c.in_ok-bits.bits ≡ c.args.rank ∷ [] = c.in_ok-bits.ensures ∙ ap (λ (rs : List ℕ). with_rank rs c.args.rank) c.none.ensures in
    on_ok_weaker c.add.result (λ e p at.
    ap (λ (ts : Terms). value mul p ts) (e ∙ ap (λ (rs : List ℕ). plus_term text_cmp old (of_bits rs, c.args.element)) bits)
    ∙ value_bit f old c.args.rank c.args.element c.requires.cut c.requires.element c.if-element-eq0.false p at) c.add.ensures
