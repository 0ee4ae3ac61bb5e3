use Rattle.std.proofs.Common.{◌∙◌, ap, sym, refl, subst, ℕ, ◌<◌, ◌≤◌, ◌-◌, ◌*◌, List, get_or, take, arith}
use Rattle.gf_basis.specs.BasisParts.{elements_of}
use Rattle.poly_mixed.specs.Monomial.{Monomial}
use Rattle.poly_mixed.proofs.FieldLaws.{field_of}
use Rattle.stage_model.specs.WordStage.{is_of_word}
use Rattle.stage_model.specs.PlainWord.{IsBitOf}
use Rattle.stage_model.proofs.WordPolyLemmas.{filter_passes, own_range, own_is, turn_rank, product_next}
use Rattle.plain_runs.proofs.word_poly.product_poly.Goals as goal

pub overflow_sub-rank : goal.overflow_sub-rank
overflow_sub-rank g c =
    let k : ℕ = g.F.Ring.degree c.args.field.now in
    let w : ℕ = c.args.word in
    let own : List ℕ = c.deref.result.now in
    let u : ℕ = get_or (take c.args.count own) c.loop-rank.rank-index 0 in
    let got = turn_rank own c.args.term.now.0.bits k w c.args.count c.loop-rank.rank-index u
    (c.deref.ensures.value ∙ own_is c.k-k.result k w c.bits.result.now c.args.term.now.0.bits c.in_ok-own.own.items c.in_ok-own.ensures c.k-k.ensures (c.bits.ensures.value ∙ ap (λ (m : Monomial). m.bits) c.mono.ensures)) c.loop-rank-test.true refl in
    let range = own_range k w u (filter_passes (is_of_word k w) c.args.term.now.0.bits c.loop-rank.rank-index u got) in
    let P : ℕ → Type 0 = λ x. x * w ≤ u in
    subst P (sym c.k-k.ensures) range.0

pub bit_poly-requires-clause-place : goal.bit_poly-requires-clause-place
bit_poly-requires-clause-place g c =
    let k : ℕ = g.F.Ring.degree c.args.field.now in
    let w : ℕ = c.args.word in
    let own : List ℕ = c.deref.result.now in
    let u : ℕ = get_or (take c.args.count own) c.loop-rank.rank-index 0 in
    let got = turn_rank own c.args.term.now.0.bits k w c.args.count c.loop-rank.rank-index u
    (c.deref.ensures.value ∙ own_is c.k-k.result k w c.bits.result.now c.args.term.now.0.bits c.in_ok-own.own.items c.in_ok-own.ensures c.k-k.ensures (c.bits.ensures.value ∙ ap (λ (m : Monomial). m.bits) c.mono.ensures)) c.loop-rank-test.true refl in
    let range = own_range k w u (filter_passes (is_of_word k w) c.args.term.now.0.bits c.loop-rank.rank-index u got) in
    let low : u - k * w < k = omega (arith, range.0, range.1) in
    let P : ℕ → Type 0 = λ x. u - x * w < k in
    subst P (sym c.k-k.ensures) low

pub loop-rank-preserved : goal.loop-rank-preserved
loop-rank-preserved g c =
    let k : ℕ = g.F.Ring.degree c.args.field.now in
    let mul : ℕ → ℕ → ℕ = g.F.Ring.product c.args.field.now in
    let w : ℕ = c.args.word in
    let own : List ℕ = c.deref.result.now in
    let i : ℕ = c.loop-rank.rank-index in
    let u : ℕ = get_or (take c.args.count own) i 0 in
    let got = turn_rank own c.args.term.now.0.bits k w c.args.count i u
    (c.deref.ensures.value ∙ own_is c.k-k.result k w c.bits.result.now c.args.term.now.0.bits c.in_ok-own.own.items c.in_ok-own.ensures c.k-k.ensures (c.bits.ensures.value ∙ ap (λ (m : Monomial). m.bits) c.mono.ensures)) c.loop-rank-test.true refl in
    let P : ℕ → Type 0 = λ x. IsBitOf k mul (elements_of c.args.basis.now) w (u - x * w) c.in_ok-bit.bit.terms in
    product_next (field_of k mul (g.met.F.Ring.laws c.args.field.now) (g.met.F.Field.no_zero_divisors c.args.field.now)) (elements_of c.args.basis.now) w c.args.term.now c.requires.term i u
    c.loop-rank.product.terms c.in_ok-bit.bit.terms _ got c.loop-rank.invariant (subst P c.k-k.ensures c.in_ok-bit.ensures) c.in_ok-product-2.ensures.reduced c.in_ok-product-2.ensures.values
