use Rattle.std.proofs.Common.{◌≡◌, ◌∙◌, ◌<◌, ◌^◌, sym, ap, subst, ℕ, List, length, map, arith}
use Rattle.lists.specs.laws.ListLaws.{length_map}
use Rattle.poly_mixed.specs.Polynomial.{IsPolynomialOf, Point, Terms}
use Rattle.poly_mixed.specs.declared.stage.ReduceFault.{ReduceFault}
use Rattle.stage_model.specs.Listing.{AreAllWithin, IsRefusal}
use Rattle.term_expand.specs.Sums.{IsFedSum, SumOfProducts}
use Rattle.term_expand.specs.SumValue.{sum_at}
use Rattle.term_expand.specs.SumListing.{sum_listing, IsSumOver}
use Rattle.compose_polys.specs.Instance.{block_terms, feed_values}
use Rattle.compose_polys.specs.InstanceListing.{instance_listing}
use Rattle.compose_polys.proofs.StageLemmas.{block_polynomial, fed_block, instance_refused, instance_within, mapped_long}
use Rattle.compose_polys.proofs.instance.instance_poly.Goals as goal

pub expand_sum-requires-clause-few : goal.expand_sum-requires-clause-few
expand_sum-requires-clause-few g c =
    let ts : Terms = c.args.block.now.terms in
    let same : c.deref.result.now ≡ block_terms ts = c.deref.ensures.value ∙ c.in_ok-terms.ensures in
    omega (arith, c.requires.few, ap length same, mapped_long ts)

pub expand_sum-requires-clause-terms : goal.expand_sum-requires-clause-terms
expand_sum-requires-clause-terms g c =
    let k : ℕ = g.F.Ring.degree c.args.field.now in
    let ts : Terms = c.args.block.now.terms in
    let same : c.deref.result.now ≡ block_terms ts = c.deref.ensures.value ∙ c.in_ok-terms.ensures in
    let P : SumOfProducts → Type 0 = λ sum. IsFedSum k (length c.args.feeds.now) sum in
    subst P (sym same) (fed_block k (length c.args.feeds.now) (g.met.F.Ring.laws c.args.field.now).small ts c.requires.block.terms c.requires.words)

pub returns-in-Ok-clause-polynomial : goal.returns-in-Ok-clause-polynomial
returns-in-Ok-clause-polynomial g c =
    let k : ℕ = g.F.Ring.degree c.args.field.now in
    let mul : ℕ → ℕ → ℕ = g.F.Ring.product c.args.field.now in
    let feeds : Point → List ℕ = feed_values mul (map (λ f. f.now.terms) c.args.feeds.now) in
    let ts : Terms = c.args.block.now.terms in
    let same : c.deref.result.now ≡ block_terms ts = c.deref.ensures.value ∙ c.in_ok-terms.ensures in
    let P : SumOfProducts → Type 0 = λ sum. IsPolynomialOf k mul (λ p. sum_at mul (feeds p) sum) c.in-Ok.poly.terms in
    block_polynomial k mul feeds ts c.in-Ok.poly.terms c.requires.block.terms c.requires.no_bits (subst P same c.in-Ok.ensures.polynomial)

pub returns-in-Ok-clause-within : goal.returns-in-Ok-clause-within
returns-in-Ok-clause-within g c =
    let k : ℕ = g.F.Ring.degree c.args.field.now in
    let mul : ℕ → ℕ → ℕ = g.F.Ring.product c.args.field.now in
    let feeds : Point → List ℕ = feed_values mul (map (λ f. f.now.terms) c.args.feeds.now) in
    let ts : Terms = c.args.block.now.terms in
    let same : c.deref.result.now ≡ block_terms ts = c.deref.ensures.value ∙ c.in_ok-terms.ensures in
    let P : SumOfProducts → Type 0 = λ sum. AreAllWithin k mul (sum_listing mul feeds sum) c.args.bound in
    instance_within k mul feeds c.args.instance (block_terms ts) c.args.bound (subst P same c.in-Ok.ensures.within)

pub returns-clause-fault : goal.returns-clause-fault
returns-clause-fault g c =
    let k : ℕ = g.F.Ring.degree c.args.field.now in
    let mul : ℕ → ℕ → ℕ = g.F.Ring.product c.args.field.now in
    let feeds : Point → List ℕ = feed_values mul (map (λ f. f.now.terms) c.args.feeds.now) in
    let ts : Terms = c.args.block.now.terms in
    let same : c.deref.result.now ≡ block_terms ts = c.deref.ensures.value ∙ c.in_ok-terms.ensures in
    let P : SumOfProducts → Type 0 = λ sum. IsSumOver k mul feeds sum c.args.bound c.in-Err.fault in
    let Q : ReduceFault → Type 0 = λ f. IsRefusal k mul (instance_listing mul feeds c.args.instance (block_terms ts)) c.args.bound f in
    subst Q (sym c.fault_of.ensures) (instance_refused k mul feeds c.args.instance (block_terms ts) c.args.bound c.in-Err.fault (subst P same c.in-Err.ensures.fault))
