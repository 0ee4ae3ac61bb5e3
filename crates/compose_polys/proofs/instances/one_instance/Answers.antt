use Rattle.std.proofs.Common.{◌≡◌, ◌∙◌, ap, sym, subst, ℕ, List, map}
use Rattle.std.specs.Prelude.{IfErr, IfOk, OnOk}
use Rattle.poly_mixed.specs.Polynomial.{Terms}
use Rattle.poly_mixed.proofs.FieldLaws.{field_of}
use Rattle.poly_mixed.proofs.SimpleLemmas.{reduced_nothing}
use Rattle.compose_polys.specs.Instance.{AreReduced, IsInstancePoly}
use Rattle.compose_polys.specs.InstanceListing.{IsInstanceRefusal, IsInstanceWithin}
use Rattle.compose_polys.specs.Words.{feed_terms}
use Rattle.compose_polys.proofs.FeedLemmas.{feeds_reduced}
use Rattle.compose_polys.proofs.instances.one_instance.Goals as goal

pub instance_poly-requires-clause-feeds : goal.instance_poly-requires-clause-feeds
instance_poly-requires-clause-feeds g c =
    let k : ℕ = g.F.Ring.degree c.args.field.now in
    let mul : ℕ → ℕ → ℕ = g.F.Ring.product c.args.field.now in
    let ring = g.met.F.Ring.laws c.args.field.now in
    let free = g.met.F.Field.no_zero_divisors c.args.field.now in
    let words : List Terms = map (λ q. q.terms) c.args.words.now in
    let polys : List Terms = map (λ q. q.terms) c.args.polys.now in
    let same : map (λ f. f.now.terms) c.deref.result.now ≡ map (feed_terms words polys) c.args.feeds.now = ap (map (λ f. f.now.terms)) c.deref.ensures.value ∙ c.in_ok-list.ensures in
    let P : List Terms → Type 0 = AreReduced k in
    subst P (sym same) (feeds_reduced k words polys c.args.feeds.now c.requires.words c.requires.polys (reduced_nothing (field_of k mul ring free)))

pub returns-clause-polynomial : goal.returns-clause-polynomial
returns-clause-polynomial g c =
    let k : ℕ = g.F.Ring.degree c.args.field.now in
    let mul : ℕ → ℕ → ℕ = g.F.Ring.product c.args.field.now in
    let words : List Terms = map (λ q. q.terms) c.args.words.now in
    let polys : List Terms = map (λ q. q.terms) c.args.polys.now in
    let same : map (λ f. f.now.terms) c.deref.result.now ≡ map (feed_terms words polys) c.args.feeds.now = ap (map (λ f. f.now.terms)) c.deref.ensures.value ∙ c.in_ok-list.ensures in
    let P : List Terms → Type 0 = λ fs. IfOk c.instance_poly.result (λ q. IsInstancePoly k mul fs c.args.block.now.terms q.terms) in
    subst P same c.instance_poly.ensures.polynomial

pub returns-clause-within : goal.returns-clause-within
returns-clause-within g c =
    let k : ℕ = g.F.Ring.degree c.args.field.now in
    let mul : ℕ → ℕ → ℕ = g.F.Ring.product c.args.field.now in
    let words : List Terms = map (λ q. q.terms) c.args.words.now in
    let polys : List Terms = map (λ q. q.terms) c.args.polys.now in
    let same : map (λ f. f.now.terms) c.deref.result.now ≡ map (feed_terms words polys) c.args.feeds.now = ap (map (λ f. f.now.terms)) c.deref.ensures.value ∙ c.in_ok-list.ensures in
    let P : List Terms → Type 0 = λ fs. OnOk c.instance_poly.result (IsInstanceWithin k mul fs c.args.instance c.args.block.now.terms c.args.bound) in
    subst P same c.instance_poly.ensures.within

pub returns-clause-fault : goal.returns-clause-fault
returns-clause-fault g c =
    let k : ℕ = g.F.Ring.degree c.args.field.now in
    let mul : ℕ → ℕ → ℕ = g.F.Ring.product c.args.field.now in
    let words : List Terms = map (λ q. q.terms) c.args.words.now in
    let polys : List Terms = map (λ q. q.terms) c.args.polys.now in
    let same : map (λ f. f.now.terms) c.deref.result.now ≡ map (feed_terms words polys) c.args.feeds.now = ap (map (λ f. f.now.terms)) c.deref.ensures.value ∙ c.in_ok-list.ensures in
    let P : List Terms → Type 0 = λ fs. IfErr c.instance_poly.result (IsInstanceRefusal k mul fs c.args.instance c.args.block.now.terms c.args.bound) in
    subst P same c.instance_poly.ensures.fault
