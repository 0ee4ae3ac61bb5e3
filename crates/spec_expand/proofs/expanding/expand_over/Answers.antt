use Rattle.std.proofs.Common.{◌≡◌, ◌∙◌, ap, sym, subst, ℕ, List, length, map, arith}
use Rattle.lists.specs.laws.ListLaws.{length_map}
use Rattle.poly_mixed.specs.Polynomial.{Terms}
use Rattle.poly_mixed.specs.declared.stage.ReduceFault.{ReduceFault}
use Rattle.circuit_model.specs.Circuit.{Circuit}
use Rattle.circuit_model.specs.Bases.{circuit_in}
use Rattle.term_expand.specs.Sums.{IsFedSum}
use Rattle.spec_expand.specs.Specification.{SpecTerms}
use Rattle.spec_expand.specs.SpecListing.{IsSpecRefusal, IsSpecWithin}
use Rattle.spec_expand.specs.Expanded.{IsSpecExpansion}
use Rattle.spec_expand.specs.private.Expanding.{AreWordsInBits}
use Rattle.spec_expand.proofs.StageLemmas.{fed_spec, spec_expanded, spec_refused, spec_within, words_reduced}
use Rattle.spec_expand.proofs.expanding.expand_over.Goals as goal

pub expand_sum-requires-clause-few : goal.expand_sum-requires-clause-few
expand_sum-requires-clause-few g c = c.terms.ensures.few

pub expand_sum-requires-clause-terms : goal.expand_sum-requires-clause-terms
expand_sum-requires-clause-terms g c =
    let k : ℕ = g.F.Ring.degree c.args.field.now in
    let feeds : List Terms = map (λ f. f.now.terms) c.deref.result.now in
    let same : feeds ≡ map (λ q. q.terms) c.args.words.now = ap (map (λ f. f.now.terms)) c.deref.ensures.value ∙ c.in_ok-feeds.ensures in
    let many : length c.args.words.now ≡ length c.deref.result.now = sym (length_map (λ q. q.terms) c.args.words.now) ∙ sym (ap length same) ∙ length_map (λ f. f.now.terms) c.deref.result.now in
    let P : ℕ → Type 0 = λ n. IsFedSum k n c.terms.result.now in
    let Q : SpecTerms → Type 0 = λ ss. IsFedSum k (length c.args.words.now) ss in
    subst P many (subst Q (sym c.terms.ensures.value) (fed_spec k (length c.args.words.now) c.args.spec.now c.requires.spec))

pub expand_sum-requires-clause-feeds : goal.expand_sum-requires-clause-feeds
expand_sum-requires-clause-feeds g c =
    let k : ℕ = g.F.Ring.degree c.args.field.now in
    let mul : ℕ → ℕ → ℕ = g.F.Ring.product c.args.field.now in
    let circuit : Circuit = circuit_in k mul c.args._circuit.now c.args._bases.now in
    let feeds : List Terms = map (λ f. f.now.terms) c.deref.result.now in
    let same : feeds ≡ map (λ q. q.terms) c.args.words.now = ap (map (λ f. f.now.terms)) c.deref.ensures.value ∙ c.in_ok-feeds.ensures in
    let P : List Terms → Type 0 = λ fs. AreWordsInBits circuit fs in
    let are : AreWordsInBits circuit feeds = subst P (sym same) c.requires.words in
    words_reduced circuit feeds are.each

pub returns-in-Ok-clause-polynomial : goal.returns-in-Ok-clause-polynomial
returns-in-Ok-clause-polynomial g c =
    let k : ℕ = g.F.Ring.degree c.args.field.now in
    let mul : ℕ → ℕ → ℕ = g.F.Ring.product c.args.field.now in
    let circuit : Circuit = circuit_in k mul c.args._circuit.now c.args._bases.now in
    let feeds : List Terms = map (λ f. f.now.terms) c.deref.result.now in
    let same : feeds ≡ map (λ q. q.terms) c.args.words.now = ap (map (λ f. f.now.terms)) c.deref.ensures.value ∙ c.in_ok-feeds.ensures in
    let P : List Terms → Type 0 = λ fs. AreWordsInBits circuit fs in
    let are : AreWordsInBits circuit feeds = subst P (sym same) c.requires.words in
    let Q : SpecTerms → Type 0 = λ ss. IsSpecExpansion circuit ss c.in-Ok.poly.terms in
    subst Q c.terms.ensures.value (spec_expanded circuit c.requires.well feeds are c.terms.result.now c.in-Ok.poly.terms c.in-Ok.ensures.polynomial)

pub returns-in-Ok-clause-within : goal.returns-in-Ok-clause-within
returns-in-Ok-clause-within g c =
    let k : ℕ = g.F.Ring.degree c.args.field.now in
    let mul : ℕ → ℕ → ℕ = g.F.Ring.product c.args.field.now in
    let circuit : Circuit = circuit_in k mul c.args._circuit.now c.args._bases.now in
    let feeds : List Terms = map (λ f. f.now.terms) c.deref.result.now in
    let same : feeds ≡ map (λ q. q.terms) c.args.words.now = ap (map (λ f. f.now.terms)) c.deref.ensures.value ∙ c.in_ok-feeds.ensures in
    let P : List Terms → Type 0 = λ fs. AreWordsInBits circuit fs in
    let are : AreWordsInBits circuit feeds = subst P (sym same) c.requires.words in
    let Q : SpecTerms → Type 0 = λ ss. IsSpecWithin circuit ss c.args.bound in
    subst Q c.terms.ensures.value (spec_within circuit c.requires.well feeds are c.terms.result.now c.args.bound c.in-Ok.ensures.within)

pub returns-clause-fault : goal.returns-clause-fault
returns-clause-fault g c =
    let k : ℕ = g.F.Ring.degree c.args.field.now in
    let mul : ℕ → ℕ → ℕ = g.F.Ring.product c.args.field.now in
    let circuit : Circuit = circuit_in k mul c.args._circuit.now c.args._bases.now in
    let feeds : List Terms = map (λ f. f.now.terms) c.deref.result.now in
    let same : feeds ≡ map (λ q. q.terms) c.args.words.now = ap (map (λ f. f.now.terms)) c.deref.ensures.value ∙ c.in_ok-feeds.ensures in
    let P : List Terms → Type 0 = λ fs. AreWordsInBits circuit fs in
    let are : AreWordsInBits circuit feeds = subst P (sym same) c.requires.words in
    let Q : SpecTerms → Type 0 = λ ss. IsSpecRefusal circuit ss c.args.bound c.fault_of.result in
    let R : ReduceFault → Type 0 = λ f. IsSpecRefusal circuit c.terms.result.now c.args.bound f in
    subst Q c.terms.ensures.value (subst R (sym c.fault_of.ensures) (spec_refused circuit c.requires.well feeds are c.terms.result.now c.args.bound c.in-Err.fault c.in-Err.ensures.fault))
