use Rattle.std.proofs.Common.{◌≡◌, ◌∙◌, ◌≤◌, ◌++◌, ◌∷◌, [], ap, subst, ℕ, List, Some, length, arith}
use Rattle.std.specs.Prelude.{slice_get}
use Rattle.std.proofs.lemmas.List.{take_all}
use Rattle.lists.specs.laws.ReadLaws.{all_at, got_read}
use Rattle.poly_mixed.specs.Monomial.{Monomial}
use Rattle.poly_mixed.specs.Polynomial.{Terms}
use Rattle.compose_polys.specs.Instance.{block_terms}
use Rattle.compose_polys.proofs.StageLemmas.{terms_more}
use Rattle.compose_polys.proofs.terms.sum_terms.Goals as goal

pub sum_term-requires : goal.sum_term-requires
sum_term-requires g c =
    let ts : Terms = c.args.block.now.terms in
    let s : ℕ = c.loop-s.s in
    let t : Monomial × ℕ = c.index.result.now in
    let P : Terms → Type 0 = λ us. slice_get us s ≡ Some t in
    let at : slice_get ts s ≡ Some t = subst P c.in_ok-terms.ensures (got_read c.in_ok-terms.terms.items s t (omega (arith, c.loop-s-test.true, c.len-s-end.ensures)) c.index.ensures) in
    (all_at _ ts s t c.requires.terms at).monomial.words

pub loop-s-preserved : goal.loop-s-preserved
loop-s-preserved g c =
    let ts : Terms = c.args.block.now.terms in
    let s : ℕ = c.loop-s.s in
    let t : Monomial × ℕ = c.index.result.now in
    let P : Terms → Type 0 = λ us. slice_get us s ≡ Some t in
    let at : slice_get ts s ≡ Some t = subst P c.in_ok-terms.ensures (got_read c.in_ok-terms.terms.items s t (omega (arith, c.loop-s-test.true, c.len-s-end.ensures)) c.index.ensures) in
    let Q : ℕ × List (ℕ × ℕ) → Type 0 = λ u. c.push.new.self.items ≡ c.loop-s.made.items ++ u ∷ [] in
    terms_more ts s t c.loop-s.made.items c.push.new.self.items at (subst Q c.in_ok-term.ensures c.in_ok-push.ensures.items) c.loop-s.invariant

pub returns : goal.returns
returns g c =
    let ts : Terms = c.args.block.now.terms in
    let last : length ts ≤ c.loop-s.s = omega (arith, c.loop-s-test.false, c.loop-s.auto.s-end, c.len-s-end.ensures, ap length c.in_ok-terms.ensures) in
    c.loop-s.invariant ∙ ap block_terms (take_all c.loop-s.s ts last)
