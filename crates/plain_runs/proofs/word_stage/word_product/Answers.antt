use Rattle.std.proofs.Common.{◌≡◌, ap, subst, ℕ, ◌-◌, ◌<◌, Some, length, arith}
use Rattle.std.specs.Prelude.{slice_get}
use Rattle.lists.specs.laws.OptionLaws.{if_some}
use Rattle.lists.specs.laws.ReadLaws.{got_read}
use Rattle.gf_basis.specs.BasisParts.{elements_of}
use Rattle.poly_mixed.specs.Polynomial.{Terms}
use Rattle.stage_model.specs.PlainWord.{IsProductOf, IsProductStage}
use Rattle.plain_runs.proofs.PlainStageLemmas.{product_is, has_places, term_place}
use Rattle.plain_runs.proofs.word_stage.word_product.Goals as goal
use Rattle.plain_runs.proofs.word_stage.word_product.Goals.{else-word-words-via-then-word-words+then-term-ge1+else-term-len, else-word-words-via-then-word-words+else-term-ge1, else-word-words-via-else-word-words}

pub returns-then-term-len-clause-stage : goal.returns-then-term-len-clause-stage
returns-then-term-len-clause-stage g c =
    let k : ℕ = g.F.Ring.degree c.args.field.now in
    let mul : ℕ → ℕ → ℕ = g.F.Ring.product c.args.field.now in
    let terms : Terms = c.args.before.now.terms in
    let P : Terms → Type 0 = λ ts. slice_get ts (c.args.term - 1) ≡ Some c.index.result.now in
    let inside : c.args.term - 1 < length c.in_ok-terms.terms.items = omega (arith, c.if-term-ge1.true, c.if-term-len.true, c.len.ensures) in
    let at : slice_get terms (c.args.term - 1) ≡ Some c.index.result.now = subst P c.in_ok-terms.ensures (got_read c.in_ok-terms.terms.items (c.args.term - 1) c.index.result.now inside c.index.ensures) in
    if_some c.in_ok-found.found (λ q. IsProductOf k mul (elements_of c.index-words-word.result.basis) c.args.word c.index.result.now c.args.bit q.terms) (λ q. IsProductStage k mul c.args.words.now terms c.args.word c.args.term c.args.bit q.terms)
    (λ q is. product_is k mul c.args.words.now c.args.word c.index-words-word.result (got_read c.args.words.now c.args.word c.index-words-word.result c.if-word-words.true c.index-words-word.is)
    terms (c.args.term - 1) c.args.term c.args.bit c.index.result.now q.terms (term_place c.args.term c.if-term-ge1.true) at is) c.in_ok-found.ensures.product

pub returns-clause-has : goal.returns-clause-has
returns-clause-has g c = (
  (λ e. absurd (cc)),
  λ has.
      let places = has_places (g.F.Ring.degree c.args.field.now) (length c.args.words.now) c.args.before.now.terms c.args.word c.args.term c.args.bit has in
      let long : length c.in_ok-terms.terms.items ≡ length c.args.before.now.terms = ap length c.in_ok-terms.ensures in
      elim c.else-word-words.branch [
        | else-word-words-via-then-word-words+then-term-ge1+else-term-len w ↦ absurd (omega (arith, w.if-term-len.false, w.len.ensures, places.2, long))
        | else-word-words-via-then-word-words+else-term-ge1 w ↦ absurd (omega (arith, w.if-term-ge1.false, places.1))
        | else-word-words-via-else-word-words w ↦ absurd (omega (arith, w.if-word-words.false, places.0))
      ],
)
