use Rattle.std.proofs.Common.{◌∙◌, subst, ℕ}
use Rattle.lists.specs.laws.ReadLaws.{got_read}
use Rattle.gf_basis.specs.BasisParts.{elements_of}
use Rattle.poly_mixed.specs.Polynomial.{Terms}
use Rattle.stage_model.specs.PlainWord.{IsSumOf}
use Rattle.plain_runs.proofs.PlainStageLemmas.{sum_is}
use Rattle.plain_runs.proofs.word_stage.word_sum.Goals as goal

pub returns-then-term-len-clause-stage : goal.returns-then-term-len-clause-stage
returns-then-term-len-clause-stage g c =
    let k : ℕ = g.F.Ring.degree c.args.field.now in
    let mul : ℕ → ℕ → ℕ = g.F.Ring.product c.args.field.now in
    let P : Terms → Type 0 = λ ts. IsSumOf k mul (elements_of c.index-words-word.result.basis) c.args.word ts c.args.term c.in_ok-poly.poly.terms in
    sum_is k mul c.args.words.now c.args.word c.index-words-word.result (got_read c.args.words.now c.args.word c.index-words-word.result c.if-word-words.true c.index-words-word.is)
    c.args.before.now.terms c.args.term c.in_ok-poly.poly.terms (subst P (c.deref.ensures.value ∙ c.in_ok-terms.ensures) c.in_ok-poly.ensures)
