use Rattle.std.proofs.Common.{◌∙◌, sym, subst, ℕ, ◌<◌, ◌^◌, List, length}
use Rattle.std.specs.Prelude.{IfErr}
use Rattle.gf_basis.specs.BasisParts.{elements_of}
use Rattle.poly_mixed.specs.Polynomial.{Terms, IsReduced}
use Rattle.word_subst.specs.ReadRefusal.{IsWordRefusal}
use Rattle.word_subst.specs.private.Reading.{ReadsWord}
use Rattle.word_subst.proofs.words.next_word.Goals as goal

pub one_word-requires-clause-terms : goal.one_word-requires-clause-terms
one_word-requires-clause-terms g c =
    let P : Terms → Type 0 = IsReduced (g.F.Ring.degree c.args.field.now) in
    subst P (sym (c.deref.ensures.value ∙ c.in_ok-terms.ensures)) c.requires.terms

pub one_word-requires-clause-few : goal.one_word-requires-clause-few
one_word-requires-clause-few g c =
    let P : Terms → Type 0 = λ ts. length ts < 2 ^ 32 in
    subst P (sym (c.deref.ensures.value ∙ c.in_ok-terms.ensures)) c.requires.few

pub returns-clause-read : goal.returns-clause-read
returns-clause-read g c =
    let k : ℕ = g.F.Ring.degree c.args.field.now in
    let mul : ℕ → ℕ → ℕ = g.F.Ring.product c.args.field.now in
    let els : List ℕ = elements_of c.args.basis.now in
    let P : Terms → Type 0 = λ ts. ReadsWord k mul els c.args.word ts c.args.bound (g.T.Steps.steps c.args.steps.now) (g.T.Steps.steps c.one_word.new.steps) c.one_word.result in
    subst P (c.deref.ensures.value ∙ c.in_ok-terms.ensures) c.one_word.ensures.read

pub returns-clause-fault : goal.returns-clause-fault
returns-clause-fault g c =
    let k : ℕ = g.F.Ring.degree c.args.field.now in
    let mul : ℕ → ℕ → ℕ = g.F.Ring.product c.args.field.now in
    let els : List ℕ = elements_of c.args.basis.now in
    let P : Terms → Type 0 = λ ts. IfErr c.one_word.result (IsWordRefusal k mul els c.args.word ts c.args.bound) in
    subst P (c.deref.ensures.value ∙ c.in_ok-terms.ensures) c.one_word.ensures.fault
