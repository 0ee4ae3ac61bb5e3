use Rattle.std.proofs.Common.{◌≡◌, subst, ℕ, length, arith}
use Rattle.gf_basis.specs.BasisParts.{elements_of}
use Rattle.word_subst.specs.private.Reading.{IsReadTo}
use Rattle.word_subst.proofs.OneWordLemmas.{nothing_told, all_told}
use Rattle.word_subst.proofs.word.take_terms.Goals as goal

pub loop-s-init : goal.loop-s-init
loop-s-init g c = record {
  read = c.requires.read;
  told = nothing_told (g.F.Ring.degree c.args.field.now) (g.F.Ring.product c.args.field.now) (elements_of c.args.basis.now) c.args.word c.args.terms.now c.args.bound (g.T.Steps.steps c.args.steps.now);
}

pub take_term-requires-clause-read : goal.take_term-requires-clause-read
take_term-requires-clause-read g c = c.loop-s.invariant.read

pub loop-s-preserved : goal.loop-s-preserved
loop-s-preserved g c = record {
  read = c.in_ok-take_term.ensures.read;
  told = c.in_ok-take_term.ensures.told (g.T.Steps.steps c.args.steps.now) c.loop-s.invariant.told;
}

pub returns-clause-read : goal.returns-clause-read
returns-clause-read g c =
    let last : c.loop-s.s ≡ length c.args.terms.now = omega (arith, c.loop-s-test.false, c.loop-s.auto.s-end) in
    let P : ℕ → Type 0 = λ n. IsReadTo (g.F.Ring.degree c.args.field.now) (g.F.Ring.product c.args.field.now) (elements_of c.args.basis.now) c.args.word c.args.terms.now c.args.bound n c.loop-s.products c.loop-s.sums in
    subst P last c.loop-s.invariant.read

pub returns-clause-told : goal.returns-clause-told
returns-clause-told g c =
    all_told (g.F.Ring.degree c.args.field.now) (g.F.Ring.product c.args.field.now) (elements_of c.args.basis.now) c.args.word c.args.terms.now c.args.bound c.loop-s.s (g.T.Steps.steps c.args.steps.now) (g.T.Steps.steps c.loop-s.steps) c.loop-s-test.false c.loop-s.invariant.told
