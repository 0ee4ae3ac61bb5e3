use Rattle.std.proofs.Common.{Vec, Global, List, ℕ}
use Rattle.outcome.specs.Outcome.{Within}
use Rattle.gf_basis.specs.BasisParts.{elements_of}
use Rattle.gf_basis.specs.declared.bases.Basis.{Basis}
use Rattle.job_input.specs.SettingOf.{WordBasis, BasesOf}
use Rattle.job_input.specs.Setting.{elements_of_each}
use Rattle.job_words.specs.declared.fault.Fault.TheVariants.{Signature}
use Rattle.job_words.proofs.StepLemmas.{gives_fault}
use Rattle.job_input.proofs.BasesLemmas.{rest_step, rest_fails, rest_end, over_push}
use Rattle.job_input.proofs.setting.bases_of.Goals as goal

pub returns-in-Err-clause-gives : goal.returns-in-Err-clause-gives
returns-in-Err-clause-gives g c =
    let k = g.F.Ring.degree c.args.poly.now.field.now in
    let product = g.F.Ring.product c.args.poly.now.field.now in
    let view : Vec Basis Global → List (List ℕ) = λ bases. elements_of_each bases.items in
    let word = c.word-item.result in
    gives_fault elements_of view c.in-Err.stop (Within Signature (WordBasis k product word)) (Within Signature (BasesOf k product c.args.words.now))
    (λ fault fails. (fails.0, c.loop-word.invariant.1 _ (rest_fails k product (elements_of_each c.loop-word.bases.items) c.args.words.now c.loop-word.word-index word word c.loop-word-test.true c.word-item.is fails.0 fails.1), fails.2))
    c.in-Err.ensures.gives

pub loop-word-preserved : goal.loop-word-preserved
loop-word-preserved g c =
    let k = g.F.Ring.degree c.args.poly.now.field.now in
    let product = g.F.Ring.product c.args.poly.now.field.now in
    let word = c.word-item.result in (
      over_push k product c.loop-word.bases.items c.push.new.self.items c.in-Ok.basis c.in_ok-push.ensures.items c.loop-word.invariant.0 c.in-Ok.ensures.over,
      λ outcome rest. c.loop-word.invariant.1 outcome
          (rest_step k product c.loop-word.bases.items c.push.new.self.items c.in-Ok.basis c.args.words.now c.loop-word.word-index word word c.loop-word-test.true c.word-item.is c.in_ok-push.ensures.items c.in-Ok.ensures.gives outcome rest),
    )

pub returns-clause-gives : goal.returns-clause-gives
returns-clause-gives g c =
    let k = g.F.Ring.degree c.args.poly.now.field.now in
    let product = g.F.Ring.product c.args.poly.now.field.now in
    c.loop-word.invariant.1 _ (rest_end k product (elements_of_each c.loop-word.bases.items) c.args.words.now c.loop-word.word-index c.loop-word-test.false)

pub returns-clause-over : goal.returns-clause-over
returns-clause-over g c = c.loop-word.invariant.0

pub returns-in-Err-clause-over : goal.returns-in-Err-clause-over
returns-in-Err-clause-over g c = tt
