use Rattle.std.proofs.Common.{Result, ◌∙◌, subst, arith}
use Rattle.poly_mixed.specs.Polynomial.{Terms}
use Rattle.poly_mixed.specs.private.Reading.{IsSaid}
use Rattle.poly_mixed.specs.declared.fault.PolyFault.{PolyFault}
use Rattle.poly_mixed.proofs.PartLemmas.{turn_said, turn_fault}
use Rattle.poly_mixed.proofs.read.Reading.parts.Goals as goal

pub returns-in-Err-clause-fault : goal.returns-in-Err-clause-fault
returns-in-Err-clause-fault c =
    let P : Result Terms PolyFault → Type 0 = λ r. IsSaid r c.in-Err.fault in
    let test = c.loop-test.true in
    subst P c.loop.invariant.said (turn_fault _ c.loop.counter c.args.labels.now c.args.k _ c.in-Err.fault (omega arith) c.in-Err.ensures.step)

pub loop-preserved : goal.loop-preserved
loop-preserved c = record {
  said = turn_said _ c.loop.counter c.args.labels.now c.args.k _ _ (omega arith) c.in-Ok.ensures.step ∙ c.loop.invariant.said;
  fresh = c.in-Ok.ensures.fresh;
}
