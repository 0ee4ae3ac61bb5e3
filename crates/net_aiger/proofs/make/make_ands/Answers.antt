use Rattle.std.proofs.Common.{rules, refl}
use Rattle.net_aiger.specs.Nets.{and_made, ands_made}
use Rattle.net_aiger.specs.Reading.{net_of}
use Rattle.net_aiger.specs.private.Making.{IsFaultOf}
use Rattle.net_aiger.specs.declared.reading.AndLine.{AndLine}
use Rattle.net_aiger.proofs.MakeLemmas.{fault_next, made_next}
use Rattle.net_aiger.proofs.make.make_ands.Goals as goal

pub loop-line-preserved : goal.loop-line-preserved
loop-line-preserved c =
    let reading = c.args.reader.now in
    record {
      made = made_next {A = AndLine} (λ p x n. and_made reading (net_of reading x.literal) x n) (λ p xs n. ands_made reading xs n) (λ p x xs n. refl) c.args.lines.now c.loop-line.line-index 0 _ _ c.loop-line.maker c.make_and.new.maker _ c.loop-line-test.true refl c.loop-line.invariant.made c.in_ok-make_and.ensures.made;
      long = c.in_ok-make_and.ensures.long;
    }

pub returns-in_err-make_and-clause-fault : goal.returns-in_err-make_and-clause-fault
returns-in_err-make_and-clause-fault c =
    let reading = c.args.reader.now in
    let fault : IsFaultOf (ands_made reading c.args.lines.now c.args.maker.now) c.in_err-make_and.field-0.0 = fault_next {A = AndLine} (λ p x n. and_made reading (net_of reading x.literal) x n) (λ p xs n. ands_made reading xs n) (λ p x xs n. refl) c.args.lines.now c.loop-line.line-index 0 _ _ c.loop-line.maker _ c.in_err-make_and.field-0.0 c.loop-line-test.true refl c.loop-line.invariant.made c.in_err-make_and.ensures.fault in
    search rules
