use Rattle.std.proofs.Common.{rules, refl}
use Rattle.net_aiger.specs.Nets.{latch_made, latches_made}
use Rattle.net_aiger.specs.Reading.{net_of}
use Rattle.net_aiger.specs.private.Making.{IsFaultOf}
use Rattle.net_aiger.specs.declared.reading.LatchLine.{LatchLine}
use Rattle.net_aiger.proofs.MakeLemmas.{fault_next, made_next}
use Rattle.net_aiger.proofs.make.make_latches.Goals as goal

pub loop-line-preserved : goal.loop-line-preserved
loop-line-preserved c =
    let reading = c.args.reader.now in
    record {
      made = made_next {A = LatchLine} (λ p x n. latch_made reading (net_of reading x.literal) x n) (λ p xs n. latches_made reading xs n) (λ p x xs n. refl) c.args.lines.now c.loop-line.line-index 0 _ _ c.loop-line.maker c.make_latch.new.maker _ c.loop-line-test.true refl c.loop-line.invariant.made c.in_ok-make_latch.ensures.made;
      long = c.in_ok-make_latch.ensures.long;
    }

pub returns-in_err-make_latch-clause-fault : goal.returns-in_err-make_latch-clause-fault
returns-in_err-make_latch-clause-fault c =
    let reading = c.args.reader.now in
    let fault : IsFaultOf (latches_made reading c.args.lines.now c.args.maker.now) c.in_err-make_latch.field-0.0 = fault_next {A = LatchLine} (λ p x n. latch_made reading (net_of reading x.literal) x n) (λ p xs n. latches_made reading xs n) (λ p x xs n. refl) c.args.lines.now c.loop-line.line-index 0 _ _ c.loop-line.maker _ c.in_err-make_latch.field-0.0 c.loop-line-test.true refl c.loop-line.invariant.made c.in_err-make_latch.ensures.fault in
    search rules
