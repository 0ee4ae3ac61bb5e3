use Rattle.std.proofs.Common.{◌∙◌, ◌+◌, Bool, ap, cond, length, sym, ◌≡◌, arith, not}
use Rattle.net_core.specs.declared.latch.Start.TheVariants.{Zero}
use Rattle.unroll.proofs.CodeLemmas.{count_more, taken_few, taken_short}
use Rattle.unroll.proofs.plan.Plan.started_latches.Goals.{then-is_started, else-is_started}
use Rattle.net_core.specs.LatchValue.{LatchValue}
use Rattle.unroll.specs.Gates.{is_held}
use Rattle.unroll.proofs.plan.Plan.started_latches.Goals as goal

pub overflow_add-count : goal.overflow_add-count
overflow_add-count c = omega (arith, c.loop-latch.invariant, taken_short (λ (k : LatchValue). not (is_held c.args.self.now.binding k)) c.args.self.now.net.latches c.loop-latch.latch-index)

pub returns-clause-few : goal.returns-clause-few
returns-clause-few c = omega (arith, c.loop-latch.invariant, taken_few (λ (k : LatchValue). not (is_held c.args.self.now.binding k)) c.args.self.now.net.latches c.loop-latch.latch-index)

pub loop-latch-preserved : goal.loop-latch-preserved
loop-latch-preserved c =
    elim c.if-is_started.branch [
      | then-is_started w ↦ count_more (λ (k : LatchValue). not (is_held c.args.self.now.binding k)) c.args.self.now.net.latches c.latches-latch-items.result.now c.loop-latch.latch-index (record { next = 0; out = 0; start = Zero }) c.loop-latch.count c.if-is_started.count c.is_started.result c.latches-latch-items.ensures.latches (omega (arith, ap length c.latches-latch-items.ensures.latches)) c.loop-latch.invariant c.is_started.ensures (w.count-is ∙ ap (λ (b : Bool). c.loop-latch.count + cond b 1 0) (sym w.if-is_started.true))
      | else-is_started w ↦ let none : c.loop-latch.count ≡ c.loop-latch.count + 0 = omega arith in count_more (λ (k : LatchValue). not (is_held c.args.self.now.binding k)) c.args.self.now.net.latches c.latches-latch-items.result.now c.loop-latch.latch-index (record { next = 0; out = 0; start = Zero }) c.loop-latch.count c.if-is_started.count c.is_started.result c.latches-latch-items.ensures.latches (omega (arith, ap length c.latches-latch-items.ensures.latches)) c.loop-latch.invariant c.is_started.ensures (w.count-is ∙ none ∙ ap (λ (b : Bool). c.loop-latch.count + cond b 1 0) (sym w.if-is_started.false))
    ]
