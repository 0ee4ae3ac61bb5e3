use Rattle.std.proofs.Common.{rules, ◌+◌, refl, arith, drop}
use Rattle.net_aiger.specs.Nets.{output_made, outputs_made}
use Rattle.net_aiger.specs.Checks.{own}
use Rattle.net_aiger.specs.private.Making.{IsFaultOf}
use Rattle.net_aiger.proofs.AwaitLemmas.{name_is_new}
use Rattle.net_aiger.proofs.KeepLemmas.{awaited_at, output_awaits}
use Rattle.net_aiger.proofs.MakeLemmas.{fault_next, made_next}
use Rattle.net_aiger.proofs.make.make_outputs.Goals as goal

pub make_output-requires-clause-is_new : goal.make_output-requires-clause-is_new
make_output-requires-clause-is_new c = λ own_is.
    name_is_new c.args.reader.now c.loop-literal.port _ (drop (c.loop-literal.literal-index + 1) c.args.literals.now) c.loop-literal.maker
    (awaited_at c.args.reader.now c.loop-literal.port c.args.literals.now c.loop-literal.literal-index 0 c.loop-literal.maker c.loop-literal-test.true c.loop-literal.invariant.awaits) own_is

pub loop-literal-preserved : goal.loop-literal-preserved
loop-literal-preserved c =
    let reading = c.args.reader.now in
    record {
      place = omega (arith, c.loop-literal.invariant.place);
      made = made_next (λ p x n. output_made reading p x (own reading p x) n) (λ p xs n. outputs_made reading p xs n) (λ p x xs n. refl) c.args.literals.now c.loop-literal.literal-index c.loop-literal.port _ 0 c.loop-literal.maker c.make_output.new.maker _ c.loop-literal-test.true refl c.loop-literal.invariant.made c.in_ok-make_output.ensures.made;
      long = c.in_ok-make_output.ensures.long;
      awaits = output_awaits reading c.loop-literal.port _ (drop (c.loop-literal.literal-index + 1) c.args.literals.now) c.loop-literal.maker c.make_output.new.maker
          (awaited_at reading c.loop-literal.port c.args.literals.now c.loop-literal.literal-index 0 c.loop-literal.maker c.loop-literal-test.true c.loop-literal.invariant.awaits) c.in_ok-make_output.ensures.made;
    }

pub returns-in_err-make_output-clause-fault : goal.returns-in_err-make_output-clause-fault
returns-in_err-make_output-clause-fault c =
    let reading = c.args.reader.now in
    let fault : IsFaultOf (outputs_made reading c.args.first c.args.literals.now c.args.maker.now) c.in_err-make_output.field-0.0 = fault_next (λ p x n. output_made reading p x (own reading p x) n) (λ p xs n. outputs_made reading p xs n) (λ p x xs n. refl) c.args.literals.now c.loop-literal.literal-index c.loop-literal.port _ 0 c.loop-literal.maker _ c.in_err-make_output.field-0.0 c.loop-literal-test.true refl c.loop-literal.invariant.made c.in_err-make_output.ensures.fault in
    search rules
