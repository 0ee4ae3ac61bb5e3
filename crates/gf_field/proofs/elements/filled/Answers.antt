use Rattle.std.proofs.Common.{ℕ, ◌∙◌, refl, arith, length-set}
use Rattle.std.proofs.Math.ListN.{length-replicate}
use Rattle.gf_field.proofs.CopyLemmas.{copied_more, copied_all, zeros, set_rest}
use Rattle.gf_field.proofs.elements.filled.Goals as goal

pub loop-i-init : goal.loop-i-init
loop-i-init c = record { copied = refl; whole = length-replicate {A = ℕ} 64 0; rest = λ j h. zeros 64 j }

pub loop-i-preserved : goal.loop-i-preserved
loop-i-preserved c =
    let inv = c.loop-i.invariant in
    record {
      copied = copied_more c.loop-i.all c.args.numbers.now c.loop-i.i (omega arith) (omega arith) inv.copied;
      whole = length-set c.loop-i.all c.loop-i.i _ ∙ inv.whole;
      rest = set_rest c.loop-i.all c.loop-i.i _ inv.rest;
    }

pub returns-clause-numbers : goal.returns-clause-numbers
returns-clause-numbers c = copied_all c.loop-i.all c.args.numbers.now c.loop-i.i (omega arith) (omega arith) c.loop-i.invariant.copied

pub returns-clause-zeros : goal.returns-clause-zeros
returns-clause-zeros c = λ i h. c.loop-i.invariant.rest i (omega arith)
