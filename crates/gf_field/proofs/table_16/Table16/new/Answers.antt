use Rattle.std.proofs.Common.{◌∙◌, ◌*◌, ◌+◌, ap, arith, ℕ, replicate, length-set}
use Rattle.std.proofs.Math.ListN.{length-replicate}
use Rattle.gf_field.specs.private.ShiftAndAdd.{times_x}
use Rattle.gf_field.proofs.PartLaws.{part_element}
use Rattle.gf_field.proofs.TableStepLemmas.{first_two, two_more}
use Rattle.gf_field.proofs.table_16.Table16.new.Goals as goal

pub loop-n-init : goal.loop-n-init
loop-n-init c = record {
  whole = length-set (replicate {A = ℕ} 16 0) 1 c.args.a ∙ length-replicate {A = ℕ} 16 0;
  done = first_two c.args.degree c.args.modulus c.args.a c.requires.modulus c.requires.element;
}

pub times_x-even-requires-clause-element : goal.times_x-even-requires-clause-element
times_x-even-requires-clause-element c = rw (c.loop-n.invariant.done c.loop-n.n (omega arith)) (part_element c.args.degree c.args.modulus 4 c.loop-n.n c.args.a c.requires.modulus)

pub loop-n-preserved : goal.loop-n-preserved
loop-n-preserved c = record {
  whole = length-set _ (2 * c.loop-n.n + 1) _ ∙ length-set c.loop-n.multiples (2 * c.loop-n.n) _ ∙ c.loop-n.invariant.whole;
  done = two_more c.args.degree c.args.modulus c.args.a c.requires.modulus c.requires.element c.loop-n.multiples c.loop-n.n c.times_x-even.result c.loop-n.invariant.whole (omega arith)
      (c.times_x-even.ensures.product ∙ ap (times_x c.args.degree c.args.modulus) (c.loop-n.invariant.done c.loop-n.n (omega arith))) c.loop-n.invariant.done;
}
