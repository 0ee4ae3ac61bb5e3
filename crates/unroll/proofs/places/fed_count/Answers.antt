use Rattle.std.proofs.Common.{◌∙◌, ◌+◌, ap, arith, refl}
use Rattle.net_words.proofs.VariableLemmas.{words_few}
use Rattle.unroll.proofs.CodeLemmas.{count_step}
use Rattle.unroll.specs.Places.{fed_bits, fed_count}
use Rattle.unroll.proofs.places.fed_count.Goals as goal

pub overflow_add-count : goal.overflow_add-count
overflow_add-count c = omega (arith, c.loop-w.invariant.few, c.fed_bits-count.ensures.few, c.k.ensures.bits, c.k.ensures.is_binding.most, words_few c.args.binding.now c.words-w-end.ensures.is_binding, c.words-w-end.ensures.count)

pub loop-w-preserved : goal.loop-w-preserved
loop-w-preserved c = record {
  sum = count_step c.args.binding.now.k c.args.binding.now.words c.loop-w.w c.loop-w.count (c.loop-w.count + c.fed_bits-count.result) c.fed_bits-count.result (fed_count c.args.binding.now.k c.args.binding.now.words) c.role.result (omega (arith, c.words-w-end.ensures.count)) c.role.ensures (c.fed_bits-count.ensures.count ∙ ap (λ k. fed_bits k c.role.result) c.k.ensures.bits) refl c.loop-w.invariant.sum;
  few = omega (arith, c.loop-w.invariant.few, c.fed_bits-count.ensures.few, c.k.ensures.bits, c.k.ensures.is_binding.most);
}

pub returns-clause-few : goal.returns-clause-few
returns-clause-few c = omega (arith, c.loop-w.invariant.few, words_few c.args.binding.now c.words-w-end.ensures.is_binding, c.words-w-end.ensures.count)
