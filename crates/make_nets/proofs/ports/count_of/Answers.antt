use Rattle.std.proofs.Common.{List, ℕ, ap, arith, length}
use Rattle.make_nets.proofs.PortLemmas.{count_done, count_room, count_step}
use Rattle.make_nets.proofs.ports.count_of.Goals as goal

pub overflow_cast-count : goal.overflow_cast-count
overflow_cast-count c = omega (arith, count_room c.args.words.now c.loop-word.word-index c.word-item.result c.loop-word.count (length c.as_slice.result.now) c.loop-word-test.true c.word-item.is (ap (λ (zs : List (List ℕ)). length zs) c.as_slice.ensures) c.loop-word.invariant, c.requires)

pub overflow_add-count : goal.overflow_add-count
overflow_add-count c = omega (arith, count_room c.args.words.now c.loop-word.word-index c.word-item.result c.loop-word.count (length c.as_slice.result.now) c.loop-word-test.true c.word-item.is (ap (λ (zs : List (List ℕ)). length zs) c.as_slice.ensures) c.loop-word.invariant, c.requires)

pub loop-word-preserved : goal.loop-word-preserved
loop-word-preserved c = count_step c.args.words.now c.loop-word.word-index c.word-item.result c.loop-word.count (length c.as_slice.result.now) c.loop-word-test.true c.word-item.is (ap (λ (zs : List (List ℕ)). length zs) c.as_slice.ensures) c.loop-word.invariant

pub returns : goal.returns
returns c = count_done c.args.words.now c.loop-word.word-index c.loop-word.count c.loop-word-test.false c.loop-word.invariant
