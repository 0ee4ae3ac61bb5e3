use Rattle.std.proofs.Common.{arith}
use Rattle.net_words.specs.Feeds.{is_fed}
use Rattle.unroll.proofs.CodeLemmas.{taken_few, taken_short}
use Rattle.unroll.proofs.plan.Plan.fed_inputs.Goals as goal

pub overflow_add-count : goal.overflow_add-count
overflow_add-count c = omega (arith, c.loop-n.invariant, taken_short (is_fed c.args.self.now.binding.feeds) c.args.self.now.net.inputs c.loop-n.n-index)

pub returns-clause-few : goal.returns-clause-few
returns-clause-few c = omega (arith, c.loop-n.invariant, taken_few (is_fed c.args.self.now.binding.feeds) c.args.self.now.net.inputs c.loop-n.n-index)
