use Rattle.std.proofs.Common.{arith}
use Rattle.net_core.specs.NetList.{nets}
use Rattle.unroll.specs.Places.{cycle_nets}
use Rattle.unroll.specs.Unrolled.{nets_of_words}
use Rattle.unroll.proofs.PlanLemmas.{words_init, words_step}
use Rattle.unroll.proofs.plan.Plan.word_nets.Goals as goal

pub loop-w-init : goal.loop-w-init
loop-w-init c = words_init (nets c.args.self.now.net) c.args.self.now.cycles c.args.self.now.binding.k (cycle_nets (nets c.args.self.now.net) c.args.self.now.cycles) c.args.self.now.binding.words c.new-list.result.items c.new-list.ensures.items

pub loop-w-preserved : goal.loop-w-preserved
loop-w-preserved c = words_step (nets c.args.self.now.net) c.args.self.now.cycles c.args.self.now.binding.k (cycle_nets (nets c.args.self.now.net) c.args.self.now.cycles) c.args.self.now.binding.words c.loop-w.w c.loop-w.list.items c.add_word_nets.new.list.items (nets_of_words (nets c.args.self.now.net) c.args.self.now.cycles c.args.self.now.binding.k (cycle_nets (nets c.args.self.now.net) c.args.self.now.cycles) c.args.self.now.binding.words) (omega (arith, c.words-w-end.ensures.count)) c.in_ok-add_word_nets.ensures c.loop-w.invariant
