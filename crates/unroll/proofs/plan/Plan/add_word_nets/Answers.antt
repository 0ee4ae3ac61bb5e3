use Rattle.std.proofs.Common.{◌∙◌, ◌++◌, ap, arith, take_all}
use Rattle.lists.specs.laws.HasLaws.{All_has}
use Rattle.net_core.specs.NetList.{nets}
use Rattle.net_words.specs.Binding.{HasWidth}
use Rattle.unroll.specs.Places.{cycle_nets, first_bit}
use Rattle.unroll.specs.Unrolled.{nets_with}
use Rattle.unroll.proofs.PlanLemmas.{more_step}
use Rattle.unroll.proofs.WordLemmas.{with_long}
use Rattle.unroll.proofs.plan.Plan.add_word_nets.Goals as goal

pub loop-place-preserved : goal.loop-place-preserved
loop-place-preserved c = λ word got.
    let long = with_long (nets c.args.self.now.net) c.args.self.now.cycles c.args.self.now.binding.k (first_bit c.args.self.now.binding.k (cycle_nets (nets c.args.self.now.net) c.args.self.now.cycles) c.args.self.now.binding.words c.args.w) word (All_has (HasWidth c.args.self.now.binding.k) c.args.self.now.binding.words word c.requires.binding.parts.each (c.args.w, got)) in
    more_step c.args.list.now.items (nets_with (nets c.args.self.now.net) c.args.self.now.cycles c.args.self.now.binding.k (first_bit c.args.self.now.binding.k (cycle_nets (nets c.args.self.now.net) c.args.self.now.cycles) c.args.self.now.binding.words c.args.w) word.role word.nets) c.loop-place.list.items c.push.new.self.items c.loop-place.place c.place_net.result (omega (arith, long, c.k-place-end.ensures.bits)) (c.loop-place.invariant word got) (c.place_net.ensures word got) c.in_ok-push.ensures.items

pub returns : goal.returns
returns c = λ word got.
    let long = with_long (nets c.args.self.now.net) c.args.self.now.cycles c.args.self.now.binding.k (first_bit c.args.self.now.binding.k (cycle_nets (nets c.args.self.now.net) c.args.self.now.cycles) c.args.self.now.binding.words c.args.w) word (All_has (HasWidth c.args.self.now.binding.k) c.args.self.now.binding.words word c.requires.binding.parts.each (c.args.w, got)) in
    c.loop-place.invariant word got ∙ ap (λ ns. c.args.list.now.items ++ ns) (take_all c.loop-place.place (nets_with (nets c.args.self.now.net) c.args.self.now.cycles c.args.self.now.binding.k (first_bit c.args.self.now.binding.k (cycle_nets (nets c.args.self.now.net) c.args.self.now.cycles) c.args.self.now.binding.words c.args.w) word.role word.nets) (omega (arith, long, c.k-place-end.ensures.bits)))
