use Rattle.std.proofs.Common.{◌∙◌, arith, sym, take_all}
use Rattle.unroll.proofs.PlanLemmas.{has_k, nets_step, no_nets}
use Rattle.unroll.proofs.words.nets_of.Goals as goal

pub returns-then-not-has_nets : goal.returns-then-not-has_nets
returns-then-not-has_nets c = λ word got. c.new-list.ensures.items ∙ sym (no_nets c.args.binding.now c.args.w c.has_nets.result word c.requires.binding got (c.has_nets.ensures word got) c.if-not-has_nets.true)

pub loop-place-preserved : goal.loop-place-preserved
loop-place-preserved c = λ word got.
    let long = has_k c.args.binding.now c.args.w c.has_nets.result word (c.has_nets.ensures word got) c.if-not-has_nets.false in
    nets_step word.nets c.loop-place.list.items c.push.new.self.items c.loop-place.place c.net.result (omega (arith, long, c.k-place-end.ensures.bits)) (c.loop-place.invariant word got) (c.net.ensures word got) c.in_ok-push.ensures.items

pub returns : goal.returns
returns c = λ word got.
    let long = has_k c.args.binding.now c.args.w c.has_nets.result word (c.has_nets.ensures word got) c.if-not-has_nets.false in
    c.loop-place.invariant word got ∙ take_all c.loop-place.place word.nets (omega (arith, long, c.k-place-end.ensures.bits))
