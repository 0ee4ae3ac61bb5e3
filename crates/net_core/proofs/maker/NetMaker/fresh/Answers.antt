use Rattle.std.proofs.Common.{◌∙◌, ap, sym, arith}
use Rattle.net_core.specs.NetList.{nets}
use Rattle.net_core.proofs.NameLemmas.{fresh_made, inside_fresh}
use Rattle.net_core.proofs.maker.NetMaker.fresh.Goals as goal

pub invariant_of-self-2 : goal.invariant_of-self-2
invariant_of-self-2 c =
    let old = c.self.inside in (
      (λ q none. sym (fresh_made old.labels.items c.add_net.new.labels.items c.args.label.now c.in_ok-number.ensures.made q) ∙ c.self.invariant.0 q none),
      inside_fresh (record { labels = old.labels.items; inputs = old.inputs.items; outputs = old.outputs.items; gates = old.gates.items; latches = old.latches.items }) c.add_net.new.labels.items _ c.in_ok-number.ensures.made (omega arith) c.self.invariant.1,
    )

pub returns-clause-number : goal.returns-clause-number
returns-clause-number c = c.in_ok-number.ensures.number ∙ ap nets c.self.view_is
