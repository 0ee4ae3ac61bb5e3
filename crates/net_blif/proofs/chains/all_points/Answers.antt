use Rattle.std.proofs.Common.{rules, ◌≡◌, sym, true, length}
use Rattle.net_blif.specs.Chains.{leads_on}
use Rattle.net_blif.proofs.ChainLemmas.{all_marked, leads_none, marks_more}
use Rattle.net_blif.proofs.chains.all_points.Goals as goal

pub loop-preserved : goal.loop-preserved
loop-preserved c = marks_more (leads_on c.args.graph.now 0) c.loop.counter c.loop.on.items c.push.new.self.items true c.loop.invariant c.in-Ok.ensures.items (sym (leads_none c.args.graph.now c.loop.counter))

pub returns : goal.returns
returns c =
    let all : c.loop.counter ≡ length c.args.graph.now = search rules in
    all_marked (leads_on c.args.graph.now 0) c.loop.counter (length c.args.graph.now) c.loop.on.items all c.loop.invariant
