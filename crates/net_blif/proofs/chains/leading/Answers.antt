use Rattle.std.proofs.Common.{sym, subst, Bool, List}
use Rattle.net_blif.specs.private.Leading.{LeadOn}
use Rattle.net_blif.proofs.ChainLemmas.{lead_further}
use Rattle.net_blif.proofs.chains.leading.Goals as goal

pub loop-preserved : goal.loop-preserved
loop-preserved c =
    let P : List Bool → Type 0 = LeadOn c.args.graph.now c.loop.counter in
    lead_further c.args.graph.now c.loop.counter c.deref.result.now c.in_ok-on-2.on.items c.further.ensures.inside (subst P (sym c.deref.ensures.value) c.loop.invariant) c.in_ok-on-2.ensures.marks
