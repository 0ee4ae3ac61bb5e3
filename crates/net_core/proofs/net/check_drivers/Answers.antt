use Rattle.std.proofs.Common.{◌∙◌, ap, arith, List, ℕ, length}
use Rattle.net_core.proofs.CountLemmas.{counts_of}
use Rattle.net_core.proofs.LevelLemmas.{roots_inside}
use Rattle.net_core.proofs.net.check_drivers.Goals as goal

pub counts-requires : goal.counts-requires
counts-requires c = rw (c.deref.ensures.value, c.in_ok-driven.ensures, c.nets.ensures.count) (roots_inside c.args.net.now c.nets.ensures.inside)

pub check_counts-requires-clause-few : goal.check_counts-requires-clause-few
check_counts-requires-clause-few c = omega (arith, ap (λ (list : List ℕ). length list) c.deref-2.ensures.value, c.in_ok-counts.ensures.long, c.nets.ensures.count, c.nets.ensures.inside.few_nets)

pub check_counts-requires-clause-counted : goal.check_counts-requires-clause-counted
check_counts-requires-clause-counted c =
    counts_of c.args.net.now c.deref.result.now c.in_ok-counts.counts.items c.deref-2.result.now c.nets.result (c.deref.ensures.value ∙ c.in_ok-driven.ensures) c.nets.ensures.count c.deref-2.ensures.value c.in_ok-counts.ensures
