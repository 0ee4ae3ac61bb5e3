use Rattle.std.proofs.Common.{rules, sym, subst, length, reverse, ℕ, List, ◌-◌, arith}
use Rattle.std.proofs.lemmas.List.{reverse-reverse}
use Rattle.net_core.specs.Order.{IsLevelOrder}
use Rattle.plain_runs.proofs.EvaluationLemmas.{settled_last}
use Rattle.plain_runs.proofs.cut_settle.settled.Goals as goal

pub returns : goal.returns
returns c = λ variables p is.
    let order : List ℕ = c.in_ok-order.order.items in
    let by_levels : IsLevelOrder c.args.net.now order = c.in_ok-order.ensures in
    let P : List ℕ → Type 0 = IsLevelOrder c.args.net.now in (
      reverse order,
      subst P (sym (reverse-reverse order)) by_levels,
      settled_last c.args.net.now order (length order - c.args.cut) c.args.cut c.args.bits.items c.settle.new.bits.items (omega (arith, c.requires.cut, by_levels.2.long)) (search rules) variables p is,
    )
