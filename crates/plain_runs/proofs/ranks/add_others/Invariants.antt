use Rattle.std.proofs.Common.{◌≡◌, ◌++◌}
use Rattle.net_words.specs.Variables.{others}
use Rattle.plain_runs.proofs.ranks.add_others.Given as goal

abbrev pub invariant-loop-net : goal.invariant-loop-net
invariant-loop-net l = l.order.items ≡ l.initial.order.items ++ others l.net l.front
