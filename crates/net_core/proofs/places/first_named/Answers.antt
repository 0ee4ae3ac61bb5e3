use Rattle.std.proofs.Common.{sym, ap, ◌∙◌, Some, arith}
use Rattle.net_core.proofs.PlaceLemmas.{first_at, none_at}
use Rattle.net_core.proofs.places.first_named.Goals as goal

pub returns-then-has_name : goal.returns-then-has_name
returns-then-has_name c = sym (first_at 0 c.args.labels.now c.args.name.now c.loop-net.net (sym c.has_name.ensures ∙ c.if-has_name.true) c.loop-net.invariant ∙ ap Some (omega arith))

pub returns : goal.returns
returns c = sym (none_at 0 c.args.labels.now c.args.name.now (λ k less. c.loop-net.invariant k (omega (arith, c.loop-net-test.false, less))))
