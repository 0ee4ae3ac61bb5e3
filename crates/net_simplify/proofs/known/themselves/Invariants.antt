use Rattle.net_simplify.specs.private.Lists.{AreThemselves}
use Rattle.net_simplify.proofs.known.themselves.Given as goal

abbrev pub invariant-loop-net : goal.invariant-loop-net
invariant-loop-net l = AreThemselves l.forms.items l.net
