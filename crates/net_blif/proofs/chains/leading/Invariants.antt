use Rattle.net_blif.specs.private.Leading.{LeadOn}
use Rattle.net_blif.proofs.chains.leading.Given as goal

-- so many edges lead on
abbrev pub invariant-loop : goal.invariant-loop
invariant-loop l = LeadOn l.graph l.counter l.on.items
