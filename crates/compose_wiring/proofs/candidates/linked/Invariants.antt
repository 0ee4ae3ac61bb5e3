use Rattle.std.proofs.Common.{◌≡◌, drop}
use Rattle.net_blif.specs.Table.{numbers_in}
use Rattle.compose_wiring.specs.private.Linked.{first_from, LeadOn}
use Rattle.compose_wiring.proofs.candidates.linked.Given as goal

abbrev pub invariant-loop-place : goal.invariant-loop-place
invariant-loop-place l = record {
  firsts : numbers_in l.firsts ≡ first_from l.place (drop l.place l.list);
  leads : LeadOn l.place l.list l.next.items;
}
