-- What is left of the chain is linked to the pair so far.
use Rattle.std.proofs.Common.{◌≡◌, ◌+◌, ℕ, Option, List, drop}
use Rattle.net_core.specs.GateValue.{GateValue}
use Rattle.make_nets.specs.Plan.{Plan, with_links}
use Rattle.make_nets.proofs.plan_maker.PlanMaker.link.Given as goal

abbrev plan_of : ℕ → List GateValue → Plan
plan_of next gates = record { next = next; gates = gates }

abbrev pub invariant-loop-net : goal.invariant-loop-net
invariant-loop-net l =
    (l.self.next ≡ l.fn.self.next + l.net-index)
    × ((target : Option ℕ) → with_links target l.fn.a l.fn.b l.fn.rest (plan_of l.fn.self.next l.fn.self.gates)
    ≡ with_links target l.total l.last (drop l.net-index l.fn.rest) (plan_of l.self.next l.self.gates))
