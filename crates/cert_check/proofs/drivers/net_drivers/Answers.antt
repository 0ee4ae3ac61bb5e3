use Rattle.std.proofs.Common.{◌≡◌, ◌∙◌, ◌<◌, ◌+◌, ◌-◌, ap, ℕ, List, Option, Some, length, replicate, slice_set, None, arith}
use Rattle.net_core.specs.NetList.{nets}
use Rattle.cert_check.proofs.NotedLemmas.{none_noted, read_inside, gate_noted}
use Rattle.cert_check.proofs.drivers.net_drivers.Goals as goal

pub loop-i-init : goal.loop-i-init
loop-i-init c =
    let is : c.in_ok-list.list.items ≡ replicate (nets c.args.net.now) None = c.in_ok-list.ensures ∙ ap (λ (n : ℕ). replicate {A = Option ℕ} n None) c.nets.ensures.count in
    record {
      within = omega arith;
      drivers = none_noted c.gates-gates.result.now (nets c.args.net.now) (length c.gates-gates.result.now) c.in_ok-list.list.items is (omega arith);
    }

pub set_driver-requires : goal.set_driver-requires
set_driver-requires c =
    let i : ℕ = c.loop-i.i - 1 in
    let less : i < length c.gates-gates.result.now = omega (arith, c.loop-i-test.true, c.loop-i.invariant.within) in
    let inside = read_inside c.args.net.now c.gates-gates.result.now i c.index-gates-i.result c.gates-gates.ensures.sound c.gates-gates.ensures.gates less c.index-gates-i.is in
    omega (arith, inside, c.out.ensures, c.loop-i.invariant.drivers.long)

pub loop-i-preserved : goal.loop-i-preserved
loop-i-preserved c =
    let i : ℕ = c.loop-i.i - 1 in
    let less : i < length c.gates-gates.result.now = omega (arith, c.loop-i-test.true, c.loop-i.invariant.within) in
    let inside = read_inside c.args.net.now c.gates-gates.result.now i c.index-gates-i.result c.gates-gates.ensures.sound c.gates-gates.ensures.gates less c.index-gates-i.is in
    let next : c.loop-i.i ≡ i + 1 = omega (arith, c.loop-i-test.true) in
    let old : List (Option ℕ) = c.loop-i.list.items in
    record {
      within = omega (arith, c.loop-i.invariant.within);
      drivers = gate_noted c.gates-gates.result.now (nets c.args.net.now) c.loop-i.i i c.index-gates-i.result old c.set_driver.new.drivers.items next less c.index-gates-i.is inside (c.set_driver.ensures ∙ ap (λ (n : ℕ). slice_set old n (Some i)) c.out.ensures) c.loop-i.invariant.drivers;
    }
