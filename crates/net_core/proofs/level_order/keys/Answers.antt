use Rattle.std.proofs.Common.{◌≡◌, ◌∙◌, ap, arith, ◌<◌, List, length, Some}
use Rattle.std.specs.Prelude.{slice_get, unwrap_or}
use Rattle.lists.specs.laws.ReadLaws.{got_read}
use Rattle.net_core.specs.GateValue.{GateValue}
use Rattle.net_core.specs.Level.{level_at}
use Rattle.net_core.specs.Order.{rank_at}
use Rattle.net_core.proofs.OrderLemmas.{keys_all, no_keys, one_key_more}
use Rattle.net_core.proofs.level_order.keys.Goals as goal

pub loop-position-init : goal.loop-position-init
loop-position-init c = no_keys c.args.net.now c.args.levels.now c.new-keys.result.items c.new-keys.ensures.items

pub loop-position-preserved : goal.loop-position-preserved
loop-position-preserved c =
    let g : GateValue = c.gate-item.result in
    let less : c.loop-position.position < length c.args.net.now.gates = rw c.gates-gate-items.ensures.gates at c.loop-position-test.true in
    let here : slice_get c.args.net.now.gates c.loop-position.position ≡ Some g = got_read c.args.net.now.gates c.loop-position.position g less (rw c.gates-gate-items.ensures.gates at c.gate-item.is) in
    let level : c.unwrap_or-level.result ≡ rank_at c.args.levels.now g.out = c.unwrap_or-level.ensures ∙ ap (λ o. unwrap_or o 0) (c.known.ensures ∙ ap (level_at c.args.levels.now) c.out.ensures) in
    one_key_more c.args.net.now c.args.levels.now c.loop-position.position c.unwrap_or-level.result c.loop-position.keys.items c.push.new.self.items g here level c.in_ok-push.ensures.items c.loop-position.invariant

pub returns : goal.returns
returns c = keys_all c.args.net.now c.args.levels.now c.loop-position.position c.loop-position.keys.items (omega (arith, ap (λ (gates : List GateValue). length gates) c.gates-gate-items.ensures.gates)) c.loop-position.invariant
