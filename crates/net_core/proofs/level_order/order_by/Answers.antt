use Rattle.std.proofs.Common.{◌∙◌, ap, arith, ℕ, map}
use Rattle.std.proofs.lemmas.Result.{MatchResult-weaker}
use Rattle.net_core.proofs.OrderLemmas.{order_of_keys}
use Rattle.net_core.proofs.level_order.order_by.Goals as goal

pub returns : goal.returns
returns c =
    MatchResult-weaker c.seconds.result c.seconds.ensures
    (λ order is. order_of_keys c.args.net.now c.args.levels.now c.in_ok-keys.keys.items c.sort_unstable.new.self.items c.in_ok-keys.ensures c.sort_unstable.ensures.permutation (omega (arith, c.sort_unstable.ensures.len)) c.sort_unstable.ensures.sorted order.items (is ∙ ap (map (λ (k : ℕ × ℕ). k.1)) c.deref.ensures.value))
    (λ fault w. w)
