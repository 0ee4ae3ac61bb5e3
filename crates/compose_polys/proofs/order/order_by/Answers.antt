use Rattle.std.proofs.Common.{◌≡◌, ◌∙◌, ap, arith, ℕ, map}
use Rattle.std.proofs.lemmas.Result.{IfOk-weaker}
use Rattle.compose_polys.proofs.KeyLemmas.{order_from_keys}
use Rattle.compose_polys.proofs.order.order_by.Goals as goal

pub returns : goal.returns
returns c =
    let second : ℕ × ℕ → ℕ = λ key. key.1 in
    let sorted : map second c.deref.result.now ≡ map second c.sort_unstable.new.self.items = ap (map second) c.deref.ensures.value in
    IfOk-weaker c.seconds.result _ _ (λ order are. order_from_keys c.args.levels.now c.in_ok-keys.keys.items c.sort_unstable.new.self.items c.in_ok-keys.ensures c.sort_unstable.ensures.permutation (omega (arith, c.sort_unstable.ensures.len)) c.sort_unstable.ensures.sorted order.items (are ∙ sorted)) c.seconds.ensures
