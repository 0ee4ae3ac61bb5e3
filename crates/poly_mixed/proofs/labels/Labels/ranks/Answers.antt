use Rattle.std.proofs.Common.{◌≤◌, List, ℕ, length, ap, ◌≡◌, sym, subst, arith}
use Rattle.poly_mixed.specs.Labels.{Labelling}
use Rattle.poly_mixed.proofs.labels.Labels.ranks.Goals as goal

pub overflow_add-count : goal.overflow_add-count
overflow_add-count c =
    let P : List (List ℕ × ℕ) → Type 0 = λ ws. length ws ≤ 8 in
    let few = subst P (sym c.deref-word-items.ensures.value) c.self.invariant.few in
    let small = c.loop-word.invariant.small in
    let test = c.loop-word-test.true in
    let bits = c.from-count.ensures in
    let nets = c.self.inside.nets.small in
    let same : length c.args.self.now.nets ≡ length c.self.inside.nets.items = ap (λ (l : Labelling). length l.nets) (sym c.self.view_is) in
    let x = c.self.inside.nets.ok in
    let y = c.word.inside in
    omega arith
