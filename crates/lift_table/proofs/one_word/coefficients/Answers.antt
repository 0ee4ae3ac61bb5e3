use Rattle.std.proofs.Common.{◌≡◌, ◌<◌, ◌≤◌, ◌+◌, ◌-◌, ◌^◌, ap, subst, List, length, get_or, ℕ, arith}
use Rattle.gf_field.specs.Polynomial.{sum_of_first}
use Rattle.lift_table.proofs.OneWordLemmas.{no_steps, one_step, all_steps}
use Rattle.lift_table.proofs.one_word.coefficients.Goals as goal

pub loop-step-init : goal.loop-step-init
loop-step-init g c =
    no_steps (g.F.Ring.degree c.args.field.now) (g.F.Ring.product c.args.field.now) (g.met.F.Ring.laws c.args.field.now) c.args.values.now c.in_ok-list.list.items c.in_ok-left.left.items
    c.in_ok-list.ensures.items c.in_ok-left.ensures.items c.requires.long c.requires.elements

pub loop-step-preserved : goal.loop-step-preserved
loop-step-preserved g c =
    let k = g.F.Ring.degree c.args.field.now in
    let place : length c.args.values.now - 1 - c.loop-step.step ≡ 2 ^ k - 1 - c.loop-step.step = ap (λ n. n - 1 - c.loop-step.step) c.requires.long in
    let within : c.loop-step.step < 2 ^ k - 1 = omega (arith, c.requires.long) in
    let P : List ℕ → Type 0 = λ xs. c.sum_of.result ≡ sum_of_first (length xs) (λ y. get_or xs y 0) in
    one_step k (g.F.Ring.product c.args.field.now) (g.met.F.Ring.laws c.args.field.now) c.args.values.now c.loop-step.list.items c.loop-step.left.items c.raise.new.values.items
    c.loop-step.step (length c.args.values.now - 1 - c.loop-step.step) c.sum_of.result place within c.loop-step.invariant (subst P c.deref.ensures.value c.sum_of.ensures.sum) c.sum_of.ensures.element c.raise.ensures.long c.raise.ensures.at c.raise.ensures.elements

pub returns : goal.returns
returns g c =
    let k = g.F.Ring.degree c.args.field.now in
    let end : 2 ^ k ≤ c.loop-step.step + 1 = omega (arith, c.requires.long) in
    all_steps k (g.F.Ring.product c.args.field.now) (g.met.F.Ring.laws c.args.field.now) c.args.values.now c.loop-step.list.items c.loop-step.left.items c.loop-step.step end c.loop-step.invariant
