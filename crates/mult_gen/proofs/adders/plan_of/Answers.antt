use Rattle.std.proofs.Common.{◌≡◌, ◌∙◌, ap, sym, arith, length}
use Rattle.std.proofs.lemmas.Result.{IfOk-weaker}
use Rattle.mult_gen.proofs.PlanLemmas.{adder_over_at}
use Rattle.mult_gen.proofs.adders.plan_of.Goals as goal

pub split_at-requires : goal.split_at-requires
split_at-requires c = omega (arith, ap (λ xs. length xs) c.deref.ensures.value, c.in_ok-inputs.ensures.long)

pub gates-requires : goal.gates-requires
gates-requires c =
    let z_long : length c.deref-2.result.now ≡ c.args.k = ap (λ xs. length xs) c.deref-2.ensures.value ∙ c.in_ok-outputs.ensures.long in
    record {
      first = c.split_at.ensures.front_len ∙ sym z_long;
      second = omega (arith, z_long, c.split_at.ensures.back_len, ap (λ xs. length xs) c.deref.ensures.value, c.in_ok-inputs.ensures.long);
    }

pub returns : goal.returns
returns c =
    let z_long : length c.deref-2.result.now ≡ c.args.k = ap (λ xs. length xs) c.deref-2.ensures.value ∙ c.in_ok-outputs.ensures.long in
    IfOk-weaker c.gates.result _ _
    (λ plan is. is ∙ adder_over_at c.args.k c.outer.result (length c.deref-2.result.now) c.args.signature.now.words c.split_at.result.0.now c.split_at.result.1.now c.deref-2.result.now c.deref.result.now c.outer.ensures.count z_long c.split_at.ensures.front c.split_at.ensures.back (c.deref.ensures.value ∙ c.in_ok-inputs.ensures.nets) (c.deref-2.ensures.value ∙ c.in_ok-outputs.ensures.nets))
    c.gates.ensures
