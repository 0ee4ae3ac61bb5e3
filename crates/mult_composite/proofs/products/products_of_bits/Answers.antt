use Rattle.std.proofs.Common.{◌≤◌, ◌∙◌, ap, arith, length}
use Rattle.std.proofs.lemmas.Result.{on_ok_weaker}
use Rattle.mult_gen.specs.Chains.{products as bit_products}
use Rattle.mult_composite.proofs.RoomLemmas.{square_more}
use Rattle.mult_composite.proofs.products.products_of_bits.Goals as goal

pub returns-clause-made : goal.returns-clause-made
returns-clause-made c = on_ok_weaker c.bit_products.result (λ made. made ∙ ap (λ k. bit_products k c.args.a.now c.args.b.now c.args.plan.now) c.requires.long_second) c.bit_products.ensures.made

pub returns-clause-next : goal.returns-clause-next
returns-clause-next c =
    let few : length c.args.b.now ≤ 32 = omega (arith, c.requires.long_second, c.requires.low) in
    on_ok_weaker c.bit_products.result (square_more (length c.args.b.now) c.args.plan.now.next c.bit_products.new.plan.next few) c.bit_products.ensures.next
