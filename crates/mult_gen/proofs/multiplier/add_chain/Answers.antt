use Rattle.std.proofs.Common.{◌≡◌, ◌≤◌, ℕ, List, Some, length, ap, ◌∙◌, arith}
use Rattle.std.proofs.lemmas.Result.{on_ok_weaker}
use Rattle.gf_field.specs.Ring2k.{modulus_of}
use Rattle.irreducible.specs.Proved.{ring_of}
use Rattle.make_nets.specs.Plan.{with_chain}
use Rattle.mult_gen.proofs.PlanLemmas.{chain_room}
use Rattle.mult_gen.proofs.MastrovitoLemmas.{products_few}
use Rattle.mult_gen.proofs.multiplier.add_chain.Goals as goal

pub chain_into-requires : goal.chain_into-requires
chain_into-requires c =
    let list : c.deref.result.now ≡ _ = c.deref.ensures.value ∙ c.in_ok-list.ensures in
    omega (arith, ap (λ (v : List ℕ). length v) list, products_few c.args.first c.args.k (modulus_of (ring_of c.args.ring.now)) c.args.l c.requires.small, c.requires.room)

pub returns-clause-made : goal.returns-clause-made
returns-clause-made c = on_ok_weaker c.chain_into.result (λ made. made ∙ ap (λ list. with_chain (Some c.args.out) list c.args.plan.now) (c.deref.ensures.value ∙ c.in_ok-list.ensures)) c.chain_into.ensures

pub returns-clause-next : goal.returns-clause-next
returns-clause-next c =
    let list : c.deref.result.now ≡ _ = c.deref.ensures.value ∙ c.in_ok-list.ensures in
    let few : length c.deref.result.now ≤ 4096 = omega (arith, ap (λ (v : List ℕ). length v) list, products_few c.args.first c.args.k (modulus_of (ring_of c.args.ring.now)) c.args.l c.requires.small) in
    on_ok_weaker c.chain_into.result (chain_room (Some c.args.out) c.deref.result.now 4096 c.args.plan.now c.chain_into.new.self few) c.chain_into.ensures
