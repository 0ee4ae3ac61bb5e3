use Rattle.std.proofs.Common.{◌≡◌, ◌∙◌, ◌+◌, ◌*◌, ap, refl, arith}
use Rattle.gf_field.specs.Ring2k.{modulus_of}
use Rattle.irreducible.specs.Proved.{ring_of}
use Rattle.make_nets.specs.Plan.{gathered}
use Rattle.mult_gen.specs.Chains.{added_row}
use Rattle.mult_gen.proofs.PlanLemmas.{lists_next}
use Rattle.mult_gen.proofs.added_nets.added_products.Goals as goal

pub loop-i-preserved : goal.loop-i-preserved
loop-i-preserved c = lists_next (λ i. added_row c.args.k (modulus_of (ring_of c.args.ring.now)) (c.args.first + i * c.args.k) i c.args.l c.args.k) c.loop-i.i c.loop-i.list.items c.push_row.new.list.items (added_row c.args.k (modulus_of (ring_of c.args.ring.now)) (c.args.first + c.loop-i.i * c.args.k) c.loop-i.i c.args.l c.args.k) c.in_ok-push_row.ensures refl c.loop-i.invariant

pub returns : goal.returns
returns c =
    let count : c.loop-i.i ≡ c.args.k = omega arith in
    c.loop-i.invariant ∙ ap (λ n. gathered n (λ i. added_row c.args.k (modulus_of (ring_of c.args.ring.now)) (c.args.first + i * c.args.k) i c.args.l c.args.k)) count
