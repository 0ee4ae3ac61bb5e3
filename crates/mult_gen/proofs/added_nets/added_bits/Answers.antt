use Rattle.std.proofs.Common.{◌≡◌, ◌∙◌, ◌*◌, ◌<◌, ap, sym, arith, get_or, length}
use Rattle.std.specs.Prelude.{◌==◌}
use Rattle.std.specs.Int.{bit_at}
use Rattle.gf_field.specs.Ring2k.{modulus_of}
use Rattle.irreducible.specs.Proved.{ring_of}
use Rattle.make_laws.specs.ProductBits.{x_to}
use Rattle.make_nets.specs.Plan.{gathered, where_so}
use Rattle.mult_gen.proofs.PlanLemmas.{lists_next}
use Rattle.mult_gen.proofs.added_nets.added_bits.Goals as goal

pub loop-i-preserved : goal.loop-i-preserved
loop-i-preserved c =
    let less : 2 * c.loop-i.i < length c.args.powers.now = omega (arith, c.loop-i-test.true, c.requires.long) in
    lists_next (λ i. where_so (bit_at (x_to (length c.args.a.now) (modulus_of (ring_of c.args._ring.now)) (2 * i)) c.args.l == 1) (get_or c.args.a.now i 0)) c.loop-i.i c.loop-i.list.items c.push_where.new.list.items (where_so c.has_bit.result (get_or c.args.a.now c.loop-i.i 0))
    c.in_ok-push_where.ensures.list
    (ap (λ so. where_so so (get_or c.args.a.now c.loop-i.i 0)) (c.has_bit.ensures ∙ ap (λ p. bit_at p c.args.l == 1) (c.requires.powers (2 * c.loop-i.i) less ∙ ap (λ k. x_to k (modulus_of (ring_of c.args._ring.now)) (2 * c.loop-i.i)) (sym c.requires.degree))))
    c.loop-i.invariant

pub returns : goal.returns
returns c =
    let count : c.loop-i.i ≡ length c.args.a.now = omega arith in
    c.loop-i.invariant ∙ ap (λ n. gathered n (λ i. where_so (bit_at (x_to (length c.args.a.now) (modulus_of (ring_of c.args._ring.now)) (2 * i)) c.args.l == 1) (get_or c.args.a.now i 0))) count
