use Rattle.std.proofs.Common.{◌∙◌, ◌+◌, ◌<◌, ap, sym, arith, length}
use Rattle.std.specs.Prelude.{◌==◌}
use Rattle.std.specs.Int.{bit_at}
use Rattle.gf_field.specs.Ring2k.{modulus_of}
use Rattle.irreducible.specs.Proved.{ring_of}
use Rattle.make_laws.specs.ProductBits.{x_to}
use Rattle.make_nets.specs.Plan.{where_so}
use Rattle.mult_gen.proofs.PlanLemmas.{row_next}
use Rattle.mult_gen.proofs.added_nets.push_row.Goals as goal

pub loop-j-preserved : goal.loop-j-preserved
loop-j-preserved c =
    let less : c.args.i + c.loop-j.j < length c.args.powers.now = omega (arith, c.loop-j-test.true, c.requires.long) in
    row_next c.args.k (modulus_of (ring_of c.args._ring.now)) c.args.first c.args.i c.args.l c.loop-j.j c.args.list.now.items c.loop-j.list.items c.push_where.new.list.items (where_so c.has_bit.result (c.args.first + c.loop-j.j))
    c.in_ok-push_where.ensures.list
    (ap (λ so. where_so so (c.args.first + c.loop-j.j)) (c.has_bit.ensures ∙ ap (λ p. bit_at p c.args.l == 1) (c.requires.powers (c.args.i + c.loop-j.j) less ∙ ap (λ k. x_to k (modulus_of (ring_of c.args._ring.now)) (c.args.i + c.loop-j.j)) (sym c.requires.degree))))
    c.loop-j.invariant
