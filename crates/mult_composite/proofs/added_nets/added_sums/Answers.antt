use Rattle.std.proofs.Common.{◌≡◌, ◌∙◌, ◌+◌, ◌*◌, ◌-◌, ap, ap₂, arith}
use Rattle.std.specs.Prelude.{slice_index, ◌==◌}
use Rattle.std.specs.Int.{bit_at}
use Rattle.gf_field.specs.Ring2k.{modulus_of}
use Rattle.irreducible.specs.Proved.{ring_of}
use Rattle.make_nets.specs.Plan.{where_so}
use Rattle.mult_composite.specs.private.ByPowers.{factor_at}
use Rattle.mult_composite.proofs.ListLemmas.{reached_more, sums_done}
use Rattle.mult_composite.proofs.added_nets.added_sums.Goals as goal

pub loop-q-preserved : goal.loop-q-preserved
loop-q-preserved c = (
  reached_more (slice_index c.args.sums.now (c.args.e * c.args.n + c.args.l)) (λ q. where_so (bit_at (factor_at c.args.n (modulus_of (ring_of c.args.base.now)) c.args.powers.now c.args.e q) c.args.l == 1) (slice_index c.args.sums.now (c.args.m * c.args.n + q))) c.loop-q.q c.loop-q.list.items c.push_where.new.list.items (where_so c.has_bit.result (slice_index c.args.sums.now c.high_place-high.result))
      c.loop-q.invariant.0 c.in_ok-push_where.ensures.list
      (ap₂ where_so (c.has_bit.ensures ∙ ap (λ v. bit_at v c.args.l == 1) c.factor-factor.ensures) (ap (λ p. slice_index c.args.sums.now p) c.high_place-high.ensures.is)),
  omega (arith, c.loop-q.invariant.1, c.in_ok-push_where.ensures.few),
)

pub returns-clause-list : goal.returns-clause-list
returns-clause-list c = λ t high.
    let done : c.loop-q.q ≡ (c.args.m - 1) * c.args.n = omega (arith, c.high_count-count.ensures.is) in
    sums_done c.args.n (modulus_of (ring_of c.args.base.now)) c.args.m t c.args.powers.now c.args.sums.now c.args.e c.args.l c.loop-q.q c.loop-q.list.items c.requires.some c.loop-q.invariant.0 done high
