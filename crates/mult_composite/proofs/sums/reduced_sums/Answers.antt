use Rattle.std.proofs.Common.{◌≡◌, ◌*◌, ◌/◌, ◌%◌, ◌∙◌, ap, ap₂, arith, ℕ, List, Some, length}
use Rattle.std.specs.Prelude.{slice_index}
use Rattle.gf_field.specs.Ring2k.{modulus_of}
use Rattle.irreducible.specs.Proved.{ring_of}
use Rattle.make_nets.specs.Plan.{each, with_chain}
use Rattle.mult_composite.specs.Composite.{added_sums}
use Rattle.mult_composite.proofs.ListLemmas.{step_more}
use Rattle.mult_composite.proofs.sums.reduced_sums.Goals as goal

pub sum_into-requires : goal.sum_into-requires
sum_into-requires c = omega (arith, c.loop-p.invariant.1, c.loop-p-test.true, c.requires.count, c.requires.room, ap (λ (v : List ℕ). length v) c.as_slice.ensures.value, c.in_ok-list.ensures.few)

pub loop-p-preserved : goal.loop-p-preserved
loop-p-preserved c = (
  (λ t high. step_more (λ p. with_chain (Some (slice_index c.args.z.now p)) (added_sums c.args.n (modulus_of (ring_of c.args.base.now)) c.args.m t c.args.sums.now (p / c.args.n) (p % c.args.n))) c.loop-p.p c.args.plan.now c.loop-p.plan c.sum_into.new.plan (c.loop-p.invariant.0 t high)
      (c.in_ok-sum_into.ensures.made ∙ ap (λ v. with_chain (Some (slice_index c.args.z.now c.loop-p.p)) v c.loop-p.plan)
      (c.as_slice.ensures.value ∙ c.in_ok-list.ensures.list t high ∙ ap₂ (λ u v. added_sums c.args.n (modulus_of (ring_of c.args.base.now)) c.args.m t c.args.sums.now u v) c.group_of-e.ensures.is c.bit_of.ensures.is))),
  omega (arith, c.loop-p.invariant.1, c.in_ok-sum_into.ensures.next, ap (λ (v : List ℕ). length v) c.as_slice.ensures.value, c.in_ok-list.ensures.few),
)

pub returns : goal.returns
returns c = λ t high.
    let count : c.loop-p.p ≡ c.args.m * c.args.n = omega (arith, c.requires.targets) in
    c.loop-p.invariant.0 t high ∙ ap (λ k. each k (λ p. with_chain (Some (slice_index c.args.z.now p)) (added_sums c.args.n (modulus_of (ring_of c.args.base.now)) c.args.m t c.args.sums.now (p / c.args.n) (p % c.args.n))) c.args.plan.now) count
