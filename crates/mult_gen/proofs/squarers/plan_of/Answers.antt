use Rattle.std.proofs.Common.{◌∙◌, ap, arith, length, ℕ}
use Rattle.std.proofs.lemmas.Result.{IfOk-weaker}
use Rattle.gf_field.specs.Ring2k.{degree_of, modulus_of}
use Rattle.irreducible.specs.Proved.{ring_of}
use Rattle.mult_gen.proofs.PlanLemmas.{squarer_over_at}
use Rattle.mult_gen.proofs.squarers.plan_of.Goals as goal

pub gates-requires : goal.gates-requires
gates-requires c = record {
  first = omega (arith, c.k-k.ensures, ap (λ xs. length xs) c.deref.ensures.value, c.in_ok-inputs.ensures.long);
  product = ap (λ xs. length xs) c.deref-2.ensures.value ∙ c.in_ok-outputs.ensures.long ∙ c.k-k.ensures;
  small = c.args.ring.now.ring.fits.small;
  few = omega (arith, c.outer.ensures.few);
}

pub returns : goal.returns
returns c =
    let k : ℕ = degree_of (ring_of c.args.ring.now) in
    let g : ℕ = modulus_of (ring_of c.args.ring.now) in
    IfOk-weaker c.gates.result _ _
    (λ plan is. is ∙ squarer_over_at k g c.outer.result c.args.signature.now.words c.deref.result.now c.deref-2.result.now c.outer.ensures.count (c.deref.ensures.value ∙ c.in_ok-inputs.ensures.nets) (c.deref-2.ensures.value ∙ c.in_ok-outputs.ensures.nets))
    c.gates.ensures
