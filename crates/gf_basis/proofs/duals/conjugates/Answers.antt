use Rattle.std.proofs.Common.{◌≡◌, ℕ, ◌<◌, ◌^◌, ◌∙◌, refl, arith, length-set, length}
use Rattle.std.proofs.Math.ListN.{length-replicate}
use Rattle.gf_field.specs.Trace.{frobenius}
use Rattle.gf_field.specs.laws.TraceLaws.{frobenius_next}
use Rattle.gf_field.proofs.CopyLemmas.{zeros, set_rest}
use Rattle.irreducible.proofs.MatrixLaws.{set_more}
use Rattle.gf_basis.proofs.duals.conjugates.Goals as goal

pub loop-i-init : goal.loop-i-init
unfolding frobenius
loop-i-init g c = record {
  whole = length-replicate {A = ℕ} 64 0;
  element = c.requires;
  squares = refl;
  before = λ j h. absurd (omega arith);
  rest = λ j h. zeros 64 j;
  elements = λ j h. absurd (omega arith);
}

pub loop-i-preserved : goal.loop-i-preserved
loop-i-preserved g c =
    let inv = c.loop-i.invariant in
    let law = g.met.F.Ring.laws c.args.field.now in
    let room : c.loop-i.i < length c.loop-i.all = omega (arith, law.small, c.k-i-end.ensures, inv.whole) in
    record {
      whole = length-set c.loop-i.all c.loop-i.i c.loop-i.square ∙ inv.whole;
      element = c.square-square.ensures.element;
      squares = frobenius_next _ c.args.a c.loop-i.i c.loop-i.square _ inv.squares c.square-square.ensures.product;
      before = set_more (λ j x. x ≡ frobenius (g.F.Ring.product c.args.field.now) j c.args.a) c.loop-i.all c.loop-i.i c.loop-i.square room inv.before inv.squares;
      rest = set_rest c.loop-i.all c.loop-i.i c.loop-i.square inv.rest;
      elements = set_more (λ j x. x < 2 ^ g.F.Ring.degree c.args.field.now) c.loop-i.all c.loop-i.i c.loop-i.square room inv.elements inv.element;
    }
