use Rattle.std.proofs.Common.{◌≡◌, ℕ, ◌∙◌, ◌<◌, ◌^◌, ◌+◌, arith, length, length-set, get_or, pow_pos, refl}
use Rattle.std.proofs.Math.ListN.{length-replicate}
use Rattle.gf_field.proofs.CopyLemmas.{zeros}
use Rattle.irreducible.proofs.MatrixLaws.{set_more}
use Rattle.gf_iso.proofs.StepLaws.{set_all, kept_low, more_high}
use Rattle.gf_iso.proofs.isos.images.Goals as goal

pub loop-i-init : goal.loop-i-init
loop-i-init g c = record {
  whole = length-replicate {A = ℕ} 64 0;
  before = λ j h. absurd (omega arith);
  elements = λ j. rw (zeros 64 j) (pow_pos (g.F.Ring.degree c.args.field.now));
}

pub loop-i-preserved : goal.loop-i-preserved
loop-i-preserved g c =
    let law = g.met.F.Ring.laws c.args.field.now in
    let inv = c.loop-i.invariant in
    let p : ℕ = get_or c.args.powers.now c.loop-i.i 0 in
    let room : c.loop-i.i < length c.loop-i.all = omega (arith, law.small, c.requires.double, inv.whole) in
    record {
      whole = length-set c.loop-i.all c.loop-i.i p ∙ inv.whole;
      before = set_more (λ j x. x ≡ get_or c.args.powers.now j 0) c.loop-i.all c.loop-i.i p room inv.before refl;
      elements = set_all (λ x. x < 2 ^ g.F.Ring.degree c.args.field.now) c.loop-i.all c.loop-i.i p room inv.elements (c.requires.elements c.loop-i.i);
    }

pub loop-i-2-preserved : goal.loop-i-2-preserved
loop-i-2-preserved g c =
    let law = g.met.F.Ring.laws c.args.field.now in
    let inv = c.loop-i-2.invariant in
    let n : ℕ = length c.args.powers.now in
    let room : n + c.loop-i-2.i < length c.loop-i-2.all = omega (arith, law.small, c.requires.double, inv.whole) in
    record {
      whole = length-set c.loop-i-2.all (n + c.loop-i-2.i) c.by.result ∙ inv.whole;
      low = λ j h. kept_low c.loop-i-2.all n c.loop-i-2.i c.by.result j h ∙ inv.low j h;
      before = more_high (λ j x. x ≡ g.F.Ring.product c.args.field.now c.args.t (get_or c.args.powers.now j 0)) c.loop-i-2.all n c.loop-i-2.i c.by.result room inv.before (c.by.ensures.product c.args.t c.requires.element c.times-table.ensures.table);
      elements = set_all (λ x. x < 2 ^ g.F.Ring.degree c.args.field.now) c.loop-i-2.all (n + c.loop-i-2.i) c.by.result room inv.elements c.by.ensures.element;
    }
