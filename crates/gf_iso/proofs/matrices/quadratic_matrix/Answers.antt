use Rattle.std.proofs.Common.{◌≡◌, ℕ, ◌∙◌, ◌<◌, ◌^◌, ◌*◌, ◌%◌, arith, length-set, length}
use Rattle.std.specs.Int.Bits.{xor_lt}
use Rattle.std.proofs.lemmas.Nat.{one_shl, pow_below}
use Rattle.irreducible.proofs.MatrixLaws.{set_more}
use Rattle.gf_iso.specs.private.Fields.{quadratic}
use Rattle.gf_iso.proofs.StepLaws.{quadratic_row, taken_square}
use Rattle.gf_iso.proofs.matrices.quadratic_matrix.Goals as goal

pub square-requires : goal.square-requires
square-requires g c =
    let law = g.met.F.Ring.laws c.args.field.now in
    rw (one_shl c.loop-i.i 64 (omega (arith, law.small, c.k-k.ensures))) (pow_below c.loop-i.i (g.F.Ring.degree c.args.field.now) (omega (arith, c.k-k.ensures)))

pub mul-requires-clause-second : goal.mul-requires-clause-second
mul-requires-clause-second g c =
    let law = g.met.F.Ring.laws c.args.field.now in
    rw (one_shl c.loop-i.i 64 (omega (arith, law.small, c.k-k.ensures))) (pow_below c.loop-i.i (g.F.Ring.degree c.args.field.now) (omega (arith, c.k-k.ensures)))

pub loop-i-preserved : goal.loop-i-preserved
loop-i-preserved g c =
    let law = g.met.F.Ring.laws c.args.field.now in
    let inv = c.loop-i.invariant in
    let d : ℕ = g.F.Ring.degree c.args.field.now in
    let room : c.loop-i.i < length c.loop-i.rows = omega (arith, law.small, c.k-k.ensures, inv.whole) in
    let unit : 1 * 2 ^ c.loop-i.i % 2 ^ 64 ≡ 2 ^ c.loop-i.i = one_shl c.loop-i.i 64 (omega (arith, law.small, c.k-k.ensures)) in
    record {
      whole = length-set c.loop-i.rows c.loop-i.i _ ∙ inv.whole;
      words = set_more (λ j x. x ≡ quadratic (g.F.Ring.product c.args.field.now) c.args.b (2 ^ j)) c.loop-i.rows c.loop-i.i _ room inv.words (quadratic_row (g.F.Ring.product c.args.field.now) c.args.b c.loop-i.i _ c.square.result c.mul.result unit c.square.ensures.product c.mul.ensures.product);
      short = set_more (λ j x. x < 2 ^ d) c.loop-i.rows c.loop-i.i _ room inv.short (xor_lt d _ _ c.square.ensures.element c.mul.ensures.element);
    }

pub new-requires-clause-square : goal.new-requires-clause-square
new-requires-clause-square g c =
    let law = g.met.F.Ring.laws c.args.field.now in
    taken_square c.k-k.result (g.F.Ring.degree c.args.field.now) c.loop-i.rows c.k-k.ensures law.small c.loop-i.invariant.whole (λ j h. c.loop-i.invariant.short j (omega arith))
