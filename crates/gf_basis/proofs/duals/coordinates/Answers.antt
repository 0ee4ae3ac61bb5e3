use Rattle.std.proofs.Common.{◌^◌, ◌∙◌, ap, arith, length, length-set}
use Rattle.std.proofs.lemmas.Nat.{one_shl, pow_below}
use Rattle.irreducible.specs.Matrix.{AreInverse}
use Rattle.irreducible.specs.Span.{combination}
use Rattle.irreducible.specs.BitMatrix.{rows_of}
use Rattle.irreducible.proofs.MatrixLaws.{set_more}
use Rattle.gf_basis.specs.Basis.{AreBits}
use Rattle.gf_basis.proofs.BasisLaws.{AreBits-inverse}
use Rattle.gf_basis.proofs.duals.coordinates.Goals as goal

pub apply-requires : goal.apply-requires
apply-requires c =
    let undo : AreInverse c.args.elements.now (rows_of c.unwrap-inverse.result) = rw (c.unwrap-inverse.ensures, c.new.ensures) at c.inverse.ensures.inverse in
    rw (one_shl c.loop-i.i 64 (omega (arith, c.requires.few)), undo.size) (pow_below c.loop-i.i (length c.args.elements.now) (omega arith))

pub loop-i-preserved : goal.loop-i-preserved
loop-i-preserved c =
    let undo : AreInverse c.args.elements.now (rows_of c.unwrap-inverse.result) = rw (c.unwrap-inverse.ensures, c.new.ensures) at c.inverse.ensures.inverse in
    record {
      whole = length-set c.loop-i.all c.loop-i.i c.apply.result ∙ c.loop-i.invariant.whole;
      before = set_more (λ j x. AreBits c.args.elements.now (2 ^ j) x) c.loop-i.all c.loop-i.i c.apply.result (omega (arith, c.requires.few, c.loop-i.invariant.whole)) c.loop-i.invariant.before
          (AreBits-inverse c.args.elements.now (rows_of c.unwrap-inverse.result) c.loop-i.i c.apply.result undo (omega arith)
          (c.apply.ensures.sum ∙ ap (combination (rows_of c.unwrap-inverse.result)) (one_shl c.loop-i.i 64 (omega (arith, c.requires.few)))));
    }
