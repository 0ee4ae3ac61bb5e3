use Rattle.std.proofs.Common.{◌≡◌, ◌∙◌, sym, ap, ◌^◌, subst, length}
use Rattle.irreducible.specs.Span.{InSpan}
use Rattle.irreducible.specs.BitMatrix.{rows_of}
use Rattle.irreducible.specs.Matrix.{IsLeastSolution}
use Rattle.gf_iso.specs.private.Fields.{base_image, quadratic}
use Rattle.gf_iso.proofs.IsoLaws.{tower_solvable, tower_least}
use Rattle.gf_iso.proofs.StepLaws.{powers_image, image_below}
use Rattle.gf_iso.proofs.roots.tower_root.Goals as goal

pub quadratic_matrix-requires : goal.quadratic_matrix-requires
quadratic_matrix-requires g c =
    let law = g.met.F.Ring.laws c.args.field.now in
    rw (c.combined.ensures ∙ powers_image _ _ law c.args.s c.args.powers.now c.args.c1 c.requires.powers) (image_below _ _ law (length c.args.powers.now) c.args.s c.args.c1)

pub unwrap-requires : goal.unwrap-requires
unwrap-requires g c =
    let law = g.met.F.Ring.laws c.args.field.now in
    let constant : c.combined-constant.result ≡ base_image (g.F.Ring.product c.args.field.now) (length c.args.powers.now) c.args.s c.args.c0 = c.combined-constant.ensures ∙ powers_image _ _ law c.args.s c.args.powers.now c.args.c0 c.requires.powers in
    let linear : c.combined.result ≡ base_image (g.F.Ring.product c.args.field.now) (length c.args.powers.now) c.args.s c.args.c1 = c.combined.ensures ∙ powers_image _ _ law c.args.s c.args.powers.now c.args.c1 c.requires.powers in
    c.solve.ensures.found.1 (subst (InSpan (rows_of c.quadratic_matrix.result)) (sym constant)
    (tower_solvable _ _ law (g.met.F.Field.no_zero_divisors c.args.field.now) (length c.args.powers.now) c.args.modulus c.args.c0 c.args.c1 c.requires.tower c.requires.double c.args.s c.requires.root
    (rows_of c.quadratic_matrix.result) c.quadratic_matrix.ensures.size (λ j h. c.quadratic_matrix.ensures.rows j h ∙ ap (λ b. quadratic (g.F.Ring.product c.args.field.now) b (2 ^ j)) linear)))

pub returns : goal.returns
returns g c =
    let law = g.met.F.Ring.laws c.args.field.now in
    let constant : c.combined-constant.result ≡ base_image (g.F.Ring.product c.args.field.now) (length c.args.powers.now) c.args.s c.args.c0 = c.combined-constant.ensures ∙ powers_image _ _ law c.args.s c.args.powers.now c.args.c0 c.requires.powers in
    let linear : c.combined.result ≡ base_image (g.F.Ring.product c.args.field.now) (length c.args.powers.now) c.args.s c.args.c1 = c.combined.ensures ∙ powers_image _ _ law c.args.s c.args.powers.now c.args.c1 c.requires.powers in
    tower_least _ _ law (g.met.F.Field.no_zero_divisors c.args.field.now) (length c.args.powers.now) c.args.modulus c.args.c0 c.args.c1 c.requires.tower c.requires.double c.args.s c.requires.root
    (rows_of c.quadratic_matrix.result) c.quadratic_matrix.ensures.size (λ j h. c.quadratic_matrix.ensures.rows j h ∙ ap (λ b. quadratic (g.F.Ring.product c.args.field.now) b (2 ^ j)) linear)
    c.unwrap.result (subst (λ w. IsLeastSolution (rows_of c.quadratic_matrix.result) w c.unwrap.result) constant (rw (c.unwrap.ensures) at c.solve.ensures.least))
