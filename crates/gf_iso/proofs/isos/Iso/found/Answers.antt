use Rattle.std.proofs.Common.{suc, ◌∙◌, sym, ap, ◌<◌, ◌≤◌, ◌*◌, arith, subst, [], ◌∷◌}
use Rattle.std.proofs.lemmas.List.{get_or-take}
use Rattle.gf_field.specs.Polynomial.{coefficient}
use Rattle.irreducible.specs.Span.{combination, IsIndependent}
use Rattle.irreducible.specs.BitMatrix.{rows_of}
use Rattle.irreducible.specs.Matrix.{AreInverse}
use Rattle.gf_iso.specs.Root.{IsLeastRoot}
use Rattle.gf_iso.specs.Isomorphism.{IsIsoOf}
use Rattle.gf_iso.specs.private.Fields.{IsTowerField}
use Rattle.gf_iso.proofs.FoundLaws.{first_count, found_independent, found_iso}
use Rattle.gf_iso.proofs.StepLaws.{taken_elements, taken_square}
use Rattle.gf_iso.proofs.isos.Iso.found.Goals as goal

pub tower_root-t-requires-clause-tower : goal.tower_root-t-requires-clause-tower
tower_root-t-requires-clause-tower g c =
    subst (λ m. IsTowerField m c.args.modulus c.args.c0 c.args.c1) (sym (first_count c.args.n c.powers-powers.result c.requires.tower.base.small c.powers-powers.ensures.whole)) c.requires.tower

pub tower_root-t-requires-clause-double : goal.tower_root-t-requires-clause-double
tower_root-t-requires-clause-double g c =
    c.requires.double ∙ ap (λ m. m * 2) (sym (first_count c.args.n c.powers-powers.result c.requires.tower.base.small c.powers-powers.ensures.whole))

pub tower_root-t-requires-clause-root : goal.tower_root-t-requires-clause-root
tower_root-t-requires-clause-root g c =
    subst (λ m. IsLeastRoot (g.F.Ring.degree c.args.field.now) (g.F.Ring.product c.args.field.now) (suc m) (coefficient 1 c.args.modulus) c.base_root-s.result)
    (sym (first_count c.args.n c.powers-powers.result c.requires.tower.base.small c.powers-powers.ensures.whole)) c.base_root-s.ensures

pub tower_root-t-requires-clause-powers : goal.tower_root-t-requires-clause-powers
tower_root-t-requires-clause-powers g c = λ j h.
    let l : j < c.args.n = omega (arith, first_count c.args.n c.powers-powers.result c.requires.tower.base.small c.powers-powers.ensures.whole) in
    get_or-take c.args.n c.powers-powers.result j 0 l ∙ c.powers-powers.ensures.powers j l

pub images-requires-clause-double : goal.images-requires-clause-double
images-requires-clause-double g c =
    c.requires.double ∙ ap (λ m. m * 2) (sym (first_count c.args.n c.powers-powers.result c.requires.tower.base.small c.powers-powers.ensures.whole))

pub images-requires-clause-elements : goal.images-requires-clause-elements
images-requires-clause-elements g c =
    let small : c.args.n ≤ 16 = c.requires.tower.base.small in
    taken_elements (g.F.Ring.degree c.args.field.now) c.args.n c.powers-powers.result (omega (arith, c.powers-powers.ensures.whole)) c.powers-powers.ensures.elements

pub new-images-requires-clause-square : goal.new-images-requires-clause-square
new-images-requires-clause-square g c =
    let law = g.met.F.Ring.laws c.args.field.now in
    taken_square (2 * c.args.n) (g.F.Ring.degree c.args.field.now) c.images.result (omega (arith, c.requires.double)) law.small c.images.ensures.whole (λ j h. c.images.ensures.elements j)

pub unwrap-origins-requires : goal.unwrap-origins-requires
unwrap-origins-requires g c =
    c.inverse.ensures.found.1 (subst IsIndependent (sym c.new-images.ensures)
    (found_independent _ _ (g.met.F.Ring.laws c.args.field.now) (g.met.F.Field.no_zero_divisors c.args.field.now) c.args.n c.args.modulus c.args.c0 c.args.c1 c.requires.tower c.requires.double
    c.base_root-s.result c.base_root-s.ensures c.powers-powers.result c.powers-powers.ensures.whole c.powers-powers.ensures.powers c.tower_root-t.result c.tower_root-t.ensures
    c.images.result c.images.ensures.whole c.images.ensures.low c.images.ensures.high))

pub returns-clause-iso : goal.returns-clause-iso
returns-clause-iso g c =
    subst (λ rows. IsIsoOf c.args.n c.args.modulus (c.args.c0 ∷ c.args.c1 ∷ []) (g.F.Ring.product c.args.field.now) (combination rows) (combination (rows_of c.unwrap-origins.result))) (sym c.new-images.ensures)
    (found_iso _ _ (g.met.F.Ring.laws c.args.field.now) (g.met.F.Field.no_zero_divisors c.args.field.now) c.args.n c.args.modulus c.args.c0 c.args.c1 c.requires.tower c.requires.double
    c.base_root-s.result c.base_root-s.ensures c.powers-powers.result c.powers-powers.ensures.whole c.powers-powers.ensures.powers c.tower_root-t.result c.tower_root-t.ensures
    c.images.result c.images.ensures.whole c.images.ensures.low c.images.ensures.high
    (rows_of c.unwrap-origins.result) (subst (λ rows. AreInverse rows (rows_of c.unwrap-origins.result)) c.new-images.ensures (rw (c.unwrap-origins.ensures) at c.inverse.ensures.inverse)))
