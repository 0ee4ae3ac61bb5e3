use Rattle.std.proofs.Common.{◌∙◌, ◌^◌, ap, sym, refl, subst, ℕ, List, arith}
use Rattle.gf_basis.specs.Basis.{first_values}
use Rattle.gf_field.specs.Bit.{bit_mul}
use Rattle.gf_field.specs.Quotient.{product}
use Rattle.gf_field.specs.Ring2k.{degree_of, modulus_of}
use Rattle.gf_iso.specs.Isomorphism.{IsIsoOf}
use Rattle.gf_iso.specs.IsoParts.{back_of, there_of}
use Rattle.gf_tower.specs.TowerParts.{base_of, coefficients_of}
use Rattle.irreducible.specs.Proved.{ring_of}
use Rattle.lift_table.specs.TableText.{value_lines}
use Rattle.answer_tables.proofs.IsoLemmas.{are_fitting, no_fit}
use Rattle.answer_tables.proofs.iso.between.Goals as goal

pub images-requires-clause-size : goal.images-requires-clause-size
images-requires-clause-size c = c.in-Ok.ensures.size ∙ sym c.k.ensures

pub images-requires-clause-small : goal.images-requires-clause-small
images-requires-clause-small c = let small = c.args.big.now.ring.fits.small in let k = c.k.ensures in omega (arith, small, k)

pub returns-in_ok-text-in-Ok : goal.returns-in_ok-text-in-Ok
returns-in_ok-text-in-Ok c =
    let first = c.args._first.now in
    let second = c.args._second.now in
    let big = c.args.big.now in
    let tower = c.args.tower.now in
    let k = degree_of (ring_of big) in
    let n = degree_of (ring_of (base_of (ring_of tower))) in
    let iso = c.in-Ok.iso in
    let P : ℕ → Type 0 = λ g. IsIsoOf n g (coefficients_of (ring_of tower)) (product 1 k bit_mul (modulus_of (ring_of big))) (there_of iso) (back_of iso) in
    let Q : List ℕ → Type 0 = λ cs. IsIsoOf n second.modulus cs (product 1 k bit_mul (modulus_of (ring_of big))) (there_of iso) (back_of iso) in
    let R : ℕ → Type 0 = λ g. IsIsoOf n second.modulus second.tower (product 1 k bit_mul g) (there_of iso) (back_of iso) in
    record {
      big = k;
      base = n;
      fit = are_fitting first second k n tower.ring.length tower.ring.low (modulus_of (ring_of big)) (modulus_of (ring_of (base_of (ring_of tower)))) (coefficients_of (ring_of tower)) big.ring.fits tower.ring.base.ring.fits tower.ring.fits
          c.requires.modulus c.requires.no_tower c.requires.base c.requires.tower c.requires.one_step big.no_zero_divisors tower.ring.base.no_zero_divisors tower.no_zero_divisors (c.in-Ok.ensures.accepted.0 refl);
      there = there_of iso;
      back = back_of iso;
      iso = subst R c.requires.modulus (subst Q c.requires.tower (subst P c.requires.base c.in-Ok.ensures.iso));
      text = ap (λ (t : List ℕ). record { status = 0; text = t }) (c.in_ok-text-in-Ok.ensures ∙ ap (λ d. value_lines (first_values d (λ j. there_of iso (2 ^ j)))) c.k.ensures);
    }

pub returns-in-Err : goal.returns-in-Err
returns-in-Err c =
    let big = c.args.big.now in
    let tower = c.args.tower.now in (
      (
        refl,
        no_fit c.args._first.now c.args._second.now (degree_of (ring_of big)) (degree_of (ring_of (base_of (ring_of tower)))) tower.ring.length tower.ring.low (modulus_of (ring_of big)) (modulus_of (ring_of (base_of (ring_of tower)))) (coefficients_of (ring_of tower))
            big.ring.fits tower.ring.base.ring.fits tower.ring.fits c.requires.modulus c.requires.no_tower c.requires.base c.requires.tower c.requires.one_step (λ fits. let yes = c.in-Err.ensures.accepted.1 fits in absurd (cc)),
      ),
      λ m. m,
    )
