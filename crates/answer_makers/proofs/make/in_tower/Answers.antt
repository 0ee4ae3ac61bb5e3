use Rattle.std.proofs.Common.{refl, sym}
use Rattle.irreducible.specs.Proved.{ring_of}
use Rattle.gf_field.specs.Ring2k.{degree_of, modulus_of}
use Rattle.gf_tower.specs.TowerParts.{base_of, coefficients_of, size_of}
use Rattle.gf_tower.specs.declared.any_field.AnyField.TheVariants.{Tower}
use Rattle.job_input.specs.Setting.{setting_in}
use Rattle.answer_makers.proofs.MakeLemmas.{over_tower_form, over_tower_net}
use Rattle.answer_makers.proofs.make.in_tower.Goals as goal

pub returns-in-Ok-clause-gives : goal.returns-in-Ok-clause-gives
returns-in-Ok-clause-gives c =
    let tower = c.args.tower.now in
    let setting = setting_in (Tower tower) c.args.setting.now in
    let base = base_of (ring_of tower) in
    let n = degree_of (ring_of base) in
    let modulus = modulus_of (ring_of base) in
    let m = size_of (ring_of tower) in
    let cs = coefficients_of (ring_of tower) in
    let named = c.requires.named in (
      over_tower_form setting n modulus m tower.ring.low cs base.ring.fits tower.ring.fits base.no_zero_divisors tower.no_zero_divisors named.modulus named.tower (sym named.upper) refl c.in-Ok.ensures.form,
      over_tower_net setting n modulus m tower.ring.low cs base.ring.fits tower.ring.fits base.no_zero_divisors tower.no_zero_divisors named.modulus named.tower (sym named.upper) refl c.in-Ok.net c.in-Ok.ensures.made,
    )
