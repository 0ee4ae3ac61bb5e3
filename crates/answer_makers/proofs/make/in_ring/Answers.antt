use Rattle.std.proofs.Common.{ap, refl, sym, Err}
use Rattle.irreducible.specs.Proved.{ring_of}
use Rattle.gf_field.specs.Ring2k.{modulus_of}
use Rattle.gf_tower.specs.declared.any_field.AnyField.TheVariants.{Base}
use Rattle.job_input.specs.Setting.{setting_in}
use Rattle.answer_makers.proofs.MakeLemmas.{no_ring_form, over_ring_form, over_ring_net}
use Rattle.answer_makers.proofs.make.in_ring.Goals as goal

pub returns-in-Ok-clause-gives : goal.returns-in-Ok-clause-gives
returns-in-Ok-clause-gives c =
    let ring = c.args.ring.now in
    let setting = setting_in (Base ring) c.args.setting.now in
    let modulus = modulus_of (ring_of ring) in
    let named = c.requires.named in (
      over_ring_form setting modulus ring.ring.fits ring.no_zero_divisors named.modulus (sym named.tower) c.args.kind c.requires.base c.in-Ok.ensures.form,
      over_ring_net setting modulus ring.ring.fits ring.no_zero_divisors named.modulus (sym named.tower) c.args.kind c.requires.base c.in-Ok.net c.in-Ok.ensures.made,
    )

pub returns-in-Err-Unfit-clause-gives : goal.returns-in-Err-Unfit-clause-gives
returns-in-Err-Unfit-clause-gives c =
    let setting = setting_in (Base c.args.ring.now) c.args.setting.now in
    ((refl, no_ring_form setting c.args.kind c.requires.base (c.in-Err-Unfit.ensures.unfit (ap Err c.in-Err-Unfit.field-0-is))), λ m. m)
