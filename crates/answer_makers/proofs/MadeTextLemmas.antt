-- The text of each net list that is made fits a file, over the settings of texts.
use Rattle.std.proofs.Common.{sym, refl, subst, ℕ, List, length, Ok}
use Rattle.gf_field.specs.Bit.{bit_mul}
use Rattle.gf_field.specs.Quotient.{product}
use Rattle.gf_tower.specs.Digits.{IsPackedList}
use Rattle.gf_tower.specs.Tower.{polynomial_of}
use Rattle.net_core.specs.NetList.{NetList}
use Rattle.make_laws.specs.Indeterminate.{x_of}
use Rattle.make_nets.specs.Form.{AllWide}
use Rattle.mult_gen.proofs.ShortLemmas.{adder_text, mastrovito_text, squarer_text}
use Rattle.mult_montgomery.proofs.MadeLemmas as montgomery
use Rattle.mult_composite.proofs.MadeLemmas as composite
use Rattle.mult_normal.specs.Coordinates.{counts_in}
use Rattle.mult_normal.proofs.PlanForLemmas as normal_plan
use Rattle.mult_normal.proofs.WordLemmas.{outer_is}
use Rattle.mult_digit.proofs.FinalLemmas.{unit_powers}
use Rattle.mult_digit.proofs.ShortLemmas.{digit_text}
use Rattle.make_nets.specs.MakerNames.{AreMakerNames}
use Rattle.job_words.specs.declared.kind.Kind.{Kind}
use Rattle.job_words.specs.declared.kind.Kind.TheVariants.{Mastrovito, Montgomery, Composite, Normal, Adder, Squarer, Digit}
use Rattle.job_input.specs.SettingOf.{SettingOf}
use Rattle.job_input.specs.SettingSound.{IsSoundSetting}
use Rattle.job_input.specs.SettingValue.{SettingValue}
use Rattle.job_input.proofs.SettingSoundLemmas.{setting_sound}
use Rattle.answer_makers.specs.Make.{FitsFile, HasFormOf, IsMade, base_degree, first_conjugates}
use Rattle.answer_makers.proofs.MadeLemmas.{wide}
use Rattle.answer_makers.proofs.MakeLemmas.{words_wide}

module _ (text : List ℕ) (setting : SettingValue) (is : SettingOf text (Ok setting)) where
  fit : IsSoundSetting setting
  fit = setting_sound text setting is

  pub text_fits : (kind : Kind) (net : NetList) → HasFormOf setting kind → IsMade setting kind net → FitsFile net
  text_fits Mastrovito net form made =
      let ports = form.form.ports in
      subst FitsFile (sym made) (mastrovito_text setting.k setting.signature.modulus form.modulus.modulus setting.signature.words ports.words (wide setting text is Mastrovito tt form) ports.names)
  text_fits Montgomery net form made =
      let ports = form.form.poly.ports in
      subst FitsFile (sym made) (montgomery.text setting.k setting.signature.modulus form.modulus.modulus setting.signature.words ports.words (wide setting text is Montgomery tt form) ports.names)
  text_fits Composite net form made =
      let n = base_degree setting in
      let cs = setting.signature.tower in
      let ports = form.form.ports in
      let P : ℕ → Type 0 = λ k. AllWide k setting.signature.words in
      let packs : IsPackedList n (length cs) (polynomial_of n cs) cs = record { two = form.tower.list.size.two; small = form.tower.list.size.small; size = refl; elements = form.tower.list.elements; packs = refl } in
      subst FitsFile (sym made) (composite.tower_text n n (length cs) (length cs) setting.signature.modulus (polynomial_of n cs) cs refl refl form.base.modulus packs setting.signature.words ports.words (subst P (sym form.whole) (wide setting text is Composite tt form)) ports.names)
  text_fits Normal net form made =
      let own = form.form in
      let all = wide setting text is Normal tt form in
      subst FitsFile (sym made)
      (normal_plan.text_fits setting.k (counts_in setting.k setting.product (first_conjugates setting)) setting.signature.words own.words all fit.ring.small
      (subst AreMakerNames (sym (outer_is setting.k setting.signature.words own.words all)) own.names))
  text_fits Adder net form made = subst FitsFile (sym made) (adder_text setting.k fit.ring.small setting.signature.words form.ports.names form.ports.words (wide setting text is Adder tt form))
  text_fits Squarer net form made =
      let ports = form.form.ports in
      subst FitsFile (sym made) (squarer_text setting.k fit.ring.small setting.signature.words ports.names setting.signature.modulus ports.words (wide setting text is Squarer tt form))
  text_fits Digit net form made =
      let own = made.form in
      let modulus = setting.signature.modulus in
      subst FitsFile (sym made.is)
      (digit_text setting.k (product 1 setting.k bit_mul modulus) (x_of setting.k modulus) own.width setting.signature.words setting.signature.feeds own.words (words_wide setting.k setting.signature.words fit.words) fit.ring.some fit.ring.small own.feeds
      (unit_powers setting.k modulus form.modulus.modulus) own.names)
