use Rattle.std.proofs.Common.{◌∙◌, ap}
use Rattle.gf_basis.specs.BasisFault.{conjugates_of}
use Rattle.gf_basis.specs.BasisParts.{elements_of}
use Rattle.job_input.specs.Setting.{setting_value}
use Rattle.answer_makers.proofs.MakeLemmas.{form_first, made_normal, normal_form, one_first}
use Rattle.answer_makers.proofs.make.beside_basis.Goals as goal

pub normal_serial-requires-clause-basis : goal.normal_serial-requires-clause-basis
normal_serial-requires-clause-basis g c = λ form.
    let signature = c.args.setting.now.signature in
    c.requires.elements ∙ ap (λ x. conjugates_of (g.F.Ring.degree c.args.field.now) (g.F.Ring.product c.args.field.now) x) (one_first signature.words c.args._gamma form.gamma c.requires.first (form_first signature c.requires.ready.words.one form))

pub returns-in-Ok-clause-gives : goal.returns-in-Ok-clause-gives
returns-in-Ok-clause-gives g c =
    let setting = setting_value (g.F.Ring.degree c.args.field.now) (g.F.Ring.product c.args.field.now) c.args.setting.now in (
      normal_form setting c.args._gamma c.requires.first c.requires.small c.requires.independent c.in-Ok.ensures.form,
      made_normal setting c.args._gamma c.requires.first (elements_of c.args.basis.now) c.requires.elements c.in-Ok.net c.in-Ok.ensures.made,
    )
