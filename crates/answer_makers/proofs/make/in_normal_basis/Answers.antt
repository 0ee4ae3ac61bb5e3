use Rattle.std.proofs.Common.{refl}
use Rattle.answer_makers.proofs.MakeLemmas.{form_first}
use Rattle.answer_makers.proofs.make.in_normal_basis.Goals as goal

pub returns-in-None-clause-gives : goal.returns-in-None-clause-gives
returns-in-None-clause-gives g c = ((refl, λ is. c.in-None.ensures.none is.form.gamma (rw c.words.ensures (form_first c.args.setting.now.signature c.requires.ready.words.one is.form))), λ m. m)
