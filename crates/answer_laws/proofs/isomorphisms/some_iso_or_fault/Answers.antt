use Rattle.answer_laws.proofs.IsoAnswersExist.{some_iso_answer}
use Rattle.answer_laws.proofs.isomorphisms.some_iso_or_fault.Goals as goal

pub returns : goal.returns
returns c = λ held bytes setting is other. some_iso_answer held bytes setting is other
