use Rattle.exist_laws.proofs.DualsExist.{some_basis}
use Rattle.exist_laws.proofs.fields.some_dual_basis.Goals as goal

pub returns : goal.returns
returns c = λ k mul elements ring field basis. some_basis k mul ring field elements basis
