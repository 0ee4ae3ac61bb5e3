use Rattle.exist_laws.proofs.IsoExists.{some_iso}
use Rattle.exist_laws.proofs.fields.some_isomorphism.Goals as goal

pub returns : goal.returns
returns c = λ k big n g c0 c1 ring field tower double. some_iso k big ring field n g c0 c1 tower double
