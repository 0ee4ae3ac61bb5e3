use Rattle.make_laws.proofs.LawLemmas.{is_renumbering}
use Rattle.make_laws.proofs.number_laws.same_names_renumber.Goals as goal

pub returns : goal.returns
returns c = λ net other sound sound' plain plain' same. is_renumbering net other sound sound' plain plain' same
