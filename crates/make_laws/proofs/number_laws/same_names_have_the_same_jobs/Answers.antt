use Rattle.make_laws.proofs.LawLemmas.{bound_alike}
use Rattle.make_laws.proofs.number_laws.same_names_have_the_same_jobs.Goals as goal

pub returns : goal.returns
returns c = λ net other words feeds binding sound sound' plain plain' same is. bound_alike net other sound sound' plain plain' same words feeds binding is
