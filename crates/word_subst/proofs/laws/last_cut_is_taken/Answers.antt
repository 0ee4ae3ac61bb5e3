use Rattle.word_subst.proofs.CallerLemmas.{taken}
use Rattle.word_subst.proofs.laws.last_cut_is_taken.Goals as goal

pub returns : goal.returns
returns c = λ k mul bound bases basis ts well are flat same is. taken k mul bound bases basis ts well are flat same is
