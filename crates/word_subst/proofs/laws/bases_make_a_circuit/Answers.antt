use Rattle.word_subst.proofs.TurnLemmas.{is_well_formed}
use Rattle.word_subst.proofs.laws.bases_make_a_circuit.Goals as goal

pub returns : goal.returns
returns c = λ k mul bound bases ring field sound is_bound bits are. is_well_formed k mul bound bases are ring field sound is_bound bits
