-- The polynomials of a circuit's output in bits and in words, with their stages and a bound on the terms of these. Sources: Lv, Kalla,
-- Enescu, IEEE TCAD 2013; Pruss, Kalla, Enescu, Word-Level Abstraction from Bit-Level Circuits Using Gröbner Bases, DAC 2014; the order
-- of cuts, the stages of words and the bound are this project's own.
use Rattle.std.specs.Prelude.{ℕ, List, length, Option}
use Rattle.outcome.specs.Outcome.{Outcome}
use Rattle.net_words.specs.Binding.{BoundNet}
use Rattle.poly_mixed.specs.Polynomial.{Terms}
use Rattle.poly_mixed.specs.Steps.{Step}
use Rattle.poly_mixed.specs.declared.stage.ReduceFault.{ReduceFault}
use Rattle.poly_mixed.specs.declared.stage.Stage.{Stage}
use Rattle.circuit_model.specs.OfBinding.{circuit_with, output_basis}
use Rattle.stage_model.specs.Listing.{Listing, Joined, AreAllWithin, IsRefusal}
use Rattle.stage_model.specs.Stage.{IsOfStage}
use Rattle.stage_model.specs.WordListing.{word_listing}
use Rattle.rato_reduce.specs.Recorded.{IsRecorded as AreEliminationsRecorded}
use Rattle.word_subst.specs.Recorded.{IsRecorded as AreReplacementsRecorded}
use Rattle.abstraction.specs.Stages.{all_stages, cut_stages, IsLastCut as IsLastCutIn}
use Rattle.job_words.specs.declared.stage_fault.StageFault.{StageFault}
use Rattle.job_words.specs.StageFault.{stage_text}
use Rattle.job_input.specs.Labelling.{labels_of}
use Rattle.job_input.specs.SettingValue.{SettingValue}
use Rattle.answer_core.specs.Staged.{Staged, either_text}
use Rattle.circuit_model.specs.Circuit.{Circuit}
use Rattle.stage_model.specs.Mix.{IsMix}

-- the circuit of a setting and a net list with bound words
abbrev pub taken_circuit : SettingValue → BoundNet → Circuit
taken_circuit setting bound = circuit_with setting.k setting.product bound setting.bases

-- the stages to the polynomial in bits: the cuts of the circuit
abbrev pub bits_stages : SettingValue → BoundNet → Listing Stage
bits_stages setting circuit = cut_stages circuit setting.bases

-- these are the terms of the last cut
abbrev pub IsLastCut : SettingValue → BoundNet → Terms → Type 0
IsLastCut setting circuit = IsLastCutIn setting.k setting.product circuit setting.bases

-- the polynomial of the last cut, where no cut has more than `bound` terms
abbrev pub BitsOf : SettingValue → BoundNet → ℕ → Outcome StageFault Terms
BitsOf setting circuit bound = Staged setting.k setting.product (bits_stages setting circuit) (stage_text (labels_of setting.k setting.signature.words)) bound (IsLastCut setting circuit)

-- the stages to the polynomial in words: these cuts, and then the stages of the words
abbrev pub abstract_stages : SettingValue → BoundNet → Listing (Joined Stage Stage)
abstract_stages setting circuit = all_stages setting.k setting.product circuit setting.bases

-- these are the terms of the output as a function of all words
abbrev pub IsInWords : SettingValue → BoundNet → Terms → Type 0
IsInWords setting circuit ts = IsOfStage setting.k setting.product (IsMix (taken_circuit setting circuit) (length (taken_circuit setting circuit).words)) ts

-- the polynomial in words, where no stage has more than `bound` terms
abbrev pub AbstractOf : SettingValue → BoundNet → ℕ → Outcome StageFault Terms
AbstractOf setting circuit bound = Staged setting.k setting.product (abstract_stages setting circuit) (either_text (labels_of setting.k setting.signature.words)) bound (IsInWords setting circuit)

-- these are the terms of the output as a function of the bits of all words
abbrev pub IsInNoWords : SettingValue → BoundNet → Terms → Type 0
IsInNoWords setting circuit ts = IsOfStage setting.k setting.product (IsMix (taken_circuit setting circuit) 0) ts

-- no cut of the circuit has more than `bound` terms
abbrev pub AreCutsWithin : SettingValue → BoundNet → (bound : ℕ) → Type 0
AreCutsWithin setting circuit bound = AreAllWithin setting.k setting.product (bits_stages setting circuit) bound

-- the fault names the first cut of more than `bound` terms, or it is want of memory
abbrev pub IsCutRefusal : SettingValue → BoundNet → (bound : ℕ) → ReduceFault → Type 0
IsCutRefusal setting circuit bound = IsRefusal setting.k setting.product (bits_stages setting circuit) bound

-- a recorder got the steps of the eliminations of all gates
abbrev pub AreCutsRecorded : SettingValue → BoundNet → (old new : Option (List Step)) → Type 0
AreCutsRecorded setting circuit old new = AreEliminationsRecorded setting.k setting.product circuit (output_basis circuit.binding.words setting.bases) (length circuit.net.gates) old new

-- no stage of the circuit's words has more than `bound` terms
abbrev pub AreWordsWithin : SettingValue → BoundNet → (bound : ℕ) → Type 0
AreWordsWithin setting circuit bound = AreAllWithin setting.k setting.product (word_listing (taken_circuit setting circuit)) bound

-- the fault names the first stage of a word of more than `bound` terms, or it is want of memory
abbrev pub IsWordRefusal : SettingValue → BoundNet → (bound : ℕ) → ReduceFault → Type 0
IsWordRefusal setting circuit bound = IsRefusal setting.k setting.product (word_listing (taken_circuit setting circuit)) bound

-- a recorder got the steps of the replacement of all words
abbrev pub AreWordsRecorded : SettingValue → BoundNet → (old new : Option (List Step)) → Type 0
AreWordsRecorded setting circuit old new = AreReplacementsRecorded (taken_circuit setting circuit) old new
