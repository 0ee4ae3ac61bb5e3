-- At most one reply or fault comes of `bits` and of `abstract` for a setting and a circuit.
use Rattle.std.proofs.Common.{ℕ, Bool, Ok}
use Rattle.outcome.proofs.DeterminedLemmas.{determined_bind, determined_exactly}
use Rattle.outcome.specs.Outcome.{Determined, Exactly, Within}
use Rattle.net_words.specs.Binding.{BoundNet}
use Rattle.job_words.specs.declared.fault.Fault.TheVariants as faults
use Rattle.job_input.specs.NetlistOf.{NetlistText}
use Rattle.job_input.specs.SettingSound.{IsSoundSetting}
use Rattle.job_input.specs.SettingValue.{SettingValue}
use Rattle.answer_core.specs.Abstraction.{AbstractOf, BitsOf}
use Rattle.answer_core.specs.Reply.{prints}
use Rattle.answer_core.specs.Simpler.{SimplerOfText}
use Rattle.answer_core.proofs.SimplerDetermined.{cut_determined, words_determined}
use Rattle.answer_polynomials.specs.Abstract.{AbstractReply}
use Rattle.answer_polynomials.specs.Bits.{BitsReply}

module _ (setting : SettingValue) (circuit : BoundNet) (bound : ℕ) (sound : IsSoundSetting setting) (text : NetlistText) (cycles : ℕ) (simple : Bool) (is : SimplerOfText setting.signature text cycles simple (Ok circuit)) where
  pub bits_determined : Determined (BitsReply setting circuit bound)
  bits_determined = determined_bind (Within faults.Stage (BitsOf setting circuit bound)) (λ ts. Exactly (prints setting ts)) (cut_determined setting circuit bound sound text cycles simple is) (λ ts. determined_exactly (prints setting ts))

  pub abstract_determined : Determined (AbstractReply setting circuit bound)
  abstract_determined = determined_bind (Within faults.Stage (AbstractOf setting circuit bound)) (λ ts. Exactly (prints setting ts)) (words_determined setting circuit bound sound text cycles simple is) (λ ts. determined_exactly (prints setting ts))
