-- What makes a circuit well-formed whose words all stand on nets, and to which nothing is fed. Source: this project's own.
use Rattle.std.specs.Prelude.{◌≡◌, ◌≢◌, ℕ, ◌≤◌, [], length}
use Rattle.lists.specs.Lists.{Has, times}
use Rattle.net_core.specs.LatchValue.{LatchValue}
use Rattle.net_core.specs.Sound.{IsSound}
use Rattle.net_core.specs.declared.latch.Start.TheVariants.{Unknown}
use Rattle.net_words.specs.BoundTo.{StandsOn}
use Rattle.net_words.specs.Reach.{Reaches}
use Rattle.net_words.specs.declared.word.Role.TheVariants.{Output}
use Rattle.gf_field.specs.Ring.{IsRing}
use Rattle.gf_field.specs.Field.{HasNoZeroDivisors}
use Rattle.gf_basis.specs.Basis.{IsBasis}
use Rattle.circuit_model.specs.Word.{Word, word_nets}
use Rattle.circuit_model.specs.Circuit.{Circuit, IsNet, IsInNoWord}

-- a word has k nets and a basis of the field
pub record IsWord (k : ℕ) (word : Word) : Type 0 where
  pub nets : length word.nets ≡ k
  pub basis : IsBasis k word.basis

-- The field is one and the net list is sound; nothing is fed; there are at most 8 input and state words; each word has k
-- nets and a basis; no net stands twice in input and state words, and each stands on what its role asks for; the output
-- word's nets exist; each latch in no word has a start; and a primary input in no word reaches no bit of the output word.
pub record IsWellFormed (circuit : Circuit) : Type 0 where
  pub ring : IsRing circuit.k circuit.product
  pub no_zero_divisors : HasNoZeroDivisors circuit.k circuit.product
  pub sound : IsSound circuit.net
  pub unfed : circuit.feeds ≡ []
  pub few : length circuit.words ≤ 8
  pub words : (w : Word) → Has circuit.words w → IsWord circuit.k w
  pub inner : (w : Word) → Has circuit.words w → w.role ≢ Output
  pub once : (n : ℕ) → times n (word_nets circuit.words) ≤ 1
  pub places : (w : Word) (n : ℕ) → Has circuit.words w → Has w.nets n → StandsOn circuit.net w.role n
  pub output : IsWord circuit.k circuit.output
  pub output_role : circuit.output.role ≡ Output
  pub output_nets : (n : ℕ) → Has circuit.output.nets n → IsNet circuit n
  pub starts : (l : LatchValue) → Has circuit.net.latches l → IsInNoWord circuit l.out → l.start ≢ Unknown
  pub covered : (n : ℕ) → Has circuit.net.inputs n → IsInNoWord circuit n → Reaches circuit.net n circuit.output.nets → ⊥

-- it is well-formed and combinational: nothing is held in latches
pub record IsCombinational (circuit : Circuit) : Type 0 where
  pub well_formed : IsWellFormed circuit
  pub latches : circuit.net.latches ≡ []
