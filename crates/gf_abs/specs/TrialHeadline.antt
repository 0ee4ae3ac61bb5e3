-- What the answers of `trial` say, whatever files are held. Source: this project's own.
use Rattle.std.specs.Prelude.{◌≡◌, ◌≢◌, ◌⊎◌, ℕ, ◌<◌, ◌^◌, List, [], ◌∷◌, ◌++◌, codes, length, Option, Ok, Err}
use Rattle.gf_field.specs.Bit.{bit_mul}
use Rattle.gf_field.specs.Quotient.{product}
use Rattle.gf_tower.specs.FieldName.{IsFieldModulus}
use Rattle.job_io.specs.Shelf.{Files}
use Rattle.poly_mixed.specs.Polynomial.{Terms}
use Rattle.circuit_model.specs.Circuit.{Circuit}
use Rattle.circuit_model.specs.Differing.{IsDifferingInput}
use Rattle.circuit_model.specs.Out.{IsOut}
use Rattle.make_trial.specs.Turned.{turned_product}
use Rattle.job_words.specs.Command.{Trial, IsSpelled}
use Rattle.job_words.specs.Operands.{Word}
use Rattle.job_words.specs.declared.fault.Fault.{Fault}
use Rattle.job_words.specs.declared.fault.Fault.TheVariants as faults
use Rattle.job_words.specs.declared.signature_fault.SignatureFault.{SignatureFault}
use Rattle.job_words.specs.declared.stage_fault.StageFault.{StageFault}
use Rattle.job_input.specs.FieldOf.{FieldOf}
use Rattle.job_input.specs.Labelling.{labels_of}
use Rattle.make_trial.specs.Trial.{product_terms, trial_circuit, trial_index, trial_place, trial_setting, trial_words}
use Rattle.gf_abs.specs.Answer.{Answer}
use Rattle.answer_core.specs.DifferingLines.{differing_lines}
use Rattle.answer_core.specs.Printed.{HasOutput, IsInItsWords}
use Rattle.answer_core.specs.Reply.{Reply}
use Rattle.answer_core.specs.Abstraction.{taken_circuit}
use Rattle.answer_core.specs.Judged.{IsSpecified}
use Rattle.answer_makers.specs.Trial.{trial_head}

-- to the words `trial NUMBER MODULUS` the program answers with this reply
pub record AnswersTrial (held : Option Files) (words : List Word) (number modulus : ℕ) (reply : Reply) : Type 0 where
  pub bound : ℕ
  pub spelled : IsSpelled words (Trial number modulus bound)
  pub answer : Answer words held (Ok reply)

-- or with this fault
pub record RefusesTrial (held : Option Files) (words : List Word) (number modulus : ℕ) (fault : Fault) : Type 0 where
  pub bound : ℕ
  pub spelled : IsSpelled words (Trial number modulus bound)
  pub answer : Answer words held (Err fault)

-- the circuit of the multiplier with the bit turned over
abbrev pub circuit_of_trial : (k g number : ℕ) → Circuit
circuit_of_trial k g number = taken_circuit (trial_setting k g) (trial_circuit k g number)

-- The reply has the lines of the multiplier, with the number of terms of the polynomial of its output in words, and then those of
-- two factors: what the multiplier gives of them, and their product, which is another. Of all such factors they are those with the
-- fewest bits that are 1, and among several those whose rising list of ranks is lexicographically first.
pub record PrintsTrial (number modulus : ℕ) (reply : Reply) : Type 0 where
  pub degree : ℕ
  pub field : IsFieldModulus degree modulus
  pub polynomial : Terms
  pub in_words : IsInItsWords (trial_setting degree modulus) (circuit_of_trial degree modulus number) polynomial
  pub values : HasOutput (trial_setting degree modulus) (circuit_of_trial degree modulus number) polynomial
  pub first : ℕ
  pub second : ℕ
  pub given : ℕ
  pub status : reply.status ≡ 0
  pub text : reply.text ≡ trial_head modulus (length (trial_circuit degree modulus number).net.gates) (trial_place degree number) (trial_index degree number) (length polynomial) ++ differing_lines (labels_of degree (trial_words degree)) (codes "netlist") (codes "product") (record { input = first ∷ second ∷ []; left = given; right = product 1 degree bit_mul modulus first second })
  pub first_low : first < 2 ^ degree
  pub second_low : second < 2 ^ degree
  pub by_netlist : given ≡ turned_product degree modulus (trial_place degree number) (trial_index degree number) first second
  pub apart : given ≢ product 1 degree bit_mul modulus first second
  pub least : IsDifferingInput (circuit_of_trial degree modulus number) (IsOut (circuit_of_trial degree modulus number)) (IsSpecified (trial_setting degree modulus) (circuit_of_trial degree modulus number) product_terms) (first ∷ second ∷ []) given (product 1 degree bit_mul modulus first second)

-- the fault of a signature with this modulus, or that of a stage
abbrev pub IsTrialFault : ℕ → Fault → Type 0
IsTrialFault modulus fault = ((found : SignatureFault) × FieldOf modulus [] [] (Err found) × (fault ≡ faults.Signature found)) ⊎ ((stage : StageFault) × (fault ≡ faults.Stage stage))
