-- What a printed polynomial says of its circuit.
use Rattle.std.proofs.Common.{◌≡◌, ◌∙◌, ap, sym, refl, subst, ℕ, ◌+◌, ◌↔◌, ◌++◌, length, drop, codes, Ok}
use Rattle.std.specs.List.{AllByRecursion}
use Rattle.std.proofs.lemmas.List.{append_cancel_left, append_cancel_right}
use Rattle.net_words.specs.Binding.{BoundNet}
use Rattle.poly_mixed.specs.Labels.{AreLabels, bit_count}
use Rattle.poly_mixed.specs.Polynomial.{Terms, IsReduced, value}
use Rattle.poly_mixed.specs.Text.{text}
use Rattle.poly_mixed.specs.laws.TextLaw.{IsWritten}
use Rattle.poly_mixed.proofs.TextLaws.{one_text}
use Rattle.circuit_model.specs.Circuit.{Circuit}
use Rattle.circuit_model.specs.OfBinding.{output_basis}
use Rattle.circuit_model.specs.WellFormed.{IsWellFormed}
use Rattle.circuit_model.proofs.OutLemmas.{one_out}
use Rattle.stage_model.specs.InputPoint.{input_of}
use Rattle.stage_model.specs.OutputInBits.{IsOutputInBits}
use Rattle.stage_model.proofs.OutputInBitsLemmas.{last_is_output, same_stage}
use Rattle.stage_model.proofs.SizeLemmas.{is_unique}
use Rattle.job_input.specs.Labelling.{word_labels, labels_of}
use Rattle.job_input.specs.SettingSound.{IsSoundSetting}
use Rattle.job_input.specs.SettingValue.{SettingValue}
use Rattle.job_input.specs.Setting.{HaveRoles}
use Rattle.job_input.proofs.RoleLemmas.{roles_long}
use Rattle.job_input.proofs.SettingSoundLemmas.{setting_sound}
use Rattle.job_input.proofs.SignedLemmas.{setting_names}
use Rattle.answer_core.specs.Printed.{IsTaken, IsInItsWords, HasOutput, IsPrinted}
use Rattle.answer_core.specs.Reply.{Reply, polynomial_line}
use Rattle.answer_core.specs.Abstraction.{taken_circuit}
use Rattle.answer_polynomials.specs.Abstract.{AbstractReply}
use Rattle.answer_polynomials.specs.Bits.{BitsReply}
use Rattle.answer_core.proofs.EqualLabelLemmas.{are_labels, few_bits}
use Rattle.answer_core.proofs.PrintedLemmas.{words_alone, words_values}
use Rattle.answer_core.proofs.SimplerLemmas.{simpler_long, simpler_one_cycle, simpler_roles, simpler_well}
use Rattle.job_input.proofs.CountLemmas.{as_many}
use Rattle.stage_model.proofs.SharedLemmas.{no_names}

module _ (setting : SettingValue) (circuit : BoundNet) (taken : IsTaken setting circuit) where
  abbrev pub whole : Circuit
  whole = taken_circuit setting circuit

  pub sound : IsSoundSetting setting
  sound = setting_sound taken.signature setting taken.is_setting

  pub well : IsWellFormed whole
  well = simpler_well setting circuit sound taken.netlist taken.cycles taken.simple taken.is_circuit

  pub roles : HaveRoles setting.signature.words circuit.binding.words
  roles = simpler_roles setting circuit sound taken.netlist taken.cycles taken.simple taken.is_circuit

  -- there are as many labels as words
  pub count : length whole.words ≡ length (word_labels setting.k setting.signature.words)
  count =
      as_many setting.k circuit.binding.words setting.signature.words setting.bases (sound.long ∙ sym (roles_long setting.signature.words circuit.binding.words roles)) roles

  pub labels : AreLabels (labels_of setting.k setting.signature.words)
  labels = are_labels setting.k setting.signature.words sound.words (setting_names taken.signature setting taken.is_setting)

  -- what comes of `abstract` is the output's polynomial
  pub printed : (bound : ℕ) (reply : Reply) → AbstractReply setting circuit bound (Ok reply) → IsPrinted setting whole reply
  printed bound reply (ts, found, exactly) = record {
    polynomial = ts;
    status = ap (λ (r : Reply). r.status) exactly;
    line = ap (λ (r : Reply). r.text) exactly;
    in_words = words_alone setting circuit sound.ring sound.field well ts found.0;
    values = words_values setting circuit sound.ring sound.field well ts found.0;
  }

  -- what comes of `bits` is the output's polynomial in bits
  pub in_bits : (bound : ℕ) (reply : Reply) → (is : BitsReply setting circuit bound (Ok reply)) → IsOutputInBits whole is.0
  in_bits bound reply (ts, found, exactly) =
      let flat = (simpler_one_cycle setting circuit sound taken.netlist taken.cycles taken.simple taken.is_circuit).1.flat.latches in
      let long = simpler_long setting circuit sound taken.netlist taken.cycles taken.simple taken.is_circuit in
      let stage = (same_stage setting.k setting.product circuit setting.bases (output_basis circuit.binding.words setting.bases) (length circuit.net.gates) ts long refl).0 found.0 in
      (last_is_output whole well flat ts).0 stage

  -- it is written with the labels
  written : (ts : Terms) → IsInItsWords setting whole ts → IsWritten (labels_of setting.k setting.signature.words) setting.k ts
  written ts is =
      let P : ℕ → Type 0 = λ n. AllByRecursion (λ t. AllByRecursion (λ e. e ≡ 0) (drop n t.0.exponents)) ts in
      record {
        labels = labels;
        some = sound.ring.some;
        small = sound.ring.small;
        few = few_bits setting.k setting.signature.words labels;
        reduced = is.reduced;
        ranks = no_names (bit_count (word_labels setting.k setting.signature.words) + 0) ts is.words.bits;
        words = subst P count is.words.words;
      }

  -- equal lines are of equal polynomials
  pub one_written : (ts us : Terms) → IsWritten (labels_of setting.k setting.signature.words) setting.k ts → IsWritten (labels_of setting.k setting.signature.words) setting.k us → polynomial_line setting ts ≡ polynomial_line setting us → ts ≡ us
  one_written ts us a b same =
      let l = labels_of setting.k setting.signature.words in
      let behind = append_cancel_left (codes " = ") (text l ts ++ codes "\n") (text l us ++ codes "\n") (append_cancel_left l.output (codes " = " ++ (text l ts ++ codes "\n")) (codes " = " ++ (text l us ++ codes "\n")) same) in
      one_text l setting.k ts us a b (append_cancel_right (text l ts) (text l us) (codes "\n") behind)

  pub one_line : (ts us : Terms) → IsInItsWords setting whole ts → IsInItsWords setting whole us → polynomial_line setting ts ≡ polynomial_line setting us → ts ≡ us
  one_line ts us a b same = one_written ts us (written ts a) (written us b) same

  -- the output has one polynomial
  pub one_polynomial : (ts us : Terms) → IsReduced setting.k ts → IsReduced setting.k us → HasOutput setting whole ts → HasOutput setting whole us → ts ≡ us
  one_polynomial ts us a b first other =
      is_unique setting.k setting.product sound.ring sound.field ts us a b
      (λ p at. one_out whole (input_of whole p) (value setting.product p ts) (value setting.product p us) well (first p at) (other p at))

  pub only_text : (reply : Reply) (ts : Terms) → IsPrinted setting whole reply → IsInItsWords setting whole ts → reply.text ≡ polynomial_line setting ts ↔ HasOutput setting whole ts
  only_text reply ts found is =
      let P : Terms → Type 0 = λ us. HasOutput setting whole us in (
        (λ same. subst P (one_line found.polynomial ts found.in_words is (sym found.line ∙ same)) found.values),
        λ values. found.line ∙ ap (λ us. polynomial_line setting us) (one_polynomial found.polynomial ts found.in_words.reduced is.reduced found.values values),
      )
