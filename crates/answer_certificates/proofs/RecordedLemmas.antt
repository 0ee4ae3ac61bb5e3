-- What the commands over certificates stand on, of the circuit of a setting.
use Rattle.std.proofs.Common.{◌≡◌, refl, subst, ℕ, ◌≤◌, ◌+◌, ◌^◌, List, [], length, Some, Ok}
use Rattle.net_core.specs.NetList.{nets}
use Rattle.net_words.specs.Binding.{BoundNet}
use Rattle.poly_mixed.specs.Labels.{Labelling, bit_count}
use Rattle.poly_mixed.specs.Polynomial.{Terms}
use Rattle.poly_mixed.specs.Steps.{Step, Tells}
use Rattle.poly_mixed.specs.laws.Uniqueness.{InFirstWords}
use Rattle.circuit_model.specs.OfBinding.{output_basis}
use Rattle.rato_reduce.specs.Recorded.{IsRecorded as AreCutsRecorded}
use Rattle.word_subst.specs.Recorded.{IsRecorded as AreWordsRecorded}
use Rattle.cert_check.specs.Verdict.{Verdict, valid, invalid, Check}
use Rattle.cert_check.specs.Labels.{NameWords}
use Rattle.cert_check.proofs.OutputLawLemmas.{proves_output}
use Rattle.cert_make.specs.Recorded.{IsCertificateOf}
use Rattle.cert_make.specs.Writable.{HaveNumbers, IsWritable}
use Rattle.cert_laws.proofs.NamedLemmas.{is_named}
use Rattle.cert_laws.proofs.OneCertificateLemmas.{recorded}
use Rattle.job_input.specs.Labelling.{circuit_labels, labels_of, word_labels}
use Rattle.job_input.specs.Setting.{elements_of_each, setting_value, IsReady, IsTakenFor}
use Rattle.job_input.specs.declared.setting.Setting.{Setting}
use Rattle.answer_certificates.specs.Certificates.{HaveDuals}
use Rattle.answer_core.specs.Abstraction.{IsInWords, taken_circuit}
use Rattle.answer_certificates.specs.private.CertificateStop.{IsNamedVerdict}
use Rattle.answer_certificates.proofs.CertificateLabelLemmas.{has_numbers, names_variables, names_words}
use Rattle.answer_core.proofs.BoundBasesLemmas.{bases_are, count}
use Rattle.answer_core.proofs.StageLemmas.{IsJob}
use Rattle.stage_model.proofs.SharedLemmas.{no_names}

module _ (k : ℕ) (mul : ℕ → ℕ → ℕ) (setting : Setting) (ready : IsReady k mul setting) (circuit : BoundNet) (taken : IsTakenFor k setting circuit) (job : IsJob k mul circuit setting.bases.items) where
  abbrev labels : Labelling
  labels = circuit_labels k setting.signature.words circuit

  -- the bases of the setting have their duals with them
  pub with_duals : HaveDuals (setting_value k mul setting) circuit setting.bases.items
  with_duals = record { elements = refl; are = bases_are k mul setting ready circuit taken setting.bases.items refl }

  pub labels_name : NameWords circuit.binding labels
  labels_name = names_words k setting.signature.words circuit ready.words ready.names job.sound job.bound job.same taken.roles

  pub labels_number : nets circuit.net ≤ 2 ^ 32 → HaveNumbers k circuit.net labels
  labels_number few = has_numbers k setting.signature.words circuit ready.words ready.names job.sound job.bound job.same taken.roles few

  -- what was recorded of both engines is the certificate
  pub is_certificate : (claim : Terms) (start first second : List Step) → start ≡ [] → AreCutsRecorded k mul circuit (output_basis circuit.binding.words (elements_of_each setting.bases.items)) (length circuit.net.gates) (Some start) (Some first)
      → AreWordsRecorded (taken_circuit (setting_value k mul setting) circuit) (Some first) (Some second) → IsInWords (setting_value k mul setting) circuit claim → IsCertificateOf k mul circuit setting.bases.items claim second
  is_certificate claim start first second none cuts words claims =
      let P : List Step → Type 0 = λ xs. Tells (Some xs) (Some first) cuts.steps in
      recorded k mul circuit setting.bases.items (output_basis circuit.binding.words (elements_of_each setting.bases.items)) claim cuts.steps words.steps first second refl cuts.are words.are (subst P none cuts.told) words.told claims

  -- it can be written with the labels of the circuit
  pub can_be_written : nets circuit.net ≤ 2 ^ 32 → (claim : Terms) (pairs : List Step) → IsCertificateOf k mul circuit setting.bases.items claim pairs → IsWritable labels k claim pairs
  can_be_written few claim pairs is =
      let variables = names_variables k setting.signature.words circuit ready.words ready.names job.sound job.bound job.same taken.roles in
      (is_named k mul circuit setting.bases.items labels claim pairs job.ring job.nozero job.sound job.bound job.same with_duals.are (labels_number few) variables is).writable

  -- the labels of the setting name what is printed of a verdict
  pub verdict_named : (most : ℕ) (bytes : List ℕ) (v : Verdict) → Check k mul circuit setting.bases.items labels most bytes (Ok v) → IsNamedVerdict (labels_of k setting.signature.words) v
  verdict_named most bytes (valid claim) is =
      let output = proves_output k mul circuit setting.bases.items labels most bytes claim job.ring job.nozero job.sound job.bound job.same with_duals.are labels_name is in
      let P : ℕ → Type 0 = λ n. InFirstWords n claim in (
        no_names (bit_count (word_labels k setting.signature.words) + 0) claim output.no_bits,
        subst P (count k mul setting ready circuit taken) output.words_alone,
      )
  verdict_named most bytes (invalid remaining) is = tt
