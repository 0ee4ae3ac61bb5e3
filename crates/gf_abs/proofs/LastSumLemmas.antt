-- What `verify` answers, by the last running sum of the certificate.
use Rattle.std.proofs.Common.{◌≡◌, ◌≢◌, ap, refl, subst, ℕ, List, [], length, Some, Ok, ◌↔◌, arith}
use Rattle.job_io.specs.Shelf.{Files}
use Rattle.net_words.specs.Binding.{BoundNet}
use Rattle.poly_mixed.specs.Polynomial.{Terms}
use Rattle.cert_check.specs.Verdict.{Verdict, valid, invalid}
use Rattle.job_words.specs.Operands.{Word}
use Rattle.job_words.specs.Command.{Verify, Job, Over, IsSpelled}
use Rattle.job_words.proofs.OneCommandLemmas.{one_job}
use Rattle.job_input.specs.Labelling.{labels_of}
use Rattle.job_input.specs.SettingValue.{SettingValue}
use Rattle.gf_abs.specs.Answer.{Answer, JobAnswer}
use Rattle.gf_abs.specs.CertificateHeadline.{HasLastSum, HoldCertificate, HoldLastSum, HoldTermsLeft, IsAccepted, IsRejected, terms_left}
use Rattle.answer_core.specs.Reply.{Reply}
use Rattle.answer_certificates.specs.Verify.{VerdictOf, verify_reply}

-- ---- a verdict and the last running sum

-- the last running sum that a verdict speaks of
record HasSum (setting : SettingValue) (circuit : BoundNet) (bound : ℕ) (text : List ℕ) (reply : Reply) : Type 0 where
  sum : Terms
  is : HasLastSum setting circuit bound text sum
  empty : reply.status ≡ 0 → sum ≡ []
  some : reply.status ≡ 1 → sum ≢ []

sum_of : (setting : SettingValue) (circuit : BoundNet) (bound : ℕ) (text : List ℕ) (verdict : Verdict) (reply : Reply) → VerdictOf setting circuit bound text (Ok verdict) → reply ≡ verify_reply (labels_of setting.k setting.signature.words) verdict → HasSum setting circuit bound text reply
sum_of setting circuit bound text (valid claim) reply (bases, duals, (said, read, (same, last))) replied =
    let status : reply.status ≡ 0 = ap (λ (r : Reply). r.status) replied in
    record {
      sum = [];
      is = record { bases = bases; duals = duals; said = said; read = read; last = last };
      empty = λ zero. refl;
      some = λ one. absurd (omega (arith, one, status));
    }
sum_of setting circuit bound text (invalid remaining) reply (bases, duals, (said, read, (sum, last, some, same))) replied =
    let status : reply.status ≡ 1 = ap (λ (r : Reply). r.status) replied in
    record {
      sum = sum;
      is = record { bases = bases; duals = duals; said = said; read = read; last = last };
      empty = λ zero. absurd (omega (arith, zero, status));
      some = λ one. some;
    }

-- ---- the steps of an answer

record HoldSum (files : Files) (signature net certificate : Word) (bound cycles : ℕ) (reply : Reply) : Type 0 where
  setting : SettingValue
  circuit : BoundNet
  text : List ℕ
  held : HoldCertificate files signature net certificate cycles setting circuit text
  has : HasSum setting circuit bound text reply

job_sums : (files : Files) (signature net certificate : Word) (bound cycles : ℕ) (reply : Reply) → JobAnswer (Some files) (Over signature (Verify net certificate bound cycles)) (Ok reply) → HoldSum files signature net certificate bound cycles reply
job_sums files signature net certificate bound cycles reply (signed, (bytes, read, is), (setting, are, (certified, (netlist, (text, read', taken), (cert, cert_read, (circuit, of, same))), (verdict, verified, exactly)))) =
    let P : BoundNet × List ℕ → Type 0 = λ c. VerdictOf setting c.0 bound c.1 (Ok verdict) in
    record {
      setting = setting;
      circuit = circuit;
      text = cert;
      held = record { bytes = bytes; signature_read = read; is_setting = (signed, is, are); netlist = text; net_read = read'; is_circuit = (netlist, taken, of); certificate_read = cert_read };
      has = sum_of setting circuit bound cert verdict reply (subst P same verified) exactly;
    }

module _ (files : Files) (words : List Word) (signature net certificate : Word) (bound cycles : ℕ) (spelled : IsSpelled words (Over signature (Verify net certificate bound cycles))) where
  answer_sums : (reply : Reply) → Answer words (Some files) (Ok reply) → HoldSum files signature net certificate bound cycles reply
  answer_sums reply answer =
      let P : Job → Type 0 = λ job. JobAnswer (Some files) job (Ok reply) in
      job_sums files signature net certificate bound cycles reply (subst P (one_job words answer.0 (Over signature (Verify net certificate bound cycles)) answer.1 spelled) answer.2)

  -- a verdict on what is held is answered
  answered : (setting : SettingValue) (circuit : BoundNet) (text : List ℕ) (verdict : Verdict) → HoldCertificate files signature net certificate cycles setting circuit text → VerdictOf setting circuit bound text (Ok verdict) → Answer words (Some files) (Ok (verify_reply (labels_of setting.k setting.signature.words) verdict))
  answered setting circuit text verdict held is =
      let signed = held.is_setting in
      let netlist = held.is_circuit in
      (Over signature (Verify net certificate bound cycles), spelled, (signed.0, (held.bytes, held.signature_read, signed.1), (setting, signed.2, ((circuit, text), (netlist.0, (held.netlist, held.net_read, netlist.1), (text, held.certificate_read, (circuit, netlist.2, refl))), (verdict, is, refl)))))

  pub left_of : (sum : Terms) → HoldLastSum files signature net certificate bound cycles sum → sum ≢ [] → Answer words (Some files) (Ok (terms_left sum))
  left_of sum hold some =
      let is = hold.is in
      answered hold.setting hold.circuit hold.text (invalid (length sum)) hold.held (is.bases, is.duals, (is.said, is.read, (sum, is.last, some, refl)))

  pub accepted_by_sum : IsAccepted files words ↔ HoldLastSum files signature net certificate bound cycles []
  accepted_by_sum = (
    (λ accepted.
        let hold = answer_sums accepted.reply accepted.answer in
        let P : Terms → Type 0 = λ sum. HasLastSum hold.setting hold.circuit bound hold.text sum in
        record { setting = hold.setting; circuit = hold.circuit; text = hold.text; held = hold.held; is = subst P (hold.has.empty accepted.status) hold.has.is }),
    λ hold.
        let is = hold.is in
        record {
          reply = verify_reply (labels_of hold.setting.k hold.setting.signature.words) (valid is.said.claim);
          answer = answered hold.setting hold.circuit hold.text (valid is.said.claim) hold.held (is.bases, is.duals, (is.said, is.read, (refl, is.last)));
          status = refl;
        },
  )

  pub rejected_by_sum : IsRejected files words ↔ HoldTermsLeft files signature net certificate bound cycles
  rejected_by_sum = (
    (λ rejected.
        let hold = answer_sums rejected.reply rejected.answer in
        record {
          sum = hold.has.sum;
          is = record { setting = hold.setting; circuit = hold.circuit; text = hold.text; held = hold.held; is = hold.has.is };
          some = hold.has.some rejected.status;
        }),
    λ hold. record { reply = terms_left hold.sum; answer = left_of hold.sum hold.is hold.some; status = refl },
  )
