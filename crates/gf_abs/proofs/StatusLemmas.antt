-- A reply has status 0 or 1, and a fault 2 or 3.
use Rattle.std.proofs.Common.{◌≡◌, ◌⊎◌, ◌<◌, ap, inl, inr, refl, ℕ, List, Option, None, Some, Ok, arith}
use Rattle.job_io.specs.Shelf.{Files}
use Rattle.poly_mixed.specs.Labels.{Labelling}
use Rattle.circuit_model.specs.Differing.{Difference}
use Rattle.cert_check.specs.Verdict.{Verdict, valid, invalid}
use Rattle.job_words.specs.Command.{Action, Bits, Abstract, Check, Same, Eval, Iso, Lift, Table, Certify, Verify, Upgrade, Make, Compose, Over, Trial}
use Rattle.job_words.specs.Fault.{fault_status}
use Rattle.job_words.specs.Operands.{Word}
use Rattle.job_words.specs.declared.fault.Fault.{Fault}
use Rattle.job_words.specs.declared.fault.Fault.TheVariants as faults
use Rattle.job_input.specs.Labelling.{labels_of}
use Rattle.job_input.specs.SettingValue.{SettingValue}
use Rattle.gf_abs.specs.Answer.{ActionAnswer, Answer}
use Rattle.gf_abs.specs.Written.{IsText}
use Rattle.answer_core.specs.Reply.{Reply}
use Rattle.answer_polynomials.specs.Check.{check_reply}
use Rattle.answer_polynomials.specs.Same.{same_reply}
use Rattle.answer_certificates.specs.Verify.{verify_reply}
use Rattle.answer_makers.proofs.TrialLemmas.{trial_status}

abbrev IsZeroOrOne : Reply → Type 0
IsZeroOrOne reply = (reply.status ≡ 0) ⊎ (reply.status ≡ 1)

same_status : (labels : Labelling) (found : Option Difference) (reply : Reply) → reply ≡ same_reply labels found → IsZeroOrOne reply
same_status labels None reply same = inl (ap (λ (r : Reply). r.status) same)
same_status labels (Some found) reply same = inr (ap (λ (r : Reply). r.status) same)

check_status : (labels : Labelling) (line : List ℕ) (found : Option Difference) (reply : Reply) → reply ≡ check_reply labels line found → IsZeroOrOne reply
check_status labels line None reply same = inl (ap (λ (r : Reply). r.status) same)
check_status labels line (Some found) reply same = inr (ap (λ (r : Reply). r.status) same)

verify_status : (labels : Labelling) (verdict : Verdict) (reply : Reply) → reply ≡ verify_reply labels verdict → IsZeroOrOne reply
verify_status labels (valid claim) reply same = inl (ap (λ (r : Reply). r.status) same)
verify_status labels (invalid remaining) reply same = inr (ap (λ (r : Reply). r.status) same)

action_status : (held : Option Files) (setting : SettingValue) (action : Action) (reply : Reply) → ActionAnswer held setting action (Ok reply) → IsZeroOrOne reply
action_status held setting (Bits net terms cycles simple) reply (circuit, taken, (ts, is, same)) = inl (ap (λ (r : Reply). r.status) same)
action_status held setting (Abstract net terms cycles simple) reply (circuit, taken, (ts, is, same)) = inl (ap (λ (r : Reply). r.status) same)
action_status held setting (Check net specification terms cycles simple) reply (netlist, taken, (spec, said, (circuit, of, (line, is, (found, judged, same))))) = check_status (labels_of setting.k setting.signature.words) line found reply same
action_status held setting (Same net other terms cycles simple) reply (netlist, taken, (second, more, (circuit, of, (other', of', (found, compared, same))))) = same_status (labels_of setting.k setting.signature.words) found reply same
action_status held setting (Eval net values cycles) reply (netlist, taken, (xs, are, (circuit, of, (e, out, same)))) = inl (ap (λ (r : Reply). r.status) same)
action_status held setting (Iso other) reply (second, taken, images) = inl (ap (λ (r : Reply). r.status) images.text)
action_status held setting (Lift table) reply (small, is, (values, taken, (ts, of, same))) = inl (ap (λ (r : Reply). r.status) same)
action_status held setting (Table net cycles) reply (small, is, (circuit, taken, (table, of, same))) = inl (ap (λ (r : Reply). r.status) same)
action_status held setting (Certify net terms cycles) reply (circuit, taken, (t, is, same)) = inl (ap (λ (r : Reply). r.status) same)
action_status held setting (Verify net file terms cycles) reply (certified, taken, (verdict, is, same)) = verify_status (labels_of setting.k setting.signature.words) verdict reply same
action_status held setting (Upgrade net file cycles) reply (certified, taken, (t, is, same)) = inl (ap (λ (r : Reply). r.status) same)
action_status held setting (Make kind) reply (net, is, same) = inl (ap (λ (r : Reply). r.status) same)
action_status held setting (Compose net terms) reply (design, taken, (lists, are, (ts, is, same))) = inl (ap (λ (r : Reply). r.status) same)

pub answer_status : (words : List Word) (held : Option Files) (reply : Reply) → Answer words held (Ok reply) → (reply.status ≡ 0) ⊎ (reply.status ≡ 1)
answer_status words held reply (Over signature action, spelled, (signed, read, (setting, taken, is))) = action_status held setting action reply is
answer_status words held reply (Trial number modulus terms, spelled, is) = trial_status number modulus terms reply is

pub fault_statuses : (fault : Fault) → (fault_status fault ≡ 2) ⊎ (fault_status fault ≡ 3)
fault_statuses (faults.Stage fault) = inr refl
fault_statuses fault = inl refl

-- a text that is written has a status below 4
pub text_status : (words : List Word) (held : Option Files) (missed : Type 0) (status : ℕ) (text : List ℕ) → IsText (Answer words held) missed status text → status < 4
text_status words held missed status text (inl answer) = elim (answer_status words held (record { status = status; text = text }) answer) [
  | inl zero ↦ let is : status ≡ 0 = zero in omega (arith, is)
  | inr one ↦ let is : status ≡ 1 = one in omega (arith, is)
]
text_status words held missed status text (inr refused) =
    let same = refused.4 in
    elim (fault_statuses refused.0) [
      | inl two ↦ omega (arith, two, same)
      | inr three ↦ omega (arith, three, same)
    ]
