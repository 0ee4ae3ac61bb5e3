-- What the answers of `certify`, `verify` and `upgrade` say, out of what comes of their steps.
use Rattle.std.proofs.Common.{◌≡◌, ◌∙◌, ap, refl, sym, subst, ℕ, ◌*◌, ◌^◌, ◌<◌, ◌≤◌, List, [], ◌∷◌, ◌++◌, length, Some, Ok, codes, arith}
use Rattle.std.proofs.lemmas.List.{length-append}
use Rattle.lists.specs.Limits.{most_bytes}
use Rattle.lists.specs.laws.OptionLaws.{same_ok}
use Rattle.job_io.specs.Shelf.{Files}
use Rattle.net_core.specs.NetList.{nets}
use Rattle.net_core.specs.Sound.{IsSound}
use Rattle.net_words.specs.Binding.{BoundNet}
use Rattle.net_words.specs.OneCycle.{IsOneCycle}
use Rattle.poly_mixed.specs.Labels.{Labelling}
use Rattle.poly_mixed.specs.Polynomial.{Terms}
use Rattle.poly_mixed.specs.Steps.{Step}
use Rattle.poly_mixed.specs.Text.{text}
use Rattle.circuit_model.specs.Circuit.{Circuit}
use Rattle.circuit_model.specs.OfBinding.{circuit_with}
use Rattle.stage_model.specs.CircuitListing.{circuit_stages, circuit_cuts}
use Rattle.stage_model.specs.Listing.{AreAllWithin, Earlier, Later}
use Rattle.stage_model.specs.WordListing.{word_listing}
use Rattle.stage_model.proofs.BoundLemmas.{bound_within}
use Rattle.stage_model.proofs.ListingLemmas.{both_within}
use Rattle.cert_check.specs.Labels.{NameWords}
use Rattle.cert_check.specs.Output.{IsOutput}
use Rattle.cert_check.specs.Certificate.{Certificate, CertificateOf}
use Rattle.cert_check.specs.Verdict.{AsksAtMost, Verdict, valid, invalid, Check}
use Rattle.cert_check.proofs.OutputLawLemmas.{proves_output}
use Rattle.cert_make.specs.CertText.{cert_text, let_lines, lines_at, lines_from, pair_line, text_of_lines}
use Rattle.cert_make.specs.CircuitLabels.{NameVariables}
use Rattle.cert_make.specs.Sharing.{shares_with}
use Rattle.cert_make.specs.Writable.{HaveNumbers}
use Rattle.cert_make.proofs.UpgradeLemmas.{keeps_pairs, keeps_verdict, text_free}
use Rattle.cert_laws.proofs.AcceptedLemmas.{is_accepted}
use Rattle.job_words.specs.Operands.{Word}
use Rattle.job_words.specs.Command.{Certify, Upgrade, Verify, Job, Over, IsSpelled}
use Rattle.job_words.proofs.OneCommandLemmas.{one_job}
use Rattle.job_input.specs.CircuitOf.{CircuitOf, CircuitOfText}
use Rattle.job_input.specs.File.{Read}
use Rattle.job_input.specs.JobOf.{job_of}
use Rattle.job_input.specs.Labelling.{labels_of}
use Rattle.job_input.specs.NetlistOf.{BoundNetOf, by_ending}
use Rattle.job_input.specs.Setting.{HaveRoles}
use Rattle.job_input.specs.SettingOf.{SettingOf, SignedOf}
use Rattle.job_input.specs.SettingSound.{IsSoundSetting}
use Rattle.job_input.specs.SettingValue.{SettingValue}
use Rattle.job_input.proofs.CycleLemmas.{circuit_determined}
use Rattle.job_input.proofs.NetlistDetermined.{netlist_determined}
use Rattle.job_input.proofs.SettingDetermined.{setting_determined}
use Rattle.job_input.proofs.SettingSoundLemmas.{setting_sound}
use Rattle.job_input.proofs.SignedLemmas.{setting_names}
use Rattle.gf_abs.specs.Answer.{JobAnswer}
use Rattle.gf_abs.specs.CertificateHeadline.{AnswersCertify, AnswersUpgrade, AnswersVerify, HoldOneJob, IsAccepted, PrintsHeldClaim, PrintsHeldProof, PrintsProof, PrintsTheSamePairs}
use Rattle.answer_certificates.specs.Certificates.{certificate_labels}
use Rattle.answer_core.specs.Printed.{AreHeld}
use Rattle.answer_core.specs.Reply.{Reply}
use Rattle.answer_core.specs.Abstraction.{abstract_stages, taken_circuit}
use Rattle.answer_certificates.specs.Certify.{IsCertificateText}
use Rattle.answer_certificates.specs.Upgrade.{UpgradeReply}
use Rattle.answer_certificates.specs.Verify.{VerdictOf, verify_reply}
use Rattle.gf_abs.proofs.AnswerDetermined.{read_determined}
use Rattle.answer_certificates.proofs.CertificateLabelLemmas.{has_numbers, names_variables, names_words}
use Rattle.gf_abs.proofs.HeadlineLemmas.{IsUnrolled, held_job, unrolled}
use Rattle.answer_core.proofs.JobLemmas.{output_to, words_to}
use Rattle.answer_core.proofs.TakenLemmas.{bases_long, circuit_bits, circuit_few, circuit_roles, one_cycle}
use Rattle.answer_certificates.proofs.VerdictLemmas.{moved}

-- ---- a circuit of texts

-- the texts of a signature and a netlist give the setting and the circuit of its cycles
pub record IsOfTexts (net : Word) (bytes text : List ℕ) (cycles : ℕ) (setting : SettingValue) (circuit : BoundNet) : Type 0 where
  pub is_setting : SettingOf bytes (Ok setting)
  pub is_circuit : CircuitOfText setting.signature (by_ending net text) cycles (Ok circuit)

module _ (net : Word) (bytes text : List ℕ) (cycles : ℕ) (setting : SettingValue) (circuit : BoundNet) (of : IsOfTexts net bytes text cycles setting circuit) where
  of_sound : IsSoundSetting setting
  of_sound = setting_sound bytes setting of.is_setting

  abbrev of_labels : Labelling
  of_labels = certificate_labels setting circuit

  of_cycle : IsSound circuit.net × IsOneCycle circuit.net circuit.binding
  of_cycle = one_cycle setting circuit of_sound (by_ending net text) cycles of.is_circuit

  of_bits : circuit.binding.k ≡ setting.k
  of_bits = circuit_bits setting circuit of_sound (by_ending net text) cycles of.is_circuit

  of_roles : HaveRoles setting.signature.words circuit.binding.words
  of_roles = circuit_roles setting circuit of_sound (by_ending net text) cycles of.is_circuit

  of_names : NameWords circuit.binding of_labels
  of_names = names_words setting.k setting.signature.words circuit of_sound.words (setting_names bytes setting of.is_setting) of_cycle.0 of_cycle.1 of_bits of_roles

  of_variables : NameVariables circuit of_labels
  of_variables = names_variables setting.k setting.signature.words circuit of_sound.words (setting_names bytes setting of.is_setting) of_cycle.0 of_cycle.1 of_bits of_roles

  of_numbers : HaveNumbers setting.k circuit.net of_labels
  of_numbers =
      let few : nets circuit.net ≤ 2 ^ 20 = circuit_few setting circuit of_sound (by_ending net text) cycles of.is_circuit in
      has_numbers setting.k setting.signature.words circuit of_sound.words (setting_names bytes setting of.is_setting) of_cycle.0 of_cycle.1 of_bits of_roles (omega (arith, few))

  -- a claim that is proved has the output's values
  of_claim : (most : ℕ) (cert : List ℕ) (claim : Terms) → VerdictOf setting circuit most cert (Ok (valid claim)) → IsOutput (taken_circuit setting circuit) claim
  of_claim most cert claim (bases, duals, is) =
      let P : List (List ℕ) → Type 0 = λ es. IsOutput (circuit_with setting.k setting.product circuit es) claim in
      subst P duals.elements (proves_output setting.k setting.product circuit bases of_labels most cert claim of_sound.ring of_sound.field of_cycle.0 of_cycle.1 of_bits duals.are of_names is)

-- ---- at most one circuit of texts

one_circuit : (net : Word) (text : List ℕ) (cycles : ℕ) (setting : SettingValue) (c d : BoundNet) → CircuitOfText setting.signature (by_ending net text) cycles (Ok c) → CircuitOfText setting.signature (by_ending net text) cycles (Ok d) → c ≡ d
one_circuit net text cycles setting c d (a, is_a, of_a) (b, is_b, of_b) =
    let same : a ≡ b = same_ok a b (netlist_determined setting.signature (by_ending net text) (Ok a) (Ok b) is_a is_b) in
    let P : BoundNet → Type 0 = λ n. CircuitOf n cycles (Ok c) in
    same_ok c d (circuit_determined b cycles (Ok c) (Ok d) (subst P same of_a) of_b)

one_of_texts : (net : Word) (bytes text : List ℕ) (cycles : ℕ) (s t : SettingValue) (c d : BoundNet) → IsOfTexts net bytes text cycles s c → IsOfTexts net bytes text cycles t d → ◌≡◌ {A = SettingValue × BoundNet} (s, c) (t, d)
one_of_texts net bytes text cycles s t c d first second =
    let same : s ≡ t = same_ok s t (setting_determined bytes (Ok s) (Ok t) first.is_setting second.is_setting) in
    let P : SettingValue → Type 0 = λ v. CircuitOfText v.signature (by_ending net text) cycles (Ok c) in
    let circuit : c ≡ d = one_circuit net text cycles t c d (subst P same first.is_circuit) second.is_circuit in
    (λ i. (same i, circuit i))

one_read : (files : Files) (name : Word) (a b : List ℕ) → Read (Some files) name (Ok a) → Read (Some files) name (Ok b) → a ≡ b
one_read files name a b p q = same_ok a b (read_determined files name (Ok a) (Ok b) p q)

-- ---- the steps of an answer

-- the held files of these names give a setting and a circuit, and those of a certificate
record HoldCircuit (files : Files) (signature net : Word) (cycles : ℕ) (setting : SettingValue) (circuit : BoundNet) : Type 0 where
  bytes : List ℕ
  signature_read : Read (Some files) signature (Ok bytes)
  text : List ℕ
  net_read : Read (Some files) net (Ok text)
  of : IsOfTexts net bytes text cycles setting circuit

-- they are those of these texts
of_one_job : (files : Files) (signature net : Word) (cycles : ℕ) (setting : SettingValue) (circuit : BoundNet) (bytes text : List ℕ) → Read (Some files) signature (Ok bytes) → Read (Some files) net (Ok text) → HoldCircuit files signature net cycles setting circuit → IsOfTexts net bytes text cycles setting circuit
of_one_job files signature net cycles setting circuit bytes text signature_read net_read held =
    let one : held.bytes ≡ bytes = one_read files signature held.bytes bytes held.signature_read signature_read in
    let two : held.text ≡ text = one_read files net held.text text held.net_read net_read in
    let P : List ℕ → Type 0 = λ b. IsOfTexts net b held.text cycles setting circuit in
    let Q : List ℕ → Type 0 = λ t. IsOfTexts net bytes t cycles setting circuit in
    subst Q two (subst P one held.of)

-- what was verified for a reply
record Verified (files : Files) (signature net certificate : Word) (cycles : ℕ) (reply : Reply) : Type 0 where
  setting : SettingValue
  circuit : BoundNet
  job : Circuit
  held : HoldCircuit files signature net cycles setting circuit
  behind : IsUnrolled setting circuit job
  are : AreHeld files signature net cycles setting job
  cert : List ℕ
  cert_read : Read (Some files) certificate (Ok cert)
  bound : ℕ
  verdict : Verdict
  is : VerdictOf setting circuit bound cert (Ok verdict)
  replied : reply ≡ verify_reply (labels_of setting.k setting.signature.words) verdict

job_verifies : (files : Files) (signature net certificate : Word) (bound cycles : ℕ) (reply : Reply) → JobAnswer (Some files) (Over signature (Verify net certificate bound cycles)) (Ok reply) → Verified files signature net certificate cycles reply
job_verifies files signature net certificate bound cycles reply (signed, (bytes, read, is), (setting, are, (certified, (netlist, (text, read', taken), (cert, cert_read, (circuit, of, same))), (verdict, verified, exactly)))) =
    let P : BoundNet × List ℕ → Type 0 = λ c. VerdictOf setting c.0 bound c.1 (Ok verdict) in
    record {
      setting = setting;
      circuit = circuit;
      job = job_of setting netlist cycles;
      held = record { bytes = bytes; signature_read = read; text = text; net_read = read'; of = record { is_setting = (signed, is, are); is_circuit = (netlist, taken, of) } };
      behind = unrolled bytes (by_ending net text) cycles setting netlist circuit (signed, is, are) taken of;
      are = held_job files signature net cycles setting netlist bytes text read read' (signed, is, are) taken;
      cert = cert;
      cert_read = cert_read;
      bound = bound;
      verdict = verdict;
      is = subst P same verified;
      replied = exactly;
    }

module _ (files : Files) (words : List Word) (signature net certificate : Word) (cycles : ℕ) (reply : Reply) where
  verified : AnswersVerify files words signature net certificate cycles reply → Verified files signature net certificate cycles reply
  verified answers =
      let P : Job → Type 0 = λ job. JobAnswer (Some files) job (Ok reply) in
      let answer = answers.answer in
      job_verifies files signature net certificate answers.bound cycles reply (subst P (one_job words answer.0 (Over signature (Verify net certificate answers.bound cycles)) answer.1 answers.spelled) answer.2)

-- ---- a valid claim is the output

proof_there : (setting : SettingValue) (circuit : BoundNet) (job : Circuit) (reply : Reply) (verdict : Verdict) → IsUnrolled setting circuit job → ((claim : Terms) → verdict ≡ valid claim → IsOutput (taken_circuit setting circuit) claim) → reply ≡ verify_reply (labels_of setting.k setting.signature.words) verdict → reply.status ≡ 0 → PrintsProof setting job reply
proof_there setting circuit job reply (valid claim) behind proves replied none =
    let c : Circuit = taken_circuit setting circuit in
    let is = proves claim refl in
    record {
      claim = claim;
      text = ap (λ (r : Reply). r.text) replied;
      in_words = words_to setting c job behind.one claim (record { reduced = is.reduced; words = record { bits = is.no_bits; words = is.words_alone } });
      values = output_to setting c job behind.one claim is.values;
    }
proof_there setting circuit job reply (invalid remaining) behind proves replied none = let status : reply.status ≡ 1 = ap (λ (r : Reply). r.status) replied in absurd (omega (arith, none, status))

pub verify_proves : (files : Files) (words : List Word) (signature net certificate : Word) (cycles : ℕ) (reply : Reply) → AnswersVerify files words signature net certificate cycles reply → reply.status ≡ 0 → PrintsHeldProof files signature net cycles reply
verify_proves files words signature net certificate cycles reply answers none =
    let found = verified files words signature net certificate cycles reply answers in
    let V : Verdict → Type 0 = λ v. VerdictOf found.setting found.circuit found.bound found.cert (Ok v) in
    record {
      setting = found.setting;
      job = found.job;
      held = found.are;
      printed = proof_there found.setting found.circuit found.job reply found.verdict found.behind
          (λ claim same. of_claim net found.held.bytes found.held.text cycles found.setting found.circuit found.held.of found.bound found.cert claim (subst V same found.is)) found.replied none;
    }

-- ---- what is certified is accepted

-- a text has a byte for each of its lines
lines_short : (lines : List (List ℕ)) → length lines ≤ length (text_of_lines lines)
lines_short [] = omega arith
lines_short (line ∷ lines) =
    let rest = lines_short lines in
    let whole = length-append (line ++ 10 ∷ []) (text_of_lines lines) in
    let own = length-append line (10 ∷ []) in
    omega (arith, rest, whole, own)

-- and a certificate has a line for each of its pairs
pairs_short : (labels : Labelling) (pairs : List Step) (shares : List Terms) (steps : List Step) → length steps ≤ length (lines_from labels pairs shares steps)
pairs_short labels pairs shares [] = omega arith
pairs_short labels pairs shares (s ∷ steps) =
    let rest = pairs_short labels pairs (shares_with pairs shares s.1) steps in
    let whole = length-append (lines_at labels pairs shares s) (lines_from labels pairs (shares_with pairs shares s.1) steps) in
    let own = length-append (let_lines labels pairs shares s.1) (pair_line labels pairs (shares_with pairs shares s.1) s ∷ []) in
    omega (arith, rest, whole, own)

few_pairs : (labels : Labelling) (claim : Terms) (pairs : List Step) → length (cert_text labels claim pairs) ≤ 67108864 → length pairs < 2 ^ 64
few_pairs labels claim pairs short =
    let lines = pairs_short labels pairs [] pairs in
    let whole = lines_short (codes "gfcert 2" ∷ (codes "claim " ++ (labels.output ++ (codes " = " ++ text labels claim))) ∷ lines_from labels pairs [] pairs) in
    omega (arith, lines, whole, short)

module _ (net : Word) (bytes text printed : List ℕ) (cycles bound most : ℕ) (short : length printed ≤ most_bytes) (times : 4 * bound ≤ most) where
  -- what was certified of these texts is valid
  valid_there : (setting : SettingValue) (circuit : BoundNet) → IsOfTexts net bytes text cycles setting circuit → IsCertificateText setting circuit printed → AreAllWithin setting.k setting.product (abstract_stages setting circuit) bound → (claim : Terms) × VerdictOf setting circuit most printed (Ok (valid claim))
  valid_there setting circuit of is all =
      let k = setting.k in
      let mul = setting.product in
      let sound = of_sound net bytes text cycles setting circuit of in
      let cycle = of_cycle net bytes text cycles setting circuit of in
      let labels = certificate_labels setting circuit in
      let long = bases_long setting circuit sound (by_ending net text) cycles of.is_circuit in
      let cuts = (bound_within k mul circuit setting.bases _ bound long refl).0 (λ name listed. all (Earlier name) listed) in
      let within : AreAllWithin k mul (circuit_stages (taken_circuit setting circuit)) bound = both_within k mul (circuit_cuts (taken_circuit setting circuit)) (word_listing (taken_circuit setting circuit)) bound cuts (λ name listed. all (Later name) listed) in
      let W : List (List ℕ) → Type 0 = λ es. AreAllWithin k mul (circuit_stages (circuit_with k mul circuit es)) bound in
      let L : List ℕ → Type 0 = λ t. length t ≤ 67108864 in
      let C : List ℕ → Type 0 = λ t. Check k mul circuit is.bases labels most t (Ok (valid is.claim)) in
      let accepted =
      is_accepted k mul circuit is.bases labels is.claim is.pairs bound most sound.ring sound.field cycle.0 cycle.1 (of_bits net bytes text cycles setting circuit of) is.duals.are (of_numbers net bytes text cycles setting circuit of) (of_variables net bytes text cycles setting circuit of)
      is.recorded (subst W (sym is.duals.elements) within) (few_pairs labels is.claim is.pairs (subst L is.written short)) times in
      (is.claim, (is.bases, is.duals, subst C (sym is.written) accepted))

module _ (files others : Files) (signature net certificate : Word) (cycles : ℕ) (reply : Reply) (bound most : ℕ) (one : HoldOneJob files others signature net) (kept : Read (Some others) certificate (Ok reply.text)) (times : 4 * bound ≤ most) where
  job_accepts : JobAnswer (Some files) (Over signature (Certify net bound cycles)) (Ok reply) → (words : List Word) → IsSpelled words (Over signature (Verify net certificate most cycles)) → IsAccepted others words
  job_accepts (signed, (bytes, read, is), (setting, are, (circuit, (netlist, (text, read', taken), of), (certified, (is_text, all), exactly)))) words spelled =
      let same_bytes : bytes ≡ one.bytes = one_read files signature bytes one.bytes read one.signature_read in
      let same_text : text ≡ one.text = one_read files net text one.text read' one.net_read in
      let P : List ℕ → Type 0 = λ b. SignedOf b (Ok signed) in
      let Q : List ℕ → Type 0 = λ t. BoundNetOf setting.signature (by_ending net t) (Ok netlist) in
      let is' = subst P same_bytes is in
      let taken' = subst Q same_text taken in
      let R : List ℕ → Type 0 = λ t. IsCertificateText setting circuit t in
      let found = valid_there net one.bytes one.text reply.text cycles bound most kept.1 times setting circuit (record { is_setting = (signed, is', are); is_circuit = (netlist, taken', of) }) (subst R (sym (ap (λ (r : Reply). r.text) exactly)) is_text) all in
      record {
        reply = verify_reply (labels_of setting.k setting.signature.words) (valid found.0);
        answer = (Over signature (Verify net certificate most cycles), spelled, (signed, (one.bytes, one.signature_too, is'), (setting, are, ((circuit, reply.text), (netlist, (one.text, one.net_too, taken'), (reply.text, kept, (circuit, of, refl))), (valid found.0, found.1, refl)))));
        status = refl;
      }

pub certify_accepted : (files others : Files) (words more : List Word) (signature net certificate : Word) (bound most cycles : ℕ) (reply : Reply) → AnswersCertify files words signature net bound cycles reply → HoldOneJob files others signature net → Read (Some others) certificate (Ok reply.text) → 4 * bound ≤ most
    → IsSpelled more (Over signature (Verify net certificate most cycles)) → IsAccepted others more
certify_accepted files others words more signature net certificate bound most cycles reply answers one kept times spelled =
    let P : Job → Type 0 = λ job. JobAnswer (Some files) job (Ok reply) in
    let answer = answers.answer in
    job_accepts files others signature net certificate cycles reply bound most one kept times (subst P (one_job words answer.0 (Over signature (Certify net bound cycles)) answer.1 answers.spelled) answer.2) more spelled

-- ---- the claim of what is certified is the output

-- a certificate's text that is valid says its claim
record Says (setting : SettingValue) (circuit : BoundNet) (text : List ℕ) (claim : Terms) : Type 0 where
  said : Certificate
  read : CertificateOf setting.k circuit.net (certificate_labels setting circuit) text (Ok said)
  same : claim ≡ said.claim

says : (setting : SettingValue) (circuit : BoundNet) (most : ℕ) (text : List ℕ) (claim : Terms) → HaveNumbers setting.k circuit.net (certificate_labels setting circuit) → VerdictOf setting circuit most text (Ok (valid claim)) → Says setting circuit text claim
says setting circuit most text claim numbers (bases, duals, (said, read, (same, last))) =
    record {
      said = said;
      read = text_free setting.k circuit.net (certificate_labels setting circuit) numbers (AsksAtMost setting.k setting.product circuit bases most) text said read;
      same = same;
    }

module _ (files : Files) (signature net : Word) (bound cycles : ℕ) (reply : Reply) (short : length reply.text ≤ most_bytes) where
  claimed : (setting : SettingValue) (netlist circuit : BoundNet) (bytes text : List ℕ) → Read (Some files) signature (Ok bytes) → Read (Some files) net (Ok text) → SettingOf bytes (Ok setting) → BoundNetOf setting.signature (by_ending net text) (Ok netlist) → CircuitOf netlist cycles (Ok circuit)
      → IsCertificateText setting circuit reply.text → AreAllWithin setting.k setting.product (abstract_stages setting circuit) bound → PrintsHeldClaim files signature net cycles reply
  claimed setting netlist circuit bytes text read read' is taken of is_text all =
      let texts : IsOfTexts net bytes text cycles setting circuit = record { is_setting = is; is_circuit = (netlist, taken, of) } in
      let found = valid_there net bytes text reply.text cycles bound (4 * bound) short (omega arith) setting circuit texts is_text all in
      let says' = says setting circuit (4 * bound) reply.text found.0 (of_numbers net bytes text cycles setting circuit texts) found.1 in
      let c : Circuit = taken_circuit setting circuit in
      let job : Circuit = job_of setting netlist cycles in
      let behind : IsUnrolled setting circuit job = unrolled bytes (by_ending net text) cycles setting netlist circuit is taken of in
      let P : Terms → Type 0 = λ claim. IsOutput c claim in
      let output = subst P says'.same (of_claim net bytes text cycles setting circuit texts (4 * bound) reply.text found.0 found.1) in
      record {
        setting = setting;
        job = job;
        circuit = circuit;
        held = held_job files signature net cycles setting netlist bytes text read read' is taken;
        given = record { bytes = bytes; signature_read = read; is_setting = is; netlist = text; net_read = read'; is_circuit = (netlist, taken, of) };
        said = says'.said;
        read = says'.read;
        in_words = words_to setting c job behind.one says'.said.claim (record { reduced = output.reduced; words = record { bits = output.no_bits; words = output.words_alone } });
        values = output_to setting c job behind.one says'.said.claim output.values;
      }

  job_claims : JobAnswer (Some files) (Over signature (Certify net bound cycles)) (Ok reply) → PrintsHeldClaim files signature net cycles reply
  job_claims (signed, (bytes, read, is), (setting, are, (circuit, (netlist, (text, read', taken), of), (certified, (is_text, all), exactly)))) =
      let R : List ℕ → Type 0 = λ t. IsCertificateText setting circuit t in
      claimed setting netlist circuit bytes text read read' (signed, is, are) taken of (subst R (sym (ap (λ (r : Reply). r.text) exactly)) is_text) all

pub certify_claims : (files : Files) (words : List Word) (signature net : Word) (bound cycles : ℕ) (reply : Reply) → AnswersCertify files words signature net bound cycles reply → length reply.text ≤ most_bytes → PrintsHeldClaim files signature net cycles reply
certify_claims files words signature net bound cycles reply answers short =
    let P : Job → Type 0 = λ job. JobAnswer (Some files) job (Ok reply) in
    let answer = answers.answer in
    job_claims files signature net bound cycles reply short (subst P (one_job words answer.0 (Over signature (Certify net bound cycles)) answer.1 answers.spelled) answer.2)

-- ---- an upgrade keeps the claim, the pairs and the verdict

record Upgraded (files : Files) (signature net certificate : Word) (cycles : ℕ) (reply : Reply) : Type 0 where
  setting : SettingValue
  circuit : BoundNet
  held : HoldCircuit files signature net cycles setting circuit
  cert : List ℕ
  cert_read : Read (Some files) certificate (Ok cert)
  is : UpgradeReply setting (circuit, cert) (Ok reply)

job_upgrades : (files : Files) (signature net certificate : Word) (cycles : ℕ) (reply : Reply) → JobAnswer (Some files) (Over signature (Upgrade net certificate cycles)) (Ok reply) → Upgraded files signature net certificate cycles reply
job_upgrades files signature net certificate cycles reply (signed, (bytes, read, is), (setting, are, (certified, (netlist, (text, read', taken), (cert, cert_read, (circuit, of, same))), came))) =
    let P : BoundNet × List ℕ → Type 0 = λ c. UpgradeReply setting c (Ok reply) in
    record {
      setting = setting;
      circuit = circuit;
      held = record { bytes = bytes; signature_read = read; text = text; net_read = read'; of = record { is_setting = (signed, is, are); is_circuit = (netlist, taken, of) } };
      cert = cert;
      cert_read = cert_read;
      is = subst P same came;
    }

pub upgrade_says : (files : Files) (words : List Word) (signature net certificate : Word) (cycles : ℕ) (reply : Reply) → AnswersUpgrade files words signature net certificate cycles reply → PrintsTheSamePairs files signature net certificate cycles reply
upgrade_says files words signature net certificate cycles reply answers =
    let J : Job → Type 0 = λ job. JobAnswer (Some files) job (Ok reply) in
    let answer = answers.answer in
    let up = job_upgrades files signature net certificate cycles reply (subst J (one_job words answer.0 (Over signature (Upgrade net certificate cycles)) answer.1 answers.spelled) answer.2) in
    let s = up.setting in
    let c = up.circuit in
    let h = up.held in
    let labels = certificate_labels s c in
    let short = up.cert_read.1 in
    let kept = keeps_pairs s.k c.net labels (of_numbers net h.bytes h.text cycles s c h.of) up.cert up.is.0 (omega (arith, short)) up.is.1 in
    let P : List ℕ → Type 0 = λ t. CertificateOf s.k c.net labels t (Ok kept.1) in
    record {
      setting = s;
      circuit = c;
      text = up.cert;
      held = record { bytes = h.bytes; signature_read = h.signature_read; is_setting = h.of.is_setting; netlist = h.text; net_read = h.net_read; is_circuit = h.of.is_circuit; certificate_read = up.cert_read };
      said = kept.0;
      read = kept.2;
      again = kept.1;
      printed = subst P (sym (ap (λ (r : Reply). r.text) up.is.2)) kept.3;
      alike = kept.4;
    }

module _ (files others : Files) (signature net certificate upgraded : Word) (cycles : ℕ) (one : HoldOneJob files others signature net) where
  -- verdicts on a certificate and on its upgraded text
  same_verdicts : (reply : Reply) (up : Upgraded files signature net certificate cycles reply) (bytes : List ℕ) (first second : Verdict) (most other : ℕ) → reply.text ≡ bytes → VerdictOf up.setting up.circuit most up.cert (Ok first) → VerdictOf up.setting up.circuit other bytes (Ok second) → first ≡ second
  same_verdicts reply up bytes first second most other same (bases, duals, is) (more, duals', is') =
      let s = up.setting in
      let c = up.circuit in
      let h = up.held in
      let sound = of_sound net h.bytes h.text cycles s c h.of in
      let numbers = of_numbers net h.bytes h.text cycles s c h.of in
      let labels = certificate_labels s c in
      let there = moved s c sound more bases duals' duals other bytes (Ok second) is' in
      let printed : up.is.0 ≡ bytes = sym (ap (λ (r : Reply). r.text) up.is.2) ∙ same in
      let P : List ℕ → Type 0 = λ t. Check s.k s.product c bases labels other t (Ok second) in
      let short = up.cert_read.1 in
      keeps_verdict s.k s.product sound.ring sound.field c bases labels most other up.cert up.is.0 first second numbers (omega (arith, short)) up.is.1 is (subst P (sym printed) there)

  pub upgrade_keeps : (words : List Word) (reply : Reply) (before after : List Word) (first second : Reply) → AnswersUpgrade files words signature net certificate cycles reply → Read (Some others) upgraded (Ok reply.text) → AnswersVerify files before signature net certificate cycles first → AnswersVerify others after signature net upgraded cycles second → first ≡ second
  upgrade_keeps words reply before after first second answers kept answers_first answers_second =
      let J : Job → Type 0 = λ job. JobAnswer (Some files) job (Ok reply) in
      let answer = answers.answer in
      let up = job_upgrades files signature net certificate cycles reply (subst J (one_job words answer.0 (Over signature (Upgrade net certificate cycles)) answer.1 answers.spelled) answer.2) in
      let v = verified files before signature net certificate cycles first answers_first in
      let w = verified others after signature net upgraded cycles second answers_second in
      let of_up = of_one_job files signature net cycles up.setting up.circuit one.bytes one.text one.signature_read one.net_read up.held in
      let of_v = of_one_job files signature net cycles v.setting v.circuit one.bytes one.text one.signature_read one.net_read v.held in
      let of_w = of_one_job others signature net cycles w.setting w.circuit one.bytes one.text one.signature_too one.net_too w.held in
      let here = one_of_texts net one.bytes one.text cycles v.setting up.setting v.circuit up.circuit of_v of_up in
      let there = one_of_texts net one.bytes one.text cycles w.setting up.setting w.circuit up.circuit of_w of_up in
      let P : SettingValue × BoundNet → Type 0 = λ p. VerdictOf p.0 p.1 v.bound v.cert (Ok v.verdict) in
      let Q : SettingValue × BoundNet → Type 0 = λ p. VerdictOf p.0 p.1 w.bound w.cert (Ok w.verdict) in
      let T : List ℕ → Type 0 = λ t. VerdictOf up.setting up.circuit v.bound t (Ok v.verdict) in
      let same : v.verdict ≡ w.verdict = same_verdicts reply up w.cert v.verdict w.verdict v.bound w.bound (one_read others upgraded reply.text w.cert kept w.cert_read) (subst T (one_read files certificate v.cert up.cert v.cert_read up.cert_read) (subst P here v.is)) (subst Q there w.is) in
      let settings : v.setting ≡ w.setting = ap (λ (p : SettingValue × BoundNet). p.0) here ∙ sym (ap (λ (p : SettingValue × BoundNet). p.0) there) in
      v.replied ∙ ((λ i. verify_reply (labels_of (settings i).k (settings i).signature.words) (same i)) ∙ sym w.replied)
