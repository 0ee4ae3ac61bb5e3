-- What the answers of `certify`, `verify` and `upgrade` say of the job in the files. Source: Pruss, Kalla, Enescu, Word-Level
-- Abstraction from Bit-Level Circuits Using Gröbner Bases, DAC 2014; certificates are this project's own.
use Rattle.std.specs.Prelude.{◌≡◌, ◌≢◌, ℕ, ◌*◌, ◌≤◌, List, [], ◌++◌, codes, length, Some, Ok}
use Rattle.std.specs.Fmt.{decimal}
use Rattle.lists.specs.Limits.{most_bytes}
use Rattle.job_io.specs.Shelf.{Files}
use Rattle.gf_basis.specs.declared.bases.Basis.{Basis}
use Rattle.net_words.specs.Binding.{BoundNet}
use Rattle.poly_mixed.specs.Polynomial.{Terms}
use Rattle.circuit_model.specs.Circuit.{Circuit}
use Rattle.cert_check.specs.Certificate.{Certificate, CertificateBy, CertificateOf}
use Rattle.cert_check.specs.Verdict.{AsksAtMost, IsRunningSum}
use Rattle.cert_make.specs.laws.ReadBack.{AreAlike}
use Rattle.job_words.specs.Command.{Certify, Upgrade, Verify, Over, IsSpelled}
use Rattle.job_words.specs.Operands.{Word}
use Rattle.job_input.specs.CircuitOf.{CircuitOfText}
use Rattle.job_input.specs.File.{Read}
use Rattle.job_input.specs.NetlistOf.{by_ending}
use Rattle.job_input.specs.SettingOf.{SettingOf}
use Rattle.job_input.specs.SettingValue.{SettingValue}
use Rattle.gf_abs.specs.Answer.{Answer}
use Rattle.answer_certificates.specs.Certificates.{HaveDuals, certificate_labels}
use Rattle.answer_core.specs.Printed.{AreHeld, HasOutput, IsInItsWords}
use Rattle.answer_core.specs.Reply.{Reply, polynomial_line}

-- to the words `certify SIGNATURE NET` over the held files the program answers with this reply, over so many cycles after the
-- first, under a bound on the terms of stages
pub record AnswersCertify (files : Files) (words : List Word) (signature net : Word) (bound cycles : ℕ) (reply : Reply) : Type 0 where
  pub spelled : IsSpelled words (Over signature (Certify net bound cycles))
  pub answer : Answer words (Some files) (Ok reply)

-- and to the words `verify SIGNATURE NET CERTIFICATE` with this one
pub record AnswersVerify (files : Files) (words : List Word) (signature net certificate : Word) (cycles : ℕ) (reply : Reply) : Type 0 where
  pub bound : ℕ
  pub spelled : IsSpelled words (Over signature (Verify net certificate bound cycles))
  pub answer : Answer words (Some files) (Ok reply)

-- and to the words `upgrade SIGNATURE NET CERTIFICATE` with this one
pub record AnswersUpgrade (files : Files) (words : List Word) (signature net certificate : Word) (cycles : ℕ) (reply : Reply) : Type 0 where
  pub spelled : IsSpelled words (Over signature (Upgrade net certificate cycles))
  pub answer : Answer words (Some files) (Ok reply)

-- the reply is `valid` and the line of a claim: reduced, in the job's words alone, with the output's values
pub record PrintsProof (setting : SettingValue) (job : Circuit) (reply : Reply) : Type 0 where
  pub claim : Terms
  pub text : reply.text ≡ codes "valid\n" ++ polynomial_line setting claim
  pub in_words : IsInItsWords setting job claim
  pub values : HasOutput setting job claim

-- the held files give a job, and the reply is `valid` and the line of a claim that is its output
pub record PrintsHeldProof (files : Files) (signature net : Word) (cycles : ℕ) (reply : Reply) : Type 0 where
  pub setting : SettingValue
  pub job : Circuit
  pub held : AreHeld files signature net cycles setting job
  pub printed : PrintsProof setting job reply

-- both hold the same bytes of a signature and of a netlist, under the same names
pub record HoldOneJob (files others : Files) (signature net : Word) : Type 0 where
  pub bytes : List ℕ
  pub signature_read : Read (Some files) signature (Ok bytes)
  pub signature_too : Read (Some others) signature (Ok bytes)
  pub text : List ℕ
  pub net_read : Read (Some files) net (Ok text)
  pub net_too : Read (Some others) net (Ok text)

-- to the words over the held files the program answers `valid`
pub record IsAccepted (files : Files) (words : List Word) : Type 0 where
  pub reply : Reply
  pub answer : Answer words (Some files) (Ok reply)
  pub status : reply.status ≡ 0

-- to the words over the held files the program answers `invalid`
pub record IsRejected (files : Files) (words : List Word) : Type 0 where
  pub reply : Reply
  pub answer : Answer words (Some files) (Ok reply)
  pub status : reply.status ≡ 1

-- the reply that so many terms are left of the last running sum
abbrev pub terms_left : Terms → Reply
terms_left sum = record { status = 1; text = codes "invalid\nremaining " ++ (decimal (length sum) ++ codes " terms\n") }

-- the held files of these names give the setting, the circuit of so many cycles after the first, and the text of a certificate
pub record HoldCertificate (files : Files) (signature net certificate : Word) (cycles : ℕ) (setting : SettingValue) (circuit : BoundNet) (text : List ℕ) : Type 0 where
  pub bytes : List ℕ
  pub signature_read : Read (Some files) signature (Ok bytes)
  pub is_setting : SettingOf bytes (Ok setting)
  pub netlist : List ℕ
  pub net_read : Read (Some files) net (Ok netlist)
  pub is_circuit : CircuitOfText setting.signature (by_ending net netlist) cycles (Ok circuit)
  pub certificate_read : Read (Some files) certificate (Ok text)

-- the held files of these names give the setting, and the circuit of so many cycles after the first
pub record GiveCircuit (files : Files) (signature net : Word) (cycles : ℕ) (setting : SettingValue) (circuit : BoundNet) : Type 0 where
  pub bytes : List ℕ
  pub signature_read : Read (Some files) signature (Ok bytes)
  pub is_setting : SettingOf bytes (Ok setting)
  pub netlist : List ℕ
  pub net_read : Read (Some files) net (Ok netlist)
  pub is_circuit : CircuitOfText setting.signature (by_ending net netlist) cycles (Ok circuit)

-- the held files give a job and its circuit, and the reply is a certificate over the circuit whose claim is the job's output:
-- reduced, in the job's words alone, with the output's values
pub record PrintsHeldClaim (files : Files) (signature net : Word) (cycles : ℕ) (reply : Reply) : Type 0 where
  pub setting : SettingValue
  pub job : Circuit
  pub circuit : BoundNet
  pub held : AreHeld files signature net cycles setting job
  pub given : GiveCircuit files signature net cycles setting circuit
  pub said : Certificate
  pub read : CertificateOf setting.k circuit.net (certificate_labels setting circuit) reply.text (Ok said)
  pub in_words : IsInItsWords setting job said.claim
  pub values : HasOutput setting job said.claim

-- the held files give a circuit and a certificate, and the reply is a certificate with the same claim and the same pairs
pub record PrintsTheSamePairs (files : Files) (signature net certificate : Word) (cycles : ℕ) (reply : Reply) : Type 0 where
  pub setting : SettingValue
  pub circuit : BoundNet
  pub text : List ℕ
  pub held : HoldCertificate files signature net certificate cycles setting circuit text
  pub said : Certificate
  pub read : CertificateOf setting.k circuit.net (certificate_labels setting circuit) text (Ok said)
  pub again : Certificate
  pub printed : CertificateOf setting.k circuit.net (certificate_labels setting circuit) reply.text (Ok again)
  pub alike : AreAlike said again

-- the text is read whole as a certificate, where no running sum has more than `bound` terms, and the last one is this polynomial
pub record HasLastSum (setting : SettingValue) (circuit : BoundNet) (bound : ℕ) (text : List ℕ) (sum : Terms) : Type 0 where
  pub bases : List Basis
  pub duals : HaveDuals setting circuit bases
  pub said : Certificate
  pub read : CertificateBy setting.k circuit.net (certificate_labels setting circuit) (AsksAtMost setting.k setting.product circuit bases bound) text (Ok said)
  pub last : IsRunningSum setting.k setting.product circuit bases said sum

-- the certificate in the held files has this last running sum
pub record HoldLastSum (files : Files) (signature net certificate : Word) (bound cycles : ℕ) (sum : Terms) : Type 0 where
  pub setting : SettingValue
  pub circuit : BoundNet
  pub text : List ℕ
  pub held : HoldCertificate files signature net certificate cycles setting circuit text
  pub is : HasLastSum setting circuit bound text sum

-- it has a last running sum with terms
pub record HoldTermsLeft (files : Files) (signature net certificate : Word) (bound cycles : ℕ) : Type 0 where
  pub sum : Terms
  pub is : HoldLastSum files signature net certificate bound cycles sum
  pub some : sum ≢ []

-- the certificate in the held files has a last running sum with terms, and the reply says how many
pub record PrintsTermsLeft (files : Files) (signature net certificate : Word) (bound cycles : ℕ) (reply : Reply) : Type 0 where
  pub sum : Terms
  pub is : HoldLastSum files signature net certificate bound cycles sum
  pub some : sum ≢ []
  pub says : reply ≡ terms_left sum

-- wherever the reply's text is held as a certificate of the same signature and netlist, `verify` answers `valid` under each bound
-- that is at least four times this one
abbrev pub IsAcceptedAgain : (files : Files) (signature net : Word) (bound cycles : ℕ) → Reply → Type 0
IsAcceptedAgain files signature net bound cycles reply =
    (others : Files) (more : List Word) (certificate : Word) (most : ℕ) → HoldOneJob files others signature net → Read (Some others) certificate (Ok reply.text) → 4 * bound ≤ most → IsSpelled more (Over signature (Verify net certificate most cycles)) → IsAccepted others more

-- wherever the reply's text is held as a certificate of the same signature and netlist, `verify` has the reply for it that it has
-- for the certificate of this name, where it has both
abbrev pub HasTheSameReply : (files : Files) (signature net certificate : Word) (cycles : ℕ) → Reply → Type 0
HasTheSameReply files signature net certificate cycles reply =
    (others : Files) (before after : List Word) (upgraded : Word) (first second : Reply) → HoldOneJob files others signature net → Read (Some others) upgraded (Ok reply.text) → AnswersVerify files before signature net certificate cycles first → AnswersVerify others after signature net upgraded cycles second → first ≡ second

-- ---- what is said of all runs of these commands over held files

-- of each reply of `verify`
abbrev pub EachVerifyReply : (Files → (signature net certificate : Word) → (cycles : ℕ) → Reply → Type 0) → Type 0
EachVerifyReply Says = (files : Files) (words : List Word) (signature net certificate : Word) (cycles : ℕ) (reply : Reply)
    → AnswersVerify files words signature net certificate cycles reply → Says files signature net certificate cycles reply

-- of each reply of `certify` that fits a file
abbrev pub EachCertifyReply : (Files → (signature net : Word) → (cycles : ℕ) → Reply → Type 0) → Type 0
EachCertifyReply Says = (files : Files) (words : List Word) (signature net : Word) (bound cycles : ℕ) (reply : Reply)
    → AnswersCertify files words signature net bound cycles reply → length reply.text ≤ most_bytes → Says files signature net cycles reply

-- of each reply of `upgrade`
abbrev pub EachUpgradeReply : (Files → (signature net certificate : Word) → (cycles : ℕ) → Reply → Type 0) → Type 0
EachUpgradeReply Says = (files : Files) (words : List Word) (signature net certificate : Word) (cycles : ℕ) (reply : Reply)
    → AnswersUpgrade files words signature net certificate cycles reply → Says files signature net certificate cycles reply

-- of all words that spell `verify`
abbrev pub EachVerify : (Files → List Word → (signature net certificate : Word) → (bound cycles : ℕ) → Type 0) → Type 0
EachVerify Says = (files : Files) (words : List Word) (signature net certificate : Word) (bound cycles : ℕ)
    → IsSpelled words (Over signature (Verify net certificate bound cycles)) → Says files words signature net certificate bound cycles

-- where the words spell `verify` and the certificate has a last running sum with terms, the answer says how many
abbrev pub AnswersTermsLeft : Files → List Word → (signature net certificate : Word) → (bound cycles : ℕ) → Type 0
AnswersTermsLeft files words signature net certificate bound cycles = (sum : Terms)
    → IsSpelled words (Over signature (Verify net certificate bound cycles)) → HoldLastSum files signature net certificate bound cycles sum → sum ≢ []
    → Answer words (Some files) (Ok (terms_left sum))

-- wherever what `certify` printed is held as a certificate of the same signature and netlist, `verify` answers `valid` under each bound
-- that is at least four times that of `certify`
abbrev pub CertificatesAreAccepted : Type 0
CertificatesAreAccepted = (files others : Files) (words more : List Word) (signature net certificate : Word) (bound most cycles : ℕ) (reply : Reply)
    → AnswersCertify files words signature net bound cycles reply → HoldOneJob files others signature net → Read (Some others) certificate (Ok reply.text) → 4 * bound ≤ most
    → IsSpelled more (Over signature (Verify net certificate most cycles)) → IsAccepted others more

-- wherever what `upgrade` printed of a certificate is held as one of the same signature and netlist, `verify` has one reply for both,
-- where it has a reply for both
abbrev pub UpgradesHaveTheSameReply : Type 0
UpgradesHaveTheSameReply = (files others : Files) (words before after : List Word) (signature net certificate upgraded : Word) (cycles : ℕ) (reply first second : Reply)
    → AnswersUpgrade files words signature net certificate cycles reply → HoldOneJob files others signature net → Read (Some others) upgraded (Ok reply.text)
    → AnswersVerify files before signature net certificate cycles first → AnswersVerify others after signature net upgraded cycles second → first ≡ second
