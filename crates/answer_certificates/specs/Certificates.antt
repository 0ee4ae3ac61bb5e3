-- What the commands over certificates share: their labels, the bases with their duals, their files, and faults of texts.
-- Source: this project's own, docs/FORMATS.md; for dual bases Lidl and Niederreiter, Finite Fields, chapter 2, section 3.
use Rattle.std.specs.Prelude.{◌≡◌, ℕ, List, ◌++◌, codes, Option, None, Some}
use Rattle.std.specs.Fmt.{decimal}
use Rattle.outcome.specs.Outcome.{Outcome, ◌>>=◌, Exactly, Within}
use Rattle.job_io.specs.Shelf.{Files}
use Rattle.gf_basis.specs.declared.bases.Basis.{Basis}
use Rattle.net_words.specs.Binding.{BoundNet}
use Rattle.net_signature.specs.Signature.{SignatureValue}
use Rattle.poly_mixed.specs.Labels.{Labelling}
use Rattle.circuit_model.specs.Bases.{AreBases}
use Rattle.cert_check.specs.declared.fault.CertFault.{CertFault}
use Rattle.cert_check.specs.declared.fault.CertFault.TheVariants as text
use Rattle.job_words.specs.declared.certificate_fault.CertificateFault.TheVariants as certificate
use Rattle.job_words.specs.declared.fault.Fault.{Fault}
use Rattle.job_words.specs.declared.fault.Fault.TheVariants as faults
use Rattle.job_words.specs.Operands.{Word}
use Rattle.job_input.specs.CircuitOf.{UnrolledIn}
use Rattle.job_input.specs.File.{Read}
use Rattle.job_input.specs.Labelling.{circuit_labels}
use Rattle.job_input.specs.NetlistOf.{NetlistIn}
use Rattle.job_input.specs.Setting.{elements_of_each}
use Rattle.job_input.specs.SettingValue.{SettingValue}

-- the labels of a circuit's certificates
abbrev pub certificate_labels : SettingValue → BoundNet → Labelling
certificate_labels setting circuit = circuit_labels setting.k setting.signature.words circuit

-- the bases of the setting, one for each word of the circuit, each with its dual basis
pub record HaveDuals (setting : SettingValue) (circuit : BoundNet) (bases : List Basis) : Type 0 where
  pub elements : elements_of_each bases ≡ setting.bases
  pub are : AreBases setting.k setting.product circuit bases

-- the fault of a certificate's text; a running sum over the bound is none, and out of memory is none
abbrev pub certificate_fault_of : CertFault → Option Fault
certificate_fault_of (text.Syntax line) = Some (faults.Certificate (certificate.Syntax line))
certificate_fault_of (text.NoSuchNet line) = Some (faults.Certificate (certificate.NoSuchNet line))
certificate_fault_of (text.NoSuchBit line) = Some (faults.Certificate (certificate.NoSuchBit line))
certificate_fault_of (text.NotDriven line) = Some (faults.Certificate (certificate.NotDriven line))
certificate_fault_of (text.NoSuchLet line) = Some (faults.Certificate (certificate.NoSuchLet line))
certificate_fault_of text.NoEnd = Some (faults.Certificate certificate.NoEnd)
certificate_fault_of (text.TooManyTerms line terms) = None
certificate_fault_of text.OutOfMemory = None

-- what the running sum after a line is called
abbrev pub sum_name : ℕ → List ℕ
sum_name line = codes "certificate line " ++ decimal line

-- the fault of a certificate's text, or that of a running sum over the bound
abbrev pub sum_fault : ℕ → CertFault → Option Fault
sum_fault bound (text.TooManyTerms line terms) = Some (faults.Stage (record { stage = sum_name line; terms = terms; bound = bound }))
sum_fault bound (text.Syntax line) = certificate_fault_of (text.Syntax line)
sum_fault bound (text.NoSuchNet line) = certificate_fault_of (text.NoSuchNet line)
sum_fault bound (text.NoSuchBit line) = certificate_fault_of (text.NoSuchBit line)
sum_fault bound (text.NotDriven line) = certificate_fault_of (text.NotDriven line)
sum_fault bound (text.NoSuchLet line) = certificate_fault_of (text.NoSuchLet line)
sum_fault bound text.NoEnd = certificate_fault_of text.NoEnd
sum_fault bound text.OutOfMemory = certificate_fault_of text.OutOfMemory

-- the circuit of a netlist's cycles, beside the bytes of a certificate
abbrev pub CertifiedBy : Word → BoundNet → ℕ → List ℕ → Outcome Fault (BoundNet × List ℕ)
CertifiedBy net netlist cycles bytes = do
  circuit ← UnrolledIn net netlist cycles
  Exactly (circuit, bytes)

-- the circuit of a netlist that was read, beside the bytes of a certificate's file, which is read first
abbrev pub CertifiedOver : Option Files → Word → BoundNet → Word → ℕ → Outcome Fault (BoundNet × List ℕ)
CertifiedOver held net netlist file cycles = do
  bytes ← Within faults.File (Read held file)
  CertifiedBy net netlist cycles bytes

-- the circuit of a netlist's file and the bytes of a certificate's file: the cycles are unrolled after both were read
abbrev pub CertifiedIn : Option Files → SignatureValue → Word → Word → ℕ → Outcome Fault (BoundNet × List ℕ)
CertifiedIn held signature net file cycles = do
  netlist ← NetlistIn held signature net
  CertifiedOver held net netlist file cycles
