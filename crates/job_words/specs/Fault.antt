-- The lines of faults, and the statuses that they end with. Source: this project's own texts, docs/COMMANDS.md.
use Rattle.std.specs.Prelude.{ℕ, List, ◌++◌, codes}
use Rattle.job_words.specs.declared.fault.Fault.{Fault}
use Rattle.job_words.specs.declared.fault.Fault.TheVariants as faults
use Rattle.job_words.specs.FileFault.{file_text}
use Rattle.job_words.specs.SignatureFault.{second_signature_text, signature_text}
use Rattle.job_words.specs.NetlistFault.{netlist_text}
use Rattle.job_words.specs.SpecificationFault.{specification_text}
use Rattle.job_words.specs.ValueFault.{value_text}
use Rattle.job_words.specs.TableTextFault.{table_text}
use Rattle.job_words.specs.CertificateFault.{certificate_text}
use Rattle.job_words.specs.CompositionFault.{composition_text}
use Rattle.job_words.specs.Kind.{kind_name}
use Rattle.job_words.specs.StageFault.{stage_fault_text}

-- the number and the text of a fault
abbrev pub fault_text : Fault → List ℕ
fault_text faults.Words = codes "01: words"
fault_text (faults.File fault) = file_text fault
fault_text (faults.Signature fault) = signature_text fault
fault_text (faults.Netlist file fault) = netlist_text fault ++ (codes " in " ++ file)
fault_text (faults.Specification fault) = specification_text fault
fault_text (faults.Value fault) = value_text fault
fault_text (faults.SecondSignature fault) = second_signature_text fault
fault_text faults.Fields = codes "45: the fields do not fit"
fault_text faults.NotSmall = codes "47: the signature is not small"
fault_text (faults.Table fault) = table_text fault
fault_text (faults.Certificate fault) = certificate_text fault
fault_text (faults.Form kind) = codes "43: the signature does not fit " ++ kind_name kind
fault_text (faults.Composition fault) = composition_text fault
fault_text (faults.Stage fault) = stage_fault_text fault

-- the line of a fault, with its LF
abbrev pub fault_line : Fault → List ℕ
fault_line fault = codes "fault " ++ (fault_text fault ++ codes "\n")

-- the status that a fault ends with
abbrev pub fault_status : Fault → ℕ
fault_status (faults.Stage fault) = 3
fault_status fault = 2
