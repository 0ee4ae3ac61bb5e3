-- Faults of a line and of a certificate. Source: this project's own.
use Rattle.std.specs.Prelude.{ℕ, Option, Some, None}
use Rattle.cert_check.specs.declared.fault.LineFault.{LineFault}
use Rattle.cert_check.specs.declared.fault.LineFault.TheVariants as line
use Rattle.cert_check.specs.declared.fault.CertFault.{CertFault}
use Rattle.cert_check.specs.declared.fault.CertFault.TheVariants.{Syntax, NoSuchNet, NoSuchBit, NotDriven, NoSuchLet, NoEnd, OutOfMemory}

-- the fault of the line with this number
abbrev pub fault_at : ℕ → LineFault → CertFault
fault_at n line.Syntax = Syntax n
fault_at n line.NoSuchNet = NoSuchNet n
fault_at n line.NoSuchBit = NoSuchBit n
fault_at n line.NotDriven = NotDriven n
fault_at n line.NoSuchLet = NoSuchLet n
fault_at n line.OutOfMemory = OutOfMemory

abbrev pub no_end : CertFault
no_end = NoEnd

-- the refusal of a line; out of memory is none
abbrev pub line_refusal : LineFault → Option LineFault
line_refusal line.OutOfMemory = None
line_refusal fault = Some fault

-- the refusal of a certificate; out of memory is none
abbrev pub refusal : CertFault → Option CertFault
refusal OutOfMemory = None
refusal fault = Some fault
