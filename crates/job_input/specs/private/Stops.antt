-- Why nothing comes of a file, where no outcome of the file is named yet: for the clauses of private functions. Source: this project's own.
use Rattle.std.specs.Prelude.{◌≡◌}
use Rattle.job_io.specs.declared.shelf.ShelfFault.{ShelfFault}
use Rattle.job_io.specs.declared.shelf.ShelfFault.TheVariants as shelf
use Rattle.spec_text.specs.declared.fault.SpecFault.{SpecFault}
use Rattle.spec_text.specs.declared.fault.SpecFault.TheVariants as spec
use Rattle.job_words.specs.Operands.{Word}
use Rattle.job_words.specs.declared.fault.Fault.{Fault}
use Rattle.job_words.specs.declared.fault.Fault.TheVariants as faults
use Rattle.job_words.specs.declared.file_fault.FileFault.TheVariants as file
use Rattle.job_words.specs.declared.specification_fault.SpecificationFault.TheVariants as specification
use Rattle.job_words.specs.declared.stop.Stop.{Stop}
use Rattle.job_words.specs.declared.stop.Stop.TheVariants as stops
use Rattle.job_input.specs.declared.netlist.Refusal.{Refusal}
use Rattle.job_input.specs.declared.netlist.Refusal.TheVariants as refusals

-- it is this refusal, or memory is wanted for what it names
abbrev pub IsRefusalOf : Fault → Stop → Type 0
IsRefusalOf fault (stops.Refused refused) = refused ≡ fault
IsRefusalOf fault stops.Outside = ⊥
IsRefusalOf fault stops.OutOfMemory = Unit {0}

-- so a read of the file of this name ends that gives no bytes
abbrev pub IsFileStop : Word → ShelfFault → Stop → Type 0
IsFileStop name shelf.Absent stop = IsRefusalOf (faults.File (file.Absent name)) stop
IsFileStop name (shelf.TooLong limit) stop = IsRefusalOf (faults.File (file.TooLong name)) stop
IsFileStop name shelf.Failed stop = stop ≡ stops.Outside
IsFileStop name shelf.OutOfMemory stop = stop ≡ stops.OutOfMemory

-- so does the reading of the netlist in the file of this name that is refused
abbrev pub IsNetlistStop : Word → Refusal → Stop → Type 0
IsNetlistStop name (refusals.Fault fault) stop = IsRefusalOf (faults.Netlist name fault) stop
IsNetlistStop name refusals.OutOfMemory stop = stop ≡ stops.OutOfMemory

-- what a fault of a specification's text ends with
abbrev pub specification_stop : SpecFault → Stop
specification_stop (spec.Syntax place) = stops.Refused (faults.Specification (specification.Syntax place))
specification_stop (spec.UnknownWord place) = stops.Refused (faults.Specification (specification.UnknownWord place))
specification_stop (spec.BadNumber place) = stops.Refused (faults.Specification (specification.BadNumber place))
specification_stop spec.OutOfMemory = stops.OutOfMemory
