-- Why nothing comes of a file, as one of the outcomes that may come of it.
use Rattle.std.proofs.Common.{◌≡◌, refl, subst, ℕ, List, Option, Err}
use Rattle.outcome.specs.Outcome.{Outcome, MayRefuse, Within}
use Rattle.poly_mixed.specs.Labels.{Labelling}
use Rattle.spec_text.specs.Fault.{SpecOutcome}
use Rattle.spec_text.specs.declared.fault.SpecFault.{SpecFault}
use Rattle.spec_text.specs.declared.fault.SpecFault.TheVariants as spec
use Rattle.spec_expand.specs.Specification.{SpecTerms}
use Rattle.job_io.specs.Shelf.{Files, Lacks, HasMoreThan}
use Rattle.job_io.specs.declared.shelf.ShelfFault.{ShelfFault}
use Rattle.job_io.specs.declared.shelf.ShelfFault.TheVariants as shelf
use Rattle.lists.specs.Limits.{most_bytes}
use Rattle.job_words.specs.Operands.{Word}
use Rattle.job_words.specs.Stop.{GivesBy, IsMiss}
use Rattle.job_words.specs.declared.fault.Fault.{Fault}
use Rattle.job_words.specs.declared.fault.Fault.TheVariants as faults
use Rattle.job_words.specs.declared.file_fault.FileFault.TheVariants as file
use Rattle.job_words.specs.declared.netlist_fault.NetlistFault.{NetlistFault}
use Rattle.job_words.specs.declared.specification_fault.SpecificationFault.TheVariants as specification
use Rattle.job_words.specs.declared.stop.Stop.{Stop}
use Rattle.job_words.specs.declared.stop.Stop.TheVariants as stops
use Rattle.job_input.specs.File.{Read}
use Rattle.job_input.specs.SpecificationIn.{SpecificationOf}
use Rattle.job_input.specs.declared.netlist.Refusal.{Refusal}
use Rattle.job_input.specs.declared.netlist.Refusal.TheVariants as refusals
use Rattle.job_input.specs.private.NetlistReading.{fault_in}
use Rattle.job_input.specs.private.Stops.{IsFileStop, IsNetlistStop, specification_stop}

-- the end of a read without bytes is one that may come of the file
pub file_stops : {X : Type 0} (view : X → List ℕ) (held : Option Files) (name : Word) (fault : ShelfFault) (stop : Stop) (missed failed : Type 0) → (fault ≡ shelf.Absent → missed × Lacks held name)
    → ((n : ℕ) → fault ≡ shelf.TooLong n → missed × HasMoreThan held name most_bytes) → (fault ≡ shelf.Failed → failed) → IsFileStop name fault stop → GivesBy view (Err stop) (Within faults.File (Read held name)) missed failed
file_stops view held name shelf.Absent (stops.Refused refused) missed failed absent long fails is = let why = absent refl in ((file.Absent name, (refl, why.1), is), λ miss. why.0)
file_stops view held name shelf.Absent stops.Outside missed failed absent long fails is = absurd is
file_stops view held name shelf.Absent stops.OutOfMemory missed failed absent long fails is = tt
file_stops view held name (shelf.TooLong n) (stops.Refused refused) missed failed absent long fails is = let why = long n refl in ((file.TooLong name, (refl, why.1), is), λ miss. why.0)
file_stops view held name (shelf.TooLong n) stops.Outside missed failed absent long fails is = absurd is
file_stops view held name (shelf.TooLong n) stops.OutOfMemory missed failed absent long fails is = tt
file_stops view held name shelf.Failed (stops.Refused refused) missed failed absent long fails is = absurd (cc)
file_stops view held name shelf.Failed stops.Outside missed failed absent long fails is = fails refl
file_stops view held name shelf.Failed stops.OutOfMemory missed failed absent long fails is = tt
file_stops view held name shelf.OutOfMemory (stops.Refused refused) missed failed absent long fails is = absurd (cc)
file_stops view held name shelf.OutOfMemory stops.Outside missed failed absent long fails is = absurd (cc)
file_stops view held name shelf.OutOfMemory stops.OutOfMemory missed failed absent long fails is = tt

-- that of a refused netlist is one that may come of the netlist
pub netlist_stops : {X A : Type 0} (view : X → A) (name : Word) (refusal : Refusal) (stop : Stop) (outcome : Outcome NetlistFault A) → MayRefuse outcome (fault_in refusal) → IsNetlistStop name refusal stop → GivesBy view (Err stop) (Within (faults.Netlist name) outcome) ⊥ ⊥
netlist_stops view name (refusals.Fault fault) (stops.Refused refused) outcome may is = ((fault, may, is), λ miss. let M : Fault → Type 0 = λ f. IsMiss f in subst M is miss)
netlist_stops view name (refusals.Fault fault) stops.Outside outcome may is = is
netlist_stops view name (refusals.Fault fault) stops.OutOfMemory outcome may is = tt
netlist_stops view name refusals.OutOfMemory (stops.Refused refused) outcome may is = absurd (cc)
netlist_stops view name refusals.OutOfMemory stops.Outside outcome may is = absurd (cc)
netlist_stops view name refusals.OutOfMemory stops.OutOfMemory outcome may is = tt

-- that of a specification's text is one that may come of the text
pub specification_stops : (labels : Labelling) (k : ℕ) (product : ℕ → ℕ → ℕ) (bytes : List ℕ) (fault : SpecFault) → SpecOutcome labels k product bytes (Err fault)
    → GivesBy {X = SpecTerms} (λ terms. terms) (Err (specification_stop fault)) (Within faults.Specification (SpecificationOf labels k product bytes)) ⊥ ⊥
specification_stops labels k product bytes (spec.Syntax place) is = ((specification.Syntax place, is, refl), λ miss. miss)
specification_stops labels k product bytes (spec.UnknownWord place) is = ((specification.UnknownWord place, is, refl), λ miss. miss)
specification_stops labels k product bytes (spec.BadNumber place) is = ((specification.BadNumber place, is, refl), λ miss. miss)
specification_stops labels k product bytes spec.OutOfMemory is = tt
