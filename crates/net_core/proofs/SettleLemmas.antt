-- At most one net or fault comes of a net list whose gates drive nets.
use Rattle.std.proofs.Common.{◌≡◌, ◌⊎◌, ◌∙◌, inl, inr, ap, sym, refl, Result, Ok, Err}
use Rattle.net_core.specs.NetList.{NetList}
use Rattle.net_core.specs.Finish.{Finishes, Settles}
use Rattle.net_core.specs.declared.fault.NetFault.{NetFault}
use Rattle.net_core.specs.declared.fault.NetFault.TheVariants.{TooManyNets, TooManyGates, DrivenTwice, Undriven, Loop, OutOfMemory}
use Rattle.net_core.proofs.DriverLemmas.{DriveNets}
use Rattle.net_core.proofs.LawLemmas.{faults_same, sound_no_fault}

-- a fault is one of finishing, and not out of memory
settled : (net : NetList) (fault : NetFault) → Settles net (Err fault) → Finishes net (Err fault) × ¬ (fault ≡ OutOfMemory)
settled net TooManyNets is = absurd is
settled net TooManyGates is = absurd is
settled net (DrivenTwice n label) is = (is, λ e. cc)
settled net (Undriven n label) is = (is, λ e. cc)
settled net (Loop loop label) is = (is, λ e. cc)
settled net OutOfMemory is = absurd is

-- a fault of finishing that is not out of memory settles
pub settles : (net : NetList) (fault : NetFault) → ¬ (fault ≡ OutOfMemory) → Finishes net (Err fault) → Settles net (Err fault)
settles net TooManyNets other h = h
settles net TooManyGates other h = h
settles net (DrivenTwice n label) other h = h
settles net (Undriven n label) other h = h
settles net (Loop loop label) other h = h
settles net OutOfMemory other h = absurd (other refl)

one_fault : (net : NetList) → DriveNets net → (x y : NetFault) → Settles net (Err x) → Settles net (Err y) → x ≡ y
one_fault net drive x y first second =
    let one = settled net x first in
    let two = settled net y second in
    by (faults_same net x y drive one.0 two.0) one.1 two.1
  where
    by : (x ≡ OutOfMemory) ⊎ ((y ≡ OutOfMemory) ⊎ (x ≡ y)) → ¬ (x ≡ OutOfMemory) → ¬ (y ≡ OutOfMemory) → x ≡ y
    by (inl memory) other other' = absurd (other memory)
    by (inr (inl memory)) other other' = absurd (other' memory)
    by (inr (inr same)) other other' = same

pub settles_determined : (net : NetList) → DriveNets net → (x y : Result NetList NetFault) → Settles net x → Settles net y → x ≡ y
settles_determined net drive (Ok a) (Ok b) h k = ap Ok (h.0 ∙ sym k.0)
settles_determined net drive (Ok a) (Err e) h k = let fault = settled net e k in absurd (fault.1 (sound_no_fault net e h.1 fault.0))
settles_determined net drive (Err d) (Ok b) h k = let fault = settled net d h in absurd (fault.1 (sound_no_fault net d k.1 fault.0))
settles_determined net drive (Err d) (Err e) h k = ap Err (one_fault net drive d e h k)
