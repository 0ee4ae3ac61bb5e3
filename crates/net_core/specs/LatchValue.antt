-- Latches. Source: the BLIF format of UC Berkeley.
use Rattle.net_core.specs.declared.latch.Latch.{Latch}

-- In each next cycle `out` has the bit that `next` had; `start` is what it has in the first.
abbrev pub LatchValue : Type 0
LatchValue = Latch
