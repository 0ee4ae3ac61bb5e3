-- Runs of circuits. Source: the latches of the BLIF format of UC Berkeley.
use Rattle.std.specs.Prelude.{◌≡◌, ◌==◌, ℕ, ◌+◌, Bool, true, false, List, Some, length, slice_get}
use Rattle.std.specs.Int.{bit_at}
use Rattle.lists.specs.Lists.{Has}
use Rattle.net_core.specs.LatchValue.{LatchValue}
use Rattle.net_core.specs.Value.{bit_of, IsConsistent}
use Rattle.net_core.specs.declared.latch.Start.{Start}
use Rattle.net_core.specs.declared.latch.Start.TheVariants.{Zero, One, Unknown}
use Rattle.gf_basis.specs.Basis.{AreBits}
use Rattle.circuit_model.specs.declared.circuit_feed.FeedSource.{FeedSource}
use Rattle.circuit_model.specs.declared.circuit_feed.FeedSource.TheVariants.{Constant, Bit}
pub use Rattle.circuit_model.specs.Word.{IsInputWord, IsStateWord, IsAnyWord}
use Rattle.circuit_model.specs.Word.{Word, HasElement}
use Rattle.circuit_model.specs.Feeds.{source_at}
use Rattle.circuit_model.specs.Circuit.{Circuit, IsInNoWord, IsFed, IsFree, IsInput}

-- word i has element i, for each word i with this property
abbrev pub HaveElements : Circuit → (Word → Type 0) → List ℕ → List Bool → Type 0
HaveElements circuit P xs bits = (i : ℕ) (w : Word) (x : ℕ) → slice_get circuit.words i ≡ Some w → slice_get xs i ≡ Some x → P w → HasElement bits w x

-- the bit of a source, where word i has element i
abbrev pub HasSource : List Word → List ℕ → FeedSource → Bool → Type 0
HasSource words xs (Constant constant) b = b ≡ constant
HasSource words xs (Bit i place) b = (w : Word) (x d : ℕ) → slice_get words i ≡ Some w → slice_get xs i ≡ Some x → AreBits w.basis x d → b ≡ (bit_at d place == 1)

-- the bit is the start; an unknown start is either bit
abbrev pub IsStart : Start → Bool → Type 0
IsStart Zero b = b ≡ false
IsStart One b = b ≡ true
IsStart Unknown b = Unit {0}

-- Cycle t: the bits agree with each gate, each input word has its element, and each fed net has the bit of the source of
-- its feed for this cycle.
pub record IsClockCycle (circuit : Circuit) (xs : List ℕ) (t : ℕ) (bits : List Bool) : Type 0 where
  pub consistent : IsConsistent circuit.net bits
  pub inputs : HaveElements circuit IsInputWord xs bits
  pub feeds : (n : ℕ) → IsFed circuit n → HasSource circuit.words xs (source_at circuit.feeds n t) (bit_of bits n)

-- the first cycle: each state word has its element, and each latch in no word has its start
pub record IsFirst (circuit : Circuit) (xs : List ℕ) (bits : List Bool) : Type 0 where
  pub states : HaveElements circuit IsStateWord xs bits
  pub latches : (l : LatchValue) → Has circuit.net.latches l → IsInNoWord circuit l.out → IsStart l.start (bit_of bits l.out)

-- the next cycle: each latch has the bit that its `next` had
abbrev pub IsNext : Circuit → List Bool → List Bool → Type 0
IsNext circuit before bits = (l : LatchValue) → Has circuit.net.latches l → bit_of bits l.out ≡ bit_of before l.next

-- a list of bits for each cycle, where primary inputs that are in no word and not fed have any bits
pub record IsOpenRun (circuit : Circuit) (xs : List ℕ) (run : List (List Bool)) : Type 0 where
  pub input : IsInput circuit xs
  pub long : length run ≡ circuit.cycles + 1
  pub each : (t : ℕ) (bits : List Bool) → slice_get run t ≡ Some bits → IsClockCycle circuit xs t bits
  pub first : (bits : List Bool) → slice_get run 0 ≡ Some bits → IsFirst circuit xs bits
  pub next : (t : ℕ) (before bits : List Bool) → slice_get run t ≡ Some before → slice_get run (t + 1) ≡ Some bits → IsNext circuit before bits

-- each primary input in no word that is not fed has the bit 0
abbrev pub HasZeros : Circuit → List Bool → Type 0
HasZeros circuit bits = (n : ℕ) → IsFree circuit n → bit_of bits n ≡ false

-- a run at an input: a list of bits for each cycle, where primary inputs that are in no word and not fed are 0
pub record IsRun (circuit : Circuit) (xs : List ℕ) (run : List (List Bool)) : Type 0 where
  pub open_run : IsOpenRun circuit xs run
  pub zeros : (t : ℕ) (bits : List Bool) → slice_get run t ≡ Some bits → HasZeros circuit bits
