-- The bits of cycles that the plain program finds, for the clauses of private functions. Source: this project's own.
use Rattle.std.specs.Prelude.{◌≡◌, ◌==◌, ℕ, Bool, true, false, List, Some, map, slice_get}
use Rattle.std.specs.Int.{bit_at}
use Rattle.lists.specs.Lists.{Has}
use Rattle.net_core.specs.LatchValue.{LatchValue}
use Rattle.net_core.specs.Value.{bit_of}
use Rattle.net_words.specs.declared.word.Role.{Role}
use Rattle.net_words.specs.declared.word.Role.TheVariants.{Input, State}
use Rattle.gf_basis.specs.Basis.{AreBits}
use Rattle.gf_basis.specs.BasisParts.{elements_of}
use Rattle.circuit_model.specs.declared.circuit_feed.CircuitFeed.{CircuitFeed}
use Rattle.circuit_model.specs.declared.circuit_word.CircuitWord.{CircuitWord}
use Rattle.circuit_model.specs.Word.{HasElement}
use Rattle.circuit_model.specs.Feeds.{fed_nets, source_at}
use Rattle.circuit_model.specs.Circuit.{Circuit}
use Rattle.circuit_model.specs.Run.{HasSource, IsStart, IsRun}
use Rattle.circuit_model.specs.Flat.{word_of}
use Rattle.circuit_model.specs.private.Found.{IsBitIn, IsOnce, IsUnnamed}

-- where the words have the net once, the bit is its bit there; where no word has it, it is that of its source in cycle t
pub record IsInputBit (words : List CircuitWord) (xs : List ℕ) (feeds : List CircuitFeed) (t n : ℕ) (b : Bool) : Type 0 where
  pub named : IsOnce words n → IsBitIn words xs n b
  pub fed : IsUnnamed words n → HasSource (map word_of words) xs (source_at feeds n t) b

-- each of these primary inputs has its bit of cycle t
abbrev pub HaveInputs : List CircuitWord → List ℕ → List CircuitFeed → ℕ → List ℕ → List Bool → Type 0
HaveInputs words xs feeds t inputs bits = (n : ℕ) → Has inputs n → IsInputBit words xs feeds t n (bit_of bits n)

-- where the words have the latch's output once, the bit is its bit there; where no word has it, it is the start
pub record IsStartBit (words : List CircuitWord) (xs : List ℕ) (l : LatchValue) (b : Bool) : Type 0 where
  pub named : IsOnce words l.out → IsBitIn words xs l.out b
  pub start : IsUnnamed words l.out → IsStart l.start b

-- each latch has its bit of cycle 0
abbrev pub HaveStarts : List CircuitWord → List ℕ → List LatchValue → List Bool → Type 0
HaveStarts words xs latches bits = (l : LatchValue) → Has latches l → IsStartBit words xs l (bit_of bits l.out)

-- each latch has the bit that its next had before
abbrev pub HaveNexts : List LatchValue → List Bool → List Bool → Type 0
HaveNexts latches before bits = (l : LatchValue) → Has latches l → bit_of bits l.out ≡ bit_of before l.next

-- these nets have the bits that they had
abbrev pub AreKept : List ℕ → List Bool → List Bool → Type 0
AreKept ns before bits = (n : ℕ) → Has ns n → bit_of bits n ≡ bit_of before n

-- the role is that of state words, or else of input words
abbrev pub IsAsked : Bool → Role → Type 0
IsAsked false role = role ≡ Input
IsAsked true role = role ≡ State

-- word i has element i, if it has the role that is asked for
abbrev pub HaveAsked : Bool → List CircuitWord → List ℕ → List Bool → Type 0
HaveAsked states words xs bits = (i : ℕ) (w : CircuitWord) (x : ℕ) → slice_get words i ≡ Some w → slice_get xs i ≡ Some x → IsAsked states w.role → HasElement bits (word_of w) x

-- the net has the bit of its source in cycle t
abbrev pub HasItsSource : List CircuitWord → List ℕ → List CircuitFeed → ℕ → ℕ → Bool → Type 0
HasItsSource words xs feeds t n b = HasSource (map word_of words) xs (source_at feeds n t) b

-- each fed net has the bit of its source in cycle t
abbrev pub AreFed : List CircuitWord → List ℕ → List CircuitFeed → ℕ → List Bool → Type 0
AreFed words xs feeds t bits = (n : ℕ) → Has (fed_nets feeds) n → HasItsSource words xs feeds t n (bit_of bits n)

-- no fed net's source has another bit in cycle t
abbrev pub AreOnlyFed : List CircuitWord → List ℕ → List CircuitFeed → ℕ → List Bool → Type 0
AreOnlyFed words xs feeds t bits = (n : ℕ) (b : Bool) → Has (fed_nets feeds) n → HasItsSource words xs feeds t n b → bit_of bits n ≡ b

-- the bits are those of cycle t in the run of the first t cycles
pub record IsReached (job : ℕ → Circuit) (xs : List ℕ) (t : ℕ) (bits : List Bool) : Type 0 where
  pub run : List (List Bool)
  pub is_run : IsRun (job t) xs run
  pub at : slice_get run t ≡ Some bits

-- where word i has element i, the bit is that of word w's element at this place
abbrev pub IsWordBit : List CircuitWord → List ℕ → ℕ → ℕ → Bool → Type 0
IsWordBit words xs w place b = (word : CircuitWord) (x d : ℕ) → slice_get words w ≡ Some word → slice_get xs w ≡ Some x → AreBits (elements_of word.basis) x d → b ≡ (bit_at d place == 1)
