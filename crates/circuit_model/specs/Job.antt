-- What makes a circuit a job, whose words stand on nets or are fed bit by bit. Source: this project's own, docs/DEFINITIONS.md.
use Rattle.std.specs.Prelude.{◌≡◌, ◌≢◌, ℕ, ◌<◌, ◌≤◌, List, Some, length, slice_get}
use Rattle.lists.specs.Lists.{Has, times}
use Rattle.net_core.specs.LatchValue.{LatchValue}
use Rattle.net_core.specs.Sound.{IsSound}
use Rattle.net_core.specs.declared.latch.Start.TheVariants.{Unknown}
use Rattle.net_words.specs.BoundTo.{StandsOn}
use Rattle.net_words.specs.Reach.{Reaches}
use Rattle.net_words.specs.declared.word.Role.{Role}
use Rattle.net_words.specs.declared.word.Role.TheVariants.{Input, State, Fed, Output}
use Rattle.gf_field.specs.Ring.{IsRing}
use Rattle.gf_field.specs.Field.{HasNoZeroDivisors}
use Rattle.gf_basis.specs.Basis.{IsBasis}
use Rattle.circuit_model.specs.declared.circuit_feed.CircuitFeed.{CircuitFeed}
use Rattle.circuit_model.specs.declared.circuit_feed.FeedSource.{FeedSource}
use Rattle.circuit_model.specs.declared.circuit_feed.FeedSource.TheVariants.{Constant, Bit}
use Rattle.circuit_model.specs.Word.{Word, IsFedWord, word_nets}
use Rattle.circuit_model.specs.Circuit.{Circuit, IsNet, IsInNoWord, IsFree}
use Rattle.circuit_model.specs.WellFormed.{IsWord}

-- how many nets a word of k bits has: a fed word has none
abbrev pub net_count : ℕ → Role → ℕ
net_count k Input = k
net_count k State = k
net_count k Fed = 0
net_count k Output = k

-- a word has a net for each bit, or is fed and has none, and a basis of the field
pub record IsJobWord (k : ℕ) (word : Word) : Type 0 where
  pub nets : length word.nets ≡ net_count k word.role
  pub basis : IsBasis k word.basis

-- the source is a constant, or the bit at one of the k places of a fed word
abbrev pub IsSource : ℕ → List Word → FeedSource → Type 0
IsSource k words (Constant constant) = Unit {0}
IsSource k words (Bit i place) = (place < k) × ((w : Word) × (slice_get words i ≡ Some w) × IsFedWord w)

-- a feed's net is a primary input in no word, and its source is one
pub record IsFeed (circuit : Circuit) (feed : CircuitFeed) : Type 0 where
  pub input : Has circuit.net.inputs feed.net
  pub unnamed : IsInNoWord circuit feed.net
  pub source : IsSource circuit.k circuit.words feed.source

-- The field is one and the net list is sound; there are at most 8 input, state and fed words; each of them has a basis, and
-- k nets unless it is fed; no net stands twice in these words, and each stands on what its role asks for; the output word's
-- nets exist; feeds feed primary inputs in no word; each latch in no word has a start; and a primary input that is in no
-- word and not fed reaches no bit of the output word.
pub record IsJob (circuit : Circuit) : Type 0 where
  pub ring : IsRing circuit.k circuit.product
  pub no_zero_divisors : HasNoZeroDivisors circuit.k circuit.product
  pub sound : IsSound circuit.net
  pub few : length circuit.words ≤ 8
  pub words : (w : Word) → Has circuit.words w → IsJobWord circuit.k w
  pub inner : (w : Word) → Has circuit.words w → w.role ≢ Output
  pub once : (n : ℕ) → times n (word_nets circuit.words) ≤ 1
  pub places : (w : Word) (n : ℕ) → Has circuit.words w → Has w.nets n → StandsOn circuit.net w.role n
  pub output : IsWord circuit.k circuit.output
  pub output_role : circuit.output.role ≡ Output
  pub output_nets : (n : ℕ) → Has circuit.output.nets n → IsNet circuit n
  pub feeds : (feed : CircuitFeed) → Has circuit.feeds feed → IsFeed circuit feed
  pub starts : (l : LatchValue) → Has circuit.net.latches l → IsInNoWord circuit l.out → l.start ≢ Unknown
  pub covered : (n : ℕ) → IsFree circuit n → Reaches circuit.net n circuit.output.nets → ⊥
