-- What is known while the cycles of a net are laid out. Source: this project's own.
use Rattle.std.specs.Prelude.{◌≡◌, ℕ, ◌<◌, ◌≤◌, ◌+◌, ◌&&◌, ◌||◌, Bool, false, List, [], ◌++◌, Some, length, slice_get, slice_index_or}
use Rattle.lists.specs.Limits.{most_nets}
use Rattle.net_core.specs.GateValue.{GateValue}
use Rattle.net_core.specs.NetList.{NetList, LabelValue, nets}
use Rattle.net_words.specs.Binding.{Binding}
use Rattle.net_words.specs.Roles.{same_role, stands_in}
use Rattle.net_words.specs.declared.bound.BoundWord.{BoundWord}
use Rattle.net_words.specs.declared.feed.Source.{Source}
use Rattle.net_words.specs.declared.feed.Source.TheVariants.{Zero}
use Rattle.net_words.specs.declared.word.Role.TheVariants.{Fed, State}
use Rattle.unroll.specs.Places.{net_at, cycle_nets, fed_count, first_bit}
use Rattle.unroll.specs.Sources.{source_at}

-- the mark of a net
abbrev pub mark_at : List Bool → ℕ → Bool
mark_at marks n = slice_index_or marks n false

-- the word is a state word that has the net
abbrev pub marks_with : BoundWord → ℕ → Bool
marks_with word n = same_role word.role State && stands_in word.nets n

-- each of the nets below `count` has the mark that the test gives it
pub record AreMarks (count : ℕ) (test : ℕ → Bool) (marks : List Bool) : Type 0 where
  pub long : length marks ≡ count
  pub each : (n : ℕ) → n < count → mark_at marks n ≡ test n

-- the sources of all nets in all cycles
pub record AreSources (net : NetList) (binding : Binding) (c : ℕ) (sources : List Source) : Type 0 where
  pub long : length sources ≡ cycle_nets (nets net) c
  pub each : (t n : ℕ) → t ≤ c → n < nets net → slice_index_or sources (net_at (nets net) t n) Zero ≡ source_at binding.feeds n t

-- for each word the net of its bit 0, if it is fed
pub record AreFirstBits (net : NetList) (binding : Binding) (c : ℕ) (firsts : List ℕ) : Type 0 where
  pub long : length firsts ≡ length binding.words
  pub each : (w : ℕ) → w < length binding.words → slice_index_or firsts w 0 ≡ first_bit binding.k (cycle_nets (nets net) c) binding.words w

-- how many nets the unrolled net list has
abbrev pub net_count : NetList → Binding → ℕ → ℕ
net_count net binding c = cycle_nets (nets net) c + fed_count binding.k binding.words

-- with more gates
abbrev pub with_gates : NetList → List GateValue → NetList
with_gates net gates = record net { gates = net.gates ++ gates }

-- with more labels
abbrev pub with_labels : NetList → List LabelValue → NetList
with_labels net labels = record net { labels = net.labels ++ labels }

-- the net list has its nets and no latch, and room for so many gates
pub record HasRoom (count : ℕ) (more : ℕ) (net : NetList) : Type 0 where
  pub nets_are : nets net ≡ count
  pub flat : net.latches ≡ []
  pub room : length net.gates + more ≤ most_nets

-- with more primary inputs
abbrev pub with_inputs : NetList → List ℕ → NetList
with_inputs net list = record net { inputs = net.inputs ++ list }

-- with more outputs
abbrev pub with_outputs : NetList → List ℕ → NetList
with_outputs net list = record net { outputs = net.outputs ++ list }

-- the word is fed, and the place is one of its bits
abbrev pub IsBit : Binding → ℕ → ℕ → Type 0
IsBit binding w place = (place < binding.k) × ((word : BoundWord) × (slice_get binding.words w ≡ Some word) × (word.role ≡ Fed))

-- the net list has the nets of all cycles and no latch, and room for these gates
abbrev pub HasRoomFor : NetList → Binding → ℕ → List GateValue → NetList → Type 0
HasRoomFor net binding c gates made = HasRoom (net_count net binding c) (length gates) made

-- the nets of the test are marked, too
abbrev pub AreMarkedToo : (ℕ → Bool) → List Bool → List Bool → Type 0
AreMarkedToo test before after = (n : ℕ) → n < length after → mark_at after n ≡ (mark_at before n || test n)

-- what is said of word w of the binding
abbrev pub OfWord : Binding → ℕ → (BoundWord → Type 0) → Type 0
OfWord binding w P = (word : BoundWord) → slice_get binding.words w ≡ Some word → P word
