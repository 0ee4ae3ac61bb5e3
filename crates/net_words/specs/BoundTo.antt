-- What it is for words to be bound to a net list. Source: this project's own, docs/DEFINITIONS.md.
use Rattle.std.specs.Prelude.{◌≡◌, ◌≢◌, ℕ, ◌<◌, ◌≤◌, false, List, [], ◌∷◌, ◌++◌, map, slice_get, Some}
use Rattle.lists.specs.Lists.{Has, times}
use Rattle.net_core.specs.LatchValue.{LatchValue}
use Rattle.net_core.specs.NetList.{NetList, nets}
use Rattle.net_core.specs.declared.latch.Start.TheVariants.{Unknown}
use Rattle.net_words.specs.Binding.{Binding, IsBinding}
use Rattle.net_words.specs.Feeds.{IsSource, fed_nets}
use Rattle.net_words.specs.Reach.{Reaches}
use Rattle.net_words.specs.Roles.{in_word}
use Rattle.net_words.specs.Variables.{bits}
use Rattle.net_words.specs.declared.bound.BoundWord.{BoundWord}
use Rattle.net_words.specs.declared.feed.Feed.{Feed}
use Rattle.net_words.specs.declared.word.Role.{Role}
use Rattle.net_words.specs.declared.word.Role.TheVariants.{Input, State, Fed, Output}

-- the bits that a word with this role adds to the output word
abbrev pub output_bits_with : Role → List ℕ → List ℕ
output_bits_with Input list = []
output_bits_with State list = []
output_bits_with Fed list = []
output_bits_with Output list = list

-- the bits of the output word, by place
abbrev pub output_bits : List BoundWord → List ℕ
output_bits [] = []
output_bits (word ∷ words) = output_bits_with word.role word.nets ++ output_bits words

-- What a word stands on: an input word's net is a primary input, a state word's net is the output of a latch, a fed word
-- has no nets, and the output word's net exists.
abbrev pub StandsOn : NetList → Role → ℕ → Type 0
StandsOn net Input n = Has net.inputs n
StandsOn net State n = Has (map (λ l. l.out) net.latches) n
StandsOn net Fed n = ⊥
StandsOn net Output n = n < nets net

-- a feed's net is a primary input in no input word, and its source is a constant or a bit of a fed word
pub record IsBoundFeed (net : NetList) (binding : Binding) (feed : Feed) : Type 0 where
  pub input : Has net.inputs feed.net
  pub unheld : in_word Input binding.words feed.net ≡ false
  pub source : IsSource binding.k (map (λ word. word.role) binding.words) feed.source

-- No net stands twice in the words beside the output word; each word's nets are what its role asks for; each feed is one,
-- and no two have the same net and cycle; each latch in no word has a start; and a primary input that is in no word and not
-- fed reaches no bit of the output word.
pub record IsBoundTo (net : NetList) (binding : Binding) : Type 0 where
  pub parts : IsBinding binding
  pub count : binding.nets ≡ nets net
  pub once : (n : ℕ) → times n (bits binding.words) ≤ 1
  pub places : (word : BoundWord) (n : ℕ) → Has binding.words word → Has word.nets n → StandsOn net word.role n
  pub feeds : (feed : Feed) → Has binding.feeds feed → IsBoundFeed net binding feed
  pub apart : (i j : ℕ) (f g : Feed) → slice_get binding.feeds i ≡ Some f → slice_get binding.feeds j ≡ Some g → f.net ≡ g.net → f.cycle ≡ g.cycle → i ≡ j
  pub starts : (l : LatchValue) → Has net.latches l → (Has (bits binding.words) l.out → ⊥) → l.start ≢ Unknown
  pub covered : (n : ℕ) → Has net.inputs n → (Has (bits binding.words) n → ⊥) → (Has (fed_nets binding.feeds) n → ⊥) → Reaches net n (output_bits binding.words) → ⊥
