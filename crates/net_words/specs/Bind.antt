-- What comes of binding words to the nets of a net list, or the first fault. Source: this project's own, docs/DEFINITIONS.md.
use Rattle.std.specs.Prelude.{◌≡◌, ℕ, ◌<◌, ◌==◌, ◌&&◌, ◌||◌, not, Bool, true, false, List, [], ◌∷◌, ◌++◌, length, Option, None, Some, Result, Ok, Err, if◌then◌else◌}
use Rattle.std.specs.List.{list_any}
use Rattle.outcome.specs.Outcome.{Outcome, ◌>>=◌, Exactly, Returns}
use Rattle.net_core.specs.LatchValue.{LatchValue}
use Rattle.net_core.specs.NetList.{NetList, nets, number_of}
use Rattle.net_core.specs.declared.latch.Start.{Start}
use Rattle.net_core.specs.declared.latch.Start.TheVariants.{Zero, One, Unknown}
use Rattle.net_words.specs.Binding.{Binding}
use Rattle.net_words.specs.Feeds.{FeedsOf, is_fed}
use Rattle.net_words.specs.Roles.{same_role, stands_in, in_word}
use Rattle.net_words.specs.declared.binding.BindFault.{BindFault}
use Rattle.net_words.specs.declared.binding.BindFault.TheVariants.{NoSuchNet, NotInput, NotLatch, NetTwice, FeedNotFree, Uncovered, UnknownStart, OutOfMemory}
use Rattle.net_words.specs.declared.bound.BoundWord.{BoundWord}
use Rattle.net_words.specs.declared.feed.Feed.{Feed}
use Rattle.net_words.specs.declared.feed.FeedText.{FeedText}
use Rattle.net_words.specs.declared.word.Role.{Role}
use Rattle.net_words.specs.declared.word.Role.TheVariants.{Input, State, Fed, Output}
use Rattle.net_words.specs.declared.word.WordText.{WordText}

-- the net is a latch's output
abbrev pub is_latch : NetList → ℕ → Bool
is_latch net n = list_any (λ l. l.out == n) net.latches

-- The net as a bit of a word with this role: what the role asks of it is tried first, and then that it is in no input
-- or state word yet; `taken` are the nets in such words so far. (A fed word stands on no net.)
abbrev pub with_role : NetList → ℕ → ℕ → List ℕ → Role → ℕ → Result ℕ BindFault
with_role net word place taken Input n = if not (stands_in net.inputs n) then Err (NotInput word place) else if stands_in taken n then Err (NetTwice n) else Ok n
with_role net word place taken State n = if not (is_latch net n) then Err (NotLatch word place) else if stands_in taken n then Err (NetTwice n) else Ok n
with_role net word place taken Fed n = Err (NotInput word place)
with_role net word place taken Output n = Ok n

-- the net of a place, where the name has one
abbrev pub place_net : NetList → ℕ → ℕ → List ℕ → Role → Option ℕ → Result ℕ BindFault
place_net net word place taken role None = Err (NoSuchNet word place)
place_net net word place taken role (Some n) = with_role net word place taken role n

-- the nets in input and state words, with one more where the word is one
abbrev pub taken_with : Role → ℕ → List ℕ → List ℕ
taken_with Input n taken = taken ++ n ∷ []
taken_with State n taken = taken ++ n ∷ []
taken_with Fed n taken = taken ++ n ∷ []
taken_with Output n taken = taken

-- the names of the nets that a word with this role stands on: a fed word stands on none
abbrev pub names_with : Role → List (List ℕ) → List (List ℕ)
names_with Input names = names
names_with State names = names
names_with Fed names = []
names_with Output names = names

-- The nets of the word with this number, after those of its places before: place by place, the first fault decides.
-- Beside them are the nets in input and state words so far.
abbrev pub NetsOf : NetList → ℕ → Role → List ℕ → List ℕ → List (List ℕ) → Outcome BindFault (List ℕ × List ℕ)
NetsOf net word role taken before [] = Exactly (before, taken)
NetsOf net word role taken before (name ∷ names) = do
  n ← Returns (place_net net word (length before) taken role (number_of net name))
  NetsOf net word role (taken_with role n taken) (before ++ n ∷ []) names

-- the word with its nets
abbrev pub bound_word : WordText → List ℕ → BoundWord
bound_word word list = record { name = word.name; role = word.role; nets = list }

-- the words with their nets, after those before: word by word, the first fault decides
abbrev pub BoundOf : NetList → List ℕ → List BoundWord → List WordText → Outcome BindFault (List BoundWord × List ℕ)
BoundOf net taken before [] = Exactly (before, taken)
BoundOf net taken before (word ∷ words) = do
  list ← NetsOf net (length before) word.role taken [] (names_with word.role word.nets)
  BoundOf net list.1 (before ++ bound_word word list.0 ∷ []) words

-- the net is an input of a gate
abbrev pub feeds_gate : NetList → ℕ → Bool
feeds_gate net n = list_any (λ gate. stands_in gate.inputs n) net.gates

-- the net is what a latch holds next
abbrev pub feeds_latch : NetList → ℕ → Bool
feeds_latch net n = list_any (λ l. l.next == n) net.latches

-- the net is an input of a gate, the next of a latch, or a bit of the output word
abbrev pub is_used : NetList → List BoundWord → ℕ → Bool
is_used net words n = (feeds_gate net n || feeds_latch net n) || in_word Output words n

-- a primary input that is in no input word and not fed, and is used
abbrev pub is_uncovered : NetList → List BoundWord → List Feed → ℕ → Bool
is_uncovered net words feeds n = stands_in net.inputs n && not (in_word Input words n) && not (is_fed feeds n) && is_used net words n

-- no net is uncovered, or this is the least that is
abbrev pub IsCovered : NetList → List BoundWord → List Feed → Outcome BindFault (Unit {0})
IsCovered net words feeds (Ok u) = (n : ℕ) → n < nets net → is_uncovered net words feeds n ≡ false
IsCovered net words feeds (Err (Uncovered n)) = (n < nets net) × (is_uncovered net words feeds n ≡ true) × ((m : ℕ) → m < n → is_uncovered net words feeds m ≡ false)
IsCovered net words feeds (Err (NoSuchNet word place)) = ⊥
IsCovered net words feeds (Err (NotInput word place)) = ⊥
IsCovered net words feeds (Err (NotLatch word place)) = ⊥
IsCovered net words feeds (Err (NetTwice n)) = ⊥
IsCovered net words feeds (Err (FeedNotFree line)) = ⊥
IsCovered net words feeds (Err (UnknownStart n)) = ⊥
IsCovered net words feeds (Err OutOfMemory) = ⊥

abbrev pub is_unknown : Start → Bool
is_unknown Zero = false
is_unknown One = false
is_unknown Unknown = true

-- each latch has a known start or its output is in a state word, or the first that has neither is the fault
abbrev pub started : List BoundWord → List LatchValue → Result (Unit {0}) BindFault
started words [] = Ok tt
started words (latch ∷ latches) = if is_unknown latch.start && not (in_word State words latch.out) then Err (UnknownStart latch.out) else started words latches

-- how many nets the first word has that is not fed
abbrev pub bits_of : List WordText → ℕ
bits_of [] = 0
bits_of (word ∷ words) = if same_role word.role Fed then bits_of words else length word.nets

-- What comes of binding words and feeds to the nets of a net list.
abbrev pub BindingOf : NetList → List WordText → List FeedText → Outcome BindFault Binding
BindingOf net words feeds = do
  bound ← BoundOf net [] [] words
  fed ← FeedsOf net bound.0 [] feeds
  covered ← IsCovered net bound.0 fed
  known ← Returns (started bound.0 net.latches)
  Exactly (record { k = bits_of words; words = bound.0; feeds = fed; nets = nets net })
