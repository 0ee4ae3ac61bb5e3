-- How words bind to a made net. Source: this project's own.
use Rattle.std.specs.Prelude.{◌≡◌, ℕ, true, List, [], map, Ok}
use Rattle.lists.specs.Lists.{Has}
use Rattle.net_core.specs.LatchValue.{LatchValue}
use Rattle.net_core.specs.NetList.{NetList, nets}
use Rattle.net_words.specs.Bind.{BindingOf, bits_of, is_unknown}
use Rattle.net_words.specs.Binding.{Binding}
use Rattle.net_words.specs.declared.feed.Feed.{Feed}
use Rattle.net_words.specs.declared.word.Role.TheVariants.{State, Fed}
use Rattle.net_words.specs.declared.word.WordText.{WordText}
use Rattle.make_nets.specs.Made.{IsPlanFor, made_of}
use Rattle.make_nets.specs.MakerNames.{AreMakerNames}
use Rattle.make_nets.specs.Plan.{Plan}
use Rattle.make_nets.specs.Ports.{numbered, outer_names, role_nets}

-- each word on its nets, numbered in the order of the words, and these feeds
abbrev pub binding_of : NetList → List WordText → List Feed → Binding
binding_of net words feeds = record { k = bits_of words; words = numbered 0 words; feeds = feeds; nets = nets net }

-- fed words have no nets, the nets of state words are outputs of latches, and a latch has a start or is in a state word
pub record AreHeld (words : List WordText) (latches : List LatchValue) : Type 0 where
  pub fed : (word : WordText) → Has words word → word.role ≡ Fed → word.nets ≡ []
  pub states : (n : ℕ) → Has (role_nets State 0 words) n → Has (map (λ l. l.out) latches) n
  pub starts : (l : LatchValue) → Has latches l → is_unknown l.start ≡ true → Has (role_nets State 0 words) l.out

-- the words bind to the net list of a plan for them, each to its own nets, where nothing is fed
abbrev pub BindsIfPlanned : List WordText → List LatchValue → (targets : List ℕ) → Plan → Type 0
BindsIfPlanned words latches targets plan =
    AreMakerNames (outer_names words []) → IsPlanFor words [] latches targets plan → AreHeld words latches
    → BindingOf (made_of words [] latches plan) words [] (Ok (binding_of (made_of words [] latches plan) words []))
