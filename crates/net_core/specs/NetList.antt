-- Net lists: what each net is called, by its number, and what stands on the nets. Source: the BLIF format of UC Berkeley.
use Rattle.std.specs.Prelude.{ℕ, ◌+◌, Bool, ◌&&◌, true, List, [], ◌∷◌, ◌++◌, Option, None, Some, length, slice_get, is_some, if◌then◌else◌}
use Rattle.std.specs.Str.{bytes_eq}
use Rattle.std.specs.Option.{option_map_or}
use Rattle.net_core.specs.GateValue.{GateValue}
use Rattle.net_core.specs.LatchValue.{LatchValue}

-- what a net is called; a net that is not named has its text for messages alone
pub record LabelValue : Type 0 where
  pub text : List ℕ
  pub named : Bool

-- the nets are numbered by their places among the labels, from 0
pub record NetList : Type 0 where
  pub labels : List LabelValue
  pub inputs : List ℕ
  pub outputs : List ℕ
  pub gates : List GateValue
  pub latches : List LatchValue

-- no nets and nothing on them
abbrev pub empty : NetList
empty = record { labels = []; inputs = []; outputs = []; gates = []; latches = [] }

-- how many nets there are
abbrev pub nets : NetList → ℕ
nets net = length net.labels

-- what a net is called in messages
abbrev pub text_of : NetList → ℕ → List ℕ
text_of net n = option_map_or (λ (l : LabelValue). l.text) (slice_get net.labels n) []

-- the label is this name
abbrev pub is_named : List ℕ → LabelValue → Bool
is_named name label = label.named && bytes_eq name label.text

-- the number of the first net of this name, where they are numbered from n
abbrev pub number_from : ℕ → List LabelValue → List ℕ → Option ℕ
number_from n [] name = None
number_from n (label ∷ labels) name = if is_named name label then Some n else number_from (n + 1) labels name

-- the number of the net of this name
abbrev pub number_of : NetList → List ℕ → Option ℕ
number_of net name = number_from 0 net.labels name

-- with one more net
abbrev pub with_label : NetList → List ℕ → Bool → NetList
with_label net text named = record net { labels = net.labels ++ record { text = text; named = named } ∷ [] }

-- with a net of this name, which is new if the name is
abbrev pub with_name : NetList → List ℕ → NetList
with_name net name = if is_some (number_of net name) then net else with_label net name true

-- with one more gate
abbrev pub with_gate : NetList → GateValue → NetList
with_gate net gate = record net { gates = net.gates ++ gate ∷ [] }

-- with one more latch
abbrev pub with_latch : NetList → LatchValue → NetList
with_latch net latch = record net { latches = net.latches ++ latch ∷ [] }
