-- The net list of all cycles of a net list with bound words. Source: this project's own.
use Rattle.std.specs.Prelude.{ℕ, zero, suc, not, false, List, [], ◌∷◌, ◌++◌, codes, filter, map}
use Rattle.std.specs.Fmt.{decimal}
use Rattle.std.specs.List.{range_with_len}
use Rattle.net_core.specs.NetList.{NetList, LabelValue, nets}
use Rattle.net_words.specs.Binding.{Binding}
use Rattle.net_words.specs.Feeds.{is_fed}
use Rattle.net_words.specs.declared.bound.BoundWord.{BoundWord}
use Rattle.unroll.specs.Places.{net_at, cycle_nets, fed_bits, fed_count}
use Rattle.unroll.specs.Gates.{gates_to, is_held}

-- what a net is called, where no name finds it
abbrev pub unnamed : LabelValue → LabelValue
unnamed label = record { text = label.text; named = false }

-- the labels of the nets of the cycles from 0 to t
abbrev pub labels_to : List LabelValue → ℕ → List LabelValue
labels_to labels zero = map unnamed labels
labels_to labels (suc t) = labels_to labels t ++ map unnamed labels

-- the label of a bit of a word of this name, as `A[3]`
abbrev pub bit_label : List ℕ → ℕ → LabelValue
bit_label name i = record { text = name ++ (codes "[" ++ (decimal i ++ codes "]")); named = false }

-- the labels of so many bits of the word
abbrev pub bit_labels : BoundWord → ℕ → List LabelValue
bit_labels word count = map (bit_label word.name) (range_with_len 0 count)

-- the labels of the bits of the fed words
abbrev pub fed_labels : ℕ → List BoundWord → List LabelValue
fed_labels k [] = []
fed_labels k (word ∷ words) = bit_labels word (fed_bits k word.role) ++ fed_labels k words

-- the nets of the bits of the fed words
abbrev pub fed_bit_nets : NetList → Binding → ℕ → List ℕ
fed_bit_nets net binding c = range_with_len (cycle_nets (nets net) c) (fed_count binding.k binding.words)

-- The primary inputs that are not fed, the outputs of latches in state words in the order of the latches, and the bits of
-- the fed words.
abbrev pub unrolled_inputs : NetList → Binding → ℕ → List ℕ
unrolled_inputs net binding c = filter (λ n. not (is_fed binding.feeds n)) net.inputs ++ (map (λ latch. latch.out) (filter (is_held binding) net.latches) ++ fed_bit_nets net binding c)

-- the net list of c cycles after the first, and of the first; it has no latches
abbrev pub all_cycles : NetList → Binding → ℕ → NetList
all_cycles net binding c = record {
  labels = labels_to net.labels c ++ fed_labels binding.k binding.words;
  inputs = unrolled_inputs net binding c;
  outputs = map (net_at (nets net) c) net.outputs;
  gates = gates_to net binding c c;
  latches = [];
}
