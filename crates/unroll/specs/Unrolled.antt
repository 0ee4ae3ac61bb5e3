-- Nets with bound words, unrolled into one cycle. Source: this project's own.
use Rattle.std.specs.Prelude.{ℕ, ◌+◌, ◌&&◌, not, Bool, true, false, List, [], ◌∷◌, ◌++◌, map, if◌then◌else◌}
use Rattle.std.specs.List.{list_any, range_with_len}
use Rattle.net_core.specs.NetList.{NetList, nets}
use Rattle.net_words.specs.Binding.{Binding, BoundNet}
use Rattle.net_words.specs.Rebind.{rebinding}
use Rattle.net_words.specs.Roles.{same_role}
use Rattle.net_words.specs.declared.bound.BoundWord.{BoundWord}
use Rattle.net_words.specs.declared.word.Role.{Role}
use Rattle.net_words.specs.declared.word.Role.TheVariants.{Input, State, Fed, Output}
use Rattle.unroll.specs.Places.{net_at, cycle_nets, fed_bits, first_bit}
use Rattle.unroll.specs.Nets.{all_cycles}

-- The nets of a word in the unrolled net list: an input or state word has its nets of the first cycle, a fed word its own
-- bits, from `base` on, and the output word its nets of the last cycle.
abbrev pub nets_with : (v c k base : ℕ) → Role → List ℕ → List ℕ
nets_with v c k base Input list = list
nets_with v c k base State list = list
nets_with v c k base Fed list = range_with_len base k
nets_with v c k base Output list = map (net_at v c) list

-- the nets of all words, word by word
abbrev pub nets_of_words : (v c k base : ℕ) → List BoundWord → List ℕ
nets_of_words v c k base [] = []
nets_of_words v c k base (word ∷ words) = nets_with v c k base word.role word.nets ++ nets_of_words v c k (base + fed_bits k word.role) words

-- the nets of word w of the binding
abbrev pub nets_of_word : NetList → Binding → ℕ → ℕ → BoundWord → List ℕ
nets_of_word net binding c w word = nets_with (nets net) c binding.k (first_bit binding.k (cycle_nets (nets net) c) binding.words w) word.role word.nets

-- the nets of all words of the binding
abbrev pub unrolled_nets : NetList → Binding → ℕ → List ℕ
unrolled_nets net binding c = nets_of_words (nets net) c binding.k (cycle_nets (nets net) c) binding.words

-- all cycles as one
abbrev pub in_one_cycle : NetList → Binding → ℕ → BoundNet
in_one_cycle net binding c = record { net = all_cycles net binding c; binding = rebinding (all_cycles net binding c) binding (unrolled_nets net binding c) }

abbrev pub is_empty : {X : Type 0} → List X → Bool
is_empty [] = true
is_empty (x ∷ xs) = false

-- there is nothing to unroll: no latch, no feed and no fed word
abbrev pub is_flat : NetList → Binding → Bool
is_flat net binding = is_empty net.latches && (is_empty binding.feeds && not (list_any (λ word. same_role word.role Fed) binding.words))

-- The net list and its words unrolled for c cycles after the first: as they are where there is nothing to unroll.
abbrev pub unrolled : NetList → Binding → ℕ → BoundNet
unrolled net binding c = if is_flat net binding then record { net = net; binding = binding } else in_one_cycle net binding c
