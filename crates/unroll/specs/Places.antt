-- The numbers of nets where the cycles of a net list are laid out side by side. Source: this project's own.
use Rattle.std.specs.Prelude.{ℕ, zero, suc, ◌+◌, ◌*◌, List, [], ◌∷◌}
use Rattle.net_words.specs.declared.bound.BoundWord.{BoundWord}
use Rattle.net_words.specs.declared.word.Role.{Role}
use Rattle.net_words.specs.declared.word.Role.TheVariants.{Input, State, Fed, Output}

-- net n of cycle t, where a cycle has v nets
abbrev pub net_at : ℕ → ℕ → ℕ → ℕ
net_at v t n = t * v + n

-- the nets of c cycles after the first, and of the first
abbrev pub cycle_nets : ℕ → ℕ → ℕ
cycle_nets v c = (c + 1) * v

-- how many nets a word with this role adds after the nets of the cycles: a fed word has one for each bit
abbrev pub fed_bits : ℕ → Role → ℕ
fed_bits k Input = 0
fed_bits k State = 0
fed_bits k Fed = k
fed_bits k Output = 0

-- how many nets all these words add
abbrev pub fed_count : ℕ → List BoundWord → ℕ
fed_count k [] = 0
fed_count k (word ∷ words) = fed_bits k word.role + fed_count k words

-- the net of bit 0 of word w, if it is fed, where the bits of the fed words begin at `base`
abbrev pub first_bit : ℕ → ℕ → List BoundWord → ℕ → ℕ
first_bit k base [] w = base
first_bit k base (word ∷ words) zero = base
first_bit k base (word ∷ words) (suc w) = first_bit k (base + fed_bits k word.role) words w
