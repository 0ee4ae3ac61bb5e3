-- The bits and elements that the plain program finds, for the clauses of private functions. Source: this project's own.
use Rattle.std.specs.Prelude.{◌≡◌, ◌==◌, ◌≤◌, ℕ, Bool, false, List, Some, map, slice_get}
use Rattle.std.specs.Int.{bit_at}
use Rattle.lists.specs.Lists.{Has, times}
use Rattle.gf_basis.specs.Basis.{AreBits}
use Rattle.gf_basis.specs.BasisParts.{elements_of}
use Rattle.circuit_model.specs.declared.circuit_word.CircuitWord.{CircuitWord}
use Rattle.circuit_model.specs.Word.{HasElement, word_nets}
use Rattle.circuit_model.specs.Flat.{word_of}

-- word i has element i
abbrev pub HaveAll : List CircuitWord → List ℕ → List Bool → Type 0
HaveAll words xs bits = (i : ℕ) (w : CircuitWord) (x : ℕ) → slice_get words i ≡ Some w → slice_get xs i ≡ Some x → HasElement bits (word_of w) x

-- the nets that no word has
abbrev pub IsUnnamed : List CircuitWord → ℕ → Type 0
IsUnnamed words n = Has (word_nets (map word_of words)) n → ⊥

-- where no word has the input, its value is 0
abbrev pub HaveZeros : List CircuitWord → List ℕ → List Bool → Type 0
HaveZeros words inputs values = (i n : ℕ) (v : Bool) → slice_get inputs i ≡ Some n → slice_get values i ≡ Some v → IsUnnamed words n → v ≡ false

-- the net stands once in the words at most
abbrev pub IsOnce : List CircuitWord → ℕ → Type 0
IsOnce words n = times n (word_nets (map word_of words)) ≤ 1

-- the bit is that of x at this place of the word
abbrev pub IsBitAt : CircuitWord → ℕ → ℕ → Bool → Type 0
IsBitAt w x place bit = (bits : ℕ) × AreBits (elements_of w.basis) x bits × (bit ≡ (bit_at bits place == 1))

-- wherever a word has the net, the bit is that of the word's element there
abbrev pub IsBitIn : List CircuitWord → List ℕ → ℕ → Bool → Type 0
IsBitIn words xs n bit = (i place : ℕ) (w : CircuitWord) (x : ℕ) → slice_get words i ≡ Some w → slice_get xs i ≡ Some x → slice_get w.nets.items place ≡ Some n → IsBitAt w x place bit

-- where the words have the input once, its value is its bit there
abbrev pub HaveBits : List CircuitWord → List ℕ → List ℕ → List Bool → Type 0
HaveBits words xs inputs values = (i n : ℕ) (v : Bool) → slice_get inputs i ≡ Some n → slice_get values i ≡ Some v → IsOnce words n → IsBitIn words xs n v
