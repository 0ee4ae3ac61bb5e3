-- Names that make one net: words of this crate's code. Source: this project's own.
use Rattle.std.specs.Prelude.{◌≡◌, ℕ, ◌<◌, ◌≤◌, Bool, true, false, List, take, length, Option, None, Some}
use Rattle.net_verilog.specs.Declarations.{Declarations, Range, bit_name, range_of}
use Rattle.verilog_reader.specs.Declares.{HasShortNames, Meets}

abbrev pub is_scalar : Option Range → Bool
is_scalar (Some None) = true
is_scalar range = false

-- a bit of these indexes has the name of a declared scalar
abbrev pub HasScalar : Declarations → List ℕ → ℕ → ℕ → Type 0
HasScalar declared name low end = (i : ℕ) × (low ≤ i) × (i < end) × (range_of declared (bit_name name i) ≡ Some None)

-- the bits of these indexes have short names
abbrev pub AreShort : List ℕ → ℕ → ℕ → Type 0
AreShort name low end = (i : ℕ) → low ≤ i → i < end → length (bit_name name i) ≤ 255

-- what was found of the bits of these indexes
abbrev pub IsFound : Declarations → List ℕ → ℕ → ℕ → Option Bool → Type 0
IsFound declared name low end None = ¬ AreShort name low end
IsFound declared name low end (Some true) = AreShort name low end × HasScalar declared name low end
IsFound declared name low end (Some false) = AreShort name low end × ¬ HasScalar declared name low end

-- if a name is that of a bit, its `[` is at this place
abbrev pub IsCutOf : List ℕ → ℕ → Type 0
IsCutOf name cut = (before : List ℕ) (i : ℕ) → name ≡ bit_name before i → length before ≡ cut

-- a name is that of no bit
abbrev pub IsNoBit : List ℕ → Type 0
IsNoBit name = (before : List ℕ) (i : ℕ) → name ≡ bit_name before i → ⊥

-- a name is that of a bit of the declared vector before a place in it
abbrev pub IsBitAt : Declarations → List ℕ → ℕ → Type 0
IsBitAt declared name k = (low : ℕ) × (high : ℕ) × (i : ℕ) × (range_of declared (take k name) ≡ Some (Some (low, high))) × (low ≤ i) × (i ≤ high) × (name ≡ bit_name (take k name) i)

-- a name is that of a bit of some declared vector
abbrev pub IsBit : Declarations → List ℕ → Type 0
IsBit declared name = (k : ℕ) × (k < length name) × IsBitAt declared name k

-- whether a sentence holds
abbrev pub Decides : Bool → Type 0 → Type 0
Decides true sentence = sentence
Decides false sentence = ¬ sentence

-- what was found of a name that is declared: None where the name of a net is too long, else whether it meets another
abbrev pub IsMet : Declarations → Range → List ℕ → Option Bool → Type 0
IsMet declared range name None = ¬ HasShortNames name range
IsMet declared range name (Some met) = HasShortNames name range × Decides met (Meets declared range name)
