-- Declared names: each with its range, or none. Source: IEEE Std 1364-2005, section 3.3, in the profile of docs/FORMATS.md.
use Rattle.std.specs.Prelude.{◌≡◌, ℕ, ◌≤◌, ◌||◌, List, [], ◌∷◌, ◌++◌, codes, decimal, Option, None, Some, Bool, true, false, if◌then◌else◌}
use Rattle.std.specs.Option.{option_map}
use Rattle.std.specs.Str.{bytes_eq}
use Rattle.net_verilog.specs.declared.declared.Declared.{Declared}
use Rattle.net_verilog.specs.declared.declared.Direction.{Direction}
use Rattle.net_verilog.specs.declared.declared.Direction.TheVariants.{Input, Output, Wire}

-- the declared names, each with what it is declared as, in the order of their first declarations
abbrev pub Declarations : Type 0
Declarations = List (List ℕ × Declared)

-- nothing is declared
abbrev pub undeclared : Declarations
undeclared = []

-- what a name is declared as
abbrev pub declared_as : Declarations → List ℕ → Option Declared
declared_as [] name = None
declared_as (e ∷ es) name = if bytes_eq name e.0 then Some e.1 else declared_as es name

-- the lowest and the highest index of a vector; the range of a scalar is None
abbrev pub Range : Type 0
Range = Option (ℕ × ℕ)

-- the range of a declared name
abbrev pub range_of : Declarations → List ℕ → Option Range
range_of declared name = option_map (λ (d : Declared). d.range) (declared_as declared name)

-- bit i of a vector is the net `name[i]`
abbrev pub bit_name : List ℕ → ℕ → List ℕ
bit_name name i = name ++ codes "[" ++ decimal i ++ codes "]"

-- a net of a declared name: a scalar's own, or a bit inside the range of a vector
abbrev pub IsNetOf : List ℕ → Range → List ℕ → Type 0
IsNetOf name None net = net ≡ name
IsNetOf name (Some (low, high)) net = (i : ℕ) × (low ≤ i) × (i ≤ high) × (net ≡ bit_name name i)

-- `input` and `output` give a direction
abbrev pub is_directed : Direction → Bool
is_directed Input = true
is_directed Output = true
is_directed Wire = false

-- whether a name has a direction
abbrev pub was_directed : Option Declared → Bool
was_directed None = false
was_directed (Some d) = d.directed

-- with a declaration in the place of the one before, where the name has one
abbrev pub put : List ℕ → Declared → Declarations → Declarations
put name d [] = (name, d) ∷ []
put name d (e ∷ es) = if bytes_eq name e.0 then (e.0, d) ∷ es else e ∷ put name d es

-- with one more declaration
abbrev pub with_declared : List ℕ → Range → Direction → Declarations → Declarations
with_declared name range direction declared = put name (record { range = range; directed = was_directed (declared_as declared name) || is_directed direction }) declared
