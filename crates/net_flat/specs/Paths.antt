-- The nets of a walk through instances, and what they are called. Source: the Berkeley Logic Interchange Format (BLIF), University of California, Berkeley.
use Rattle.std.specs.Prelude.{ℕ, ◌&&◌, Bool, true, false, List, [], ◌∷◌, ◌++◌, map, codes, if◌then◌else◌}
use Rattle.std.specs.Fmt.{decimal}
use Rattle.std.specs.Cmp.Lexicographic.{pointwise}
use Rattle.std.specs.Str.{bytes_eq}
use Rattle.std.specs.Prelude.{nat_eq}
use Rattle.net_core.specs.NetList.{LabelValue}
use Rattle.net_blif.specs.Statement.{Token}
use Rattle.net_blif.specs.Connection.{actual_of, formal_of}

-- a net: a name in the model that is reached from the chosen one through the instances of these numbers
pub data Path : Type 0 where
  At : (trail : List ℕ) (name : Token) → Path

-- the same instances
abbrev pub same_trail : List ℕ → List ℕ → Bool
same_trail = pointwise nat_eq

abbrev pub same_path : Path → Path → Bool
same_path (At trail name) (At other called) = same_trail trail other && bytes_eq name called

-- each number of an instance, and a `/`
abbrev pub prefix_of : List ℕ → List ℕ
prefix_of [] = []
prefix_of (number ∷ numbers) = decimal number ++ (codes "/" ++ prefix_of numbers)

-- what a net is called, and whether it is found by its name: those of the chosen model are
abbrev pub label_of : Path → LabelValue
label_of (At [] name) = record { text = name; named = true }
label_of (At (number ∷ numbers) name) = record { text = prefix_of (number ∷ numbers) ++ name; named = false }

-- where the walk is: the instances that it is in, and the nets that are connected to formals of the last
pub record Scope : Type 0 where
  pub trail : List ℕ
  pub actuals : List (Token × Path)

-- the chosen model, of which nothing is connected
abbrev pub top : Scope
top = record { trail = []; actuals = [] }

-- the net that is connected to a formal, and else this one
abbrev pub path_among : List (Token × Path) → Path → Token → Path
path_among [] own name = own
path_among (actual ∷ actuals) own name = if bytes_eq actual.0 name then actual.1 else path_among actuals own name

-- the net of a name: a connected formal is its actual, every other name is a net of the instance
abbrev pub path_in : Scope → Token → Path
path_in scope name = path_among scope.actuals (At scope.trail name) name

-- what a connection connects
abbrev pub connected : Scope → Token → Token × Path
connected scope connection = (formal_of connection, path_in scope (actual_of connection))

-- in the instance of this number, with these connections
abbrev pub inner : Scope → ℕ → List Token → Scope
inner scope number connections = record { trail = scope.trail ++ number ∷ []; actuals = map (connected scope) connections }
