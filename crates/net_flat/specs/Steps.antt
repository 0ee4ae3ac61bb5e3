-- What a walk does at a line of a model. Source: the Berkeley Logic Interchange Format (BLIF), University of California, Berkeley.
use Rattle.std.specs.Prelude.{ℕ, Bool, true, false, List, [], ◌∷◌, ◌++◌, map, flat_map}
use Rattle.net_core.specs.declared.latch.Start.{Start}
use Rattle.net_blif.specs.Statement.{Token}
use Rattle.net_blif.specs.Connection.{actual_of}
use Rattle.net_blif.specs.declared.item.Item.{Item}
use Rattle.net_blif.specs.declared.item.Item.TheVariants as items

-- what the walk does next, on nets of whatever kind: `Enter` goes into an instance
pub data Step (N : Type 0) : Type 0 where
  Mention : (net : N) → Step N
  Input : (net : N) → Step N
  Output : (net : N) → Step N
  Gate : (inputs : List N) (out : N) (table : ℕ) → Step N
  Latch : (next : N) (out : N) (start : Start) → Step N
  Enter : Step N

-- the same on other nets
abbrev pub along : {N M : Type 0} → (N → M) → Step N → Step M
along f (Mention net) = Mention (f net)
along f (Input net) = Input (f net)
along f (Output net) = Output (f net)
along f (Gate inputs out table) = Gate (map f inputs) (f out) table
along f (Latch next out start) = Latch (f next) (f out) start
along f Enter = Enter

-- primary inputs and outputs are those of the chosen model alone: in an instance their names are only mentioned
abbrev pub input_steps : Bool → Token → List (Step Token)
input_steps true net = Mention net ∷ Input net ∷ []
input_steps false net = Mention net ∷ []

abbrev pub output_steps : Bool → Token → List (Step Token)
output_steps true net = Mention net ∷ Output net ∷ []
output_steps false net = Mention net ∷ []

-- its inputs are mentioned from left to right, and then its output
abbrev pub gate_steps : List Token → Token → ℕ → List (Step Token)
gate_steps inputs out table = map Mention inputs ++ Mention out ∷ Gate inputs out table ∷ []

-- what is read is mentioned, and then what is driven
abbrev pub latch_steps : Token → Token → Start → List (Step Token)
latch_steps next out start = Mention next ∷ Mention out ∷ Latch next out start ∷ []

-- what is connected is mentioned, from left to right
abbrev pub actual_steps : List Token → List (Step Token)
actual_steps connections = map (λ connection. Mention (actual_of connection)) connections

-- what a line does, in the chosen model or in an instance: its names are mentioned, and then it is placed
abbrev pub steps_of : Bool → Item → List (Step Token)
steps_of is_top (items.Inputs nets) = flat_map (input_steps is_top) nets
steps_of is_top (items.Outputs nets) = flat_map (output_steps is_top) nets
steps_of is_top (items.Gate line inputs out table) = gate_steps inputs out table
steps_of is_top (items.Latch line next out start) = latch_steps next out start
steps_of is_top (items.Instance line model connections) = Enter ∷ actual_steps connections
