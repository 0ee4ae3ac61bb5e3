-- What a text says: its models or its first fault, line by line. Source: the Berkeley Logic Interchange Format (BLIF), University of California, Berkeley.
use Rattle.std.specs.Prelude.{◌≡◌, ℕ, ◌&&◌, nat_lt, nat_le, Bool, true, false, IsTrue, List, [], ◌∷◌, ◌++◌, take_while, length, codes, All, Result, Ok, Err, Option, None, Some, is_some, if◌then◌else◌}
use Rattle.std.specs.Option.{option_map, option_map_or}
use Rattle.std.specs.Str.{bytes_eq}
use Rattle.outcome.specs.Outcome.{Outcome, ◌>>=◌, Exactly, Returns}
use Rattle.text_core.specs.Lines.{tokens_of}
use Rattle.net_blif.specs.Lines.{Numbered, lines_of}
use Rattle.net_blif.specs.Statement.{Token, IsToken, spelled, is_well, is_dotted}
use Rattle.net_blif.specs.Latch.{start_of}
use Rattle.net_blif.specs.Cover.{CoverValue, begun, gate_of, takes_row, with_row}
use Rattle.net_blif.specs.Design.{ModelValue, model_named}
use Rattle.net_blif.specs.Instances.{HaveFormals}
use Rattle.net_blif.specs.Chains.{AreWithinDepth, WalkEnds}
use Rattle.net_blif.specs.declared.item.Item.{Item}
use Rattle.net_blif.specs.declared.item.Item.TheVariants as items
use Rattle.net_blif.specs.declared.statement.Statement.{Statement}
use Rattle.net_blif.specs.declared.statement.Statement.TheVariants.{Model, Inputs, Outputs, Clock, Cover, Latch, Instance, Row, End, Other}
use Rattle.net_blif.specs.declared.fault.BlifFault.{BlifFault}
use Rattle.net_blif.specs.declared.fault.BlifFault.TheVariants.{NoModel, Syntax, LeftOut, TooWide, ModelTwice}

-- a model whose lines are being read, and the cover just begun, to which rows may come
pub record OpenValue : Type 0 where
  pub name : Token
  pub items : List Item
  pub cover : Option CoverValue

-- what was read: the models that have ended, and the one whose lines are being read
pub record Reading : Type 0 where
  pub models : List ModelValue
  pub model : Option OpenValue

abbrev pub start : Reading
start = record { models = []; model = None }

-- what the lines placed so far: a cover just begun has all its rows
abbrev pub placed : OpenValue → List Item
placed model = option_map_or (λ cover. model.items ++ gate_of cover ∷ []) model.cover model.items

-- the models so far, of which the one being read is the last
abbrev pub models_of : Reading → List ModelValue
models_of reading = option_map_or (λ (model : OpenValue). reading.models ++ record { name = model.name; items = placed model } ∷ []) reading.model reading.models

-- Whether the statement may stand here: a model may begin everywhere, a row belongs to a cover just begun, and all else to a model.
abbrev pub may_stand : Reading → Statement → Bool
may_stand reading (Model name) = true
may_stand reading (Row pattern output) = option_map_or (λ (model : OpenValue). option_map_or (takes_row pattern output) model.cover false) reading.model false
may_stand reading s = is_some reading.model

-- The line says this statement, or no statement that may stand here.
abbrev pub Says : Reading → ℕ → List Token → Outcome BlifFault Statement
Says reading n tokens (Ok s) = All IsToken tokens × (tokens ≡ spelled s) × IsTrue (is_well s) × IsTrue (may_stand reading s)
Says reading n tokens (Err (Syntax m)) = (m ≡ n) × ((s : Statement) → All IsToken tokens → tokens ≡ spelled s → IsTrue (is_well s) → IsTrue (may_stand reading s) → ⊥)
Says reading n tokens (Err fault) = ⊥

-- the model being read places these, and begins this cover
abbrev pub with_items : List Item → Option CoverValue → OpenValue → OpenValue
with_items more cover model = record { name = model.name; items = placed model ++ more; cover = cover }

-- the cover just begun has one more row
abbrev pub with_cover_row : Token → Bool → OpenValue → OpenValue
with_cover_row pattern output model = record model { cover = option_map (with_row pattern output) model.cover }

abbrev pub in_model : (OpenValue → OpenValue) → Reading → Reading
in_model change reading = record reading { model = option_map change reading.model }

-- what a statement adds, or its fault
abbrev pub next : Reading → ℕ → Statement → Result Reading BlifFault
next reading n (Model name) =
    if is_some (model_named (models_of reading) name) then Err (ModelTwice n)
    else Ok (record { models = models_of reading; model = Some (record { name = name; items = []; cover = None }) })
next reading n (Inputs nets) = Ok (in_model (with_items (items.Inputs nets ∷ []) None) reading)
next reading n (Outputs nets) = Ok (in_model (with_items (items.Outputs nets ∷ []) None) reading)
next reading n (Clock nets) = Ok (in_model (with_items [] None) reading)
next reading n (Cover inputs out) =
    if nat_lt 6 (length inputs) then Err (TooWide n (length inputs))
    else Ok (in_model (with_items [] (Some (begun n inputs out))) reading)
next reading n (Latch first out rest) = Ok (in_model (with_items (items.Latch n first out (start_of rest) ∷ []) None) reading)
next reading n (Instance model connections) = Ok (in_model (with_items (items.Instance n model connections ∷ []) None) reading)
next reading n (Row pattern output) = Ok (in_model (with_cover_row pattern output) reading)
next reading n End = Ok (record { models = models_of reading; model = None })
next reading n (Other word rest) = Err (LeftOut n word)

-- a line without tokens says nothing
abbrev pub ReadsLine : Reading → ℕ → List Token → Outcome BlifFault Reading
ReadsLine reading n [] = Exactly reading
ReadsLine reading n (word ∷ words) = do
  s ← Says reading n (word ∷ words)
  Returns (next reading n s)

-- line by line: the first with a fault decides
abbrev pub Reads : Reading → List Numbered → Outcome BlifFault Reading
Reads reading [] = Exactly reading
Reads reading (line ∷ lines) = do
  more ← ReadsLine reading line.0 (tokens_of line.1)
  Reads more lines

-- the bytes from `!` to `~` with which a line begins
abbrev pub first_word : List Token → Token
first_word [] = []
first_word (token ∷ tokens) = take_while (λ b. nat_le 33 b && nat_le b 126) token

-- the first word that begins with `.` is `.model`
abbrev pub begins : List Numbered → Bool
begins [] = false
begins (line ∷ lines) =
    let word = first_word (tokens_of line.1) in
    if is_dotted word then bytes_eq word (codes ".model") else begins lines

abbrev pub HasModel : List Numbered → Outcome BlifFault (Unit {0})
HasModel lines = Returns (if begins lines then Ok tt else Err NoModel)

-- Instances have models and formals that there are, no model contains itself, and no chain is too long.
abbrev pub AreRight : List ModelValue → Outcome BlifFault (Unit {0})
AreRight models = do
  _ ← HaveFormals models
  _ ← WalkEnds models
  AreWithinDepth models

-- The models of a text, or its first fault.
abbrev pub BlifDesign : List ℕ → Outcome BlifFault (List ModelValue)
BlifDesign text = do
  _ ← HasModel (lines_of text)
  reading ← Reads start (lines_of text)
  _ ← AreRight (models_of reading)
  Exactly (models_of reading)
