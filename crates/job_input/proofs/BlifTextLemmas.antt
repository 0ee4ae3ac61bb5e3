-- The names of a text in BLIF print, and so do the words that its faults repeat.
use Rattle.std.proofs.Common.{◌≡◌, sym, subst, inl, inr, ℕ, zero, suc, Bool, true, false, cond, not, List, [], ◌∷◌, ◌++◌, map, length, Option, None, Some, Result, Ok, Err, arith}
use Rattle.std.specs.Prelude.{All, IfSome, IsTrue, is_some, nat_lt}
use Rattle.std.specs.List.{AllByRecursion, list_all}
use Rattle.std.proofs.lemmas.List.Elements.{All-weaker, recursion_from_All}
use Rattle.lists.specs.laws.ListLaws.{all_append}
use Rattle.lists.specs.laws.OptionLaws.{same_ok as ok_same, same_fault}
use Rattle.text_core.specs.Lines.{IsPrinting, tokens_of}
use Rattle.net_blif.specs.Chains.{WalkEnds, graph_of, leads_on}
use Rattle.net_blif.specs.Connection.{formal_of}
use Rattle.net_blif.specs.Cover.{CoverValue, begun, gate_of}
use Rattle.net_blif.specs.Design.{ModelValue, items_of, model_named, name_of}
use Rattle.net_blif.specs.Instances.{connection_fault, first_found, formals_of, inputs_of, instance_fault, instances_fault, is_among, missing_fault, model_fault, or_else, refused}
use Rattle.net_blif.specs.Item.{HasPrintingNames}
use Rattle.net_blif.specs.Latch.{start_of}
use Rattle.net_blif.specs.Lines.{Numbered, lines_of}
use Rattle.net_blif.specs.Models.{AreRight, OpenValue, Reading, start, placed, models_of, with_items, with_cover_row, in_model, next, Says, ReadsLine, Reads, begins, BlifDesign}
use Rattle.net_blif.specs.Statement.{Token, IsToken, spelled, is_well}
use Rattle.net_blif.specs.declared.item.Item.{Item}
use Rattle.net_blif.specs.declared.item.Item.TheVariants as items
use Rattle.net_blif.specs.declared.statement.Statement.{Statement}
use Rattle.net_blif.specs.declared.statement.Statement.TheVariants as statements
use Rattle.net_blif.specs.declared.fault.BlifFault.{BlifFault}
use Rattle.net_blif.specs.declared.fault.BlifFault.TheVariants as texts
use Rattle.net_blif.proofs.ItemLemmas.{read_names}
use Rattle.net_blif.proofs.StatementLemmas.{spelled_read}

-- ---- lists

tokens_print : (tokens : List Token) → All IsToken tokens → AllByRecursion IsPrinting tokens
tokens_print tokens all = recursion_from_All IsPrinting tokens (All-weaker IsToken IsPrinting (λ token is. is.2) tokens all)

-- ---- what was read

abbrev pub ItemPrints : Item → Type 0
ItemPrints (items.Inputs nets) = AllByRecursion IsPrinting nets
ItemPrints (items.Outputs nets) = AllByRecursion IsPrinting nets
ItemPrints (items.Gate line inputs out table) = AllByRecursion IsPrinting inputs × IsPrinting out
ItemPrints (items.Latch line first out begin) = IsPrinting first × IsPrinting out
ItemPrints (items.Instance line model connections) = AllByRecursion IsPrinting connections

abbrev pub ModelPrints : ModelValue → Type 0
ModelPrints model = IsPrinting model.name × AllByRecursion ItemPrints model.items

abbrev CoverPrints : CoverValue → Type 0
CoverPrints cover = AllByRecursion IsPrinting cover.inputs × IsPrinting cover.out

record OpenPrints (model : OpenValue) : Type 0 where
  name : IsPrinting model.name
  items : AllByRecursion ItemPrints model.items
  cover : IfSome model.cover CoverPrints

abbrev ReadingPrints : Reading → Type 0
ReadingPrints reading = AllByRecursion ModelPrints reading.models × IfSome reading.model OpenPrints

placed_prints : (model : OpenValue) → OpenPrints model → AllByRecursion ItemPrints (placed model)
placed_prints model prints = by model.cover prints.cover
  where
    by : (cover : Option CoverValue) → IfSome cover CoverPrints → AllByRecursion ItemPrints (placed (record model { cover = cover }))
    by None is = prints.items
    by (Some cover) is = all_append ItemPrints model.items (gate_of cover ∷ []) prints.items (is, tt)

models_print : (reading : Reading) → ReadingPrints reading → AllByRecursion ModelPrints (models_of reading)
models_print reading prints = by reading.model prints.1
  where
    by : (model : Option OpenValue) → IfSome model OpenPrints → AllByRecursion ModelPrints (models_of (record reading { model = model }))
    by None is = prints.0
    by (Some model) is = all_append ModelPrints reading.models (record { name = model.name; items = placed model } ∷ []) prints.0 ((is.name, placed_prints model is), tt)

in_model_prints : (change : OpenValue → OpenValue) (reading : Reading) → ((model : OpenValue) → OpenPrints model → OpenPrints (change model)) → ReadingPrints reading → ReadingPrints (in_model change reading)
in_model_prints change reading kept prints = by reading.model prints.1
  where
    by : (model : Option OpenValue) → IfSome model OpenPrints → ReadingPrints (in_model change (record reading { model = model }))
    by None is = (prints.0, tt)
    by (Some model) is = (prints.0, kept model is)

with_items_prints : (more : List Item) (cover : Option CoverValue) → AllByRecursion ItemPrints more → IfSome cover CoverPrints → (model : OpenValue) → OpenPrints model → OpenPrints (with_items more cover model)
with_items_prints more cover all is model prints = record { name = prints.name; items = all_append ItemPrints (placed model) more (placed_prints model prints) all; cover = is }

with_row_prints : (pattern : Token) (output : Bool) (model : OpenValue) → OpenPrints model → OpenPrints (with_cover_row pattern output model)
with_row_prints pattern output model prints = by model.cover prints.cover
  where
    by : (cover : Option CoverValue) → IfSome cover CoverPrints → OpenPrints (with_cover_row pattern output (record model { cover = cover }))
    by None is = record { name = prints.name; items = prints.items; cover = tt }
    by (Some cover) is = record { name = prints.name; items = prints.items; cover = is }

-- where no fault comes
kept : (b : Bool) (fault : BlifFault) (reading more : Reading) → ◌≡◌ {A = Result Reading BlifFault} (cond b (Err fault) (Ok reading)) (Ok more) → ReadingPrints reading → ReadingPrints more
kept true fault reading more e prints = absurd (cc)
kept false fault reading more e prints = let P : Reading → Type 0 = ReadingPrints in subst P (ok_same reading more e) prints

next_prints : (reading : Reading) (n : ℕ) (s : Statement) (more : Reading) → HasPrintingNames s → ReadingPrints reading → next reading n s ≡ Ok more → ReadingPrints more
next_prints reading n (statements.Model name) more names prints e =
    kept (is_some (model_named (models_of reading) name)) _ (record { models = models_of reading; model = Some (record { name = name; items = []; cover = None }) }) more e (models_print reading prints, record { name = names; items = tt; cover = tt })
next_prints reading n (statements.Inputs nets) more names prints e =
    kept false (texts.NoModel) _ more e (in_model_prints _ reading (with_items_prints (items.Inputs nets ∷ []) None (tokens_print nets names, tt) tt) prints)
next_prints reading n (statements.Outputs nets) more names prints e =
    kept false (texts.NoModel) _ more e (in_model_prints _ reading (with_items_prints (items.Outputs nets ∷ []) None (tokens_print nets names, tt) tt) prints)
next_prints reading n (statements.Clock nets) more names prints e =
    kept false (texts.NoModel) _ more e (in_model_prints _ reading (with_items_prints [] None tt tt) prints)
next_prints reading n (statements.Cover inputs out) more names prints e =
    kept (nat_lt 6 (length inputs)) _ _ more e (in_model_prints _ reading (with_items_prints [] (Some (begun n inputs out)) tt (tokens_print inputs names.0, names.1.2)) prints)
next_prints reading n (statements.Latch first out rest) more names prints e =
    kept false (texts.NoModel) _ more e (in_model_prints _ reading (with_items_prints (items.Latch n first out (start_of rest) ∷ []) None ((names.0.2, names.1.2), tt) tt) prints)
next_prints reading n (statements.Instance model connections) more names prints e =
    kept false (texts.NoModel) _ more e (in_model_prints _ reading (with_items_prints (items.Instance n model connections ∷ []) None (tokens_print connections names.1, tt) tt) prints)
next_prints reading n (statements.Row pattern output) more names prints e =
    kept false (texts.NoModel) _ more e (in_model_prints _ reading (with_row_prints pattern output) prints)
next_prints reading n statements.End more names prints e =
    kept false (texts.NoModel) _ more e (models_print reading prints, tt)
next_prints reading n (statements.Other word rest) more names prints e = absurd (cc)

-- ---- faults of the text

-- a word that is left out prints, and so does the name of a model
abbrev pub FaultPrints : BlifFault → Type 0
FaultPrints (texts.LeftOut line word) = IsPrinting word
FaultPrints (texts.Recursive model) = IsPrinting model
FaultPrints fault = Unit {0}

no_word : {A : Type 0} (b : Bool) (fault other : BlifFault) (value : A) → FaultPrints fault → ◌≡◌ {A = Result A BlifFault} (cond b (Err fault) (Ok value)) (Err other) → FaultPrints other
no_word true fault other value prints e = let P : BlifFault → Type 0 = FaultPrints in subst P (same_fault fault other e) prints
no_word false fault other value prints e = absurd (cc)

next_fault : (reading : Reading) (n : ℕ) (s : Statement) (fault : BlifFault) → HasPrintingNames s → next reading n s ≡ Err fault → FaultPrints fault
next_fault reading n (statements.Model name) fault names e = no_word (is_some (model_named (models_of reading) name)) (texts.ModelTwice n) fault _ tt e
next_fault reading n (statements.Inputs nets) fault names e = absurd (cc)
next_fault reading n (statements.Outputs nets) fault names e = absurd (cc)
next_fault reading n (statements.Clock nets) fault names e = absurd (cc)
next_fault reading n (statements.Cover inputs out) fault names e = no_word (nat_lt 6 (length inputs)) (texts.TooWide n (length inputs)) fault _ tt e
next_fault reading n (statements.Latch first out rest) fault names e = absurd (cc)
next_fault reading n (statements.Instance model connections) fault names e = absurd (cc)
next_fault reading n (statements.Row pattern output) fault names e = absurd (cc)
next_fault reading n statements.End fault names e = absurd (cc)
next_fault reading n (statements.Other word rest) fault names e = no_word true (texts.LeftOut n word) fault reading names e

-- the names of a statement that tokens say
said_names : (tokens : List Token) (s : Statement) → All IsToken tokens → tokens ≡ spelled s → IsTrue (is_well s) → HasPrintingNames s
said_names tokens s all same well = let P : List Token → Type 0 = All IsToken in read_names (spelled s) s (subst P same all) (spelled_read s well)

line_prints : (reading : Reading) (n : ℕ) (tokens : List Token) (more : Reading) → ReadingPrints reading → ReadsLine reading n tokens (Ok more) → ReadingPrints more
line_prints reading n [] more prints is = let P : Reading → Type 0 = ReadingPrints in subst P (sym is) prints
line_prints reading n (word ∷ words) more prints (s, said, is) = next_prints reading n s more (said_names (word ∷ words) s said.0 said.1 said.2) prints (sym is)

line_fault : (reading : Reading) (n : ℕ) (tokens : List Token) (fault : BlifFault) → ReadsLine reading n tokens (Err fault) → FaultPrints fault
line_fault reading n [] fault is = absurd is
line_fault reading n (word ∷ words) fault (inl is) = syntax fault is
  where
    syntax : (fault : BlifFault) → Says reading n (word ∷ words) (Err fault) → FaultPrints fault
    syntax (texts.Syntax m) is = tt
    syntax texts.NoModel is = tt
    syntax (texts.LeftOut line word) is = absurd is
    syntax (texts.TooWide line inputs) is = tt
    syntax (texts.ModelTwice line) is = tt
    syntax (texts.NoSuchModel line) is = tt
    syntax (texts.NoSuchFormal line) is = tt
    syntax (texts.FormalTwice line) is = tt
    syntax (texts.FormalMissing line) is = tt
    syntax (texts.Recursive model) is = absurd is
    syntax texts.TooDeep is = tt
    syntax texts.OutOfMemory is = tt
line_fault reading n (word ∷ words) fault (inr (s, said, is)) = next_fault reading n s fault (said_names (word ∷ words) s said.0 said.1 said.2) (sym is)

lines_print : (reading : Reading) (lines : List Numbered) (more : Reading) → ReadingPrints reading → Reads reading lines (Ok more) → ReadingPrints more
lines_print reading [] more prints is = let P : Reading → Type 0 = ReadingPrints in subst P (sym is) prints
lines_print reading (line ∷ lines) more prints (middle, first, rest) = lines_print middle lines more (line_prints reading line.0 (tokens_of line.1) middle prints first) rest

lines_fault : (reading : Reading) (lines : List Numbered) (fault : BlifFault) → Reads reading lines (Err fault) → FaultPrints fault
lines_fault reading [] fault is = absurd is
lines_fault reading (line ∷ lines) fault (inl is) = line_fault reading line.0 (tokens_of line.1) fault is
lines_fault reading (line ∷ lines) fault (inr (middle, first, rest)) = lines_fault middle lines fault rest

-- ---- faults of instances

abbrev MayPrint : Option BlifFault → Type 0
MayPrint found = IfSome found FaultPrints

either_prints : (first other : Option BlifFault) → MayPrint first → MayPrint other → MayPrint (or_else first other)
either_prints None other one more = more
either_prints (Some fault) other one more = one

found_prints : {A : Type 0} (find : A → Option BlifFault) (xs : List A) → ((x : A) → MayPrint (find x)) → MayPrint (first_found find xs)
found_prints find [] each = tt
found_prints find (x ∷ xs) each = either_prints (find x) (first_found find xs) (each x) (found_prints find xs each)

test_prints : (b : Bool) (fault : BlifFault) (other : Option BlifFault) → FaultPrints fault → MayPrint other → MayPrint (cond b (Some fault) other)
test_prints true fault other one more = one
test_prints false fault other one more = more

connections_print : (line : ℕ) (formals earlier connections : List Token) → MayPrint (connection_fault line formals earlier connections)
connections_print line formals earlier [] = tt
connections_print line formals earlier (connection ∷ connections) =
    let later = connection_fault line formals (earlier ++ formal_of connection ∷ []) connections in
    test_prints (not (is_among formals (formal_of connection))) (texts.NoSuchFormal line) (cond (is_among earlier (formal_of connection)) (Some (texts.FormalTwice line)) later) tt
    (test_prints (is_among earlier (formal_of connection)) (texts.FormalTwice line) later tt (connections_print line formals (earlier ++ formal_of connection ∷ []) connections))

missing_prints : (line : ℕ) (inputs connected : List Token) → MayPrint (missing_fault line inputs connected)
missing_prints line inputs connected = by (list_all (λ input. is_among connected input) inputs)
  where
    by : (b : Bool) → MayPrint (cond b None (Some (texts.FormalMissing line)))
    by true = tt
    by false = tt

instance_prints : (models : List ModelValue) (item : Item) → MayPrint (instance_fault models item)
instance_prints models (items.Inputs nets) = tt
instance_prints models (items.Outputs nets) = tt
instance_prints models (items.Gate line inputs out table) = tt
instance_prints models (items.Latch line first out begin) = tt
instance_prints models (items.Instance line name connections) = by (model_named models name)
  where
    by : (found : Option ℕ) → MayPrint (model_fault models line found connections)
    by None = tt
    by (Some model) =
        let placed_items = items_of models model in
        either_prints (connection_fault line (formals_of placed_items) [] connections) (missing_fault line (inputs_of placed_items) (map formal_of connections)) (connections_print line (formals_of placed_items) [] connections)
        (missing_prints line (inputs_of placed_items) (map formal_of connections))

refused_prints : (found : Option BlifFault) (fault : BlifFault) → Err fault ≡ refused found → MayPrint found → FaultPrints fault
refused_prints None fault e prints = absurd (cc)
refused_prints (Some other) fault e prints = let P : BlifFault → Type 0 = FaultPrints in subst P (sym (same_fault fault other e)) prints

name_prints : (models : List ModelValue) (model : ℕ) → AllByRecursion ModelPrints models → IsPrinting (name_of models model)
name_prints [] model all = λ k d less. absurd (omega arith)
name_prints (m ∷ models) zero all = all.0.0
name_prints (m ∷ models) (suc model) all = name_prints models model all.1

right_prints : (models : List ModelValue) (fault : BlifFault) → AllByRecursion ModelPrints models → AreRight models (Err fault) → FaultPrints fault
right_prints models fault all (inl is) = refused_prints (instances_fault models) fault is (found_prints (λ (m : ModelValue). first_found (instance_fault models) m.items) models (λ m. found_prints (instance_fault models) m.items (instance_prints models)))
right_prints models fault all (inr (u, formals, inl is)) = by fault is
  where
    by : (fault : BlifFault) → WalkEnds models (Err fault) → FaultPrints fault
    by (texts.Syntax m) is = tt
    by texts.NoModel is = tt
    by (texts.LeftOut line word) is = absurd is
    by (texts.TooWide line inputs) is = tt
    by (texts.ModelTwice line) is = tt
    by (texts.NoSuchModel line) is = tt
    by (texts.NoSuchFormal line) is = tt
    by (texts.FormalTwice line) is = tt
    by (texts.FormalMissing line) is = tt
    by (texts.Recursive name) (cycle, model, is, first, same) = let P : Token → Type 0 = IsPrinting in subst P (sym same) (name_prints models model all)
    by texts.TooDeep is = tt
    by texts.OutOfMemory is = tt
right_prints models fault all (inr (u, formals, inr (v, ends, is))) = no_word (leads_on (graph_of models) 64 0) texts.TooDeep fault tt tt (sym is)

-- ---- the whole text

-- the names of a design print
pub design_prints : (text : List ℕ) (design : List ModelValue) → BlifDesign text (Ok design) → AllByRecursion ModelPrints design
design_prints text design (unit, has, (reading, reads, (u, right, is))) =
    let P : List ModelValue → Type 0 = AllByRecursion ModelPrints in
    subst P (sym is) (models_print reading (lines_print start (lines_of text) reading (tt, tt) reads))

-- and so does the word of its fault
pub text_fault_prints : (text : List ℕ) (fault : BlifFault) → BlifDesign text (Err fault) → FaultPrints fault
text_fault_prints text fault (inl is) = by (begins (lines_of text)) is
  where
    by : (b : Bool) → ◌≡◌ {A = Result (Unit {0}) BlifFault} (Err fault) (cond b (Ok tt) (Err texts.NoModel)) → FaultPrints fault
    by true e = absurd (cc)
    by false e = let P : BlifFault → Type 0 = FaultPrints in subst P (sym (same_fault fault texts.NoModel e)) tt
text_fault_prints text fault (inr (unit, has, inl is)) = lines_fault start (lines_of text) fault is
text_fault_prints text fault (inr (unit, has, inr (reading, reads, inl is))) = right_prints (models_of reading) fault (models_print reading (lines_print start (lines_of text) reading (tt, tt) reads)) is
text_fault_prints text fault (inr (unit, has, inr (reading, reads, inr (u, right, is)))) = absurd is
