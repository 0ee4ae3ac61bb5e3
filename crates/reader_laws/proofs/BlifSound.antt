-- What the lines of a text in BLIF place is sound.
use Rattle.std.proofs.Common.{◌≡◌, refl, sym, subst, inl, inr, ℕ, zero, suc, ◌^◌, Bool, true, false, cond, List, [], ◌∷◌, ◌++◌, length, Option, None, Some, Result, Ok, Err}
use Rattle.std.specs.Prelude.{is_some, nat_lt, slice_get, All}
use Rattle.std.specs.Option.{option_map, option_map_or}
use Rattle.std.proofs.lemmas.Bool.{ltb-false}
use Rattle.lists.specs.laws.HasLaws.{Has_cases}
use Rattle.text_core.specs.Lines.{tokens_of}
use Rattle.net_blif.specs.Cover.{begun, gate_of, is_one, with_row, CoverValue}
use Rattle.net_blif.specs.Design.{model_named, ModelValue}
use Rattle.net_blif.specs.Item.{HasPrintingNames, IsSoundCover, IsSoundItem}
use Rattle.net_blif.specs.Latch.{start_of}
use Rattle.net_blif.specs.Lines.{lines_of, Numbered}
use Rattle.net_blif.specs.Models.{in_model, models_of, next, placed, start, with_cover_row, with_items, BlifDesign, OpenValue, Reading, Reads, ReadsLine, Says}
use Rattle.net_blif.specs.Statement.{spelled, IsToken, Token}
use Rattle.net_blif.specs.declared.item.Item.{Item}
use Rattle.net_blif.specs.declared.item.Item.TheVariants as items
use Rattle.net_blif.specs.declared.statement.Statement.{Statement}
use Rattle.net_blif.specs.declared.statement.Statement.TheVariants.{Model, Inputs, Outputs, Clock, Cover, Latch, Instance, Row, End, Other}
use Rattle.net_blif.specs.declared.fault.BlifFault.{BlifFault}
use Rattle.net_blif.specs.declared.fault.BlifFault.TheVariants.{ModelTwice, TooWide}
use Rattle.net_blif.proofs.ItemLemmas.{read_names}
use Rattle.net_blif.proofs.StatementLemmas.{spelled_read}
use Rattle.net_blif.proofs.TableLemmas.{bits_small}
use Rattle.reader_laws.specs.SoundModels.{AreSoundItems, AreSoundModels}

-- ---- sound models and readings

record IsSoundOpen (model : OpenValue) : Type 0 where
  items : AreSoundItems model.items
  cover : (c : CoverValue) → model.cover ≡ Some c → IsSoundCover c

record IsSoundReading (reading : Reading) : Type 0 where
  models : AreSoundModels reading.models
  model : (m : OpenValue) → reading.model ≡ Some m → IsSoundOpen m

no_item : AreSoundItems []
no_item item has = let got = has.1 in absurd (cc)

one_item : (item : Item) → IsSoundItem item → AreSoundItems (item ∷ [])
one_item item is other (zero, got) = let same : item ≡ other = cc in let P : Item → Type 0 = IsSoundItem in subst P same is
one_item item is other (suc k, got) = absurd (cc)

more_items : (xs ys : List Item) → AreSoundItems xs → AreSoundItems ys → AreSoundItems (xs ++ ys)
more_items xs ys first second item has = elim (Has_cases xs ys item has) [ inl w ↦ first item w | inr w ↦ second item w ]

one_model : (models : List ModelValue) (model : ModelValue) → AreSoundModels models → AreSoundItems model.items → AreSoundModels (models ++ model ∷ [])
one_model models model are is other has = elim (Has_cases models (model ∷ []) other has) [ inl w ↦ are other w | inr w ↦ last w.0 w.1 ]
  where
    last : (k : ℕ) → slice_get (model ∷ []) k ≡ Some other → AreSoundItems other.items
    last zero got = let same : model ≡ other = cc in let P : ModelValue → Type 0 = λ m. AreSoundItems m.items in subst P same is
    last (suc k) got = absurd (cc)

-- ---- what is placed

-- the gate of a cover that is sound
gate_sound : (cover : CoverValue) → IsSoundCover cover → IsSoundItem (gate_of cover)
gate_sound cover is = (is.1, is.2, is.0, bits_small (is_one cover) (2 ^ length cover.inputs))

placed_sound : (model : OpenValue) → IsSoundOpen model → AreSoundItems (placed model)
placed_sound model is = by model.cover refl
  where
    by : (found : Option CoverValue) → model.cover ≡ found → AreSoundItems (option_map_or (λ cover. model.items ++ gate_of cover ∷ []) found model.items)
    by None at = is.items
    by (Some c) at = more_items model.items (gate_of c ∷ []) is.items (one_item (gate_of c) (gate_sound c (is.cover c at)))

models_sound : (reading : Reading) → IsSoundReading reading → AreSoundModels (models_of reading)
models_sound reading is = by reading.model refl
  where
    by : (found : Option OpenValue) → reading.model ≡ found → AreSoundModels (option_map_or (λ (model : OpenValue). reading.models ++ record { name = model.name; items = placed model } ∷ []) found reading.models)
    by None at = is.models
    by (Some m) at = one_model reading.models (record { name = m.name; items = placed m }) is.models (placed_sound m (is.model m at))

-- no model is being read, or this one
closed_sound : (models : List ModelValue) → AreSoundModels models → IsSoundReading (record { models = models; model = None })
closed_sound models are = record { models = are; model = λ m at. absurd (cc) }

open_sound : (models : List ModelValue) (model : OpenValue) → AreSoundModels models → IsSoundOpen model → IsSoundReading (record { models = models; model = Some model })
open_sound models model are is = record { models = are; model = λ m at. let same : model ≡ m = cc in let P : OpenValue → Type 0 = IsSoundOpen in subst P same is }

-- the model that is being read is changed
changed_sound : (change : OpenValue → OpenValue) (reading : Reading) → IsSoundReading reading → ((m : OpenValue) → IsSoundOpen m → IsSoundOpen (change m)) → IsSoundReading (in_model change reading)
changed_sound change reading is keeps = by reading.model refl
  where
    by : (found : Option OpenValue) → reading.model ≡ found → IsSoundReading (record { models = reading.models; model = option_map change found })
    by None at = closed_sound reading.models is.models
    by (Some m) at = open_sound reading.models (change m) is.models (keeps m (is.model m at))

-- items are added, and no cover is begun, or this one
items_sound : (more : List Item) → AreSoundItems more → (m : OpenValue) → IsSoundOpen m → IsSoundOpen (with_items more None m)
items_sound more are m is = record { items = more_items (placed m) more (placed_sound m is) are; cover = λ c at. absurd (cc) }

begun_sound : (cover : CoverValue) → IsSoundCover cover → (m : OpenValue) → IsSoundOpen m → IsSoundOpen (with_items [] (Some cover) m)
begun_sound cover sound m is =
    record {
      items = more_items (placed m) [] (placed_sound m is) no_item;
      cover = λ c at. let same : cover ≡ c = cc in let P : CoverValue → Type 0 = IsSoundCover in subst P same sound;
    }

row_sound : (pattern : Token) (output : Bool) (m : OpenValue) → IsSoundOpen m → IsSoundOpen (with_cover_row pattern output m)
row_sound pattern output m is = record { items = is.items; cover = λ c at. by m.cover refl c at }
  where
    by : (found : Option CoverValue) → m.cover ≡ found → (c : CoverValue) → option_map (with_row pattern output) found ≡ Some c → IsSoundCover c
    by None at c e = absurd (cc)
    by (Some old) at c e = let same : with_row pattern output old ≡ c = cc in let P : CoverValue → Type 0 = IsSoundCover in subst P same (is.cover old at)

-- ---- statements

module _ (reading more : Reading) (n : ℕ) (is : IsSoundReading reading) where
  became : (made : Reading) → IsSoundReading made → ◌≡◌ {A = Result Reading BlifFault} (Ok made) (Ok more) → IsSoundReading more
  became made sound e = let same : made ≡ more = cc in let P : Reading → Type 0 = IsSoundReading in subst P same sound

  with_sound : (list : List Item) → AreSoundItems list → ◌≡◌ {A = Result Reading BlifFault} (Ok (in_model (with_items list None) reading)) (Ok more) → IsSoundReading more
  with_sound list are e = became (in_model (with_items list None) reading) (changed_sound (with_items list None) reading is (items_sound list are)) e

  next_sound : (s : Statement) → HasPrintingNames s → next reading n s ≡ Ok more → IsSoundReading more
  next_sound (Model name) names made = by (is_some (model_named (models_of reading) name)) made
    where
      by : (b : Bool) → cond b (Err (ModelTwice n)) (Ok (record { models = models_of reading; model = Some (record { name = name; items = []; cover = None }) })) ≡ Ok more → IsSoundReading more
      by true e = absurd (cc)
      by false e =
          became (record { models = models_of reading; model = Some (record { name = name; items = []; cover = None }) })
          (open_sound (models_of reading) (record { name = name; items = []; cover = None }) (models_sound reading is) (record { items = no_item; cover = λ c at. absurd (cc) }))
          e
  next_sound (Inputs nets) names made = with_sound (items.Inputs nets ∷ []) (one_item (items.Inputs nets) names) made
  next_sound (Outputs nets) names made = with_sound (items.Outputs nets ∷ []) (one_item (items.Outputs nets) names) made
  next_sound (Clock nets) names made = with_sound [] no_item made
  next_sound (Cover inputs out) names made = by (nat_lt 6 (length inputs)) refl made
    where
      by : (b : Bool) → nat_lt 6 (length inputs) ≡ b → cond b (Err (TooWide n (length inputs))) (Ok (in_model (with_items [] (Some (begun n inputs out))) reading)) ≡ Ok more → IsSoundReading more
      by true wide e = absurd (cc)
      by false wide e =
          became (in_model (with_items [] (Some (begun n inputs out))) reading)
          (changed_sound (with_items [] (Some (begun n inputs out))) reading is (begun_sound (begun n inputs out) (ltb-false 6 (length inputs) wide, names.0, names.1)))
          e
  next_sound (Latch first out rest) names made = with_sound (items.Latch n first out (start_of rest) ∷ []) (one_item (items.Latch n first out (start_of rest)) names) made
  next_sound (Instance model connections) names made = with_sound (items.Instance n model connections ∷ []) (one_item (items.Instance n model connections) names) made
  next_sound (Row pattern output) names made =
      became (in_model (with_cover_row pattern output) reading) (changed_sound (with_cover_row pattern output) reading is (row_sound pattern output)) made
  next_sound End names made = became (record { models = models_of reading; model = None }) (closed_sound (models_of reading) (models_sound reading is)) made
  next_sound (Other word rest) names made = absurd (cc)

-- the names of a statement that a line says print
said_names : (reading : Reading) (n : ℕ) (tokens : List Token) (s : Statement) → Says reading n tokens (Ok s) → HasPrintingNames s
said_names reading n tokens s says =
    let P : List Token → Type 0 = All IsToken in
    read_names (spelled s) s (subst P says.1 says.0) (spelled_read s says.2)

line_sound : (reading more : Reading) (n : ℕ) (tokens : List Token) → IsSoundReading reading → ReadsLine reading n tokens (Ok more) → IsSoundReading more
line_sound reading more n [] is same = let P : Reading → Type 0 = IsSoundReading in subst P (sym same) is
line_sound reading more n (word ∷ words) is (s, says, made) = next_sound reading more n is s (said_names reading n (word ∷ words) s says) (sym made)

lines_sound : (reading more : Reading) (lines : List Numbered) → IsSoundReading reading → Reads reading lines (Ok more) → IsSoundReading more
lines_sound reading more [] is same = let P : Reading → Type 0 = IsSoundReading in subst P (sym same) is
lines_sound reading more (line ∷ lines) is (mid, first, rest) = lines_sound mid more lines (line_sound reading mid line.0 (tokens_of line.1) is first) rest

-- ---- the models of a text

pub sound_design : (text : List ℕ) (design : List ModelValue) → BlifDesign text (Ok design) → AreSoundModels design
sound_design text design (first, has, (reading, reads, (right, are, same))) =
    let sound : AreSoundModels (models_of reading) = models_sound reading (lines_sound start reading (lines_of text) (closed_sound [] no_model) reads) in
    let P : List ModelValue → Type 0 = AreSoundModels in
    subst P (sym same) sound
  where
    no_model : AreSoundModels []
    no_model model has = let got = has.1 in absurd (cc)
