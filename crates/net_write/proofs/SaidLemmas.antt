-- What a reader makes of the written lines.
use Rattle.std.proofs.Common.{◌≡◌, ◌∙◌, ap, sym, refl, subst, ℕ, suc, ◌+◌, ◌≤◌, ◌==◌, true, false, not, List, [], ◌∷◌, ◌++◌, length, map, Option, None, Some, Ok, codes, arith, append-nil, append_assoc}
use Rattle.std.specs.Prelude.{All, IsTrue, flat_map, nat_lt}
use Rattle.std.specs.List.{AllByRecursion, join_with_byte, list_all}
use Rattle.std.specs.Option.{option_map_or}
use Rattle.std.proofs.lemmas.Bool.Decides.{nat_tests}
use Rattle.std.proofs.lemmas.List.{length-map}
use Rattle.std.proofs.lemmas.Grind.{flat_map-append}
use Rattle.std.proofs.lemmas.List.Folds.{list_all-append}
use Rattle.lists.specs.laws.TestLaws.{equal_itself}
use Rattle.text_core.specs.Lines.{tokens_of}
use Rattle.net_core.specs.GateValue.{GateValue}
use Rattle.net_core.specs.LatchValue.{LatchValue}
use Rattle.net_core.specs.Inside.{GateIsInside, LatchIsInside}
use Rattle.net_core.specs.NetList.{NetList, nets, text_of}
use Rattle.net_core.specs.Sound.{IsSound}
use Rattle.net_core.specs.declared.latch.Start.{Start}
use Rattle.net_core.specs.declared.latch.Start.TheVariants.{Zero, One, Unknown}
use Rattle.net_blif.specs.Cover.{CoverValue, agrees, begun, gate_of, with_row}
use Rattle.net_blif.specs.Latch.{start_of}
use Rattle.net_blif.specs.Models.{Reading, Reads, ReadsLine, may_stand, next, start}
use Rattle.net_blif.specs.Statement.{Token, is_well, spelled}
use Rattle.net_blif.specs.Top.{is_instance}
use Rattle.net_blif.specs.declared.item.Item.{Item}
use Rattle.net_blif.specs.declared.item.Item.TheVariants as kinds
use Rattle.net_blif.specs.declared.statement.Statement.{Statement}
use Rattle.net_blif.specs.declared.statement.Statement.TheVariants.{Model, Inputs, Outputs, Cover, Latch, Row, End}
use Rattle.net_blif.proofs.ReadLemmas.{added}
use Rattle.net_blif.proofs.StatementLemmas.{spelled_read}
use Rattle.net_flat.specs.Steps.{Step, gate_steps, input_steps, latch_steps, output_steps, steps_of}
use Rattle.net_write.specs.Plain.{HasPlainNames}
use Rattle.net_write.specs.Written.{gate_statements, inputs_with, latch_statement, names_of, ones, pattern, rows_of, start_token, statements_of}
use Rattle.net_write.proofs.FieldLemmas.{end_word, fields_append, inputs_word, latch_word, make_field, model_word, name_field, names_fields, names_word, outputs_word, row_line, start_field}
use Rattle.net_write.proofs.LineTextLemmas.{AreFields, IsLine, fields_read, fields_tokens, numbered}
use Rattle.net_write.proofs.RowLemmas.{pattern_cells, pattern_length, rows_say_at, with_rows}

-- the line of a statement, read
abbrev pub Line : Reading → ℕ → Statement → Reading → Type 0
Line old n s new = IsLine (spelled s) × ReadsLine old n (tokens_of (join_with_byte 32 (spelled s))) (Ok new)

tokens_read : (fields : List Token) → IsLine fields → tokens_of (join_with_byte 32 fields) ≡ fields
tokens_read [] line = absurd (omega (arith, line.0))
tokens_read (first ∷ rest) line = fields_read first rest line.1

-- a statement that may stand here
said : (old : Reading) (n : ℕ) (s : Statement) (new : Reading) → IsLine (spelled s) → IsTrue (is_well s) → may_stand old s ≡ true → next old n s ≡ Ok new → Line old n s new
said old n s new line well stands adds =
    let P : List Token → Type 0 = λ tokens. ReadsLine old n tokens (Ok new) in
    (line, subst P (sym (tokens_read (spelled s) line)) (added old n (spelled s) s new (fields_tokens (spelled s) line.1) (spelled_read s well) stands adds))

-- in the model that is written, after these items and this cover
abbrev pub in_make : List Item → Option CoverValue → Reading
in_make items cover = record { models = []; model = Some (record { name = codes "make"; items = items; cover = cover }) }

-- after its end
abbrev pub ended : List Item → Reading
ended items = record { models = record { name = codes "make"; items = items } ∷ []; model = None }

abbrev pub placed_by : List Item → Option CoverValue → List Item
placed_by items cover = option_map_or (λ c. items ++ gate_of c ∷ []) cover items

-- items that are no instances, and what a walk does at them
pub record Walks (placed : List Item) (steps : List (Step Token)) : Type 0 where
  pub steps_are : flat_map (steps_of true) placed ≡ steps
  pub no_instance : list_all (λ item. not (is_instance item)) placed ≡ true

-- one more item
walks_more : (placed : List Item) (steps : List (Step Token)) (item : Item) → Walks placed steps → is_instance item ≡ false → Walks (placed ++ item ∷ []) (steps ++ steps_of true item)
walks_more placed steps item walks other =
    record {
      steps_are = flat_map-append (steps_of true) placed (item ∷ []) ∙ ap (λ (l : List (Step Token)). flat_map (steps_of true) placed ++ l) (append-nil (steps_of true item)) ∙ ap (λ (l : List (Step Token)). l ++ steps_of true item) walks.steps_are;
      no_instance = list_all-append (λ item. not (is_instance item)) placed (item ∷ []) ∙ rw (walks.no_instance, other) refl;
    }

-- the statements from here on are lines and end the model, at whose items a walk does this
abbrev pub Ends : Reading → ℕ → List Statement → List (Step Token) → Type 0
Ends old n statements steps = (items : List Item) × Reads old (numbered n statements) (Ok (ended items)) × Walks items steps × AllByRecursion (λ s. IsLine (spelled s)) statements

one_more : (old mid : Reading) (n : ℕ) (s : Statement) (rest : List Statement) (steps : List (Step Token)) → Line old n s mid → Ends mid (n + 1) rest steps → Ends old n (s ∷ rest) steps
one_more old mid n s rest steps line ends = (ends.0, (mid, line.1, ends.1), ends.2, (line.0, ends.3))

end_read : (items : List Item) (cover : Option CoverValue) (n : ℕ) (steps : List (Step Token)) → Walks (placed_by items cover) steps → Ends (in_make items cover) n (End ∷ []) steps
end_read items cover n steps walks =
    let line : Line (in_make items cover) n End (ended (placed_by items cover)) = said (in_make items cover) n End (ended (placed_by items cover)) (omega arith, (end_word, tt)) refl refl refl in
    (placed_by items cover, (ended (placed_by items cover), line.1, refl), walks, (line.0, tt))

-- rows after a cover
rows_read : (items : List Item) (indexes : List ℕ) (cover : CoverValue) (k : ℕ) (rest : List Statement) (steps : List (Step Token)) → k ≡ length cover.inputs → k ≤ 6 → agrees cover.output true ≡ true
    → ((m : ℕ) → Ends (in_make items (Some (with_rows cover (map (pattern k) indexes)))) m rest steps) → (n : ℕ) → Ends (in_make items (Some cover)) n (map (λ index. Row (pattern k index) true) indexes ++ rest) steps
rows_read items [] cover k rest steps is few agree goes n = goes n
rows_read items (index ∷ indexes) cover k rest steps is few agree goes n =
    let long : (length (pattern k index) == length cover.inputs) ≡ true = let same : length (pattern k index) ≡ length cover.inputs = pattern_length k index ∙ is in rw same (equal_itself (length cover.inputs)) in
    one_more (in_make items (Some cover)) (in_make items (Some (with_row (pattern k index) true cover))) n (Row (pattern k index) true) (map (λ index. Row (pattern k index) true) indexes ++ rest) steps
    (said (in_make items (Some cover)) n (Row (pattern k index) true) (in_make items (Some (with_row (pattern k index) true cover))) (row_line k index few) (pattern_cells k index) (rw (long, agree) refl) refl)
    (rows_read items indexes (with_row (pattern k index) true cover) k rest steps is few refl goes (n + 1))

start_read : (start : Start) → start_of (start_token start ∷ []) ≡ start
start_read Zero = refl
start_read One = refl
start_read Unknown = refl

start_ends : (start : Start) → IsTrue (is_well (Latch [] [] (start_token start ∷ [])))
start_ends Zero = refl
start_ends One = refl
start_ends Unknown = refl

not_wide : (k : ℕ) → k ≤ 6 → nat_lt 6 k ≡ false
not_wide k few = grind (arith, nat_tests)

-- what a walk does at inputs
inputs_read : (names : List Token) → AreFields names → (items : List Item) (cover : Option CoverValue) (n : ℕ) (steps : List (Step Token)) (rest : List Statement) (whole : List (Step Token)) → Walks (placed_by items cover) steps
    → ((m : ℕ) (more : List Item) (next : Option CoverValue) → Walks (placed_by more next) (steps ++ flat_map (input_steps true) names) → Ends (in_make more next) m rest whole) → Ends (in_make items cover) n (inputs_with names ++ rest) whole
inputs_read [] fields items cover n steps rest whole walks goes =
    let P : List (Step Token) → Type 0 = Walks (placed_by items cover) in goes n items cover (subst P (sym (append-nil steps)) walks)
inputs_read (name ∷ names) fields items cover n steps rest whole walks goes =
    let item : Item = kinds.Inputs (name ∷ names) in
    let new : List Item = placed_by items cover ++ item ∷ [] in
    one_more (in_make items cover) (in_make new None) n (Inputs (name ∷ names)) rest whole
    (said (in_make items cover) n (Inputs (name ∷ names)) (in_make new None) (omega arith, (inputs_word, fields)) refl refl refl)
    (goes (n + 1) new None (walks_more (placed_by items cover) steps item walks refl))

outputs_read : (names : List Token) → AreFields names → (items : List Item) (cover : Option CoverValue) (n : ℕ) (steps : List (Step Token)) (rest : List Statement) (whole : List (Step Token)) → Walks (placed_by items cover) steps
    → ((m : ℕ) (more : List Item) (next : Option CoverValue) → Walks (placed_by more next) (steps ++ flat_map (output_steps true) names) → Ends (in_make more next) m rest whole) → Ends (in_make items cover) n (Outputs names ∷ rest) whole
outputs_read names fields items cover n steps rest whole walks goes =
    let item : Item = kinds.Outputs names in
    let new : List Item = placed_by items cover ++ item ∷ [] in
    one_more (in_make items cover) (in_make new None) n (Outputs names) rest whole
    (said (in_make items cover) n (Outputs names) (in_make new None) (omega arith, (outputs_word, fields)) refl refl refl)
    (goes (n + 1) new None (walks_more (placed_by items cover) steps item walks refl))

-- what a walk does at a latch and at a gate
abbrev pub latch_walk : NetList → LatchValue → List (Step Token)
latch_walk net latch = latch_steps (text_of net latch.next) (text_of net latch.out) latch.start

abbrev pub gate_walk : NetList → GateValue → List (Step Token)
gate_walk net gate = gate_steps (names_of net gate.inputs) (text_of net gate.out) gate.table

-- what a walk does at all that stands on a net
abbrev pub net_walk : NetList → List (Step Token)
net_walk net = flat_map (input_steps true) (names_of net net.inputs) ++ flat_map (output_steps true) (names_of net net.outputs) ++ flat_map (latch_walk net) net.latches ++ flat_map (gate_walk net) net.gates

pub each_of : {A : Type 0} (P : A → Type 0) (xs : List A) → All P xs → AllByRecursion P xs
each_of P [] all = tt
each_of P (x ∷ xs) all = (all 0 x (omega arith), each_of P xs (λ k d less. all (suc k) d (omega (arith, less))))

module _ (net : NetList) (sound : IsSound net) (plain : HasPlainNames net) where
  latch_read : (latch : LatchValue) → LatchIsInside (nets net) latch → (items : List Item) (cover : Option CoverValue) (n : ℕ)
      → Line (in_make items cover) n (latch_statement net latch) (in_make (placed_by items cover ++ kinds.Latch n (text_of net latch.next) (text_of net latch.out) latch.start ∷ []) None)
  latch_read latch inside items cover n =
      said (in_make items cover) n (latch_statement net latch) _ (omega arith, (latch_word, (name_field net sound plain latch.next inside.0, (name_field net sound plain latch.out inside.1, (start_field latch.start, tt)))))
      (start_ends latch.start) refl (ap (λ (s : Start). Ok (in_make (placed_by items cover ++ kinds.Latch n (text_of net latch.next) (text_of net latch.out) s ∷ []) None)) (start_read latch.start))

  latches_read : (latches : List LatchValue) → AllByRecursion (LatchIsInside (nets net)) latches → (items : List Item) (cover : Option CoverValue) (n : ℕ) (steps : List (Step Token)) (rest : List Statement) (whole : List (Step Token)) → Walks (placed_by items cover) steps
      → ((m : ℕ) (more : List Item) (next : Option CoverValue) → Walks (placed_by more next) (steps ++ flat_map (latch_walk net) latches) → Ends (in_make more next) m rest whole) → Ends (in_make items cover) n (map (latch_statement net) latches ++ rest) whole
  latches_read [] inside items cover n steps rest whole walks goes =
      let P : List (Step Token) → Type 0 = Walks (placed_by items cover) in goes n items cover (subst P (sym (append-nil steps)) walks)
  latches_read (latch ∷ latches) inside items cover n steps rest whole walks goes =
      let item : Item = kinds.Latch n (text_of net latch.next) (text_of net latch.out) latch.start in
      let new : List Item = placed_by items cover ++ item ∷ [] in
      one_more (in_make items cover) (in_make new None) n (latch_statement net latch) (map (latch_statement net) latches ++ rest) whole (latch_read latch inside.0 items cover n)
      (latches_read latches inside.1 new None (n + 1) (steps ++ latch_walk net latch) rest whole (walks_more (placed_by items cover) steps item walks refl)
      (λ m more next after. let P : List (Step Token) → Type 0 = Walks (placed_by more next) in goes m more next (subst P (append_assoc steps (latch_walk net latch) (flat_map (latch_walk net) latches)) after)))

  gate_read : (gate : GateValue) → GateIsInside (nets net) gate → (items : List Item) (cover : Option CoverValue) (n : ℕ) (steps : List (Step Token)) (rest : List Statement) (whole : List (Step Token)) → Walks (placed_by items cover) steps
      → ((m : ℕ) (next : CoverValue) → Walks (placed_by (placed_by items cover) (Some next)) (steps ++ gate_walk net gate) → Ends (in_make (placed_by items cover) (Some next)) m rest whole) → Ends (in_make items cover) n (gate_statements net gate ++ rest) whole
  gate_read gate inside items cover n steps rest whole walks goes =
      let placed : List Item = placed_by items cover in
      let k : ℕ = length gate.inputs in
      let names : List Token = names_of net gate.inputs in
      let out : Token = text_of net gate.out in
      let first : CoverValue = begun n names out in
      let last : CoverValue = with_rows first (map (pattern k) (ones k gate.table)) in
      let long : length names ≡ k = length-map gate.inputs (text_of net) in
      let narrow : nat_lt 6 (length names) ≡ false = not_wide (length names) (omega (arith, long, inside.2)) in
      let says : gate_of last ≡ kinds.Gate n names out gate.table = rows_say_at k n names out gate.table long inside.3 in
      let P : Item → Type 0 = λ item. Walks (placed ++ item ∷ []) (steps ++ gate_walk net gate) in
      let after : Walks (placed_by placed (Some last)) (steps ++ gate_walk net gate) = subst P (sym says) (walks_more placed steps (kinds.Gate n names out gate.table) walks refl) in
      one_more (in_make items cover) (in_make placed (Some first)) n (Cover names out) (rows_of k gate.table ++ rest) whole
      (said (in_make items cover) n (Cover names out) (in_make placed (Some first)) (omega arith, (names_word, fields_append names (out ∷ []) (names_fields net sound plain gate.inputs inside.1) (name_field net sound plain gate.out inside.0, tt))) refl refl
      (rw narrow (ap (λ (l : List Item). Ok (in_make l (Some first))) (append-nil placed))))
      (rows_read placed (ones k gate.table) first k rest whole (sym long) inside.2 refl (λ m. goes m last after) (n + 1))

  gates_read : (gates : List GateValue) → AllByRecursion (GateIsInside (nets net)) gates → (items : List Item) (cover : Option CoverValue) (n : ℕ) (steps : List (Step Token)) → Walks (placed_by items cover) steps
      → Ends (in_make items cover) n (flat_map (gate_statements net) gates ++ End ∷ []) (steps ++ flat_map (gate_walk net) gates)
  gates_read [] inside items cover n steps walks =
      let P : List (Step Token) → Type 0 = Walks (placed_by items cover) in end_read items cover n (steps ++ []) (subst P (sym (append-nil steps)) walks)
  gates_read (gate ∷ gates) inside items cover n steps walks =
      let rest : List Statement = flat_map (gate_statements net) gates ++ End ∷ [] in
      let more : List (Step Token) = flat_map (gate_walk net) gates in
      let P : List Statement → Type 0 = λ l. Ends (in_make items cover) n l (steps ++ (gate_walk net gate ++ more)) in
      subst P (sym (append_assoc (gate_statements net gate) (flat_map (gate_statements net) gates) (End ∷ [])))
      (gate_read gate inside.0 items cover n steps rest (steps ++ (gate_walk net gate ++ more)) walks
      (λ m next after. let Q : List (Step Token) → Type 0 = λ l. Ends (in_make (placed_by items cover) (Some next)) m rest l in
      subst Q (append_assoc steps (gate_walk net gate) more) (gates_read gates inside.1 (placed_by items cover) (Some next) m (steps ++ gate_walk net gate) after)))

  -- the statements of a net are lines, and say a model at whose items a walk does what the net asks
  pub statements_read : Ends start 1 (statements_of net) (net_walk net)
  statements_read =
      let none : Walks (placed_by [] None) [] = record { steps_are = refl; no_instance = refl } in
      let rest : List Statement = flat_map (gate_statements net) net.gates ++ End ∷ [] in
      one_more start (in_make [] None) 1 (Model (codes "make")) _ (net_walk net)
      (said start 1 (Model (codes "make")) (in_make [] None) (omega arith, (model_word, (make_field, tt))) refl refl refl)
      (inputs_read (names_of net net.inputs) (names_fields net sound plain net.inputs sound.inside.inputs) [] None (1 + 1) [] _ (net_walk net) none
      (λ m items cover walks. outputs_read (names_of net net.outputs) (names_fields net sound plain net.outputs sound.inside.outputs) items cover m _ _ (net_walk net) walks
      (λ m items cover walks. latches_read net.latches (each_of (LatchIsInside (nets net)) net.latches sound.inside.latches) items cover m _ rest (net_walk net) walks
      (λ m items cover walks. gates_read net.gates (each_of (GateIsInside (nets net)) net.gates sound.inside.gates) items cover m _ walks))))
