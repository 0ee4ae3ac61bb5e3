-- Net lists that are made again with other gates.
use Rattle.std.proofs.Common.{◌≡◌, ◌≢◌, ◌⊎◌, ◌∙◌, ap, ap₂, sym, refl, inl, inr, subst, ℕ, zero, suc, ◌<◌, ◌≤◌, ◌+◌, ◌-◌, Bool, true, false, not, cond, List, [], ◌∷◌, ◌++◌, length, take, map, get_or, Option, Some, None, arith, eq-eqb, true≢false}
use Rattle.std.specs.Prelude.{slice_get, slice_index_or, ◌==◌, ◌&&◌, is_some}
use Rattle.std.specs.Option.{option_map_or}
use Rattle.std.proofs.lemmas.Bool.{ne_eqb}
use Rattle.lists.specs.Lists.{Has, times}
use Rattle.lists.specs.laws.BoolLaws.{both_true}
use Rattle.lists.specs.laws.NumberLaws.{nat_eq_or}
use Rattle.lists.specs.laws.OptionLaws.{same_some}
use Rattle.lists.specs.laws.ReadLaws.{get_below}
use Rattle.net_core.specs.GateValue.{GateValue}
use Rattle.net_core.specs.Inside.{GateIsInside, IsNetName}
use Rattle.net_core.specs.NetList.{NetList, LabelValue, empty, is_named, nets, number_from, number_of, text_of, with_gate, with_label, with_name}
use Rattle.net_core.specs.Sound.{IsSound}
use Rattle.net_core.proofs.DriverLemmas.{gate_inside}
use Rattle.net_simplify.specs.Form.{Form}
use Rattle.net_simplify.specs.Choice.{Forms}
use Rattle.net_simplify.specs.Simplified.{AreForms, IsSimplified, formed, simple_gate, with_forms}
use Rattle.net_simplify.specs.Uses.{uses}
use Rattle.net_simplify.specs.private.Lists.{FormLists, forms_of}
use Rattle.net_simplify.specs.private.Marks.{HasLabelsTo, count_at, gates_by}
use Rattle.net_simplify.specs.private.Underway.{AreMarks, ArePlaced}
use Rattle.net_simplify.proofs.MarkLemmas.{in_order_by}
use Rattle.net_simplify.proofs.PlacedLemmas.{are_placed}
use Rattle.net_simplify.proofs.RewriteLemmas.{IsRewriting}
use Rattle.net_simplify.proofs.SoundLemmas.{is_rewriting, rank_from}
use Rattle.net_simplify.proofs.StepLemmas.{first, parted, rest}
use Rattle.net_core.specs.Order.{IsLevelOrder}

-- ---- whether a net stands among leaves

leaf_here_of : (n : ℕ) (x : ℕ) (xs : List ℕ) → x ≡ n → true ≡ not (times n (x ∷ xs) == 0)
leaf_here_of n x xs same = sym (ap not (ne_eqb (times n (x ∷ xs)) 0 (λ none. omega (arith, none, one))))
  where
    one : ◌≡◌ {A = ℕ} (cond (x == n) 1 0) 1
    one = ap (λ b. cond b 1 0) (eq-eqb x n same)

pub leaf_here : (leaves : List ℕ) (n : ℕ) → 1 ≤ length leaves → first leaves ≡ n → true ≡ not (times n leaves == 0)
leaf_here leaves n long same = leaf_here_of n (first leaves) (rest leaves) same ∙ ap (λ xs. not (times n xs == 0)) (sym (parted leaves long))

pub leaf_later : (leaves : List ℕ) (n : ℕ) (b : Bool) → 1 ≤ length leaves → first leaves ≢ n → b ≡ not (times n (rest leaves) == 0) → b ≡ not (times n leaves == 0)
leaf_later leaves n b long other is =
    is
    ∙ ap (λ k. not (k == 0)) (later (first leaves) (rest leaves) other)
    ∙ ap (λ xs. not (times n xs == 0)) (sym (parted leaves long))
  where
    later : (x : ℕ) (xs : List ℕ) → x ≢ n → times n xs ≡ times n (x ∷ xs)
    later x xs apart = (omega arith) ∙ sym (ap (λ c. cond c 1 0 + times n xs) (ne_eqb x n apart))

pub form_own : (leaves : List ℕ) (n : ℕ) (unit body : Form) (b : Bool) → leaves ≡ unit.leaves → b ≡ not (times n leaves == 0) → b ≡ true → body ≡ cond (times n unit.leaves == 0) unit body
form_own leaves n unit body b same is some = by (times n unit.leaves == 0) (sym some ∙ is ∙ ap (λ ls. not (times n ls == 0)) same)
  where
    by : (c : Bool) → true ≡ not c → body ≡ cond c unit body
    by true e = absurd (true≢false e)
    by false e = refl

pub form_other : (leaves : List ℕ) (n : ℕ) (unit body : Form) (b : Bool) → leaves ≡ unit.leaves → b ≡ not (times n leaves == 0) → b ≡ false → unit ≡ cond (times n unit.leaves == 0) unit body
form_other leaves n unit body b same is none = by (times n unit.leaves == 0) (sym none ∙ is ∙ ap (λ ls. not (times n ls == 0)) same)
  where
    by : (c : Bool) → false ≡ not c → unit ≡ cond c unit body
    by true e = refl
    by false e = absurd (true≢false (sym e))

-- ---- the gates

pub idle_gate : (used : ℕ → ℕ) (forms : Forms) (g : GateValue) (out mark : ℕ) → out ≡ g.out → mark ≡ used out → mark ≡ 0 → simple_gate used forms g ≡ g
idle_gate used forms g out mark same is none = ap (λ c. cond c g (formed g (cond (times g.out (forms.unit g.out).leaves == 0) (forms.unit g.out) (forms.body g.out)))) (eq-eqb (used g.out) 0 (sym (ap used same) ∙ sym is ∙ none))

pub used_gate : (used : ℕ → ℕ) (forms : Forms) (g : GateValue) (out mark : ℕ) (form : Form) → out ≡ g.out → mark ≡ used out → mark ≢ 0 → form ≡ cond (times out (forms.unit out).leaves == 0) (forms.unit out) (forms.body out) → simple_gate used forms g ≡ formed g form
used_gate used forms g out mark form same is some made =
    let inner : ℕ → Form = λ n. cond (times n (forms.unit n).leaves == 0) (forms.unit n) (forms.body n) in
    ap (λ c. cond c g (formed g (inner g.out))) (ne_eqb (used g.out) 0 (λ none. some (is ∙ ap used same ∙ none)))
    ∙ ap (formed g) (ap inner (sym same) ∙ sym made)

gate_parts : (g : GateValue) (out table : ℕ) (inputs : List ℕ) → out ≡ g.out → inputs ≡ g.inputs → table ≡ g.table → ◌≡◌ {A = GateValue} (record { out = out; inputs = inputs; table = table }) g
gate_parts g out table inputs same_out same_inputs same_table i = record { out = same_out i; inputs = same_inputs i; table = same_table i }

-- what is put in for a gate that is not used
pub idle_parts : (used : ℕ → ℕ) (forms : Forms) (g : GateValue) (out mark other table : ℕ) (inputs : List ℕ) → out ≡ g.out → mark ≡ used out → mark ≡ 0 → other ≡ g.out → inputs ≡ g.inputs → table ≡ g.table → ◌≡◌ {A = GateValue} (record { out = other; inputs = inputs; table = table }) (simple_gate used forms g)
idle_parts used forms g out mark other table inputs same is none same_other same_inputs same_table = gate_parts g other table inputs same_other same_inputs same_table ∙ sym (idle_gate used forms g out mark same is none)

-- what is put in for a gate that is used
pub used_parts : (used : ℕ → ℕ) (forms : Forms) (g : GateValue) (out again mark other table : ℕ) (inputs : List ℕ) (form : Form) → out ≡ g.out → mark ≡ used out → mark ≢ 0 → again ≡ g.out → form ≡ cond (times again (forms.unit again).leaves == 0) (forms.unit again) (forms.body again) → other ≡ g.out → inputs ≡ form.leaves → table ≡ form.table → ◌≡◌ {A = GateValue} (record { out = other; inputs = inputs; table = table }) (simple_gate used forms g)
used_parts used forms g out again mark other table inputs form same is some same_again made same_other same_inputs same_table =
    gate_parts (formed g form) other table inputs same_other same_inputs same_table
    ∙ sym (used_gate used forms g again mark form same_again (is ∙ ap used (same ∙ sym same_again)) some made)

-- ---- the labels

number_least : (k : ℕ) (labels : List LabelValue) (name : List ℕ) (n : ℕ) → number_from k labels name ≡ Some n → k ≤ n
number_least k [] name n found = absurd (cc)
number_least k (l ∷ labels) name n found = by (is_named name l) found (λ e. number_least (k + 1) labels name n e)
  where
    by : (b : Bool) → cond b (Some k) (number_from (k + 1) labels name) ≡ Some n → (number_from (k + 1) labels name ≡ Some n → k + 1 ≤ n) → k ≤ n
    by true e rest = omega (arith, same_some k n e)
    by false e rest = omega (arith, rest e)

-- the net that is found by a name has it, and none before has
found_first : (k : ℕ) (labels : List LabelValue) (name : List ℕ) (i m : ℕ) (label : LabelValue) → m ≡ k + i → number_from k labels name ≡ Some m → slice_get labels i ≡ Some label → (is_named name label ≡ true) × (number_from k (take i labels) name ≡ None)
found_first k [] name i m label sum found got = absurd (cc)
found_first k (l ∷ labels) name zero m label sum found got = by (is_named name l) refl found
  where
    same : l ≡ label
    same = same_some l label got

    by : (b : Bool) → is_named name l ≡ b → cond b (Some k) (number_from (k + 1) labels name) ≡ Some m → (is_named name label ≡ true) × (number_from k [] name ≡ None)
    by true test e = (ap (is_named name) (sym same) ∙ test, refl)
    by false test e = absurd (omega (arith, number_least (k + 1) labels name m e, sum))
found_first k (l ∷ labels) name (suc i) m label sum found got = by (is_named name l) found (λ e. found_first (k + 1) labels name i m label (omega (arith, sum)) e got)
  where
    by : (b : Bool) → cond b (Some k) (number_from (k + 1) labels name) ≡ Some m → (number_from (k + 1) labels name ≡ Some m → (is_named name label ≡ true) × (number_from (k + 1) (take i labels) name ≡ None)) → (is_named name label ≡ true) × (cond b (Some k) (number_from (k + 1) (take i labels) name) ≡ None)
    by true e rest = absurd (omega (arith, same_some k m e, sum))
    by false e rest = rest e

take_more : (labels : List LabelValue) (i : ℕ) (label : LabelValue) → slice_get labels i ≡ Some label → take (i + 1) labels ≡ take i labels ++ label ∷ []
take_more labels i label got = (let next : i + 1 ≡ suc i = omega arith in ap (λ k. take k labels) next) ∙ by labels i got
  where
    by : (ls : List LabelValue) (k : ℕ) → slice_get ls k ≡ Some label → take (suc k) ls ≡ take k ls ++ label ∷ []
    by [] k at = absurd (cc)
    by (l ∷ ls) zero at = ap (λ x. x ∷ []) (same_some l label at)
    by (l ∷ ls) (suc k) at = ap (λ xs. l ∷ xs) (by ls k at)

label_at : (net : NetList) (n : ℕ) → n < nets net → (label : LabelValue) × (slice_get net.labels n ≡ Some label) × (text_of net n ≡ label.text)
label_at net n less =
    let at = get_below net.labels n less in
    (at.0, at.1, ap (λ o. option_map_or (λ (l : LabelValue). l.text) o []) at.1)

-- a net that is found by its label has it as its name
pub label_name : (net : NetList) (n : ℕ) (text : List ℕ) → IsSound net → n < nets net → text ≡ text_of net n → number_of net (text_of net n) ≡ Some n → IsNetName text
label_name net n text sound less is found_by =
    let found : number_of net text ≡ Some n = ap (number_of net) is ∙ found_by in
    let at = label_at net n less in
    let named = both_true at.0.named _ (found_first 0 net.labels text n n at.0 (omega arith) found at.1).0 in
    let P : List ℕ → Type 0 = IsNetName in
    subst P (sym (is ∙ at.2)) (sound.inside.names n at.0 at.1 named.0).0

pub name_added : (net : NetList) (n : ℕ) (text : List ℕ) (old new : NetList) → IsSound net → n < nets net → text ≡ text_of net n → number_of net (text_of net n) ≡ Some n → HasLabelsTo net n old → new ≡ with_name old text → HasLabelsTo net (n + 1) new
name_added net n text old new sound less is found_by have made =
    let found : number_of net text ≡ Some n = ap (number_of net) is ∙ found_by in
    let at = label_at net n less in
    let found_here = found_first 0 net.labels text n n at.0 (omega arith) found at.1 in
    let named = both_true at.0.named _ found_here.0 in
    let none : number_of old text ≡ None = ap (λ (x : NetList). number_of x text) have ∙ found_here.1 in
    let label : ◌≡◌ {A = LabelValue} (record { text = text; named = true }) at.0 = label_same at.0 (is ∙ at.2) (sym named.0) in
    made
    ∙ ap (λ b. cond b old (with_label old text true)) (ap is_some none)
    ∙ ap (λ (x : NetList). record x { labels = x.labels ++ record { text = text; named = true } ∷ [] }) have
    ∙ ap (λ (l : LabelValue). record empty { labels = take n net.labels ++ l ∷ [] }) label
    ∙ ap (λ (ls : List LabelValue). record empty { labels = ls }) (sym (take_more net.labels n at.0 at.1))
  where
    label_same : (l : LabelValue) → text ≡ l.text → true ≡ l.named → ◌≡◌ {A = LabelValue} (record { text = text; named = true }) l
    label_same l same name i = record { text = same i; named = name i }

pub fresh_added : (net : NetList) (n : ℕ) (text : List ℕ) (old new : NetList) → IsSound net → n < nets net → text ≡ text_of net n → number_of net (text_of net n) ≢ Some n → HasLabelsTo net n old → new ≡ with_label old text false → HasLabelsTo net (n + 1) new
fresh_added net n text old new sound less is other have made =
    let at = label_at net n less in
    made
    ∙ ap (λ (x : NetList). record x { labels = x.labels ++ record { text = text; named = false } ∷ [] }) have
    ∙ ap (λ (l : LabelValue). record empty { labels = take n net.labels ++ l ∷ [] }) (label_same at.0 (is ∙ at.2) (unnamed at.0 at.1 (is ∙ at.2) at.0.named refl))
    ∙ ap (λ (ls : List LabelValue). record empty { labels = ls }) (sym (take_more net.labels n at.0 at.1))
  where
    label_same : (l : LabelValue) → text ≡ l.text → false ≡ l.named → ◌≡◌ {A = LabelValue} (record { text = text; named = false }) l
    label_same l same name i = record { text = same i; named = name i }

    unnamed : (l : LabelValue) → slice_get net.labels n ≡ Some l → text ≡ l.text → (b : Bool) → l.named ≡ b → false ≡ l.named
    unnamed l got same true e = absurd (other (ap (number_of net) (sym is ∙ same) ∙ (sound.inside.names n l got e).1))
    unnamed l got same false e = sym e

pub labels_all : (net made : NetList) (n : ℕ) → length net.labels ≤ n → HasLabelsTo net n made → made ≡ record empty { labels = net.labels }
labels_all net made n all have = have ∙ ap (λ (ls : List LabelValue). record empty { labels = ls }) (whole net.labels n all)
  where
    whole : (ls : List LabelValue) (k : ℕ) → length ls ≤ k → take k ls ≡ ls
    whole [] zero less = refl
    whole [] (suc k) less = refl
    whole (l ∷ ls) zero less = absurd (omega arith)
    whole (l ∷ ls) (suc k) less = ap (λ xs. l ∷ xs) (whole ls k (omega arith))

-- ---- the whole

simple_by_marks : (net : NetList) (ends marks : List ℕ) (gates : List GateValue) (forms : Forms) → AreMarks net ends gates marks → (g : GateValue) → Has gates g → simple_gate (count_at marks) forms g ≡ simple_gate (uses ends gates) forms g
simple_by_marks net ends marks gates forms are g has =
    ap (λ c. cond c g (formed g (cond (times g.out (forms.unit g.out).leaves == 0) (forms.unit g.out) (forms.body g.out)))) (test (nat_eq_or (count_at marks g.out) 0))
  where
    test : (count_at marks g.out ≡ 0) ⊎ (count_at marks g.out ≢ 0) → (count_at marks g.out == 0) ≡ (uses ends gates g.out == 0)
    test (inl none) = eq-eqb (count_at marks g.out) 0 none ∙ sym (eq-eqb (uses ends gates g.out) 0 (are.idle g has none))
    test (inr some) = ne_eqb (count_at marks g.out) 0 some ∙ sym (ne_eqb (uses ends gates g.out) 0 (are.used g has some))

mapped_by : (f h : GateValue → GateValue) (gates : List GateValue) → ((g : GateValue) → Has gates g → f g ≡ h g) → map f gates ≡ map h gates
mapped_by f h [] each = refl
mapped_by f h (g ∷ gates) each = ap₂ (λ (x : GateValue) (xs : List GateValue). x ∷ xs) (each g (0, refl)) (mapped_by f h gates (λ x has. each x (suc has.0, has.1)))

-- each new gate stands on nets that exist
pub made_inside : (net : NetList) (ends marks : List ℕ) (gates : List GateValue) (forms : Forms) → IsSound net → ArePlaced net gates → AreMarks net ends gates marks → AreForms net ends gates forms → (g : GateValue) → Has net.gates g → GateIsInside (nets net) (simple_gate (count_at marks) forms g)
made_inside net ends marks gates forms sound placed marked are g has =
    let P : GateValue → Type 0 = GateIsInside (nets net) in
    subst P (sym (simple_by_marks net ends marks gates forms marked g (placed.all g has))) ((is_rewriting net ends gates forms sound placed are).inside g has)

pub made_simplified : (net made : NetList) (ends marks order : List ℕ) (forms : Forms) → IsLevelOrder net order → ArePlaced net (gates_by net.gates order) → AreMarks net ends (gates_by net.gates order) marks → AreForms net ends (gates_by net.gates order) forms → made ≡ record net { gates = map (simple_gate (count_at marks) forms) net.gates } → IsSimplified ends net made
made_simplified net made ends marks order forms is placed marked are equal = record {
  gates = gates_by net.gates order;
  in_order = in_order_by net order is;
  forms = forms;
  are = are;
  made = equal ∙ ap (λ (gs : List GateValue). record net { gates = gs }) (mapped_by (simple_gate (count_at marks) forms) (simple_gate (uses ends (gates_by net.gates order)) forms) net.gates (λ g has. simple_by_marks net ends marks (gates_by net.gates order) forms marked g (placed.all g has)));
}

-- ---- one round

marked_by : (net : NetList) (ends order first marks : List ℕ) → net.latches ≡ [] → first ≡ order → (net.latches ≡ [] → AreMarks net ends (gates_by net.gates first) marks) → AreMarks net ends (gates_by net.gates order) marks
marked_by net ends order first marks flat same marked = let P : List ℕ → Type 0 = λ o. AreMarks net ends (gates_by net.gates o) marks in subst P same (marked flat)

forms_by : (net : NetList) (ends order second marks third : List ℕ) (forms : Forms) → second ≡ order → third ≡ marks → AreMarks net ends (gates_by net.gates order) marks → (AreMarks net ends (gates_by net.gates second) third → AreForms net ends (gates_by net.gates second) forms) → AreForms net ends (gates_by net.gates order) forms
forms_by net ends order second marks third forms same same_marks marked are =
    let P : List ℕ → Type 0 = λ o. AreMarks net ends (gates_by net.gates o) marks → AreForms net ends (gates_by net.gates o) forms in
    let Q : List ℕ → Type 0 = λ ms. AreMarks net ends (gates_by net.gates second) ms → AreForms net ends (gates_by net.gates second) forms in
    (subst P same (subst Q same_marks are)) marked

pub round_inside : (net : NetList) (ends order first second marks third fourth : List ℕ) (known : FormLists) → IsSound net → net.latches ≡ [] → IsLevelOrder net order → first ≡ order → second ≡ order → third ≡ marks → fourth ≡ marks
    → (net.latches ≡ [] → AreMarks net ends (gates_by net.gates first) marks)
    → ((es : List ℕ) → AreMarks net es (gates_by net.gates second) third → AreForms net es (gates_by net.gates second) (forms_of known))
    → (g : GateValue) → Has net.gates g → GateIsInside (nets net) (simple_gate (count_at fourth) (forms_of known) g)
round_inside net ends order first second marks third fourth known sound flat is one two three four marked_fact forms_fact g has =
    let marked = marked_by net ends order first marks flat one marked_fact in
    let are = forms_by net ends order second marks third (forms_of known) two three marked (forms_fact ends) in
    let placed = are_placed net (gates_by net.gates order) sound (in_order_by net order is) in
    let P : List ℕ → Type 0 = λ ms. GateIsInside (nets net) (simple_gate (count_at ms) (forms_of known) g) in
    subst P (sym four) (made_inside net ends marks (gates_by net.gates order) (forms_of known) sound placed marked are g has)

pub round_is : (net made : NetList) (ends order first second marks third fourth : List ℕ) (known : FormLists) → IsSound net → net.latches ≡ [] → IsLevelOrder net order → first ≡ order → second ≡ order → third ≡ marks → fourth ≡ marks
    → (net.latches ≡ [] → AreMarks net ends (gates_by net.gates first) marks)
    → ((es : List ℕ) → AreMarks net es (gates_by net.gates second) third → AreForms net es (gates_by net.gates second) (forms_of known))
    → made ≡ record net { gates = map (simple_gate (count_at fourth) (forms_of known)) net.gates } → IsSimplified ends net made
round_is net made ends order first second marks third fourth known sound flat is one two three four marked_fact forms_fact equal =
    let marked = marked_by net ends order first marks flat one marked_fact in
    let are = forms_by net ends order second marks third (forms_of known) two three marked (forms_fact ends) in
    let placed = are_placed net (gates_by net.gates order) sound (in_order_by net order is) in
    let P : List ℕ → Type 0 = λ ms. made ≡ record net { gates = map (simple_gate (count_at ms) (forms_of known)) net.gates } in
    made_simplified net made ends marks order (forms_of known) is placed marked are (subst P four equal)
