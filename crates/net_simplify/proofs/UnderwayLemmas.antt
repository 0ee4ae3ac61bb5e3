-- Units and bodies, gate by gate.
use Rattle.std.proofs.Common.{◌≡◌, ◌≢◌, ◌⊎◌, ◌∙◌, ap, ap₂, sym, refl, inl, inr, subst, ℕ, zero, suc, ◌<◌, ◌≤◌, ◌+◌, ◌-◌, ◌*◌, ◌/◌, ◌%◌, ◌^◌, Bool, true, false, not, cond, List, [], ◌∷◌, length, map, bytes_eq, Option, Some, None, arith}
use Rattle.std.specs.Prelude.{slice_get, ◌==◌}
use Rattle.std.specs.Int.{bit_at}
use Rattle.lists.specs.laws.NumberLaws.{nat_eq_or}
use Rattle.net_core.specs.GateValue.{GateValue}
use Rattle.lists.specs.Lists.{Has}
use Rattle.net_core.specs.NetList.{NetList, nets}
use Rattle.net_core.specs.Sound.{sources}
use Rattle.net_core.specs.Value.{bit_of, index_of}
use Rattle.net_simplify.specs.Form.{Form, value, DependsOn, IsComposed, IsForm, complement, itself}
use Rattle.net_simplify.specs.Uses.{is_single, uses}
use Rattle.net_simplify.specs.Choice.{Forms, IsChosen, taken}
use Rattle.net_simplify.specs.Simplified.{AreForms, AreTwins, IsFirst, IsReduced, IsShared, IsUnitBy}
use Rattle.net_simplify.specs.private.Catalog.{IsCatalog, IsFound, net_of, twin_key}
use Rattle.net_simplify.specs.private.Lists.{FormLists, form_at, forms_of}
use Rattle.net_simplify.specs.private.Underway.{AreFormsTo, ArePlaced, Extends, IsDone, IsEarlier, IsStep, IsUnderway, Keeps}
use Rattle.net_simplify.specs.declared.catalog.Catalog.{Catalog}
use Rattle.net_simplify.proofs.CatalogLemmas.{catalog_added, catalog_found, catalog_idle, catalog_more}
use Rattle.net_simplify.proofs.FormLemmas.{HasLeaf, complement_form, complement_value, composed_leaf, forms_same, itself_form, itself_value}
use Rattle.net_simplify.proofs.ListLemmas.{has_cons, has_none}
use Rattle.net_simplify.proofs.MeaningLemmas.{IsKnown, StandsOn, composed_stands, early_known, earlier_more, settled_to}
use Rattle.net_simplify.proofs.OneLemmas.{Agree, gives_moved, mapped_same, taken_same}
use Rattle.net_simplify.proofs.TwinLemmas.{complement_twice}
use Rattle.net_simplify.proofs.UseLemmas.{inputs_used}

-- ---- forms of one leaf

-- a form of one net is the net or its complement
pub one_leaf : (form : Form) (m : ℕ) → IsForm form → form.leaves ≡ m ∷ [] → (form ≡ itself m) ⊎ (form ≡ complement (itself m))
one_leaf form m is leaves = by form.table refl (let P : List ℕ → Type 0 = λ ls. form.table < 2 ^ (2 ^ length ls) in subst P leaves is.fits)
  where
    with_table : (t : ℕ) → form.table ≡ t → form ≡ record { leaves = m ∷ []; table = t }
    with_table t e = ap₂ (λ (l : List ℕ) (u : ℕ). record { leaves = l; table = u }) leaves e

    constant : (t : ℕ) → form.table ≡ t → ((b : Bool) → (bit_at t (cond b 1 0 + 2 * 0) == 1) ≡ (bit_at t (cond true 1 0 + 2 * 0) == 1)) → ⊥
    constant t e same =
        let d = is.depends m (let P : List ℕ → Type 0 = λ ls. Has ls m in subst P (sym leaves) (0, refl)) in
        let P : Form → Type 0 = λ f. value d.bits f ≢ value d.other f in
        (subst P (with_table t e) d.differ) (same (bit_of d.bits m) ∙ sym (same (bit_of d.other m)))

    never : (b : Bool) → (bit_at 0 (cond b 1 0 + 2 * 0) == 1) ≡ (bit_at 0 (cond true 1 0 + 2 * 0) == 1)
    never true = refl
    never false = refl

    always : (b : Bool) → (bit_at 3 (cond b 1 0 + 2 * 0) == 1) ≡ (bit_at 3 (cond true 1 0 + 2 * 0) == 1)
    always true = refl
    always false = refl

    by : (t : ℕ) → form.table ≡ t → form.table < 4 → (form ≡ itself m) ⊎ (form ≡ complement (itself m))
    by zero e fits = absurd (constant 0 e never)
    by (suc zero) e fits = inr (with_table 1 e)
    by (suc (suc zero)) e fits = inl (with_table 2 e)
    by (suc (suc (suc zero))) e fits = absurd (constant 3 e always)
    by (suc (suc (suc (suc t)))) e fits = absurd (omega arith)

same_bit : (b : Bool) → (bit_at 2 (cond b 1 0 + 2 * 0) == 1) ≡ b
same_bit true = refl
same_bit false = refl

turned_bit : (b : Bool) → (bit_at 1 (cond b 1 0 + 2 * 0) == 1) ≡ not b
turned_bit true = refl
turned_bit false = refl

pub composed_itself : (form made : Form) → IsForm form → IsComposed 2 (form ∷ []) made → made ≡ form
composed_itself form made is by = forms_same made form by.is_form is (λ bits. by.same bits ∙ same_bit (value bits form))

pub composed_complement : (form made : Form) → IsForm form → IsComposed 1 (form ∷ []) made → made ≡ complement form
composed_complement form made is by = forms_same made (complement form) by.is_form (complement_form form is) (λ bits. by.same bits ∙ turned_bit (value bits form) ∙ sym (complement_value form is.fits bits))

pub itself_composed : (form : Form) → IsForm form → IsComposed 2 (form ∷ []) form
itself_composed form is = record { is_form = is; same = λ bits. sym (same_bit (value bits form)) }

pub complement_composed : (form : Form) → IsForm form → IsComposed 1 (form ∷ []) (complement form)
complement_composed form is = record { is_form = complement_form form is; same = λ bits. complement_value form is.fits bits ∙ sym (turned_bit (value bits form)) }

pub constant_composed : (form : Form) → IsForm form → form.leaves ≡ [] → IsComposed form.table [] form
constant_composed form is none = record { is_form = is; same = λ bits. ap (λ ls. bit_at form.table (index_of bits ls) == 1) none }

-- ---- what extends the lists

extends_back : (net : NetList) (gates : List GateValue) (i : ℕ) (g : GateValue) (lists new : FormLists) (forms : Forms) → ArePlaced net gates → slice_get gates i ≡ Some g → Keeps lists new g.out → Extends net gates (suc i) new forms → Extends net gates i lists forms
extends_back net gates i g lists new forms placed got keeps ext = record {
  unit = λ n early. ext.unit n (earlier_more net gates i (suc i) n (omega arith) early) ∙ keeps.unit n (other n early);
  body = λ n early. ext.body n (earlier_more net gates i (suc i) n (omega arith) early) ∙ keeps.body n (other n early);
}
  where
    other : (n : ℕ) → IsEarlier net gates i n → n ≢ g.out
    other n (inl source) same = let P : ℕ → Type 0 = Has (sources net) in placed.driven g (i, got) (subst P same source)
    other n (inr (j, h, less, at, out)) same = omega (arith, placed.apart j i h g at got (out ∙ same), less)

here_early : (net : NetList) (gates : List GateValue) (i : ℕ) (g : GateValue) → slice_get gates i ≡ Some g → IsEarlier net gates (suc i) g.out
here_early net gates i g got = inr (i, g, omega arith, got, refl)

chosen_moved : (single : ℕ → Bool) (forms others : Forms) (g : GateValue) (c : Form) → ((opened : ℕ) → taken forms opened g.inputs ≡ taken others opened g.inputs) → IsChosen single forms g c → IsChosen single others g c
chosen_moved single forms others g c same is = record {
  opened = is.opened;
  given = gives_moved forms others g is.opened c (same is.opened) is.given;
  least = λ o other given. is.least o other (gives_moved others forms g o other (sym (same o)) given);
  last = λ o other more given. is.last o other more (gives_moved others forms g o other (sym (same o)) given);
}

inputs_agree : (net : NetList) (ends : List ℕ) (gates : List GateValue) (i : ℕ) (g : GateValue) (lists : FormLists) (catalog : Catalog) (forms : Forms) → IsStep net ends gates i g lists catalog → Extends net gates i lists forms → (opened : ℕ) → taken (forms_of lists) opened g.inputs ≡ taken forms opened g.inputs
inputs_agree net ends gates i g lists catalog forms step ext opened =
    taken_same (forms_of lists) forms g.inputs opened (λ n input. let early = step.placed.inputs i g step.got n input in (sym (ext.unit n early), sym (ext.body n early)))

pub chosen_stands : (net : NetList) (ends : List ℕ) (gates : List GateValue) (i : ℕ) (g : GateValue) (lists : FormLists) (catalog : Catalog) (forms : Forms) (c : Form) → IsStep net ends gates i g lists catalog → Extends net gates i lists forms → IsChosen (is_single net ends gates) forms g c → StandsOn net ends gates i c
chosen_stands net ends gates i g lists catalog forms c step ext chosen =
    let are = step.underway.done forms ext in
    composed_stands net ends gates forms i chosen.opened g c
    (λ n input. early_known net ends gates forms i n are (settled_to net ends gates forms step.placed are i (omega arith)) (inputs_used net ends gates step.placed i g step.got step.used n input) (step.placed.inputs i g step.got n input))
    chosen.given.2

-- one more gate is done
done_more : (net : NetList) (ends : List ℕ) (gates : List GateValue) (i : ℕ) (g : GateValue) (forms : Forms) → slice_get gates i ≡ Some g → AreFormsTo net ends gates forms i → (uses ends gates g.out ≢ 0 → IsDone net ends gates forms g) → AreFormsTo net ends gates forms (suc i)
done_more net ends gates i g forms got are done = record {
  units = are.units;
  bodies = are.bodies;
  each = λ j h less at used. elim (nat_eq_or j i) [
    | inr apart ↦ are.each j h (omega (arith, less, apart)) at used
    | inl same ↦
        let at' : slice_get gates i ≡ Some h = rw (← same) at in
        let e : g ≡ h = cc in
        let P : GateValue → Type 0 = λ x. uses ends gates x.out ≢ 0 → IsDone net ends gates forms x in
        (subst P e done) used
  ];
}

-- a gate that is not used
pub step_idle : (net : NetList) (ends : List ℕ) (gates : List GateValue) (i : ℕ) (g : GateValue) (lists : FormLists) (catalog : Catalog) → slice_get gates i ≡ Some g → uses ends gates g.out ≡ 0 → IsUnderway net ends gates i lists catalog → IsUnderway net ends gates (suc i) lists catalog
step_idle net ends gates i g lists catalog got none is = record {
  long = is.long;
  done = λ forms ext. done_more net ends gates i g forms got (is.done forms (less forms ext)) (λ used. absurd (used none));
  bodies = λ forms ext. catalog_idle (uses ends gates) gates i forms catalog g got none (is.bodies forms (less forms ext));
}
  where
    less : (forms : Forms) → Extends net gates (suc i) lists forms → Extends net gates i lists forms
    less forms ext = record { unit = λ n early. ext.unit n (earlier_more net gates i (suc i) n (omega arith) early); body = λ n early. ext.body n (earlier_more net gates i (suc i) n (omega arith) early) }

-- ---- bodies of gates whose function has one leaf

-- what a function of one leaf makes of this net's body: the body or its complement
reduced_body : (forms : Forms) (c body : Form) (m : ℕ) → IsForm c → c.leaves ≡ m ∷ [] → IsForm (forms.body m) → IsComposed c.table (map forms.body c.leaves) body → (body ≡ forms.body m) ⊎ (body ≡ complement (forms.body m))
reduced_body forms c body m is leaves is_body by =
    let P : Form → Type 0 = λ f. IsComposed f.table (map forms.body f.leaves) body in
    elim (one_leaf c m is leaves) [
      | inl same ↦ inl (composed_itself (forms.body m) body is_body (subst P same by))
      | inr turned ↦ inr (composed_complement (forms.body m) body is_body (subst P turned by))
    ]

twins_over : (body inner form : Form) → IsForm inner → IsForm form → (body ≡ inner) ⊎ (body ≡ complement inner) → AreTwins body form → AreTwins inner form
twins_over body inner form is is' (inl same) twins = let P : Form → Type 0 = λ f. AreTwins f form in subst P same twins
twins_over body inner form is is' (inr same) (inl equal) = inr (sym (complement_twice inner is) ∙ ap complement (sym same ∙ equal))
twins_over body inner form is is' (inr same) (inr equal) = inl (sym (complement_twice inner is) ∙ ap complement (sym same ∙ equal) ∙ complement_twice form is')

twins_long : (body form : Form) → AreTwins body form → length body.leaves ≡ length form.leaves
twins_long body form (inl same) = ap (λ (f : Form). length f.leaves) same
twins_long body form (inr same) = ap (λ (f : Form). length f.leaves) same

over_long : (body inner : Form) → (body ≡ inner) ⊎ (body ≡ complement inner) → length body.leaves ≡ length inner.leaves
over_long body inner (inl same) = ap (λ (f : Form). length f.leaves) same
over_long body inner (inr same) = ap (λ (f : Form). length f.leaves) same

some_leaf : (ls : List ℕ) → 2 ≤ length ls → (n : ℕ) × Has ls n
some_leaf [] more = absurd (omega arith)
some_leaf (n ∷ ls) more = (n, (0, refl))

-- a body of two leaves or more has a twin before
reduced_sooner : (net : NetList) (ends : List ℕ) (gates : List GateValue) (i : ℕ) (forms : Forms) (c body form : Form) (ls : List ℕ) → c.leaves ≡ ls → ArePlaced net gates → AreFormsTo net ends gates forms i → IsForm c → length c.leaves ≤ 1 → StandsOn net ends gates i c → IsComposed c.table (map forms.body c.leaves) body → IsForm form → 2 ≤ length form.leaves → AreTwins body form
    → (j : ℕ) × (h : GateValue) × (j < i) × (slice_get gates j ≡ Some h) × (uses ends gates h.out ≢ 0) × AreTwins (forms.body h.out) form
reduced_sooner net ends gates i forms c body form [] leaves placed are is few stands by is' more twins =
    let at = some_leaf body.leaves (omega (arith, more, twins_long body form twins)) in
    let P : List ℕ → Type 0 = λ xs. HasLeaf (map forms.body xs) at.0 in
    let none : HasLeaf [] at.0 = subst P leaves (composed_leaf c.table (map forms.body c.leaves) body by at.0 at.1) in
    absurd (has_none none.0 none.1)
reduced_sooner net ends gates i forms c body form (m ∷ n ∷ ls) leaves placed are is few stands by is' more twins = absurd (omega (arith, few, ap (λ (xs : List ℕ). length xs) leaves))
reduced_sooner net ends gates i forms c body form (m ∷ []) leaves placed are is few stands by is' more twins =
    let P : List ℕ → Type 0 = λ xs. Has xs m in
    let s = stands m (subst P (sym leaves) (0, refl)) in
    cases s.0 s.1
  where
    cases : uses ends gates m ≢ 0 → IsEarlier net gates i m → (j : ℕ) × (h : GateValue) × (j < i) × (slice_get gates j ≡ Some h) × (uses ends gates h.out ≢ 0) × AreTwins (forms.body h.out) form
    cases used (inl source) =
        let same : forms.body m ≡ itself m = are.bodies m source in
        let F : Form → Type 0 = IsForm in
        let over = reduced_body forms c body m is leaves (subst F (sym same) (itself_form m)) by in
        absurd (omega (arith, more, twins_long body form twins, over_long body (forms.body m) over, ap (λ (f : Form). length f.leaves) same))
    cases used (inr (j, h, less, got, out)) =
        let U : ℕ → Type 0 = λ x. uses ends gates x ≢ 0 in
        let used_h : uses ends gates h.out ≢ 0 = subst U (sym out) used in
        let F : ℕ → Type 0 = λ x. IsForm (forms.body x) in
        let T : ℕ → Type 0 = λ x. AreTwins (forms.body x) form in
        let is_body : IsForm (forms.body m) = subst F out (settled_to net ends gates forms placed are i (omega arith) j h less got used_h).body_form in
        (j, h, less, got, used_h, subst T (sym out) (twins_over body (forms.body m) form is_body is' (reduced_body forms c body m is leaves is_body by) twins))

-- a gate whose function has one leaf at most
pub step_reduced : (net : NetList) (ends : List ℕ) (gates : List GateValue) (i : ℕ) (g : GateValue) (lists new : FormLists) (catalog : Catalog) (c : Form) → IsStep net ends gates i g lists catalog → IsChosen (is_single net ends gates) (forms_of lists) g c → length c.leaves ≤ 1
    → Keeps lists new g.out → form_at new.units g.out ≡ c → IsComposed c.table (map (form_at lists.bodies) c.leaves) (form_at new.bodies g.out) → IsUnderway net ends gates (suc i) new catalog
step_reduced net ends gates i g lists new catalog c step chosen few keeps unit body = record {
  long = keeps.long ∙ step.underway.long;
  done = λ forms ext. done_more net ends gates i g forms step.got (step.underway.done forms (back forms ext)) (λ used. (c, moved forms ext, inl (reduced forms ext)));
  bodies = λ forms ext. catalog_more (uses ends gates) gates i forms catalog g step.got (λ form is more used twins. reduced_sooner net ends gates i forms c (forms.body g.out) form c.leaves refl step.placed (step.underway.done forms (back forms ext)) chosen.given.2.is_form few (stands forms ext) (body_of forms ext) is more twins) (step.underway.bodies forms (back forms ext));
}
  where
    back : (forms : Forms) → Extends net gates (suc i) new forms → Extends net gates i lists forms
    back forms ext = extends_back net gates i g lists new forms step.placed step.got keeps ext

    moved : (forms : Forms) → Extends net gates (suc i) new forms → IsChosen (is_single net ends gates) forms g c
    moved forms ext = chosen_moved (is_single net ends gates) (forms_of lists) forms g c (inputs_agree net ends gates i g lists catalog forms step (back forms ext)) chosen

    stands : (forms : Forms) → Extends net gates (suc i) new forms → StandsOn net ends gates i c
    stands forms ext = chosen_stands net ends gates i g lists catalog forms c step (back forms ext) (moved forms ext)

    body_of : (forms : Forms) → Extends net gates (suc i) new forms → IsComposed c.table (map forms.body c.leaves) (forms.body g.out)
    body_of forms ext =
        let bodies : map (form_at lists.bodies) c.leaves ≡ map forms.body c.leaves = mapped_same (forms_of lists) forms c.leaves (λ n leaf. sym ((back forms ext).body n (stands forms ext n leaf).1)) in
        let P : List Form → Type 0 = λ fs. IsComposed c.table fs (form_at new.bodies g.out) in
        let Q : Form → Type 0 = IsComposed c.table (map forms.body c.leaves) in
        subst Q (sym (ext.body g.out (here_early net gates i g step.got))) (subst P bodies body)

    reduced : (forms : Forms) → Extends net gates (suc i) new forms → IsReduced forms c g.out
    reduced forms ext = record { few = few; unit = ext.unit g.out (here_early net gates i g step.got) ∙ unit; body = body_of forms ext }

-- the unit, by the body of the net that is found
pub step_found : (net : NetList) (ends : List ℕ) (gates : List GateValue) (i : ℕ) (g : GateValue) (lists new : FormLists) (catalog : Catalog) (c : Form) (m : ℕ) → IsStep net ends gates i g lists catalog → IsChosen (is_single net ends gates) (forms_of lists) g c → 2 ≤ length c.leaves
    → Keeps lists new g.out → form_at new.bodies g.out ≡ c → net_of catalog (twin_key c) ≡ Some m → IsUnitBy (forms_of lists) c m (form_at new.units g.out) → IsUnderway net ends gates (suc i) new catalog
step_found net ends gates i g lists new catalog c m step chosen more keeps body there unit = record {
  long = keeps.long ∙ step.underway.long;
  done = λ forms ext. done_more net ends gates i g forms step.got (step.underway.done forms (back forms ext)) (λ used. (c, moved forms ext, inr (shared forms ext)));
  bodies = λ forms ext. catalog_found (uses ends gates) gates i forms catalog g c m step.got chosen.given.2.is_form (own forms ext) there (step.underway.bodies forms (back forms ext));
}
  where
    back : (forms : Forms) → Extends net gates (suc i) new forms → Extends net gates i lists forms
    back forms ext = extends_back net gates i g lists new forms step.placed step.got keeps ext

    moved : (forms : Forms) → Extends net gates (suc i) new forms → IsChosen (is_single net ends gates) forms g c
    moved forms ext = chosen_moved (is_single net ends gates) (forms_of lists) forms g c (inputs_agree net ends gates i g lists catalog forms step (back forms ext)) chosen

    own : (forms : Forms) → Extends net gates (suc i) new forms → forms.body g.out ≡ c
    own forms ext = ext.body g.out (here_early net gates i g step.got) ∙ body

    unit_of : (forms : Forms) → Extends net gates (suc i) new forms → (k : ℕ) → k ≡ m → IsEarlier net gates i k → IsUnitBy (forms_of lists) c m (form_at new.units g.out) → IsUnitBy forms c k (forms.unit g.out)
    unit_of forms ext k same early (inl (b, u)) = inl ((back forms ext).body k early ∙ ap (form_at lists.bodies) same ∙ b, ext.unit g.out (here_early net gates i g step.got) ∙ u ∙ ap itself (sym same))
    unit_of forms ext k same early (inr (b, u)) = inr ((back forms ext).body k early ∙ ap (form_at lists.bodies) same ∙ b, ext.unit g.out (here_early net gates i g step.got) ∙ u ∙ ap (λ x. complement (itself x)) (sym same))

    shared : (forms : Forms) → Extends net gates (suc i) new forms → IsShared (uses ends gates) gates forms c g.out
    shared forms ext =
        let P : Option ℕ → Type 0 = IsFound (uses ends gates) gates i forms c in
        let found = subst P there (step.underway.bodies forms (back forms ext) c chosen.given.2.is_form more) in
        let early : IsEarlier net gates i found.0.out = inr (found.1.place, found.0, found.2, found.1.at, refl) in
        record { more = more; body = own forms ext; gate = found.0; first = found.1; unit = unit_of forms ext found.0.out found.3 early unit }

-- a body that is not found
pub step_added : (net : NetList) (ends : List ℕ) (gates : List GateValue) (i : ℕ) (g : GateValue) (lists new : FormLists) (old catalog : Catalog) (c : Form) → IsStep net ends gates i g lists old → IsChosen (is_single net ends gates) (forms_of lists) g c → 2 ≤ length c.leaves
    → Keeps lists new g.out → form_at new.bodies g.out ≡ c → form_at new.units g.out ≡ itself g.out → net_of old (twin_key c) ≡ None
    → ((q : List ℕ) → net_of catalog q ≡ cond (bytes_eq q (twin_key c)) (Some g.out) (net_of old q)) → IsUnderway net ends gates (suc i) new catalog
step_added net ends gates i g lists new old catalog c step chosen more keeps body unit none added = record {
  long = keeps.long ∙ step.underway.long;
  done = λ forms ext. done_more net ends gates i g forms step.got (step.underway.done forms (back forms ext)) (λ used. (c, moved forms ext, inr (shared forms ext)));
  bodies = λ forms ext. catalog_added (uses ends gates) gates i forms old catalog g c step.got step.used chosen.given.2.is_form more (own forms ext) none added (step.underway.bodies forms (back forms ext));
}
  where
    back : (forms : Forms) → Extends net gates (suc i) new forms → Extends net gates i lists forms
    back forms ext = extends_back net gates i g lists new forms step.placed step.got keeps ext

    moved : (forms : Forms) → Extends net gates (suc i) new forms → IsChosen (is_single net ends gates) forms g c
    moved forms ext = chosen_moved (is_single net ends gates) (forms_of lists) forms g c (inputs_agree net ends gates i g lists old forms step (back forms ext)) chosen

    own : (forms : Forms) → Extends net gates (suc i) new forms → forms.body g.out ≡ c
    own forms ext = ext.body g.out (here_early net gates i g step.got) ∙ body

    shared : (forms : Forms) → Extends net gates (suc i) new forms → IsShared (uses ends gates) gates forms c g.out
    shared forms ext =
        let P : Option ℕ → Type 0 = IsFound (uses ends gates) gates i forms c in
        let before = subst P none (step.underway.bodies forms (back forms ext) c chosen.given.2.is_form more) in
        record {
          more = more;
          body = own forms ext;
          gate = g;
          first = record { place = i; at = step.got; is_used = step.used; twins = inl (own forms ext); least = before };
          unit = inl (own forms ext, ext.unit g.out (here_early net gates i g step.got) ∙ unit);
        }

-- at the end all gates are done
pub underway_end : (net : NetList) (ends : List ℕ) (gates : List GateValue) (i : ℕ) (lists : FormLists) (catalog : Catalog) → length gates ≤ i → IsUnderway net ends gates i lists catalog → AreForms net ends gates (forms_of lists)
underway_end net ends gates i lists catalog all is =
    let are = is.done (forms_of lists) (record { unit = λ n early. refl; body = λ n early. refl }) in
    record { units = are.units; bodies = are.bodies; each = λ g has used. are.each has.0 g (omega (arith, within gates has.0 g has.1, all)) has.1 used }
  where
    within : (xs : List GateValue) (k : ℕ) (x : GateValue) → slice_get xs k ≡ Some x → k < length xs
    within [] k x got = absurd (cc)
    within (y ∷ ys) zero x got = omega arith
    within (y ∷ ys) (suc k) x got = omega (arith, within ys k x got)
