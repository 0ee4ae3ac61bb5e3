-- A net has one simplified net at most.
use Rattle.std.proofs.Common.{◌≡◌, ◌≢◌, ◌⊎◌, ◌∙◌, ap, ap₂, sym, refl, inl, inr, subst, ℕ, zero, suc, ◌<◌, ◌≤◌, ◌+◌, ◌-◌, ◌/◌, ◌%◌, Bool, true, false, cond, List, [], ◌∷◌, length, map, Some, arith, eq-eqb}
use Rattle.std.specs.Prelude.{slice_get, ◌==◌}
use Rattle.lists.specs.laws.NumberLaws.{nat_eq_or}
use Rattle.net_core.specs.GateValue.{GateValue}
use Rattle.lists.specs.Lists.{Has, times}
use Rattle.net_core.specs.NetList.{NetList}
use Rattle.net_core.specs.Sound.{IsSound, sources}
use Rattle.net_simplify.specs.Form.{Form, IsForm, IsComposed, complement, itself}
use Rattle.net_simplify.specs.Uses.{uses, is_single}
use Rattle.net_simplify.specs.Choice.{Forms, Gives, IsAdmitted, IsChosen, leaves_of, price, taken}
use Rattle.net_simplify.specs.Simplified.{AreForms, AreTwins, IsFirst, IsReduced, IsShared, IsSimplified, IsUnitBy, formed, simple_gate, with_forms}
use Rattle.net_simplify.proofs.ListLemmas.{has_more}
use Rattle.net_simplify.proofs.FormLemmas.{composed_same, no_complement}
use Rattle.net_simplify.proofs.MeaningLemmas.{IsKnown, StandsOn, all_settled, composed_stands, early_known, first_place, forms_to}
use Rattle.net_simplify.specs.private.Underway.{ArePlaced, IsEarlier}
use Rattle.net_simplify.proofs.PlacedLemmas.{are_placed, in_order_only}
use Rattle.net_simplify.proofs.UseLemmas.{inputs_used}

-- both have the same forms for the net
abbrev pub Agree : Forms → Forms → ℕ → Type 0
Agree forms others n = (forms.unit n ≡ others.unit n) × (forms.body n ≡ others.body n)

pub taken_same : (forms others : Forms) (ns : List ℕ) (opened : ℕ) → ((n : ℕ) → Has ns n → Agree forms others n) → taken forms opened ns ≡ taken others opened ns
taken_same forms others [] opened each = refl
taken_same forms others (n ∷ ns) opened each =
    ap₂ (λ (f : Form) (fs : List Form). f ∷ fs) (ap₂ (λ (u b : Form). cond (opened % 2 == 1) b u) (each n (0, refl)).0 (each n (0, refl)).1) (taken_same forms others ns (opened / 2) (λ m has. each m (has_more n ns m has)))

-- ---- the choice

pub gives_moved : (forms others : Forms) (g : GateValue) (opened : ℕ) (form : Form) → taken forms opened g.inputs ≡ taken others opened g.inputs → Gives forms g opened form → Gives others g opened form
gives_moved forms others g opened form same (within, admitted, composed) =
    let P : List Form → Type 0 = λ fs. length (leaves_of fs) ≤ 4 in
    let Q : List Form → Type 0 = λ fs. IsComposed g.table fs form in
    (within, elim admitted [ inl none ↦ inl none | inr few ↦ inr (subst P same few) ], subst Q same composed)

chosen_same : (single : ℕ → Bool) (forms others : Forms) (g : GateValue) (f h : Form) → ((opened : ℕ) → taken forms opened g.inputs ≡ taken others opened g.inputs) → IsChosen single forms g f → IsChosen single others g h → f ≡ h
chosen_same single forms others g f h same c c' =
    let there = gives_moved others forms g c'.opened h (sym (same c'.opened)) c'.given in
    let back = gives_moved forms others g c.opened f (same c.opened) c.given in
    elim (nat_eq_or c.opened c'.opened) [
      | inl equal ↦
          let P : ℕ → Type 0 = λ o. IsComposed g.table (taken forms o g.inputs) h in
          composed_same g.table (taken forms c.opened g.inputs) f h c.given.2 (subst P (sym equal) there.2)
      | inr apart ↦ elim (nat_eq_or (c.opened - c'.opened) 0) [
        | inl under ↦ absurd (omega (arith, c.last c'.opened h (omega (arith, apart, under)) there, c'.least c.opened f back))
        | inr over ↦ absurd (omega (arith, c'.last c.opened f (omega (arith, over)) back, c.least c'.opened h there))
      ]
    ]

-- ---- the first gate of a body

twins_moved : (body other form : Form) → body ≡ other → AreTwins body form → AreTwins other form
twins_moved body other form same (inl is) = inl (sym same ∙ is)
twins_moved body other form same (inr is) = inr (sym same ∙ is)

-- bodies agree at all places up to i
abbrev AgreeTo : (ℕ → ℕ) → List GateValue → Forms → Forms → ℕ → Type 0
AgreeTo used gates forms others i = (j : ℕ) (g : GateValue) → j < i → slice_get gates j ≡ Some g → used g.out ≢ 0 → Agree forms others g.out

abbrev BodiesTo : (ℕ → ℕ) → List GateValue → Forms → Forms → ℕ → Type 0
BodiesTo used gates forms others i = (j : ℕ) (g : GateValue) → j ≤ i → slice_get gates j ≡ Some g → used g.out ≢ 0 → forms.body g.out ≡ others.body g.out

not_sooner : (used : ℕ → ℕ) (gates : List GateValue) (forms others : Forms) (i : ℕ) (form : Form) (g h : GateValue) → BodiesTo used gates forms others i → (f : IsFirst used gates forms form g) → (f' : IsFirst used gates others form h) → f.place ≤ i → f.place < f'.place → ⊥
not_sooner used gates forms others i form g h same f f' low less =
    f'.least f.place g less f.at f.is_used (twins_moved (forms.body g.out) (others.body g.out) form (same f.place g low f.at f.is_used) f.twins)

first_same : (used : ℕ → ℕ) (gates : List GateValue) (forms others : Forms) (i : ℕ) (form : Form) (g h : GateValue) → BodiesTo used gates forms others i → (f : IsFirst used gates forms form g) → (f' : IsFirst used gates others form h) → f.place ≤ i → f'.place ≤ i → g ≡ h
first_same used gates forms others i form g h same f f' low low' =
    elim (nat_eq_or f.place f'.place) [
      | inl equal ↦ let at : slice_get gates f'.place ≡ Some g = rw (← equal) f.at in let at' : slice_get gates f'.place ≡ Some h = f'.at in cc
      | inr apart ↦ elim (nat_eq_or (f.place - f'.place) 0) [
        | inl under ↦ absurd (not_sooner used gates forms others i form g h same f f' low (omega (arith, apart, under)))
        | inr over ↦ absurd (not_sooner used gates others forms i form h g (λ j x less at is. sym (same j x less at is)) f' f low' (omega (arith, over)))
      ]
    ]

unit_same : (forms others : Forms) (form : Form) (m : ℕ) (u v : Form) → IsForm form → forms.body m ≡ others.body m → IsUnitBy forms form m u → IsUnitBy others form m v → u ≡ v
unit_same forms others form m u v is same (inl (body, unit)) (inl (body', unit')) = unit ∙ sym unit'
unit_same forms others form m u v is same (inr (body, unit)) (inr (body', unit')) = unit ∙ sym unit'
unit_same forms others form m u v is same (inl (body, unit)) (inr (body', unit')) = absurd (no_complement form is (sym body ∙ same ∙ body'))
unit_same forms others form m u v is same (inr (body, unit)) (inl (body', unit')) = absurd (no_complement form is (sym body' ∙ sym same ∙ body))

-- ---- one gate after another

pub mapped_same : (forms others : Forms) (ns : List ℕ) → ((n : ℕ) → Has ns n → forms.body n ≡ others.body n) → map forms.body ns ≡ map others.body ns
mapped_same forms others [] each = refl
mapped_same forms others (n ∷ ns) each = ap₂ (λ (f : Form) (fs : List Form). f ∷ fs) (each n (0, refl)) (mapped_same forms others ns (λ m has. each m (has_more n ns m has)))

early_agree : (net : NetList) (ends : List ℕ) (gates : List GateValue) (forms others : Forms) (i n : ℕ) → AreForms net ends gates forms → AreForms net ends gates others → AgreeTo (uses ends gates) gates forms others i → uses ends gates n ≢ 0 → IsEarlier net gates i n → Agree forms others n
early_agree net ends gates forms others i n are are' all used (inl source) = (are.units n source ∙ sym (are'.units n source), are.bodies n source ∙ sym (are'.bodies n source))
early_agree net ends gates forms others i n are are' all used (inr (j, g, less, got, out)) =
    let P : ℕ → Type 0 = λ m. uses ends gates m ≢ 0 in
    let Q : ℕ → Type 0 = Agree forms others in
    subst Q out (all j g less got (subst P (sym out) used))

shared_agree : (used : ℕ → ℕ) (gates : List GateValue) (forms others : Forms) (i : ℕ) (g : GateValue) (form : Form) → slice_get gates i ≡ Some g → used g.out ≢ 0 → IsForm form → AgreeTo used gates forms others i → IsShared used gates forms form g.out → IsShared used gates others form g.out → (forms.body g.out ≡ others.body g.out) × BodiesTo used gates forms others i
shared_agree used gates forms others i g form got some is all s s' = (
  s.body ∙ sym s'.body,
  λ j h low at is_used. elim (nat_eq_or j i) [
    | inl same ↦
        let at' : slice_get gates i ≡ Some h = rw (← same) at in
        let e : g ≡ h = cc in
        let P : GateValue → Type 0 = λ x. forms.body x.out ≡ others.body x.out in
        subst P e (s.body ∙ sym s'.body)
    | inr apart ↦ (all j h (omega (arith, low, apart)) at is_used).1
  ],
)

gate_agree : (net : NetList) (ends : List ℕ) (gates : List GateValue) (forms others : Forms) (i : ℕ) (g : GateValue) → ArePlaced net gates → AreForms net ends gates forms → AreForms net ends gates others → AgreeTo (uses ends gates) gates forms others i → slice_get gates i ≡ Some g → uses ends gates g.out ≢ 0 → Agree forms others g.out
gate_agree net ends gates forms others i g placed are are' all got used =
    let found = are.each g (i, got) used in
    let found' = are'.each g (i, got) used in
    let same : found.0 ≡ found'.0 = chosen_same (is_single net ends gates) forms others g found.0 found'.0 (λ opened. taken_same forms others g.inputs opened inputs) found.1 found'.1 in
    let P : Form → Type 0 = λ f. IsReduced others f g.out ⊎ IsShared (uses ends gates) gates others f g.out in
    cases found.0 found.1 found.2 (subst P (sym same) found'.2)
  where
    inputs : (n : ℕ) → Has g.inputs n → Agree forms others n
    inputs n input = early_agree net ends gates forms others i n are are' all (inputs_used net ends gates placed i g got used n input) (placed.inputs i g got n input)

    known : (n : ℕ) → Has g.inputs n → IsKnown net ends gates forms i n
    known n input = early_known net ends gates forms i n (forms_to net ends gates forms are i) (all_settled net ends gates forms placed are i) (inputs_used net ends gates placed i g got used n input) (placed.inputs i g got n input)

    cases : (form : Form) → IsChosen (is_single net ends gates) forms g form → IsReduced forms form g.out ⊎ IsShared (uses ends gates) gates forms form g.out → IsReduced others form g.out ⊎ IsShared (uses ends gates) gates others form g.out → Agree forms others g.out
    cases form chosen (inl r) (inl r') =
        let stands : StandsOn net ends gates i form = composed_stands net ends gates forms i chosen.opened g form known chosen.given.2 in
        let bodies : map forms.body form.leaves ≡ map others.body form.leaves = mapped_same forms others form.leaves (λ m leaf. let s = stands m leaf in (early_agree net ends gates forms others i m are are' all s.0 s.1).1) in
        let Q : List Form → Type 0 = λ fs. IsComposed form.table fs (others.body g.out) in
        (r.unit ∙ sym r'.unit, composed_same form.table (map forms.body form.leaves) (forms.body g.out) (others.body g.out) r.body (subst Q (sym bodies) r'.body))
    cases form chosen (inl r) (inr s') = absurd (omega (arith, r.few, s'.more))
    cases form chosen (inr s) (inl r') = absurd (omega (arith, r'.few, s.more))
    cases form chosen (inr s) (inr s') =
        let agree = shared_agree (uses ends gates) gates forms others i g form got used chosen.given.2.is_form all s s' in
        let low = first_place ends gates forms i g s.gate form got used s.body s.first in
        let low' = first_place ends gates others i g s'.gate form got used s'.body s'.first in
        let gate : s.gate ≡ s'.gate = first_same (uses ends gates) gates forms others i form s.gate s'.gate agree.1 s.first s'.first low low' in
        let R : GateValue → Type 0 = λ x. IsUnitBy others form x.out (others.unit g.out) in
        let unit : forms.unit g.out ≡ others.unit g.out = unit_same forms others form s.gate.out (forms.unit g.out) (others.unit g.out) chosen.given.2.is_form (agree.1 s.first.place s.gate low s.first.at s.first.is_used) s.unit (subst R (sym gate) s'.unit) in
        (unit, agree.0)

all_agree : (net : NetList) (ends : List ℕ) (gates : List GateValue) (forms others : Forms) → ArePlaced net gates → AreForms net ends gates forms → AreForms net ends gates others → (i : ℕ) → AgreeTo (uses ends gates) gates forms others i
all_agree net ends gates forms others placed are are' zero j g less got used = absurd (omega arith)
all_agree net ends gates forms others placed are are' (suc i) j g less got used =
    gate_agree net ends gates forms others j g placed are are' (λ k h low at is. all_agree net ends gates forms others placed are are' i k h (omega (arith, low, less)) at is) got used

-- ---- the net lists

simple_same : (used : ℕ → ℕ) (forms others : Forms) (g : GateValue) → (used g.out ≢ 0 → Agree forms others g.out) → simple_gate used forms g ≡ simple_gate used others g
simple_same used forms others g each =
    elim (nat_eq_or (used g.out) 0) [
      | inl none ↦ idle forms none ∙ sym (idle others none)
      | inr some ↦ let a = each some in ap₂ (λ (u b : Form). cond (used g.out == 0) g (formed g (cond (times g.out u.leaves == 0) u b))) a.0 a.1
    ]
  where
    idle : (f : Forms) → used g.out ≡ 0 → simple_gate used f g ≡ g
    idle f none = ap (λ c. cond c g (formed g (cond (times g.out (f.unit g.out).leaves == 0) (f.unit g.out) (f.body g.out)))) (eq-eqb (used g.out) 0 none)

gates_same : (used : ℕ → ℕ) (forms others : Forms) (gates : List GateValue) → ((g : GateValue) → Has gates g → used g.out ≢ 0 → Agree forms others g.out) → map (simple_gate used forms) gates ≡ map (simple_gate used others) gates
gates_same used forms others [] each = refl
gates_same used forms others (g ∷ gates) each =
    ap₂ (λ (x : GateValue) (xs : List GateValue). x ∷ xs) (simple_same used forms others g (each g (0, refl))) (gates_same used forms others gates (λ h has. each h (has_more g gates h has)))

pub one_simple : (ends : List ℕ) (net simple other : NetList) → IsSound net → IsSimplified ends net simple → IsSimplified ends net other → simple ≡ other
one_simple ends net simple other sound is is' =
    let order : is.gates ≡ is'.gates = in_order_only net is.gates is'.gates sound is.in_order is'.in_order in
    let placed = are_placed net is.gates sound is.in_order in
    let P : List GateValue → Type 0 = λ gs. AreForms net ends gs is'.forms in
    let are' : AreForms net ends is.gates is'.forms = subst P (sym order) is'.are in
    let gates : map (simple_gate (uses ends is.gates) is.forms) net.gates ≡ map (simple_gate (uses ends is.gates) is'.forms) net.gates =
    gates_same (uses ends is.gates) is.forms is'.forms net.gates (λ g has used. let at = placed.all g has in all_agree net ends is.gates is.forms is'.forms placed is.are are' (suc at.0) at.0 g (omega arith) at.1 used) in
    is.made
    ∙ ap (λ (gs : List GateValue). record net { gates = gs }) gates
    ∙ ap (λ (gs : List GateValue). with_forms net (uses ends gs) is'.forms) order
    ∙ sym is'.made
