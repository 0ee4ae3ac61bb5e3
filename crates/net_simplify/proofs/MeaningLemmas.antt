-- What units and bodies are: their values, and the nets on which they stand.
use Rattle.std.proofs.Common.{◌≡◌, ◌≢◌, ◌⊎◌, ◌∙◌, ap, ap₂, sym, refl, inl, inr, subst, ℕ, zero, suc, ◌<◌, ◌≤◌, ◌+◌, ◌-◌, ◌*◌, ◌/◌, ◌%◌, Bool, true, false, not, cond, List, [], ◌∷◌, length, map, Some, arith}
use Rattle.std.specs.Prelude.{slice_get, ◌==◌}
use Rattle.std.specs.Int.{bit_at}
use Rattle.lists.specs.laws.NumberLaws.{nat_eq_or}
use Rattle.net_core.specs.GateValue.{GateValue}
use Rattle.lists.specs.Lists.{Has, times}
use Rattle.net_core.specs.NetList.{NetList}
use Rattle.net_core.specs.Sound.{sources}
use Rattle.net_core.specs.Value.{bit_of, index_of, IsRight, IsConsistent}
use Rattle.lists.specs.laws.ReadLaws.{from_map}
use Rattle.net_simplify.specs.Form.{Form, value, IsForm, itself, complement, index_by, IsComposed}
use Rattle.net_simplify.specs.Uses.{uses, is_single}
use Rattle.net_simplify.specs.Choice.{Forms, taken, IsChosen}
use Rattle.net_simplify.specs.Simplified.{AreForms, AreTwins, IsFirst, IsReduced, IsShared, IsUnitBy}
use Rattle.net_simplify.specs.private.Underway.{AreFormsTo}
use Rattle.net_simplify.proofs.ListLemmas.{has_none, has_cons, has_more}
use Rattle.net_simplify.proofs.FormLemmas.{HasLeaf, complement_form, complement_value, composed_leaf, index_by_agree, itself_form, itself_value, no_complement}
use Rattle.net_simplify.specs.private.Underway.{ArePlaced, IsEarlier}
use Rattle.net_simplify.proofs.UseLemmas.{inputs_used}

-- the form stands on used nets that come before place i
abbrev pub StandsOn : NetList → List ℕ → List GateValue → ℕ → Form → Type 0
StandsOn net ends gates i form = (n : ℕ) → Has form.leaves n → (uses ends gates n ≢ 0) × IsEarlier net gates i n

-- the value is the net's bit in each list of bits that agrees with the net list
abbrev pub Means : NetList → Form → ℕ → Type 0
Means net form n = (bits : List Bool) → IsConsistent net bits → value bits form ≡ bit_of bits n

-- what holds of a net's forms, whose gate stands at place i
pub record AreSettled (net : NetList) (ends : List ℕ) (gates : List GateValue) (forms : Forms) (i n : ℕ) : Type 0 where
  pub unit_form : IsForm (forms.unit n)
  pub body_form : IsForm (forms.body n)
  pub unit_means : Means net (forms.unit n) n
  pub body_means : Means net (forms.body n) n
  pub unit_stands : StandsOn net ends gates (suc i) (forms.unit n)
  pub body_stands : StandsOn net ends gates i (forms.body n)

-- ---- sooner and later

pub earlier_more : (net : NetList) (gates : List GateValue) (i j n : ℕ) → i ≤ j → IsEarlier net gates i n → IsEarlier net gates j n
earlier_more net gates i j n less (inl source) = inl source
earlier_more net gates i j n less (inr found) = inr (found.0, found.1, omega (arith, found.2, less), found.3, found.4)

stands_more : (net : NetList) (ends : List ℕ) (gates : List GateValue) (i j : ℕ) (form : Form) → i ≤ j → StandsOn net ends gates i form → StandsOn net ends gates j form
stands_more net ends gates i j form less stands = λ n has. let s = stands n has in (s.0, earlier_more net gates i j n less s.1)

-- the net itself stands where it is
itself_stands : (net : NetList) (ends : List ℕ) (gates : List GateValue) (i n : ℕ) → uses ends gates n ≢ 0 → IsEarlier net gates i n → StandsOn net ends gates i (itself n)
itself_stands net ends gates i n used early = λ m has. elim (has_cons n [] m has) [
  | inl same ↦ let P : ℕ → Type 0 = λ x. (uses ends gates x ≢ 0) × IsEarlier net gates i x in subst P same (used, early)
  | inr none ↦ absurd (has_none m none)
]

-- what holds of an input of a gate at place i: of a source, or of a gate before
pub record IsKnown (net : NetList) (ends : List ℕ) (gates : List GateValue) (forms : Forms) (i n : ℕ) : Type 0 where
  pub unit_means : Means net (forms.unit n) n
  pub body_means : Means net (forms.body n) n
  pub unit_stands : StandsOn net ends gates i (forms.unit n)
  pub body_stands : StandsOn net ends gates i (forms.body n)

-- ---- the forms that are taken

taken_values : (net : NetList) (forms : Forms) (bits : List Bool) (ns : List ℕ) (opened : ℕ) → ((n : ℕ) → Has ns n → (value bits (forms.unit n) ≡ bit_of bits n) × (value bits (forms.body n) ≡ bit_of bits n)) → index_by bits (taken forms opened ns) ≡ index_of bits ns
taken_values net forms bits [] opened each = refl
taken_values net forms bits (n ∷ ns) opened each =
    ap₂ (λ b i. cond b 1 0 + 2 * i) (either (opened % 2 == 1)) (taken_values net forms bits ns (opened / 2) (λ m has. each m (has_more n ns m has)))
  where
    either : (b : Bool) → value bits (cond b (forms.body n) (forms.unit n)) ≡ bit_of bits n
    either true = (each n (0, refl)).1
    either false = (each n (0, refl)).0

taken_leaf : (forms : Forms) (P : ℕ → Type 0) (ns : List ℕ) (opened : ℕ) → ((n : ℕ) → Has ns n → ((m : ℕ) → Has (forms.unit n).leaves m → P m) × ((m : ℕ) → Has (forms.body n).leaves m → P m)) → (m : ℕ) → HasLeaf (taken forms opened ns) m → P m
taken_leaf forms P [] opened each m has = absurd (has_none has.0 has.1)
taken_leaf forms P (n ∷ ns) opened each m has =
    elim (has_cons (cond (opened % 2 == 1) (forms.body n) (forms.unit n)) (taken forms (opened / 2) ns) has.0 has.1) [
      | inl same ↦ either (opened % 2 == 1) (let Q : Form → Type 0 = λ f. Has f.leaves m in subst Q (sym same) has.2)
      | inr rest ↦ taken_leaf forms P ns (opened / 2) (λ k at. each k (has_more n ns k at)) m (has.0, rest, has.2)
    ]
  where
    either : (b : Bool) → Has (cond b (forms.body n) (forms.unit n)).leaves m → P m
    either true leaf = (each n (0, refl)).1 m leaf
    either false leaf = (each n (0, refl)).0 m leaf

-- what is composed of the inputs of a gate has the value of its net
pub composed_means : (net : NetList) (ends : List ℕ) (gates : List GateValue) (forms : Forms) (i opened : ℕ) (g : GateValue) (form : Form) → Has net.gates g → ((n : ℕ) → Has g.inputs n → IsKnown net ends gates forms i n) → IsComposed g.table (taken forms opened g.inputs) form → Means net form g.out
composed_means net ends gates forms i opened g form has known is = λ bits consistent.
    is.same bits
    ∙ ap (λ k. bit_at g.table k == 1) (taken_values net forms bits g.inputs opened (λ n input. ((known n input).unit_means bits consistent, (known n input).body_means bits consistent)))
    ∙ sym (consistent.gates g has)

pub composed_stands : (net : NetList) (ends : List ℕ) (gates : List GateValue) (forms : Forms) (i opened : ℕ) (g : GateValue) (form : Form) → ((n : ℕ) → Has g.inputs n → IsKnown net ends gates forms i n) → IsComposed g.table (taken forms opened g.inputs) form → StandsOn net ends gates i form
composed_stands net ends gates forms i opened g form known is = λ m leaf.
    let P : ℕ → Type 0 = λ x. (uses ends gates x ≢ 0) × IsEarlier net gates i x in
    taken_leaf forms P g.inputs opened (λ n input. ((known n input).unit_stands, (known n input).body_stands)) m (composed_leaf g.table (taken forms opened g.inputs) form is m leaf)

-- ---- one gate after another

-- a source that is used
source_known : {k : ℕ} (net : NetList) (ends : List ℕ) (gates : List GateValue) (forms : Forms) (i n : ℕ) → AreFormsTo net ends gates forms k → Has (sources net) n → uses ends gates n ≢ 0 → IsKnown net ends gates forms i n
source_known net ends gates forms i n are source used =
    let unit = are.units n source in
    let body = are.bodies n source in
    let M : Form → Type 0 = λ f. Means net f n in
    let S : Form → Type 0 = StandsOn net ends gates i in
    let stands = itself_stands net ends gates i n used (inl source) in
    record {
      unit_means = subst M (sym unit) (λ bits consistent. itself_value bits n);
      body_means = subst M (sym body) (λ bits consistent. itself_value bits n);
      unit_stands = subst S (sym unit) stands;
      body_stands = subst S (sym body) stands;
    }

-- all gates before place i
abbrev pub AreAllSettled : NetList → List ℕ → List GateValue → Forms → ℕ → Type 0
AreAllSettled net ends gates forms i = (j : ℕ) (g : GateValue) → j < i → slice_get gates j ≡ Some g → uses ends gates g.out ≢ 0 → AreSettled net ends gates forms j g.out

pub early_known : {k : ℕ} (net : NetList) (ends : List ℕ) (gates : List GateValue) (forms : Forms) (i n : ℕ) → AreFormsTo net ends gates forms k → AreAllSettled net ends gates forms i → uses ends gates n ≢ 0 → IsEarlier net gates i n → IsKnown net ends gates forms i n
early_known net ends gates forms i n are all used (inl source) = source_known net ends gates forms i n are source used
early_known net ends gates forms i n are all used (inr (j, g, less, got, out)) =
    let P : ℕ → Type 0 = λ m. uses ends gates m ≢ 0 in
    let K : ℕ → Type 0 = IsKnown net ends gates forms i in
    let s = all j g less got (subst P (sym out) used) in
    subst K out (record {
      unit_means = s.unit_means;
      body_means = s.body_means;
      unit_stands = stands_more net ends gates (suc j) i (forms.unit g.out) (omega (arith, less)) s.unit_stands;
      body_stands = stands_more net ends gates j i (forms.body g.out) (omega (arith, less)) s.body_stands;
    })

-- the value of a function of the bodies of nets
mapped_values : (forms : Forms) (bits : List Bool) (ns : List ℕ) → ((n : ℕ) → Has ns n → value bits (forms.body n) ≡ bit_of bits n) → index_by bits (map forms.body ns) ≡ index_of bits ns
mapped_values forms bits [] each = refl
mapped_values forms bits (n ∷ ns) each = ap₂ (λ b i. cond b 1 0 + 2 * i) (each n (0, refl)) (mapped_values forms bits ns (λ m has. each m (has_more n ns m has)))

reduced_settled : {k : ℕ} (net : NetList) (ends : List ℕ) (gates : List GateValue) (forms : Forms) (i n : ℕ) (form : Form) → AreFormsTo net ends gates forms k → AreAllSettled net ends gates forms i → IsForm form → Means net form n → StandsOn net ends gates i form → IsReduced forms form n → AreSettled net ends gates forms i n
reduced_settled net ends gates forms i n form are all is means stands reduced =
    let F : Form → Type 0 = IsForm in
    let M : Form → Type 0 = λ f. Means net f n in
    let S : Form → Type 0 = StandsOn net ends gates (suc i) in
    record {
      unit_form = subst F (sym reduced.unit) is;
      body_form = reduced.body.is_form;
      unit_means = subst M (sym reduced.unit) means;
      body_means = λ bits consistent.
          reduced.body.same bits
          ∙ ap (λ k. bit_at form.table k == 1) (mapped_values forms bits form.leaves (λ m leaf. (known m leaf).body_means bits consistent))
          ∙ means bits consistent;
      unit_stands = subst S (sym reduced.unit) (stands_more net ends gates i (suc i) form (omega arith) stands);
      body_stands = λ m leaf. from m (composed_leaf form.table (map forms.body form.leaves) (forms.body n) reduced.body m leaf);
    }
  where
    known : (m : ℕ) → Has form.leaves m → IsKnown net ends gates forms i m
    known m leaf = let s = stands m leaf in early_known net ends gates forms i m are all s.0 s.1

    from : (m : ℕ) → HasLeaf (map forms.body form.leaves) m → (uses ends gates m ≢ 0) × IsEarlier net gates i m
    from m has =
        let at = from_map forms.body form.leaves has.1.0 has.0 has.1.1 in
        let Q : Form → Type 0 = λ f. Has f.leaves m in
        (known at.0 (has.1.0, at.1)).body_stands m (subst Q (sym at.2) has.2)

-- the unit, where the body of the first gate has the value of its net
unit_settled : (net : NetList) (ends : List ℕ) (gates : List GateValue) (forms : Forms) (i n m : ℕ) (form unit : Form) → IsForm form → Means net form n → Means net (forms.body m) m → StandsOn net ends gates (suc i) (itself m) → IsUnitBy forms form m unit → IsForm unit × Means net unit n × StandsOn net ends gates (suc i) unit
unit_settled net ends gates forms i n m form unit is means known stands (inl (body, equal)) =
    let P : Form → Type 0 = λ f. IsForm f × Means net f n × StandsOn net ends gates (suc i) f in
    subst P (sym equal) (itself_form m, (λ bits consistent. itself_value bits m ∙ sym (known bits consistent) ∙ ap (value bits) body ∙ means bits consistent), stands)
unit_settled net ends gates forms i n m form unit is means known stands (inr (body, equal)) =
    let P : Form → Type 0 = λ f. IsForm f × Means net f n × StandsOn net ends gates (suc i) f in
    subst P (sym equal) (
      complement_form (itself m) (itself_form m),
      (λ bits consistent.
          complement_value (itself m) (itself_form m).fits bits
          ∙ ap not (itself_value bits m ∙ sym (known bits consistent) ∙ ap (value bits) body ∙ complement_value form is.fits bits)
          ∙ twice (value bits form) ∙ means bits consistent),
      stands,
    )
  where
    twice : (b : Bool) → not (not b) ≡ b
    twice true = refl
    twice false = refl

-- the first gate stands here or before
pub first_place : (ends : List ℕ) (gates : List GateValue) (forms : Forms) (i : ℕ) (g first : GateValue) (form : Form) → slice_get gates i ≡ Some g → uses ends gates g.out ≢ 0 → forms.body g.out ≡ form → (is : IsFirst (uses ends gates) gates forms form first) → is.place ≤ i
first_place ends gates forms i g first form got used body is =
    elim (nat_eq_or (is.place - i) 0) [
      | inl under ↦ omega (arith, under)
      | inr over ↦ absurd (is.least i g (omega (arith, over)) got used (inl body))
    ]

shared_settled : {k : ℕ} (net : NetList) (ends : List ℕ) (gates : List GateValue) (forms : Forms) (i : ℕ) (g : GateValue) (form : Form) → AreFormsTo net ends gates forms k → AreAllSettled net ends gates forms i → slice_get gates i ≡ Some g → uses ends gates g.out ≢ 0 → IsForm form → Means net form g.out → StandsOn net ends gates i form → IsShared (uses ends gates) gates forms form g.out → AreSettled net ends gates forms i g.out
shared_settled net ends gates forms i g form are all got used is means stands shared =
    let F : Form → Type 0 = IsForm in
    let M : Form → Type 0 = λ f. Means net f g.out in
    let S : Form → Type 0 = StandsOn net ends gates i in
    let body_means : Means net (forms.body g.out) g.out = subst M (sym shared.body) means in
    let place = first_place ends gates forms i g shared.gate form got used shared.body shared.first in
    let early : IsEarlier net gates (suc i) shared.gate.out = inr (shared.first.place, shared.gate, omega (arith, place), shared.first.at, refl) in
    let unit = unit_settled net ends gates forms i g.out shared.gate.out form (forms.unit g.out) is means (known body_means place) (itself_stands net ends gates (suc i) shared.gate.out shared.first.is_used early) shared.unit in
    record {
      unit_form = unit.0;
      body_form = subst F (sym shared.body) is;
      unit_means = unit.1;
      body_means = body_means;
      unit_stands = unit.2;
      body_stands = subst S (sym shared.body) stands;
    }
  where
    known : Means net (forms.body g.out) g.out → shared.first.place ≤ i → Means net (forms.body shared.gate.out) shared.gate.out
    known own place =
        elim (nat_eq_or shared.first.place i) [
          | inl same ↦
              let at : slice_get gates i ≡ Some shared.gate = rw (← same) shared.first.at in
              let e : g ≡ shared.gate = cc in
              let P : GateValue → Type 0 = λ h. Means net (forms.body h.out) h.out in
              subst P e own
          | inr apart ↦ (all shared.first.place shared.gate (omega (arith, place, apart)) shared.first.at shared.first.is_used).body_means
        ]

gate_settled : {k : ℕ} (net : NetList) (ends : List ℕ) (gates : List GateValue) (forms : Forms) (i : ℕ) (g : GateValue) → ArePlaced net gates → AreFormsTo net ends gates forms k → i < k → AreAllSettled net ends gates forms i → slice_get gates i ≡ Some g → uses ends gates g.out ≢ 0 → AreSettled net ends gates forms i g.out
gate_settled net ends gates forms i g placed are within all got used =
    let found = are.each i g within got used in
    let form : Form = found.0 in
    let composed = found.1.given.2 in
    let means : Means net form g.out = composed_means net ends gates forms i found.1.opened g form (placed.only g (i, got)) known composed in
    let stands : StandsOn net ends gates i form = composed_stands net ends gates forms i found.1.opened g form known composed in
    elim found.2 [
      | inl reduced ↦ reduced_settled net ends gates forms i g.out form are all composed.is_form means stands reduced
      | inr shared ↦ shared_settled net ends gates forms i g form are all got used composed.is_form means stands shared
    ]
  where
    known : (n : ℕ) → Has g.inputs n → IsKnown net ends gates forms i n
    known n input = early_known net ends gates forms i n are all (inputs_used net ends gates placed i g got used n input) (placed.inputs i g got n input)

-- units and bodies of all gates are so of the first ones
pub forms_to : (net : NetList) (ends : List ℕ) (gates : List GateValue) (forms : Forms) → AreForms net ends gates forms → (k : ℕ) → AreFormsTo net ends gates forms k
forms_to net ends gates forms are k = record { units = are.units; bodies = are.bodies; each = λ j g less got used. are.each g (j, got) used }

pub settled_to : {k : ℕ} (net : NetList) (ends : List ℕ) (gates : List GateValue) (forms : Forms) → ArePlaced net gates → AreFormsTo net ends gates forms k → (i : ℕ) → i ≤ k → AreAllSettled net ends gates forms i
settled_to net ends gates forms placed are zero within j g less got used = absurd (omega arith)
settled_to net ends gates forms placed are (suc i) within j g less got used =
    gate_settled net ends gates forms j g placed are (omega (arith, less, within)) (λ n h low at is. settled_to net ends gates forms placed are i (omega (arith, within)) n h (omega (arith, low, less)) at is) got used

pub all_settled : (net : NetList) (ends : List ℕ) (gates : List GateValue) (forms : Forms) → ArePlaced net gates → AreForms net ends gates forms → (i : ℕ) → AreAllSettled net ends gates forms i
all_settled net ends gates forms placed are i = settled_to net ends gates forms placed (forms_to net ends gates forms are i) i (omega arith)

pub settled : (net : NetList) (ends : List ℕ) (gates : List GateValue) (forms : Forms) → ArePlaced net gates → AreForms net ends gates forms → (i : ℕ) (g : GateValue) → slice_get gates i ≡ Some g → uses ends gates g.out ≢ 0 → AreSettled net ends gates forms i g.out
settled net ends gates forms placed are i g got used = all_settled net ends gates forms placed are (suc i) i g (omega arith) got used
