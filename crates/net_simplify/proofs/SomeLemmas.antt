-- Each sound net list has a simplified one.
use Rattle.std.proofs.Common.{◌≡◌, ◌≢◌, ◌∙◌, ap, sym, refl, inl, inr, subst, ℕ, zero, suc, ◌<◌, ◌≤◌, ◌+◌, ◌-◌, ◌^◌, Bool, cond, List, [], ◌∷◌, ◌++◌, length, map, bytes_eq, Option, Some, None, arith, pow_pos}
use Rattle.std_collections.specs.Layout.BTreeMap.{btree_map, with_entries}
use Rattle.std.specs.Prelude.{slice_get, slice_set}
use Rattle.std.proofs.lemmas.Slice.Eq.{bytes_eq-Decides}
use Rattle.lists.specs.Lists.{Has}
use Rattle.lists.specs.laws.NumberLaws.{nat_eq_or}
use Rattle.lists.specs.laws.ReadLaws.{get_below}
use Rattle.net_core.specs.GateValue.{GateValue}
use Rattle.net_core.specs.NetList.{NetList, nets}
use Rattle.net_core.specs.Order.{IsLevelOrder}
use Rattle.net_core.specs.Sound.{IsSound}
use Rattle.net_core.proofs.DriverLemmas.{gate_inside}
use Rattle.net_simplify.specs.Choice.{Forms, Gives, IsChosen, leaves_of, price, taken}
use Rattle.net_simplify.specs.Form.{Form, IsComposed, IsForm, complement, itself}
use Rattle.net_simplify.specs.Simplified.{AreForms, AreTwins, IsSimplified, IsUnitBy, with_forms}
use Rattle.net_simplify.specs.Uses.{is_single, uses}
use Rattle.net_simplify.specs.private.Best.{IsBest}
use Rattle.net_simplify.specs.private.Catalog.{IsUnitFor, net_of, twin_key}
use Rattle.net_simplify.specs.private.Lists.{AreThemselves, FormLists, form_at, forms_of}
use Rattle.net_simplify.specs.private.Marks.{gates_by}
use Rattle.net_simplify.specs.private.Underway.{ArePlaced, IsStep, IsUnderway}
use Rattle.net_simplify.specs.declared.catalog.Catalog.{Catalog}
use Rattle.net_simplify.proofs.BestLemmas.{best_dear, best_end, best_keeps, best_start, best_takes}
use Rattle.net_simplify.proofs.CatalogLemmas.{both_ways, key_at}
use Rattle.net_simplify.proofs.LeafLemmas.{units_few}
use Rattle.net_simplify.proofs.MarkLemmas.{in_order_by}
use Rattle.net_simplify.proofs.PlacedLemmas.{are_placed}
use Rattle.net_simplify.proofs.SettleLemmas.{IsSet, body_constant, body_same, body_turned, few_set, form_long, idle_next, reduced_next, shared_next, themselves_few, themselves_more, underway_start, unit_added, unit_found, unit_same, unit_turned}
use Rattle.net_simplify.proofs.SomeFormLemmas.{composed_some}
use Rattle.net_simplify.proofs.StepLemmas.{first}
use Rattle.net_simplify.proofs.UnderwayLemmas.{underway_end}

-- ---- choices

-- the best choice of the first numbers
best_some : (single : ℕ → Bool) (forms : Forms) (gate : GateValue) → ((n : ℕ) → length (forms.unit n).leaves ≤ 1) → length gate.inputs ≤ 6 → (tried : ℕ) → suc tried ≤ 2 ^ length gate.inputs → (form : Form) × IsBest single forms gate form (suc tried)
best_some single forms gate few small zero within =
    let f = composed_some gate.table (taken forms 0 gate.inputs) (units_few forms gate.inputs few small) in
    (f.0, best_start single forms gate f.0 (omega (arith, within), inl refl, f.1))
best_some single forms gate few small (suc tried) within =
    let old = best_some single forms gate few small tried (omega (arith, within)) in
    elim (nat_eq_or (length (leaves_of (taken forms (suc tried) gate.inputs)) - 4) 0) [
      | inl admitted ↦
          let less : length (leaves_of (taken forms (suc tried) gate.inputs)) ≤ 4 = omega (arith, admitted) in
          let f = composed_some gate.table (taken forms (suc tried) gate.inputs) (omega (arith, less)) in
          let given : Gives forms gate (suc tried) f.0 = (omega (arith, within), inr less, f.1) in
          elim (nat_eq_or (price single f.0.leaves - price single old.0.leaves) 0) [
            | inl cheap ↦ (f.0, next f.0 (best_takes single forms gate old.0 f.0 (suc tried) old.1 given (omega (arith, cheap))))
            | inr dear ↦ (old.0, next old.0 (best_dear single forms gate old.0 f.0 (suc tried) old.1 given (omega (arith, dear))))
          ]
      | inr over ↦ (old.0, next old.0 (best_keeps single forms gate old.0 (suc tried) old.1 (λ new given. absurd (elim given.1 [ inl none ↦ omega (arith, none) | inr less ↦ omega (arith, less, over) ]))))
    ]
  where
    next : (form : Form) → IsBest single forms gate form (suc tried + 1) → IsBest single forms gate form (suc (suc tried))
    next form is = let up : suc tried + 1 ≡ suc (suc tried) = omega arith in let P : ℕ → Type 0 = IsBest single forms gate form in subst P up is

chosen_some : (single : ℕ → Bool) (forms : Forms) (gate : GateValue) → ((n : ℕ) → length (forms.unit n).leaves ≤ 1) → length gate.inputs ≤ 6 → (form : Form) × IsChosen single forms gate form
chosen_some single forms gate few small =
    let best = best_some single forms gate few small (2 ^ length gate.inputs - 1) (omega (arith, pow_pos (length gate.inputs))) in
    (best.0, best_end single forms gate best.0 (suc (2 ^ length gate.inputs - 1)) (omega (arith, pow_pos (length gate.inputs))) best.1)

-- ---- bodies and units

body_some : (c : Form) (bodies : ℕ → Form) (ls : List ℕ) → c.leaves ≡ ls → length c.leaves ≤ 1 → (body : Form) × (IsForm c → length c.leaves ≤ 1 → ((n : ℕ) → Has c.leaves n → IsForm (bodies n)) → IsComposed c.table (map bodies c.leaves) body)
body_some c bodies [] leaves few = (c, λ is less each. body_constant c bodies c is less (λ one. omega (arith, one, ap (λ (xs : List ℕ). length xs) leaves)) refl)
body_some c bodies (m ∷ []) leaves few =
    let one : length c.leaves ≡ 1 = ap (λ (xs : List ℕ). length xs) leaves in
    let at : m ≡ first c.leaves = sym (ap first leaves) in
    elim (nat_eq_or c.table 2) [
      | inl two ↦ (bodies m, λ is less each. body_same c bodies m c.table (bodies m) one at refl two refl each)
      | inr other ↦ (complement (bodies m), λ is less each. body_turned c bodies m c.table (complement (bodies m)) is one at refl other refl each)
    ]
body_some c bodies (m ∷ n ∷ ls) leaves few = absurd (omega (arith, few, ap (λ (xs : List ℕ). length xs) leaves))

-- the catalog with one more net
abbrev with_net : Catalog → List ℕ → ℕ → Catalog
with_net catalog key net = record { map = with_entries catalog.map ((key, net) ∷ catalog.map.entries) }

net_more : (catalog : Catalog) (key : List ℕ) (net : ℕ) (q : List ℕ) → net_of (with_net catalog key net) q ≡ cond (bytes_eq q key) (Some net) (net_of catalog q)
net_more catalog key net q = ap (λ b. cond b (Some net) (net_of catalog q)) (key_at q key ∙ either)
  where
    either : bytes_eq key q ≡ bytes_eq q key
    either = both_ways (bytes_eq key q) (bytes_eq q key) (λ e. (bytes_eq-Decides q key).1 (sym ((bytes_eq-Decides key q).0 e))) (λ e. (bytes_eq-Decides key q).1 (sym ((bytes_eq-Decides q key).0 e)))

-- what is made of a function of more leaves
record IsUnitMade (lists : FormLists) (old : Catalog) (c : Form) (out : ℕ) : Type 0 where
  unit : Form
  catalog : Catalog
  is : IsUnitFor lists c out old catalog unit

unit_some : (lists : FormLists) (old : Catalog) (c : Form) (out : ℕ) (o : Option ℕ) → IsForm c → net_of old (twin_key c) ≡ o → IsUnitMade lists old c out
unit_some lists old c out None form none = record {
  unit = itself out;
  catalog = with_net old (twin_key c) out;
  is = unit_added lists c out old (with_net old (twin_key c) out) (itself out) (twin_key c) (net_of old (twin_key c)) refl refl none (refl, net_more old (twin_key c) out);
}
unit_some lists old c out (Some m) form there =
    elim (nat_eq_or (form_at lists.bodies m).table c.table) [
      | inl same ↦ made (itself m) (omega arith) (λ twins. unit_same (forms_of lists) c m (form_at lists.bodies m).table c.table (itself m) form.fits refl refl same refl twins)
      | inr other ↦ made (complement (itself m)) (omega arith) (λ twins. unit_turned (forms_of lists) c m (form_at lists.bodies m).table c.table (complement (itself m)) refl refl other refl twins)
    ]
  where
    made : (unit : Form) → length unit.leaves ≤ 1 → (AreTwins (form_at lists.bodies m) c → IsUnitBy (forms_of lists) c m unit) → IsUnitMade lists old c out
    made unit few is = record {
      unit = unit;
      catalog = old;
      is = unit_found lists c out m old unit (twin_key c) (net_of old (twin_key c)) refl refl there is few;
    }

-- ---- gate by gate

-- the lists and the catalog before place i
record IsMade (net : NetList) (ends : List ℕ) (gates : List GateValue) (i : ℕ) : Type 0 where
  lists : FormLists
  catalog : Catalog
  underway : IsUnderway net ends gates i lists catalog
  long : length lists.bodies ≡ length lists.units
  few : (n : ℕ) → length (form_at lists.units n).leaves ≤ 1

-- the lists with other forms of a net
abbrev with_set : FormLists → ℕ → Form → Form → FormLists
with_set lists out unit body = record { units = slice_set lists.units out unit; bodies = slice_set lists.bodies out body }

is_set : (lists : FormLists) (out : ℕ) (unit body : Form) → out < length lists.units → length lists.bodies ≡ length lists.units → IsSet lists (with_set lists out unit body) out unit body
is_set lists out unit body within long = record { within = within; long = long; units = refl; bodies = refl }

long_set : (lists : FormLists) (out : ℕ) (unit body : Form) → length lists.bodies ≡ length lists.units → length (with_set lists out unit body).bodies ≡ length (with_set lists out unit body).units
long_set lists out unit body long = form_long lists.bodies out body ∙ long ∙ sym (form_long lists.units out unit)

step_some : (net : NetList) (ends : List ℕ) (gates : List GateValue) (i : ℕ) (g : GateValue) → IsSound net → ArePlaced net gates → slice_get gates i ≡ Some g → IsMade net ends gates i → IsMade net ends gates (i + 1)
step_some net ends gates i g sound placed got m =
    elim (nat_eq_or (uses ends gates g.out) 0) [
      | inl none ↦ record { lists = m.lists; catalog = m.catalog; underway = idle_next net ends gates i g m.lists m.catalog got none m.underway; long = m.long; few = m.few }
      | inr used ↦
          let inside = gate_inside net g sound.inside (placed.only g (i, got)) in
          let chosen = chosen_some (is_single net ends gates) (forms_of m.lists) g m.few inside.2 in
          by used chosen.0 chosen.1 (omega (arith, inside.0, m.underway.long))
    ]
  where
    by : uses ends gates g.out ≢ 0 → (c : Form) → IsChosen (is_single net ends gates) (forms_of m.lists) g c → g.out < length m.lists.units → IsMade net ends gates (i + 1)
    by used c chosen within =
        let step : IsStep net ends gates i g m.lists m.catalog = record { placed = placed; got = got; used = used; underway = m.underway } in
        elim (nat_eq_or (length c.leaves - 1) 0) [
          | inl small ↦
              let few : length c.leaves ≤ 1 = omega (arith, small) in
              let b = body_some c (form_at m.lists.bodies) c.leaves refl few in
              let is = is_set m.lists g.out c b.0 within m.long in
              record {
                lists = with_set m.lists g.out c b.0;
                catalog = m.catalog;
                underway = reduced_next net ends gates i g m.lists (with_set m.lists g.out c b.0) m.catalog g.out c b.0 refl is few b.1 step chosen;
                long = long_set m.lists g.out c b.0 m.long;
                few = few_set m.lists.units g.out c few m.few;
              }
          | inr big ↦
              let more : 2 ≤ length c.leaves = omega (arith, big) in
              let u = unit_some m.lists m.catalog c g.out (net_of m.catalog (twin_key c)) chosen.given.2.is_form refl in
              let is = is_set m.lists g.out u.unit c within m.long in
              record {
                lists = with_set m.lists g.out u.unit c;
                catalog = u.catalog;
                underway = shared_next net ends gates i g m.lists (with_set m.lists g.out u.unit c) m.catalog u.catalog g.out c u.unit refl is more u.is step chosen;
                long = long_set m.lists g.out u.unit c m.long;
                few = few_set m.lists.units g.out u.unit u.is.few m.few;
              }
        ]

themselves_some : (count : ℕ) → (forms : List Form) × AreThemselves forms count
themselves_some zero = ([], (refl, λ n less. absurd (omega arith)))
themselves_some (suc count) =
    let old = themselves_some count in
    let up : count + 1 ≡ suc count = omega arith in
    let P : ℕ → Type 0 = AreThemselves (old.0 ++ itself count ∷ []) in
    (old.0 ++ itself count ∷ [], subst P up (themselves_more old.0 (old.0 ++ itself count ∷ []) count (itself count) old.1 refl refl))

made_to : (net : NetList) (ends : List ℕ) (gates : List GateValue) → IsSound net → ArePlaced net gates → (i : ℕ) → i ≤ length gates → IsMade net ends gates i
made_to net ends gates sound placed zero within =
    let forms = themselves_some (nets net) in
    let catalog : Catalog = record { map = btree_map [] (inl tt) } in
    record {
      lists = record { units = forms.0; bodies = forms.0 };
      catalog = catalog;
      underway = underway_start net ends gates (record { units = forms.0; bodies = forms.0 }) catalog sound forms.1.0 forms.1.1 forms.1.1 (λ key. refl);
      long = refl;
      few = themselves_few forms.0 (nets net) forms.1;
    }
made_to net ends gates sound placed (suc i) within =
    let at = get_below gates i (omega (arith, within)) in
    let up : i + 1 ≡ suc i = omega arith in
    let P : ℕ → Type 0 = IsMade net ends gates in
    subst P up (step_some net ends gates i at.0 sound placed at.1 (made_to net ends gates sound placed i (omega (arith, within))))

-- the forms of a net list whose gates stand in order
forms_some : (net : NetList) (ends : List ℕ) (gates : List GateValue) → IsSound net → ArePlaced net gates → (forms : Forms) × AreForms net ends gates forms
forms_some net ends gates sound placed =
    let m = made_to net ends gates sound placed (length gates) (omega arith) in
    (forms_of m.lists, underway_end net ends gates (length gates) m.lists m.catalog (omega arith) m.underway)

pub simplified_with : (ends : List ℕ) (net : NetList) (order : List ℕ) → IsSound net → IsLevelOrder net order → (simple : NetList) × IsSimplified ends net simple
simplified_with ends net order sound is =
    let gates : List GateValue = gates_by net.gates order in
    let in_order = in_order_by net order is in
    let f = forms_some net ends gates sound (are_placed net gates sound in_order) in
    (with_forms net (uses ends gates) f.0, record { gates = gates; in_order = in_order; forms = f.0; are = f.1; made = refl })

-- each sound net list has its gates in order, as stage_model shows (`some_elimination`)
abbrev pub HaveOrders : Type 0
HaveOrders = (net : NetList) → IsSound net → (order : List ℕ) × IsLevelOrder net order

pub simplified_some : HaveOrders → (ends : List ℕ) (net : NetList) → IsSound net → (simple : NetList) × IsSimplified ends net simple
simplified_some orders ends net sound = let order = orders net sound in simplified_with ends net order.0 sound order.1
