-- Two inverters in a row, worked by the check: the second net is the first input again.
use Rattle.std.proofs.Common.{◌≡◌, ◌≢◌, ◌⊎◌, ◌∙◌, ap, sym, refl, inl, inr, subst, ℕ, zero, suc, ◌<◌, ◌≤◌, ◌+◌, ◌*◌, ◌/◌, ◌%◌, Bool, true, false, cond, List, [], ◌∷◌, length, Option, Some, None, arith}
use Rattle.std.specs.Prelude.{slice_get, ◌==◌}
use Rattle.std.specs.Int.{bit_at}
use Rattle.net_core.specs.GateValue.{GateValue}
use Rattle.net_core.specs.Level.{Levels, AreLevels, level_at, level_over}
use Rattle.lists.specs.Lists.{Has}
use Rattle.net_core.specs.NetList.{LabelValue, NetList}
use Rattle.net_core.specs.Order.{IsBefore, IsOrder, rank_at}
use Rattle.net_core.specs.Value.{bit_of}
use Rattle.net_simplify.specs.Form.{Form, IsComposed, complement, itself}
use Rattle.net_simplify.specs.Uses.{AreInOrder, is_single, uses}
use Rattle.net_simplify.specs.Choice.{Forms, Gives, IsChosen, price, taken}
use Rattle.net_simplify.specs.Simplified.{AreForms, IsReduced, IsShared, IsSimplified}
use Rattle.net_simplify.proofs.ListLemmas.{has_cons, has_none}
use Rattle.net_simplify.proofs.FormLemmas.{complement_form, composed_same, itself_form}

abbrev label : LabelValue
label = record { text = 110 ∷ []; named = false }

abbrev inverter : ℕ → ℕ → GateValue
inverter out from = record { out = out; inputs = from ∷ []; table = 1 }

abbrev inverters : List GateValue
inverters = inverter 1 0 ∷ (inverter 2 1 ∷ [])

abbrev net : NetList
net = record { labels = label ∷ (label ∷ (label ∷ [])); inputs = 0 ∷ []; outputs = 2 ∷ []; gates = inverters; latches = [] }

-- the gate of net 2 is a buffer of net 0
abbrev simple : NetList
simple = record { labels = label ∷ (label ∷ (label ∷ [])); inputs = 0 ∷ []; outputs = 2 ∷ []; gates = inverter 1 0 ∷ (record { out = 2; inputs = 0 ∷ []; table = 2 } ∷ []); latches = [] }

-- what holds of both gates holds of each
each_gate : (P : GateValue → Type 0) → P (inverter 1 0) → P (inverter 2 1) → (g : GateValue) → Has inverters g → P g
each_gate P first second g has = elim (has_cons (inverter 1 0) (inverter 2 1 ∷ []) g has) [
  | inl same ↦ subst P same first
  | inr rest ↦ elim (has_cons (inverter 2 1) [] g rest) [ inl same ↦ subst P same second | inr none ↦ absurd (has_none g none) ]
]

abbrev levels : Levels
levels = Some 0 ∷ (Some 1 ∷ (Some 2 ∷ []))

only_source : (P : ℕ → Type 0) → P 0 → (n : ℕ) → Has (0 ∷ []) n → P n
only_source P here n has = elim (has_cons 0 [] n has) [ inl same ↦ subst P same here | inr none ↦ absurd (has_none n none) ]

are_levels : AreLevels net levels
are_levels = record {
  long = refl;
  sources = only_source (λ n. level_at levels n ≡ Some 0) refl;
  gates = each_gate (λ g. level_at levels g.out ≡ level_over levels g.inputs) refl refl;
}

abbrev order : List ℕ
order = 0 ∷ (1 ∷ [])

is_order : IsOrder net levels order
is_order = record {
  long = refl;
  each = λ p g got. each p g got;
  within = λ p has. within p (has_cons 0 (1 ∷ []) p has);
  rises = λ i p q first second. rises i p q first second;
}
  where
    each : (p : ℕ) (g : GateValue) → slice_get inverters p ≡ Some g → Has order p
    each zero g got = (0, refl)
    each (suc zero) g got = (1, refl)
    each (suc (suc p)) g got = absurd (cc)

    within : (p : ℕ) → (0 ≡ p) ⊎ Has (1 ∷ []) p → (g : GateValue) × (slice_get inverters p ≡ Some g)
    within p (inl same) = let P : ℕ → Type 0 = λ k. (g : GateValue) × (slice_get inverters k ≡ Some g) in subst P same (inverter 1 0, refl)
    within p (inr rest) = elim (has_cons 1 [] p rest) [
      | inl same ↦ let P : ℕ → Type 0 = λ k. (g : GateValue) × (slice_get inverters k ≡ Some g) in subst P same (inverter 2 1, refl)
      | inr none ↦ absurd (has_none p none)
    ]

    rises : (i p q : ℕ) → slice_get order i ≡ Some p → slice_get order (i + 1) ≡ Some q → (g : GateValue) × (h : GateValue) × (slice_get inverters p ≡ Some g) × (slice_get inverters q ≡ Some h) × IsBefore (rank_at levels g.out) p (rank_at levels h.out) q
    rises zero p q first second =
        let e : 0 ≡ p = cc in
        let e' : 1 ≡ q = cc in
        (inverter 1 0, inverter 2 1, ap (slice_get inverters) (sym e), ap (slice_get inverters) (sym e'), inl (omega arith))
    rises (suc zero) p q first second = absurd (cc)
    rises (suc (suc i)) p q first second = absurd (cc)

in_order : AreInOrder net inverters
in_order = record {
  order = order;
  is = (levels, are_levels, is_order);
  long = refl;
  each = λ i p got. each i p got;
}
  where
    each : (i p : ℕ) → slice_get order i ≡ Some p → slice_get inverters i ≡ slice_get inverters p
    each zero p got = let e : 0 ≡ p = cc in ap (slice_get inverters) e
    each (suc zero) p got = let e : 1 ≡ p = cc in ap (slice_get inverters) e
    each (suc (suc i)) p got = absurd (cc)

-- net 1 is the complement of net 0, and net 2 is net 0
abbrev what : ℕ → Form
what zero = itself 0
what (suc zero) = complement (itself 0)
what (suc (suc n)) = itself 0

abbrev forms : Forms
forms = record { unit = what; body = what }

inverted : IsComposed 1 (itself 0 ∷ []) (complement (itself 0))
inverted = record { is_form = complement_form (itself 0) (itself_form 0); same = λ bits. by (bit_of bits 0) }
  where
    by : (b : Bool) → (bit_at 1 (cond b 1 0 + 2 * 0) == 1) ≡ (bit_at 1 (cond (bit_at 2 (cond b 1 0 + 2 * 0) == 1) 1 0 + 2 * 0) == 1)
    by true = refl
    by false = refl

twice_inverted : IsComposed 1 (complement (itself 0) ∷ []) (itself 0)
twice_inverted = record { is_form = itself_form 0; same = λ bits. by (bit_of bits 0) }
  where
    by : (b : Bool) → (bit_at 2 (cond b 1 0 + 2 * 0) == 1) ≡ (bit_at 1 (cond (bit_at 1 (cond b 1 0 + 2 * 0) == 1) 1 0 + 2 * 0) == 1)
    by true = refl
    by false = refl

not_inverted : IsComposed 2 (itself 0 ∷ []) (itself 0)
not_inverted = record { is_form = itself_form 0; same = λ bits. by (bit_of bits 0) }
  where
    by : (b : Bool) → (bit_at 2 (cond b 1 0 + 2 * 0) == 1) ≡ (bit_at 2 (cond (bit_at 2 (cond b 1 0 + 2 * 0) == 1) 1 0 + 2 * 0) == 1)
    by true = refl
    by false = refl

-- unit and body are the same, so that it is the same which inputs are opened
either : (opened n : ℕ) → taken forms opened (n ∷ []) ≡ what n ∷ []
either opened n = by (opened % 2 == 1)
  where
    by : (b : Bool) → cond b (what n) (what n) ∷ [] ≡ what n ∷ []
    by true = refl
    by false = refl

chosen : (single : ℕ → Bool) (out from : ℕ) (form : Form) → IsComposed 1 (what from ∷ []) form → length (what from).leaves ≡ 1 → Gives forms (inverter out from) 1 form → IsChosen single forms (inverter out from) form
chosen single out from form is long given = record {
  opened = 1;
  given = given;
  least = λ others other is'. let e = same others other is' in omega (arith, ap (λ (f : Form). price single f.leaves) e);
  last = λ others other more is'. absurd (omega (arith, more, is'.0));
}
  where
    same : (others : ℕ) (other : Form) → Gives forms (inverter out from) others other → form ≡ other
    same others other is' =
        let P : List Form → Type 0 = λ fs. IsComposed 1 fs other in
        composed_same 1 (what from ∷ []) form other is (subst P (either others from) is'.2)

are_forms : AreForms net (2 ∷ []) inverters forms
are_forms = record {
  units = only_source (λ n. what n ≡ itself n) refl;
  bodies = only_source (λ n. what n ≡ itself n) refl;
  each = each_gate (λ g. uses (2 ∷ []) inverters g.out ≢ 0 → (form : Form) × IsChosen (is_single net (2 ∷ []) inverters) forms g form × (IsReduced forms form g.out ⊎ IsShared (uses (2 ∷ []) inverters) inverters forms form g.out))
      (λ used. (complement (itself 0), chosen (is_single net (2 ∷ []) inverters) 1 0 (complement (itself 0)) inverted refl (omega arith, inr (omega arith), inverted), inl (record { few = omega arith; unit = refl; body = inverted })))
      (λ used. (itself 0, chosen (is_single net (2 ∷ []) inverters) 2 1 (itself 0) twice_inverted refl (omega arith, inr (omega arith), twice_inverted), inl (record { few = omega arith; unit = refl; body = not_inverted })));
}

is_simplified : IsSimplified (2 ∷ []) net simple
is_simplified = record { gates = inverters; in_order = in_order; forms = forms; are = are_forms; made = refl }
