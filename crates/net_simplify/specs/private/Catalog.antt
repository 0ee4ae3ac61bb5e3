-- Bodies by their numbers. Source: this project's own.
use Rattle.std.specs.Prelude.{◌≡◌, ◌⊎◌, ◌≢◌, ◌<◌, ◌≤◌, ℕ, ◌/◌, ◌%◌, ◌^◌, ◌==◌, List, [], ◌∷◌, Option, None, Some, length, slice_get, cond, if◌then◌else◌}
use Rattle.std.specs.BTreeMap.{get}
use Rattle.std.specs.Cmp.{IsTotalOrder}
use Rattle.std.specs.Cmp.Lexicographic.{slice_cmp, nat_list_cmp_total}
use Rattle.std.specs.declared.cmp.Ordering.{Ordering}
use Rattle.std.specs.Ordering.{nat_cmp}
use Rattle.std.specs.Str.{bytes_eq}
use Rattle.net_core.specs.GateValue.{GateValue}
use Rattle.net_simplify.specs.Form.{Form, IsForm, complement, itself}
use Rattle.net_simplify.specs.Choice.{Forms}
use Rattle.net_simplify.specs.Simplified.{AreTwins, IsFirst, IsUnitBy}
use Rattle.net_simplify.specs.private.Lists.{FormLists, form_at, forms_of}
use Rattle.net_simplify.specs.declared.catalog.Catalog.{Catalog}

-- lists of numbers in their order
abbrev pub numbers_cmp : List ℕ → List ℕ → Ordering
numbers_cmp = slice_cmp nat_cmp

-- it is a total order
pub numbers_cmp_total : IsTotalOrder numbers_cmp
numbers_cmp_total = nat_list_cmp_total

-- the form or its complement, whichever has the value 0 where all leaves are 0
abbrev pub even : Form → Form
even form = if form.table % 2 == 1 then complement form else form

-- the numbers of a form
abbrev pub key_of : Form → List ℕ
key_of form = form.table % 2 ^ 32 ∷ (form.table / 2 ^ 32 ∷ form.leaves)

-- the numbers that a form and its complement share
abbrev pub twin_key : Form → List ℕ
twin_key form = key_of (even form)

-- the net that is kept for these numbers
abbrev pub net_of : Catalog → List ℕ → Option ℕ
net_of catalog key = get numbers_cmp catalog.map key

-- the net is that of the first gate with this body or its complement, and is before place i; or there is no such gate
abbrev pub IsFound : (ℕ → ℕ) → List GateValue → ℕ → Forms → Form → Option ℕ → Type 0
IsFound used gates i forms form (Some m) = (gate : GateValue) × (first : IsFirst used gates forms form gate) × (first.place < i) × (gate.out ≡ m)
IsFound used gates i forms form None = (j : ℕ) (g : GateValue) → j < i → slice_get gates j ≡ Some g → used g.out ≢ 0 → AreTwins (forms.body g.out) form → ⊥

-- each body of two leaves or more before place i is found
abbrev pub IsCatalog : (ℕ → ℕ) → List GateValue → ℕ → Forms → Catalog → Type 0
IsCatalog used gates i forms catalog = (form : Form) → IsForm form → 2 ≤ length form.leaves → IsFound used gates i forms form (net_of catalog (twin_key form))

-- the unit is this net, which is kept for the key from then on
abbrev pub IsKept : List ℕ → ℕ → Catalog → Catalog → Form → Type 0
IsKept key net old new unit = (unit ≡ itself net) × ((q : List ℕ) → net_of new q ≡ cond (bytes_eq q key) (Some net) (net_of old q))

-- What is asked of the unit of a body of more leaves. Where a net is kept for the body, the catalog stays, and the unit is that
-- net, or its complement where the body is that of its own; where none is, the unit is this net, which is kept from then on.
pub record IsUnitFor (lists : FormLists) (body : Form) (net : ℕ) (old new : Catalog) (unit : Form) : Type 0 where
  pub found : (m : ℕ) → net_of old (twin_key body) ≡ Some m → (new ≡ old) × (AreTwins (form_at lists.bodies m) body → IsUnitBy (forms_of lists) body m unit)
  pub added : net_of old (twin_key body) ≡ None → IsKept (twin_key body) net old new unit
  pub few : length unit.leaves ≤ 1
