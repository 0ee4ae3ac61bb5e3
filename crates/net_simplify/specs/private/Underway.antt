-- Units and bodies of the gates so far. Source: this project's own.
use Rattle.std.specs.Prelude.{◌≡◌, ◌≢◌, ◌⊎◌, ◌<◌, ◌+◌, ℕ, List, Some, length, slice_get}
use Rattle.net_core.specs.GateValue.{GateValue}
use Rattle.lists.specs.Lists.{Has}
use Rattle.net_core.specs.NetList.{NetList, nets}
use Rattle.net_core.specs.Sound.{sources}
use Rattle.net_simplify.specs.Form.{Form, itself}
use Rattle.net_simplify.specs.Uses.{is_single, uses}
use Rattle.net_simplify.specs.Choice.{Forms, IsChosen}
use Rattle.net_simplify.specs.Simplified.{AreForms, IsReduced, IsShared}
use Rattle.net_simplify.specs.private.Best.{AreSingles}
use Rattle.net_simplify.specs.private.Catalog.{IsCatalog}
use Rattle.net_simplify.specs.private.Lists.{FormLists, form_at, forms_of}
use Rattle.net_simplify.specs.private.Marks.{count_at, gates_by}
use Rattle.net_simplify.specs.declared.catalog.Catalog.{Catalog}

-- a source, or driven by one of the first i gates
abbrev pub IsEarlier : NetList → List GateValue → ℕ → ℕ → Type 0
IsEarlier net gates i n = Has (sources net) n ⊎ ((j : ℕ) × (g : GateValue) × (j < i) × (slice_get gates j ≡ Some g) × (g.out ≡ n))

-- each gate once, after those that drive its inputs
pub record ArePlaced (net : NetList) (gates : List GateValue) : Type 0 where
  pub all : (g : GateValue) → Has net.gates g → Has gates g
  pub only : (g : GateValue) → Has gates g → Has net.gates g
  pub apart : (i j : ℕ) (g h : GateValue) → slice_get gates i ≡ Some g → slice_get gates j ≡ Some h → g.out ≡ h.out → i ≡ j
  pub inputs : (i : ℕ) (g : GateValue) → slice_get gates i ≡ Some g → (n : ℕ) → Has g.inputs n → IsEarlier net gates i n
  pub driven : (g : GateValue) → Has gates g → Has (sources net) g.out → ⊥

-- what is asked of the unit and the body of a gate that is used
abbrev pub IsDone : NetList → List ℕ → List GateValue → Forms → GateValue → Type 0
IsDone net ends gates forms gate = (form : Form) × IsChosen (is_single net ends gates) forms gate form × (IsReduced forms form gate.out ⊎ IsShared (uses ends gates) gates forms form gate.out)

-- the units and the bodies of the sources and of the gates before place i
pub record AreFormsTo (net : NetList) (ends : List ℕ) (gates : List GateValue) (forms : Forms) (i : ℕ) : Type 0 where
  pub units : (n : ℕ) → Has (sources net) n → forms.unit n ≡ itself n
  pub bodies : (n : ℕ) → Has (sources net) n → forms.body n ≡ itself n
  pub each : (j : ℕ) (gate : GateValue) → j < i → slice_get gates j ≡ Some gate → uses ends gates gate.out ≢ 0 → IsDone net ends gates forms gate

-- the forms are those of the lists for the sources and the gates before place i
pub record Extends (net : NetList) (gates : List GateValue) (i : ℕ) (lists : FormLists) (forms : Forms) : Type 0 where
  pub unit : (n : ℕ) → IsEarlier net gates i n → forms.unit n ≡ form_at lists.units n
  pub body : (n : ℕ) → IsEarlier net gates i n → forms.body n ≡ form_at lists.bodies n

-- whatever the forms of the other nets are, the lists and the catalog are right for the gates before place i
pub record IsUnderway (net : NetList) (ends : List ℕ) (gates : List GateValue) (i : ℕ) (lists : FormLists) (catalog : Catalog) : Type 0 where
  pub long : length lists.units ≡ nets net
  pub done : (forms : Forms) → Extends net gates i lists forms → AreFormsTo net ends gates forms i
  pub bodies : (forms : Forms) → Extends net gates i lists forms → IsCatalog (uses ends gates) gates i forms catalog

-- all nets but one have the forms that they had
pub record Keeps (lists new : FormLists) (out : ℕ) : Type 0 where
  pub long : length new.units ≡ length lists.units
  pub unit : (n : ℕ) → n ≢ out → form_at new.units n ≡ form_at lists.units n
  pub body : (n : ℕ) → n ≢ out → form_at new.bodies n ≡ form_at lists.bodies n

-- the marks tell which nets are used once, and whether the net of a gate is used
pub record AreMarks (net : NetList) (ends : List ℕ) (gates : List GateValue) (marks : List ℕ) : Type 0 where
  pub singles : AreSingles (is_single net ends gates) marks
  pub idle : (g : GateValue) → Has gates g → count_at marks g.out ≡ 0 → uses ends gates g.out ≡ 0
  pub used : (g : GateValue) → Has gates g → count_at marks g.out ≢ 0 → uses ends gates g.out ≢ 0

-- the gates and the lists of a step
pub record IsStep (net : NetList) (ends : List ℕ) (gates : List GateValue) (i : ℕ) (g : GateValue) (lists : FormLists) (catalog : Catalog) : Type 0 where
  pub placed : ArePlaced net gates
  pub got : slice_get gates i ≡ Some g
  pub used : uses ends gates g.out ≢ 0
  pub underway : IsUnderway net ends gates i lists catalog

-- wherever the gate is the next and is used, and this is the function that is chosen for it, the new lists and the new catalog are right behind it
abbrev pub SettlesAs : GateValue → Form → FormLists → Catalog → FormLists → Catalog → Type 0
SettlesAs gate form old catalog new next = (net : NetList) (ends : List ℕ) (gates : List GateValue) (i : ℕ) → IsStep net ends gates i gate old catalog → IsChosen (is_single net ends gates) (forms_of old) gate form → IsUnderway net ends gates (i + 1) new next

-- wherever the gate is the next and is used, and the marks tell which nets are used once, they are right behind it
abbrev pub SettlesBy : GateValue → List ℕ → FormLists → Catalog → FormLists → Catalog → Type 0
SettlesBy gate marks old catalog new next = (net : NetList) (ends : List ℕ) (gates : List GateValue) (i : ℕ) → IsStep net ends gates i gate old catalog → AreSingles (is_single net ends gates) marks → IsUnderway net ends gates (i + 1) new next

-- wherever the gate is the next, and the marks tell how often nets are used, they are right behind it
abbrev pub KnowsNext : GateValue → List ℕ → FormLists → Catalog → FormLists → Catalog → Type 0
KnowsNext gate marks old catalog new next = (net : NetList) (ends : List ℕ) (gates : List GateValue) (i : ℕ) → ArePlaced net gates → slice_get gates i ≡ Some gate → AreMarks net ends gates marks → IsUnderway net ends gates i old catalog → IsUnderway net ends gates (i + 1) new next

-- where the marks tell how often nets are used, the lists have the units and the bodies of the gates in this order
abbrev pub AreFormsBy : NetList → List ℕ → List ℕ → FormLists → Type 0
AreFormsBy net order marks lists = (ends : List ℕ) → AreMarks net ends (gates_by net.gates order) marks → AreForms net ends (gates_by net.gates order) (forms_of lists)
