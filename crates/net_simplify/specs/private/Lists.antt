-- Units and bodies as lists, and indices of tables. Source: this project's own.
use Rattle.std.specs.Prelude.{◌≡◌, ◌≢◌, ◌⊎◌, ℕ, zero, suc, drop, remove, ◌<◌, ◌≤◌, ◌+◌, ◌*◌, ◌/◌, ◌%◌, ◌^◌, Bool, true, false, ◌==◌, nat_lt, List, [], ◌∷◌, Option, Some, None, length, slice_get, map, unwrap_or, if◌then◌else◌}
use Rattle.std.specs.Int.{bit_at}
use Rattle.std.specs.Option.{option_map_or}
use Rattle.lists.specs.Lists.{Has}
use Rattle.net_core.specs.Value.{bit_of, index_of}
use Rattle.net_simplify.specs.Form.{Form, value, IsForm, IsRising, DependsOn, IsComposed, index_by, itself}
use Rattle.net_simplify.specs.Choice.{Forms, leaves_of}

-- the units and the bodies by net
pub record FormLists : Type 0 where
  pub units : List Form
  pub bodies : List Form

-- the value 0 at all bits
abbrev pub no_form : Form
no_form = record { leaves = []; table = 0 }

-- the form of a net, where the list has one
abbrev pub form_at : List Form → ℕ → Form
form_at forms n = unwrap_or (slice_get forms n) no_form

-- the first nets, each itself
abbrev pub AreThemselves : List Form → ℕ → Type 0
AreThemselves forms count = (length forms ≡ count) × ((n : ℕ) → n < count → form_at forms n ≡ itself n)

-- so many nets, of which each is itself
abbrev pub AreAllThemselves : ℕ → FormLists → Type 0
AreAllThemselves count lists = AreThemselves lists.units count × AreThemselves lists.bodies count

-- the units and bodies of the lists
abbrev pub forms_of : FormLists → Forms
forms_of lists = record { unit = form_at lists.units; body = form_at lists.bodies }

-- the bit of a net as a number
abbrev pub bit_number : List Bool → ℕ → ℕ
bit_number bits n = if bit_of bits n then 1 else 0

-- the value as a number
abbrev pub value_number : List Bool → Form → ℕ
value_number bits form = if value bits form then 1 else 0

-- an index with one more place, which has this bit
abbrev pub with_place : ℕ → ℕ → ℕ → ℕ
with_place zero bit index = bit + 2 * index
with_place (suc place) bit index = index % 2 + 2 * with_place place bit (index / 2)

-- the form without the leaf at the place, and with this table
abbrev pub without_leaf : Form → ℕ → ℕ → Form
without_leaf form place table = record { leaves = remove form.leaves place; table = table }

-- What is left of a form where the leaf at the place is tried: the value stays, the leaves from the place on are those of
-- before, without this one if the value does not depend on it, and those before stay.
pub record Reduces (form : Form) (place : ℕ) (left : Form) : Type 0 where
  pub same : (bits : List Bool) → value bits left ≡ value bits form
  pub rises : IsRising left.leaves
  pub long : place ≤ length left.leaves
  pub after : (n : ℕ) → Has (drop place left.leaves) n → Has (drop (suc place) form.leaves) n ⊎ DependsOn form n

-- What is left of a form after some places were tried: the value is that at the beginning, and it depends on the leaves from
-- the place on.
pub record IsLeft (start form : Form) (place : ℕ) : Type 0 where
  pub same : (bits : List Bool) → value bits form ≡ value bits start
  pub rises : IsRising form.leaves
  pub long : place ≤ length form.leaves
  pub depends : (n : ℕ) → Has (drop place form.leaves) n → DependsOn start n

-- how many numbers of a list stand before the first that is not below x
abbrev pub leaf_place : ℕ → List ℕ → ℕ
leaf_place x [] = 0
leaf_place x (y ∷ ys) = if nat_lt y x then 1 + leaf_place x ys else 0

-- the number stands at the place
abbrev pub is_at_place : List ℕ → ℕ → ℕ → Bool
is_at_place xs place x = option_map_or (λ y. y == x) (slice_get xs place) false

-- the list is all of these, which are no more than the limit; or these are more
abbrev pub IsJoined : ℕ → List ℕ → List ℕ → Bool → Type 0
IsJoined limit all list true = (list ≡ all) × (length all ≤ limit)
IsJoined limit all list false = limit < length all

-- the leaves of each form stand in the list
abbrev pub HoldLeaves : List ℕ → List Form → Type 0
HoldLeaves leaves forms = (form : Form) → Has forms form → (n : ℕ) → Has form.leaves n → Has leaves n

-- the form is the table's function of the forms, which have no more leaves together than the limit; there is none where they
-- have more
abbrev pub IsComposedWithin : ℕ → ℕ → List Form → Option Form → Type 0
IsComposedWithin limit table forms (Some form) = IsComposed table forms form × (length (leaves_of forms) ≤ limit)
IsComposedWithin limit table forms None = limit < length (leaves_of forms)

-- bit i of the word is the value of the function where the bits of the leaves make the index i
abbrev pub IsWordOf : List ℕ → (List Bool → ℕ) → ℕ → Type 0
IsWordOf leaves function word = (bits : List Bool) → bit_at word (index_of bits leaves) ≡ function bits

-- the word of the table's function of the forms, where the leaves of each stand in the list
abbrev pub IsWordOver : List ℕ → ℕ → List Form → ℕ → Type 0
IsWordOver leaves table forms word = HoldLeaves leaves forms → IsWordOf leaves (λ bits. bit_at table (index_by bits forms)) word

-- the bit of the table at some index is another one where the bit at this place is
abbrev pub IsTold : ℕ → ℕ → ℕ → Type 0
IsTold table places place = (i : ℕ) × (i < 2 ^ places) × (bit_at table (with_place place 0 i) ≢ bit_at table (with_place place 1 i))

-- where the form has one leaf at most, the body is what the form is of its leaf's body
abbrev pub IsBodyOver : List Form → Form → Form → Type 0
IsBodyOver bodies form body = IsForm form → length form.leaves ≤ 1 → ((n : ℕ) → Has form.leaves n → IsForm (form_at bodies n)) → IsComposed form.table (map (form_at bodies) form.leaves) body
