-- Where names stand among labels. Source: this project's own.
use Rattle.std.specs.Prelude.{◌≡◌, ℕ, Bool, true, false, List, None, Some, slice_get, nat_eq}
use Rattle.std.specs.Option.{option_map_or}
use Rattle.indexmap.specs.IndexMap.{get}
use Rattle.net_core.specs.NetList.{LabelValue, is_named, number_from}
use Rattle.net_core.specs.private.NameHash.{hash_of}
use Rattle.net_core.specs.declared.places.Places.{Places}

-- no label is a name whose hash is not among the keys
abbrev pub IsPlaced : Places → List LabelValue → Type 0
IsPlaced places labels = (name : List ℕ) → get nat_eq places.first (hash_of places.hash name) ≡ None → number_from 0 labels name ≡ None

-- the hash of the name is among the keys
abbrev pub HasPlace : Places → List ℕ → Type 0
HasPlace places name = get nat_eq places.first (hash_of places.hash name) ≡ None → ⊥

-- each named label is found by its name
abbrev pub AreFound : List LabelValue → Type 0
AreFound labels = (n : ℕ) (label : LabelValue) → slice_get labels n ≡ Some label → label.named ≡ true → number_from 0 labels label.text ≡ Some n

-- there is this net and it has this name
abbrev pub has_name_at : List LabelValue → ℕ → List ℕ → Bool
has_name_at labels n name = option_map_or (is_named name) (slice_get labels n) false
