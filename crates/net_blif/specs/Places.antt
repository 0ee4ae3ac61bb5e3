-- Items whose tokens stand in one list, by the places where they begin and end. Source: this project's own.
use Rattle.std.specs.Prelude.{ℕ, ◌+◌, ◌≤◌, ◌<◌, List, [], map, slice_index_or, slice_range, All}
use Rattle.net_blif.specs.Statement.{Token}
use Rattle.net_blif.specs.declared.item.Item.{Item}
use Rattle.net_blif.specs.declared.item.Item.TheVariants.{Inputs, Outputs, Gate, Latch, Instance}
use Rattle.net_blif.specs.declared.item_list.Place.{Place}
use Rattle.net_blif.specs.declared.item_list.Place.TheVariants as places

-- the output of a gate stands behind its inputs, that of a latch behind the net that it reads, and the model of an instance behind its connections
abbrev pub item_at : List Token → Place → Item
item_at tokens (places.Inputs first end) = Inputs (slice_range tokens first end)
item_at tokens (places.Outputs first end) = Outputs (slice_range tokens first end)
item_at tokens (places.Gate line first end table) = Gate line (slice_range tokens first end) (slice_index_or tokens end []) table
item_at tokens (places.Latch line first start) = Latch line (slice_index_or tokens first []) (slice_index_or tokens (first + 1) []) start
item_at tokens (places.Instance line first end) = Instance line (slice_index_or tokens end []) (slice_range tokens first end)

abbrev pub items_at : List Token → List Place → List Item
items_at tokens places = map (item_at tokens) places

-- the tokens of an item are among n
abbrev pub IsPlace : ℕ → Place → Type 0
IsPlace n (places.Inputs first end) = (first ≤ end) × (end ≤ n)
IsPlace n (places.Outputs first end) = (first ≤ end) × (end ≤ n)
IsPlace n (places.Gate line first end table) = (first ≤ end) × (end < n)
IsPlace n (places.Latch line first start) = first + 1 < n
IsPlace n (places.Instance line first end) = (first ≤ end) × (end < n)

abbrev pub ArePlaces : ℕ → List Place → Type 0
ArePlaces n places = All (IsPlace n) places
