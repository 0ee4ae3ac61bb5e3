-- Marks of names: the numbers that they have in one walk after another. Source: this project's own.
use Rattle.std.specs.Prelude.{◌≡◌, ℕ, ◌≤◌, List, Option, None, Some, String, nat_eq, option_and_then, slice_get, string_bytes, if◌then◌else◌}
use Rattle.std.specs.Str.{bytes_eq}
use Rattle.indexmap.specs.IndexMap.{IndexMap}
use Rattle.net_blif.specs.Table.{Numbers}
use Rattle.net_flat.specs.declared.mark.Mark.{Mark}

-- the mark of each name
abbrev pub Marking : Type 0
Marking = List ℕ → Option Mark

-- the number of a mark, if it is of this walk
abbrev pub number_in_walk : ℕ → Mark → Option ℕ
number_in_walk walk mark = if nat_eq mark.walk walk then Some mark.number else None

-- the numbers that names have in a walk
abbrev pub numbers_by : Marking → ℕ → Numbers
numbers_by marking walk name = option_and_then (number_in_walk walk) (marking name)

-- all marks are of this walk or of one before it
abbrev pub AreBefore : Marking → ℕ → Type 0
AreBefore marking walk = (name : List ℕ) (mark : Mark) → marking name ≡ Some mark → mark.walk ≤ walk

-- a name has this mark, and the others have theirs
abbrev pub with_mark : Marking → List ℕ → Mark → Marking
with_mark marking name mark other = if bytes_eq name other then Some mark else marking other

-- the name stands at this place of a map
pub record StandsAt {Y S : Type 0} (marks : IndexMap (String Y) Mark S) (place : ℕ) (name : List ℕ) : Type 0 where
  pub key : String Y
  pub mark : Mark
  pub entry : slice_get marks.entries place ≡ Some (key, mark)
  pub named : string_bytes key ≡ name
