-- Indexes in the names of scalars: words of this crate's code. Source: this project's own.
use Rattle.std.specs.Prelude.{◌≡◌, ℕ, ◌≤◌, List, [], ◌∷◌, map, Option, None, Some, if◌then◌else◌, String, Vec, string_bytes}
use Rattle.std.specs.Str.{bytes_eq}
use Rattle.lists.specs.Lists.{Has}
use Rattle.net_verilog.specs.Declarations.{Declarations, Range, bit_name, range_of}
use Rattle.verilog_reader.specs.Declares.{Meets}

-- lists of indexes, each with its name
abbrev pub Lists : Type 0
Lists = List (List ℕ × List ℕ)

-- each name by its bytes, each list by its items
abbrev pub named_lists : {X Y : Type 0} → List (String Y × Vec ℕ X) → Lists
named_lists es = map (λ e. (string_bytes e.0, e.1.items)) es

-- the items of a list that was found, or none
abbrev pub items_or : {X : Type 0} → Option (Vec ℕ X) → List ℕ
items_or None = []
items_or (Some list) = list.items

-- the list of a name
abbrev pub list_at : Lists → List ℕ → List ℕ
list_at [] name = []
list_at (e ∷ es) name = if bytes_eq name e.0 then e.1 else list_at es name

-- with a list in the place of that of a name
abbrev pub put_list : List ℕ → List ℕ → Lists → Lists
put_list name xs [] = (name, xs) ∷ []
put_list name xs (e ∷ es) = if bytes_eq name e.0 then (e.0, xs) ∷ es else e ∷ put_list name xs es

-- what was listed is listed still
abbrev pub IsKept : Lists → Lists → Type 0
IsKept before after = (name : List ℕ) (i : ℕ) → Has (list_at before name) i → Has (list_at after name) i

-- if a name is that of a bit, its index is listed at the vector's name
abbrev pub IsListed : Lists → List ℕ → Type 0
IsListed lists name = (before : List ℕ) (i : ℕ) → i ≤ 4294967295 → name ≡ bit_name before i → Has (list_at lists before) i

-- each bit of a name that is the name of a declared scalar has its index in the list
abbrev pub IsEach : Declarations → List ℕ → List ℕ → Type 0
IsEach declared name list = (i : ℕ) → i ≤ 4294967295 → range_of declared (bit_name name i) ≡ Some None → Has list i

-- the indexes in the names of declared scalars are listed
abbrev pub AreListed : Declarations → Lists → Type 0
AreListed declared lists = (name : List ℕ) → IsEach declared name (list_at lists name)

-- no two declared names make nets of one name
abbrev pub AreApart : Declarations → Type 0
AreApart declared = (name : List ℕ) (range : Range) → range_of declared name ≡ Some range → Meets declared range name → ⊥
