-- The numbers of the names of a model in the present walk. Source: this project's own.
use Rattle.std.specs.Prelude.{ℕ, List, IfSome}
use Rattle.indexmap.specs.IndexMap.{get_by_text}
use Rattle.net_blif.specs.Table.{Numbers}
use Rattle.net_flat.specs.declared.known_names.KnownNames.{KnownNames}
use Rattle.net_flat.specs.private.Marking.{numbers_by, StandsAt}

abbrev pub known_in : KnownNames → Numbers
known_in known = numbers_by (get_by_text known.marks) known.walk

-- where there is a place, the name stands there
abbrev pub HasPlace : KnownNames → List ℕ → Type 0
HasPlace known name = IfSome known.place (λ p. StandsAt known.marks p name)
