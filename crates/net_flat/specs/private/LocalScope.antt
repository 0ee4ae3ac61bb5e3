-- What a walker knows, as the words of the walk see it. Source: this project's own.
use Rattle.std.specs.Prelude.{string_bytes, if◌then◌else◌}
use Rattle.net_flat.specs.declared.scope.Scope.{Scope}
use Rattle.net_flat.specs.private.KnownNumbers.{known_in}
use Rattle.net_flat.specs.private.LocalWalk.{Local, InTop, Inside}

abbrev pub local_in : Scope → Local
local_in scope = if scope.is_top then InTop else Inside (string_bytes scope.prefix) (known_in scope.numbers)
