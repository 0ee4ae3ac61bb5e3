-- The state of a walker. Source: this project's own.
use Rattle.net_flat.specs.declared.walker.Walker.{Walker}
use Rattle.net_flat.specs.private.LocalScope.{local_in}
use Rattle.net_flat.specs.private.LocalWalk.{State}

abbrev pub state_of : Walker → State
state_of walker = record { net = walker.maker; instances = walker.instances; local = local_in walker.scope }
