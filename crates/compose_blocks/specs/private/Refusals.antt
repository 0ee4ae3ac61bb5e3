-- What faults of flattening and binding are for a block. Source: this project's own.
use Rattle.net_words.specs.declared.binding.BindFault.{BindFault}
use Rattle.net_words.specs.declared.binding.BindFault.TheVariants as binds
use Rattle.net_flat.specs.declared.flat_fault.FlatFault.{FlatFault}
use Rattle.net_flat.specs.declared.flat_fault.FlatFault.TheVariants as flats
use Rattle.compose_blocks.specs.declared.block_fault.BlockFault.{BlockFault}
use Rattle.compose_blocks.specs.declared.block_fault.BlockFault.TheVariants.{NoNet, NotBound, OutOfMemory}

-- all but out of memory say that there is no net
abbrev pub flat_refusal_of : FlatFault → BlockFault
flat_refusal_of (flats.Net fault) = NoNet
flat_refusal_of flats.TooManyInstances = NoNet
flat_refusal_of flats.OutOfMemory = OutOfMemory

-- all but out of memory say that the words do not bind
abbrev pub bind_refusal_of : BindFault → BlockFault
bind_refusal_of (binds.NoSuchNet word place) = NotBound
bind_refusal_of (binds.NotInput word place) = NotBound
bind_refusal_of (binds.NotLatch word place) = NotBound
bind_refusal_of (binds.NetTwice net) = NotBound
bind_refusal_of (binds.FeedNotFree line) = NotBound
bind_refusal_of (binds.Uncovered net) = NotBound
bind_refusal_of (binds.UnknownStart net) = NotBound
bind_refusal_of binds.OutOfMemory = OutOfMemory
