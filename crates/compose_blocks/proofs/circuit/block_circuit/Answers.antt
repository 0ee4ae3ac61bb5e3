use Rattle.std.proofs.Common.{sym, subst}
use Rattle.std.proofs.lemmas.Bool.{false≢true}
use Rattle.compose_blocks.specs.Block.{IsBlockFault}
use Rattle.compose_blocks.specs.declared.block_fault.BlockFault.{BlockFault}
use Rattle.compose_model.proofs.InstanceLemmas.{flat_binding}
use Rattle.compose_blocks.proofs.RefusalLemmas.{bind_refused}
use Rattle.compose_blocks.proofs.circuit.block_circuit.Goals as goal

pub returns-in-Err-bind-clause-fault : goal.returns-in-Err-bind-clause-fault
returns-in-Err-bind-clause-fault c =
    let P : BlockFault → Type 0 = IsBlockFault c.args.design.now c.args.model c.args.words.now in
    subst P (sym c.bind_refusal.ensures) (bind_refused c.args.design.now c.args.model c.args.words.now c.in-Ok.net c.in-Ok.ensures.net.0 c.in-Ok.ensures.net.1 c.in-Err-bind.fault c.in-Err-bind.ensures.fits)

pub unreachable-requires : goal.unreachable-requires
unreachable-requires c =
    let is = flat_binding c.requires.words.0 c.args.words.now c.requires.words.1 c.requires.unfed c.in-Ok.net c.in-Ok-bind.binding c.in-Ok.ensures.net.2 c.in-Ok.ensures.net.1 c.in-Ok-bind.ensures.fits in
    false≢true (c.in-Err-new.ensures.flat.1 is)
