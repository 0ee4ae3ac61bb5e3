use Rattle.std.proofs.Common.{sym, subst}
use Rattle.net_core.specs.NetList.{NetList}
use Rattle.net_core.specs.Sound.{IsSound}
use Rattle.net_core.proofs.LawLemmas.{sound_no_fault}
use Rattle.make_nets.specs.MadeNet.{names_in}
use Rattle.make_nets.proofs.SoundLemmas.{sound}
use Rattle.make_nets.proofs.finishing.finish.Goals as goal

-- src/finishing.rt:68:27
pub want_of_memory-requires : goal.want_of_memory-requires
want_of_memory-requires c =
    let P : NetList → Type 0 = λ net. IsSound net in
    let is : IsSound c.fill.new.maker = subst P (sym c.in_ok-fill.ensures) (sound (names_in c.args.maker) c.args.prefix.now c.args.inputs.now c.args.outputs.now c.args.latches.now c.requires.fits.0 c.args.plan.now c.requires.fits.1) in
    sound_no_fault c.fill.new.maker c.in-Err.fault is c.in-Err.ensures
