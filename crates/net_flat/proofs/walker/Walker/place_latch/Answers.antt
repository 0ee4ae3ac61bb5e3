use Rattle.std.proofs.Common.{rules, ap}
use Rattle.std.proofs.lemmas.Result.{IfErr-weaker, on_ok_weaker}
use Rattle.net_core.specs.NetList.{NetList}
use Rattle.net_flat.specs.Steps.{latch_steps}
use Rattle.net_flat.specs.private.LocalWalk.{local_walked, IsFaultOf}
use Rattle.net_flat.proofs.StateLemmas.{driven_refused, found_inside, inside_as, kept, latch_made, latch_refused}
use Rattle.net_flat.specs.private.WalkerState.{state_of}
use Rattle.net_flat.specs.private.Stopping.{IsFaultOfGate}
use Rattle.net_flat.specs.declared.flat_fault.FlatFault.{FlatFault}
use Rattle.net_flat.proofs.walker.Walker.place_latch.Goals as goal

pub returns-in_err-driven-clause-fault : goal.returns-in_err-driven-clause-fault
returns-in_err-driven-clause-fault c =
    let fault : IsFaultOf (local_walked (state_of c.args.self.now) (latch_steps c.args.next.now c.args.out.now c.args.start)) c.in_err-driven.field-0.0 = driven_refused (state_of c.args.self.now) (state_of c.mention.new.self) (state_of c.mention.new.self) c.args.next.now c.args.out.now c.args.start c.in_ok-read.ensures.made c.in_err-driven.field-0.0 c.in_err-driven.ensures.fault in
    search rules

pub latch-requires-clause-next : goal.latch-requires-clause-next
latch-requires-clause-next c = found_inside (state_of c.mention-2.new.self) c.args.next.now c.in_ok-read.read c.in_ok-driven.ensures.inside (kept (state_of c.mention.new.self) (state_of c.mention-2.new.self) c.args.out.now c.in_ok-driven.ensures.made c.args.next.now c.in_ok-read.read c.in_ok-read.ensures.number)

pub latch-requires-clause-out : goal.latch-requires-clause-out
latch-requires-clause-out c = found_inside (state_of c.mention-2.new.self) c.args.out.now c.in_ok-driven.driven c.in_ok-driven.ensures.inside c.in_ok-driven.ensures.number

pub returns-clause-made : goal.returns-clause-made
returns-clause-made c =
    on_ok_weaker c.latch.result (λ is. latch_made (state_of c.args.self.now) (state_of c.mention.new.self) (state_of c.mention-2.new.self) c.args.next.now c.args.out.now c.args.start c.in_ok-read.ensures.made c.in_ok-driven.ensures.made c.in_ok-read.read c.in_ok-driven.driven c.latch.new.self c.in_ok-read.ensures.number c.in_ok-driven.ensures.number is.0 is.1) c.latch.ensures.made

pub returns-clause-inside : goal.returns-clause-inside
returns-clause-inside c = on_ok_weaker c.latch.result (λ is. inside_as (state_of c.mention-2.new.self) c.latch.new.self (ap (λ (n : NetList). n.labels) is.0) c.in_ok-driven.ensures.inside) c.latch.ensures.made

pub returns-clause-fault : goal.returns-clause-fault
returns-clause-fault c =
    IfErr-weaker c.latch.result _ _ (λ (stop : FlatFault) (is : IsFaultOfGate (state_of c.mention-2.new.self).net stop). latch_refused (state_of c.args.self.now) (state_of c.mention.new.self) (state_of c.mention-2.new.self) c.args.next.now c.args.out.now c.args.start c.in_ok-read.ensures.made c.in_ok-driven.ensures.made is.refusal stop is.is is.only is.full) c.latch.ensures.fault
