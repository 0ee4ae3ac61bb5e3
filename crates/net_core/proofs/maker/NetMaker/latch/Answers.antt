use Rattle.std.proofs.Common.{sym, subst, arith}
use Rattle.net_core.specs.LatchValue.{LatchValue}
use Rattle.net_core.specs.Inside.{LatchIsInside}
use Rattle.net_core.specs.NetList.{NetList, nets}
use Rattle.net_core.proofs.InsideLemmas.{inside_latch}
use Rattle.net_core.proofs.maker.NetMaker.latch.Goals as goal

pub invariant_of-self-then-len-lt-MAX_GATES : goal.invariant_of-self-then-len-lt-MAX_GATES
invariant_of-self-then-len-lt-MAX_GATES c =
    let old = c.self.inside in
    let net : NetList = record { labels = old.labels.items; inputs = old.inputs.items; outputs = old.outputs.items; gates = old.gates.items; latches = old.latches.items } in
    let latch : LatchValue = record { next = c.args.next; out = c.args.out; start = c.args.start } in
    let P : NetList → Type 0 = λ n. LatchIsInside (nets n) latch in
    let fits : P net = subst P (sym c.self.view_is) (c.requires.next, c.requires.out) in
    (c.self.invariant.0, inside_latch net c.push.new.self.items latch c.in_ok-push.ensures.items fits (omega arith) c.self.invariant.1)
