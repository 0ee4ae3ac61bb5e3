use Rattle.std.proofs.Common.{◌^◌, ℕ, List, length, ap, arith}
use Rattle.net_simplify.specs.private.Lists.{forms_of}
use Rattle.net_simplify.proofs.BestLemmas.{best_end, best_start}
use Rattle.net_simplify.proofs.choosing.choose.Goals as goal

pub loop-opened-init : goal.loop-opened-init
loop-opened-init c = λ single are. best_start single (forms_of c.args.known.now) c.args.gate.now c.in_ok-best.best c.in_ok-best.ensures

pub returns : goal.returns
returns c = λ single are.
    best_end single (forms_of c.args.known.now) c.args.gate.now c.loop-opened.best c.loop-opened.opened
    (omega (arith, c.loop-opened-test.false, c.rows-opened-end.ensures.rows, ap (λ (ns : List ℕ). 2 ^ length ns) c.inputs.ensures.inputs)) (c.loop-opened.invariant single are)
