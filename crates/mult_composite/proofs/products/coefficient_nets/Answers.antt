use Rattle.std.proofs.Common.{◌≡◌, ◌∙◌, ap, ◌+◌, ◌*◌, ◌-◌, arith, take, drop, length}
use Rattle.mult_composite.proofs.ListLemmas.{coefficient_long}
use Rattle.mult_composite.proofs.RoomLemmas.{place_whole}
use Rattle.mult_composite.proofs.products.coefficient_nets.Goals as goal

pub returns-clause-nets : goal.returns-clause-nets
returns-clause-nets c =
    let same : c.args.n * c.args.i + c.args.n - c.args.n * c.args.i ≡ c.args.n = omega arith in
    ap (λ (l : _). take l (drop (c.args.n * c.args.i) c.args.nets.now)) same

pub returns-clause-long : goal.returns-clause-long
returns-clause-long c = ap length (returns-clause-nets c) ∙ coefficient_long c.args.n c.args.m c.args.nets.now c.args.i c.requires.long c.requires.coefficient

pub overflow_mul-start : goal.overflow_mul-start
overflow_mul-start c = omega (arith, place_whole c.args.n c.args.m c.args.i c.requires.coefficient, c.requires.small)
