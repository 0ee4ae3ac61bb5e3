use Rattle.std.proofs.Common.{◌<◌, ℕ, List, length, get_or, arith}
use Rattle.rato_reduce.proofs.LowLemmas.{rank_put, rank_there}
use Rattle.rato_reduce.proofs.UnitedLemmas.{below}
use Rattle.rato_reduce.proofs.united.add_low.Goals as goal

pub returns-then-at-bits-clause-added : goal.returns-then-at-bits-clause-added
returns-then-at-bits-clause-added c =
    let bits : List ℕ = c.args.bits.now in
    let at = c.copy_low-at.result in
    rank_put bits c.args.from c.args.rank c.args.list.now.items at c.copy_low-at.new.list.items c.push_reserved.new.self.items c.copy_low-at.ensures.copied (λ inside. absurd (omega (arith, inside, c.if-at-bits.true))) c.push_reserved.ensures.items

pub returns-then-here-rank-clause-added : goal.returns-then-here-rank-clause-added
returns-then-here-rank-clause-added c =
    let bits : List ℕ = c.args.bits.now in
    let at = c.copy_low-at.result in
    let inside : at < length bits = omega (arith, c.copy_low-at.ensures.within, c.if-at-bits.false) in
    rank_there bits c.args.from c.args.rank c.args.list.now.items at c.copy_low-at.new.list.items c.copy_low-at.ensures.copied inside c.if-here-rank.true

pub returns-clause-added : goal.returns-clause-added
returns-clause-added c =
    let bits : List ℕ = c.args.bits.now in
    let at = c.copy_low-at.result in
    rank_put bits c.args.from c.args.rank c.args.list.now.items at c.copy_low-at.new.list.items c.push_reserved-2.new.self.items c.copy_low-at.ensures.copied (λ inside. below c.args.rank (get_or bits at 0) (c.copy_low-at.ensures.stop inside) c.if-here-rank.false) c.push_reserved-2.ensures.items
