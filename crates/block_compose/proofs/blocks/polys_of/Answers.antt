use Rattle.std.proofs.Common.{rules, ℕ, get_or, map, arith}
use Rattle.std.proofs.lemmas.Option.{slice_get-get_or}
use Rattle.block_compose.proofs.BlockLemmas.{all_taken, taken_more}
use Rattle.block_compose.proofs.blocks.polys_of.Goals as goal

pub poly_at-requires : goal.poly_at-requires
poly_at-requires c = c.requires c.loop-i.i (get_or c.args.numbers.now c.loop-i.i 0) (slice_get-get_or c.args.numbers.now c.loop-i.i 0 c.loop-i-test.true)

pub loop-i-preserved : goal.loop-i-preserved
loop-i-preserved c =
    let number : ℕ = get_or c.args.numbers.now c.loop-i.i 0 in
    taken_more c.args.polys.now c.args.numbers.now c.loop-i.i number (map (λ q. q.now) c.loop-i.list.items) (map (λ q. q.now) c.add_one.new.list.items) c.poly_at.result.now c.loop-i.invariant (slice_get-get_or c.args.numbers.now c.loop-i.i 0 c.loop-i-test.true) c.poly_at.ensures (search rules)

pub returns : goal.returns
returns c = all_taken c.args.polys.now c.args.numbers.now c.loop-i.i (map (λ q. q.now) c.loop-i.list.items) c.loop-i.invariant (omega arith)
