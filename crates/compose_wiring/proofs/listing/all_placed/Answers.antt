use Rattle.std.proofs.Common.{◌≡◌, ℕ, Some, arith}
use Rattle.std.specs.Prelude.{slice_get, slice_index}
use Rattle.std.proofs.lemmas.Option.{slice_get-get_or}
use Rattle.lists.specs.laws.ReadLaws.{got_read}
use Rattle.compose_wiring.proofs.StepLemmas.{placed_more}
use Rattle.compose_wiring.proofs.listing.all_placed.Goals as goal

pub loop-instance-preserved : goal.loop-instance-preserved
loop-instance-preserved c =
    let i : ℕ = c.loop-instance.instance in
    let number : ℕ = slice_index c.args.numbers.now i in
    let at_number : slice_get c.args.numbers.now i ≡ Some number = slice_get-get_or c.args.numbers.now i 0 (omega (arith, c.loop-instance-test.true, c.requires.long)) in
    placed_more c.args.blocks.now c.args.numbers.now c.args.connections.now i number c.index-connections-instance.result c.index-blocks-number.result c.in_ok-placed.placed c.loop-instance.list.items c.push.new.self.items
    (got_read c.args.connections.now i c.index-connections-instance.result c.loop-instance-test.true c.index-connections-instance.is) at_number
    (got_read c.args.blocks.now number c.index-blocks-number.result (c.requires.inside i number at_number) c.index-blocks-number.is) c.in_ok-placed.ensures c.loop-instance.invariant c.in_ok-push.ensures.items
