use Rattle.net_blif.specs.Table.{numbers_in}
use Rattle.compose_wiring.proofs.StepLemmas.{known_more}
use Rattle.compose_wiring.proofs.block_words.add_names.Goals as goal

pub loop-place-preserved : goal.loop-place-preserved
loop-place-preserved c = known_more c.args.names.now c.loop-place.place c.net_at.result.now (numbers_in c.args.table.now) (numbers_in c.loop-place.table) (numbers_in c.insert.new.self) c.net_at.ensures c.loop-place.invariant c.in_ok-insert.ensures
