use Rattle.std.proofs.Common.{◌∙◌, ap, arith}
use Rattle.std.proofs.lemmas.List.{take_all}
use Rattle.compose_model.specs.Wiring.{instances_among}
use Rattle.compose_polys.proofs.WiredLemmas.{row_more}
use Rattle.compose_polys.proofs.graph.row_of.Goals as goal

pub loop-j-preserved : goal.loop-j-preserved
loop-j-preserved c = row_more c.args.feeds.now c.loop-j.j c.feed_at-feed.result c.loop-j.row.items c.add_instance.new.row.items c.feed_at-feed.ensures c.loop-j.invariant c.in_ok-add_instance.ensures

pub returns : goal.returns
returns c = c.loop-j.invariant ∙ ap instances_among (take_all c.loop-j.j c.args.feeds.now (omega (arith, c.loop-j-test.false)))
