use Rattle.std.proofs.Common.{◌≡◌, ◌-◌, arith, drop, get_or, subst, sym}
use Rattle.std.proofs.lemmas.Option.{slice_get-get_or}
use Rattle.net_words.specs.declared.feed.Feed.{Feed}
use Rattle.net_words.specs.declared.feed.Source.TheVariants.{Zero}
use Rattle.std.proofs.Common.{List, ◌≤◌, ◌<◌, ℕ}
use Rattle.unroll.specs.Places.{net_at}
use Rattle.unroll.specs.Sources.{source_at}
use Rattle.unroll.proofs.PlanLemmas.{feeds_back, put_here}
use Rattle.unroll.proofs.sources.put_sources.Goals as goal

pub put_source-requires-clause-net : goal.put_source-requires-clause-net
put_source-requires-clause-net c = c.requires.nets (get_or c.args.feeds.now (c.loop-i.i - 1) (record { line = 0; net = 0; cycle = 0; source = Zero })) (c.loop-i.i - 1, slice_get-get_or c.args.feeds.now (c.loop-i.i - 1) (record { line = 0; net = 0; cycle = 0; source = Zero }) (omega arith))

pub loop-i-preserved : goal.loop-i-preserved
loop-i-preserved c =
    let feed : Feed = get_or c.args.feeds.now (c.loop-i.i - 1) (record { line = 0; net = 0; cycle = 0; source = Zero }) in
    let rest : List Feed = drop c.loop-i.i c.args.feeds.now in
    let back = feeds_back c.args.feeds.now c.loop-i.i (record { line = 0; net = 0; cycle = 0; source = Zero }) (omega arith) (omega arith) in
    let P : List Feed → Type 0 = λ fs. (t n : ℕ) → t ≤ c.args.cycles → n < c.args.nets → get_or c.put_source.new.sources (net_at c.args.nets t n) Zero ≡ source_at fs n t in
    subst P (sym back) (put_here c.args.nets c.args.cycles c.loop-i.sources c.put_source.new.sources feed rest (omega (arith, c.requires.long, c.loop-i.auto.sources)) (c.requires.nets feed (c.loop-i.i - 1, slice_get-get_or c.args.feeds.now (c.loop-i.i - 1) (record { line = 0; net = 0; cycle = 0; source = Zero }) (omega arith))) c.put_source.ensures.put c.put_source.ensures.kept c.loop-i.invariant)
