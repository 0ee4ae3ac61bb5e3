use Rattle.std.proofs.Common.{◌≡◌, drop}
use Rattle.circuit_model.specs.Feeds.{source_at}
use Rattle.plain_runs.proofs.fed_bits.source_at.Given as goal

abbrev pub invariant-loop-feed : goal.invariant-loop-feed
invariant-loop-feed l = source_at (drop l.feed-index l.feeds) l.net l.cycle ≡ source_at l.feeds l.net l.cycle
