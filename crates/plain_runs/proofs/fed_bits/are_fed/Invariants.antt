use Rattle.std.proofs.Common.{◌≡◌, ℕ, ◌<◌, Some}
use Rattle.std.specs.Prelude.{slice_get}
use Rattle.net_core.specs.Value.{bit_of}
use Rattle.circuit_model.specs.declared.circuit_feed.CircuitFeed.{CircuitFeed}
use Rattle.plain_runs.specs.private.Cycle.{HasItsSource}
use Rattle.plain_runs.proofs.fed_bits.are_fed.Given as goal

abbrev pub invariant-loop-feed : goal.invariant-loop-feed
invariant-loop-feed g l = (k : ℕ) (f : CircuitFeed) → k < l.feed-index → slice_get l.feeds k ≡ Some f → HasItsSource l.words l.xs l.feeds l.cycle f.net (bit_of l.bits f.net)
