-- Feeds: what bits primary inputs have in single cycles. Source: this project's own, docs/DEFINITIONS.md.
use Rattle.std.specs.Prelude.{ℕ, ◌==◌, ◌&&◌, false, List, [], ◌∷◌, map, if◌then◌else◌}
use Rattle.circuit_model.specs.declared.circuit_feed.CircuitFeed.{CircuitFeed}
use Rattle.circuit_model.specs.declared.circuit_feed.FeedSource.{FeedSource}
use Rattle.circuit_model.specs.declared.circuit_feed.FeedSource.TheVariants.{Constant}

-- the nets that are fed in some cycle
abbrev pub fed_nets : List CircuitFeed → List ℕ
fed_nets feeds = map (λ feed. feed.net) feeds

-- the source of the net's feed for the cycle, and the constant 0 where there is none
abbrev pub source_at : List CircuitFeed → ℕ → ℕ → FeedSource
source_at [] n t = Constant false
source_at (feed ∷ feeds) n t = if feed.net == n && feed.cycle == t then feed.source else source_at feeds n t
