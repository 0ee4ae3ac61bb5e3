use Rattle.std.proofs.Common.{◌≡◌, ◌≤◌, ◌<◌, ℕ, drop}
use Rattle.std.specs.Prelude.{slice_index_or}
use Rattle.net_words.specs.declared.feed.Source.TheVariants.{Zero}
use Rattle.unroll.specs.Places.{net_at}
use Rattle.unroll.specs.Sources.{source_at}
use Rattle.unroll.proofs.sources.put_sources.Given as goal

-- the sources of the feeds from here on
abbrev pub invariant-loop-i : goal.invariant-loop-i
invariant-loop-i l = (t n : ℕ) → t ≤ l.cycles → n < l.nets → slice_index_or l.sources (net_at l.nets t n) Zero ≡ source_at (drop l.i l.feeds) n t
