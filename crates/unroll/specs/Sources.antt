-- What a fed net holds in a cycle. Source: this project's own format, docs/FORMATS.md.
use Rattle.std.specs.Prelude.{ℕ, ◌==◌, ◌&&◌, List, [], ◌∷◌, if◌then◌else◌}
use Rattle.net_words.specs.declared.feed.Feed.{Feed}
use Rattle.net_words.specs.declared.feed.Source.{Source}
use Rattle.net_words.specs.declared.feed.Source.TheVariants.{Zero}

-- the source of the net's feed for the cycle, and 0 where there is none
abbrev pub source_at : List Feed → ℕ → ℕ → Source
source_at [] n t = Zero
source_at (feed ∷ feeds) n t = if feed.net == n && feed.cycle == t then feed.source else source_at feeds n t
