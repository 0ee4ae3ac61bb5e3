use Rattle.std.proofs.Common.{◌≡◌, ◌∙◌, ap, suc, Bool, not, List, [], ◌∷◌, length, arith}
use Rattle.std.specs.Bool.{◌==◌}
use Rattle.std.proofs.lemmas.Bool.{ne_eqb}
use Rattle.net_words.specs.declared.feed.FeedText.{FeedText}
use Rattle.compose_blocks.specs.Structure.{is_fed_by_line}
use Rattle.compose_blocks.proofs.structure.has_lines.Goals as goal

lines_are : (feeds : List FeedText) (b : Bool) → b ≡ (length feeds == 0) → not b ≡ is_fed_by_line feeds
lines_are [] b e = ap not e
lines_are (feed ∷ feeds) b e = ap not (e ∙ ne_eqb (suc (length feeds)) 0 (λ h. omega (arith, h)))

pub returns : goal.returns
returns c = lines_are c.args.feeds.now c.is_empty.result c.is_empty.ensures
