use Rattle.std.proofs.Common.{subst, sym}
use Rattle.net_words.specs.Feeds.{IsSource}
use Rattle.net_words.specs.declared.feed.Source.{Source}
use Rattle.std.proofs.Common.{map}
use Rattle.unroll.proofs.SoundLemmas.{bound_source}
use Rattle.unroll.proofs.plan.Plan.add_feeding.Goals as goal

pub add_source-requires-clause-source : goal.add_source-requires-clause-source
add_source-requires-clause-source c =
    let P : Source → Type 0 = λ s. IsSource c.args.self.now.binding.k (map (λ word. word.role) c.args.self.now.binding.words) s in
    subst P (sym c.source.ensures) (bound_source c.args.self.now.net c.args.self.now.binding c.args.n c.args.t c.requires.binding)
