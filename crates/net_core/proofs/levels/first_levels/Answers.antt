use Rattle.std.proofs.Common.{◌≡◌, ◌∙◌, ap, List, ℕ, ◌++◌}
use Rattle.std.proofs.lemmas.Result.{MatchResult-weaker}
use Rattle.net_core.specs.Sound.{sources}
use Rattle.net_core.proofs.LevelLemmas.{first_partial, sources_inside}
use Rattle.net_core.proofs.levels.first_levels.Goals as goal

pub zeros-requires : goal.zeros-requires
zeros-requires c =
    let same : c.deref.result.now ≡ sources c.args.net.now = c.deref.ensures.value ∙ (c.in_ok-add_sources.ensures ∙ ap (λ (list : List ℕ). list ++ sources c.args.net.now) c.new-sources.ensures.items) in
    rw (same, c.nets.ensures.count) (sources_inside c.args.net.now c.nets.ensures.inside)

pub returns : goal.returns
returns c =
    let same : c.deref.result.now ≡ sources c.args.net.now = c.deref.ensures.value ∙ (c.in_ok-add_sources.ensures ∙ ap (λ (list : List ℕ). list ++ sources c.args.net.now) c.new-sources.ensures.items) in
    MatchResult-weaker c.zeros.result c.zeros.ensures
    (λ levels is. first_partial c.args.net.now levels.items c.deref.result.now c.nets.result c.nets.ensures.inside c.requires c.nets.ensures.count same is)
    (λ fault w. w)
