use Rattle.std.proofs.Common.{◌∙◌, ap, ap₂, rules, List, ℕ, ◌++◌, map}
use Rattle.std.proofs.lemmas.List.{append_assoc}
use Rattle.std.proofs.lemmas.Result.{MatchResult-weaker}
use Rattle.std.proofs.lemmas.Iterator.{YieldsList-from_map, YieldsList-from_slice}
use Rattle.std.proofs.lemmas.Iterator.Adapters.{items_from_extend}
use Rattle.net_core.specs.LatchValue.{LatchValue}
use Rattle.net_core.proofs.drivers.add_sources.Goals as goal

pub returns : goal.returns
returns c =
    let all = items_from_extend c.extend.result c.extend.ensures.ran (YieldsList-from_map _ (λ (l : LatchValue). l.out) (YieldsList-from_slice c.latches.result.now cc) (search rules) (λ x r q k. search rules)) in
    let old : List ℕ = c.args.nets.now.items in
    let outs : List ℕ = map (λ (l : LatchValue). l.out) c.latches.result.now in
    MatchResult-weaker c.extend.result all
    (λ u e.
    e.0
    ∙ (ap (λ (list : List ℕ). list ++ outs) c.in_ok-extend_from_slice.ensures.items
    ∙ (append_assoc old c.inputs.result.now outs
    ∙ ap₂ (λ (inputs : List ℕ) (latches : List LatchValue). old ++ (inputs ++ map (λ (l : LatchValue). l.out) latches)) c.inputs.ensures.inputs c.latches.ensures.latches)))
    (λ fault w. w)
