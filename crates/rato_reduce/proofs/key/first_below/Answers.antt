use Rattle.std.proofs.Common.{◌≡◌, ◌+◌, ◌≤◌, ◌++◌, ◌∷◌, [], ℕ, List, take, get_or, sym, subst, arith}
use Rattle.std.specs.List.{AllByRecursion}
use Rattle.std.proofs.lemmas.List.{take_more}
use Rattle.lists.specs.laws.ListLaws.{all_append}
use Rattle.rato_reduce.specs.private.CutKey.{place_at}
use Rattle.rato_reduce.proofs.LevelLemmas.{all_behind}
use Rattle.rato_reduce.proofs.key.first_below.Goals as goal

pub loop-at-preserved : goal.loop-at-preserved
loop-at-preserved c =
    let places : List ℕ = c.args.places.now in
    let ranks : List ℕ = c.args.ranks.now in
    let at = c.loop-at.at in
    let low = c.lesser_of-first.result in
    let P : List ℕ → Type 0 = AllByRecursion (λ r. low ≤ place_at places r) in
    let next : take (at + 1) ranks ≡ take at ranks ++ get_or ranks at 0 ∷ [] = take_more ranks at 0 c.loop-at-test.true in
    let here : low ≤ place_at places (get_or ranks at 0) = omega (arith, c.lesser_of-first.ensures.other, c.place_of.ensures) in
    record {
      within = omega (arith, c.loop-at-test.true);
      each = subst P (sym next) (all_append (λ r. low ≤ place_at places r) (take at ranks) (get_or ranks at 0 ∷ []) (all_behind places low c.loop-at.first (take at ranks) c.lesser_of-first.ensures.one c.loop-at.invariant.each) (here, tt));
    }
