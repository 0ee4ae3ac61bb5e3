use Rattle.std.proofs.Common.{subst}
use Rattle.std.proofs.lemmas.Result.{MatchResult-weaker}
use Rattle.net_core.specs.Levelled.{AllHaveLevels}
use Rattle.net_core.specs.NetList.{NetList}
use Rattle.net_core.specs.Order.{IsOrder}
use Rattle.net_core.specs.Value.{IsConsistent, HasValues}
use Rattle.net_core.proofs.EvalLemmas.{one_valuation}
use Rattle.net_core.proofs.valuation.eval.Goals as goal

pub values_by-requires-clause-order : goal.values_by-requires-clause-order
values_by-requires-clause-order c =
    let same = c.made-made.ensures.made in
    let all : AllHaveLevels c.args.net.now c.levels.result.now = c.levels.ensures in
    let order : IsOrder c.args.net.now c.levels.result.now c.in_ok-order.order.items = (let o : IsOrder c.made-made.result.now c.levels.result.now c.in_ok-order.order.items = c.in_ok-order.ensures in rw same at o) in
    rw (same, c.deref.ensures.value) (c.levels.result.now, all, order)

pub returns-clause-consistent : goal.returns-clause-consistent
returns-clause-consistent c =
    MatchResult-weaker c.values_by.result c.values_by.ensures
    (λ bits is. let P : NetList → Type 0 = λ net. IsConsistent net bits.items in subst P c.made-made.ensures.made is.0)
    (λ fault w. w)

pub returns-clause-values : goal.returns-clause-values
returns-clause-values c =
    MatchResult-weaker c.values_by.result c.values_by.ensures
    (λ bits is. let P : NetList → Type 0 = λ net. HasValues net c.args.values.now bits.items in subst P c.made-made.ensures.made is.1)
    (λ fault w. w)

pub returns-clause-only : goal.returns-clause-only
returns-clause-only c =
    let same = c.made-made.ensures.made in
    MatchResult-weaker c.values_by.result c.values_by.ensures
    (λ bits is w cw hw.
    let P : NetList → Type 0 = λ net. IsConsistent net bits.items in
    let Q : NetList → Type 0 = λ net. HasValues net c.args.values.now bits.items in
    one_valuation c.args.net.now c.levels.result.now c.args.values.now bits.items w c.made-made.ensures.sound.one c.levels.ensures c.requires.latches c.requires.values (subst P same is.0) cw (subst Q same is.1) hw)
    (λ fault w. w)
