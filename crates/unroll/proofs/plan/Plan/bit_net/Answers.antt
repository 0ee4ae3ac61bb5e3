use Rattle.std.proofs.Common.{◌∙◌, ◌+◌, ap, arith}
use Rattle.std.proofs.lemmas.List.{get_or_default}
use Rattle.unroll.proofs.PlanLemmas.{bit_is, bit_low, bit_place}
use Rattle.unroll.proofs.plan.Plan.bit_net.Goals as goal

pub overflow_add-result : goal.overflow_add-result
overflow_add-result c =
    let same = get_or_default c.args.self.now.firsts.items c.args.word c.index.result.now 0 (bit_place c.args.self.now.net c.args.self.now.binding c.args.self.now.cycles c.args.self.now.firsts.items c.args.word c.args.place c.args.self.now.are_firsts c.requires) in
    omega (arith, c.index.ensures, same, bit_is c.args.self.now.net c.args.self.now.binding c.args.self.now.cycles c.args.self.now.firsts.items c.args.word c.args.place c.args.self.now.are_firsts c.requires, bit_low c.args.self.now.net c.args.self.now.binding c.args.self.now.cycles c.args.word c.args.place c.requires, c.args.self.now.few)

pub returns-clause-number : goal.returns-clause-number
returns-clause-number c = ap (λ n. n + c.args.place) (c.index.ensures ∙ get_or_default c.args.self.now.firsts.items c.args.word c.index.result.now 0 (bit_place c.args.self.now.net c.args.self.now.binding c.args.self.now.cycles c.args.self.now.firsts.items c.args.word c.args.place c.args.self.now.are_firsts c.requires)) ∙ bit_is c.args.self.now.net c.args.self.now.binding c.args.self.now.cycles c.args.self.now.firsts.items c.args.word c.args.place c.args.self.now.are_firsts c.requires

pub returns-clause-within : goal.returns-clause-within
returns-clause-within c =
    let same = get_or_default c.args.self.now.firsts.items c.args.word c.index.result.now 0 (bit_place c.args.self.now.net c.args.self.now.binding c.args.self.now.cycles c.args.self.now.firsts.items c.args.word c.args.place c.args.self.now.are_firsts c.requires) in
    omega (arith, c.index.ensures, same, bit_is c.args.self.now.net c.args.self.now.binding c.args.self.now.cycles c.args.self.now.firsts.items c.args.word c.args.place c.args.self.now.are_firsts c.requires, bit_low c.args.self.now.net c.args.self.now.binding c.args.self.now.cycles c.args.word c.args.place c.requires)
