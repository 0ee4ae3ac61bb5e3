use Rattle.std.proofs.Common.{◌∙◌, arith, sym}
use Rattle.lists.specs.laws.ReadLaws.{get_below}
use Rattle.net_core.specs.NetList.{nets}
use Rattle.unroll.specs.Places.{cycle_nets, first_bit}
use Rattle.unroll.proofs.PlanLemmas.{fed_place, not_fed, output_exists, output_not_fed, output_place, wide}
use Rattle.unroll.proofs.plan.Plan.place_net.Goals as goal

pub bit_net-requires : goal.bit_net-requires
bit_net-requires c =
    let got = get_below c.args.self.now.binding.words c.args.w c.requires.word in
    (c.requires.place, (got.0, got.1, sym (c.role.ensures got.0 got.1) ∙ c.in-Fed.is))

pub net-requires-clause-nets : goal.net-requires-clause-nets
net-requires-clause-nets c = λ word got. wide c.args.self.now.binding word c.requires.binding.parts (c.args.w, got) (not_fed c.role.result word (c.role.ensures word got) c.in-Input.is)

pub net-requires-in-Output-clause-nets : goal.net-requires-in-Output-clause-nets
net-requires-in-Output-clause-nets c = λ word got. wide c.args.self.now.binding word c.requires.binding.parts (c.args.w, got) (output_not_fed c.role.result word (c.role.ensures word got) c.in-Output.is)

pub net_at-requires-clause-net : goal.net_at-requires-clause-net
net_at-requires-clause-net c =
    let got = get_below c.args.self.now.binding.words c.args.w c.requires.word in
    output_exists c.args.self.now.net c.args.self.now.binding c.args.w c.args.place c.net-in-Output.result c.role.result got.0 c.requires.binding got.1 (c.role.ensures got.0 got.1) c.in-Output.is c.requires.place (c.net-in-Output.ensures got.0 got.1)

pub returns-in-Fed : goal.returns-in-Fed
returns-in-Fed c = λ word got. fed_place (nets c.args.self.now.net) c.args.self.now.cycles c.args.self.now.binding.k (first_bit c.args.self.now.binding.k (cycle_nets (nets c.args.self.now.net) c.args.self.now.cycles) c.args.self.now.binding.words c.args.w) c.args.place c.bit_net.result word.role word.nets (sym (c.role.ensures word got) ∙ c.in-Fed.is) c.requires.place c.bit_net.ensures.number

pub returns-in-Output : goal.returns-in-Output
returns-in-Output c = λ word got.
    let long = wide c.args.self.now.binding word c.requires.binding.parts (c.args.w, got) (output_not_fed c.role.result word (c.role.ensures word got) c.in-Output.is) in
    output_place (nets c.args.self.now.net) c.args.self.now.cycles c.args.self.now.binding.k (first_bit c.args.self.now.binding.k (cycle_nets (nets c.args.self.now.net) c.args.self.now.cycles) c.args.self.now.binding.words c.args.w) c.args.place c.net_at.result c.net-in-Output.result word.role word.nets (sym (c.role.ensures word got) ∙ c.in-Output.is) (omega (arith, long, c.requires.place)) c.net_at.ensures.number (c.net-in-Output.ensures word got)
