use Rattle.std.proofs.Common.{◌∙◌}
use Rattle.net_core.proofs.CountLemmas.{twice_driven, never_driven, once_driven}
use Rattle.net_core.proofs.net.check_counts.Goals as goal

pub returns-in-Some-clause-fault : goal.returns-in-Some-clause-fault
returns-in-Some-clause-fault c =
    let found = c.in-Some.ensures.found in
    twice_driven c.args.net.now c.args.counts.now c.requires.counted c.in-Some.twice c.in_ok-label.label found.0 found.1 found.2 (c.in_ok-label.ensures ∙ c.label.ensures)

pub returns-in-Some-least-clause-fault : goal.returns-in-Some-least-clause-fault
returns-in-Some-least-clause-fault c =
    let found = c.in-Some-least.ensures.found in
    never_driven c.args.net.now c.args.counts.now c.requires.counted c.in-Some-least.undriven c.in_ok-label-2.label c.in_default.ensures.none found.0 found.1 found.2 (c.in_ok-label-2.ensures ∙ c.label-in-Some-least.ensures)

pub returns-clause-one : goal.returns-clause-one
returns-clause-one c = once_driven c.args.net.now c.args.counts.now c.requires.counted c.in_default.ensures.none c.in_default-least.ensures.none
