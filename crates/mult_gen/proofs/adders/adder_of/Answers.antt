use Rattle.std.proofs.Common.{◌≡◌, ◌∙◌, [], ap, sym, subst, true, List}
use Rattle.net_words.specs.declared.word.WordText.{WordText}
use Rattle.make_nets.specs.Form.{AllAlike}
use Rattle.make_nets.specs.Plan.{Plan}
use Rattle.make_nets.specs.Made.{made_of, IsPlanFor}
use Rattle.mult_gen.specs.Form.{outputs_in}
use Rattle.mult_gen.proofs.ComputeLemmas.{adder_fits}
use Rattle.mult_gen.proofs.adders.adder_of.Goals as goal

pub net_of-requires-clause-fits : goal.net_of-requires-clause-fits
net_of-requires-clause-fits c =
    let P : Plan → Type 0 = λ plan. IsPlanFor c.args.signature.now.words [] [] (outputs_in c.args.signature.now.words) plan in
    (outputs_in c.args.signature.now.words, subst P (sym c.in_ok-plan.ensures) (adder_fits c.args.k 0 c.requires.small c.args.signature.now.words c.in-Ok.ensures.form.words c.in-Ok.ensures.wide))

pub returns-then-not-all_alike-clause-unfit : goal.returns-then-not-all_alike-clause-unfit
returns-then-not-all_alike-clause-unfit c = λ unfit form.
    let P : List WordText → Type 0 = λ words. AllAlike words in
    let alike : c.all_alike.result ≡ true = c.all_alike.ensures.1 (subst P (sym c.words.ensures) form.bases) in
    absurd (cc)

pub returns-in-Err-clause-unfit : goal.returns-in-Err-clause-unfit
returns-in-Err-clause-unfit c = λ unfit form. c.in-Err.ensures.unfit unfit form.ports

pub returns-clause-made : goal.returns-clause-made
returns-clause-made c = c.in_ok-net.ensures ∙ ap (λ (plan : Plan). made_of c.args.signature.now.words [] [] plan) c.in_ok-plan.ensures

pub returns-clause-form : goal.returns-clause-form
returns-clause-form c =
    let P : List WordText → Type 0 = λ words. AllAlike words in
    record { bases = subst P c.words.ensures (c.all_alike.ensures.0 c.if-not-all_alike.false); ports = c.in-Ok.ensures.form }
