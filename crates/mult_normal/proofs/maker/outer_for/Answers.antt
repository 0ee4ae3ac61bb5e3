use Rattle.std.proofs.Common.{◌≡◌, true}
use Rattle.mult_gen.proofs.FormLemmas.{states_wide}
use Rattle.mult_normal.proofs.WordLemmas.{outer_few}
use Rattle.mult_normal.proofs.maker.outer_for.Goals as goal

pub returns-then-not-has_form-clause-unfit : goal.returns-then-not-has_form-clause-unfit
returns-then-not-has_form-clause-unfit c = λ unfit form.
    let fits : c.has_form.result ≡ true = c.has_form.ensures.1 (form.unfed, form.unblocked, form.words, (form.gamma, form.bases)) in
    absurd (cc)

pub outer_nets-requires : goal.outer_nets-requires
outer_nets-requires c =
    let has = (c.has_form.ensures.0 c.if-not-has_form.false).2 in
    outer_few c.args.k c.args.signature.now.words has (states_wide c.args.k 2 c.args.signature.now.words has c.requires.wide) c.requires.few c.words.result.now c.words.ensures
