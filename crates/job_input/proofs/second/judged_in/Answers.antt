use Rattle.std.proofs.Common.{sym, subst}
use Rattle.gf_tower.specs.declared.any_field.AnyField.{AnyField}
use Rattle.job_words.specs.Stop.{GivesBy}
use Rattle.job_input.specs.Setting.{field_value}
use Rattle.job_input.specs.SignedIn.{SecondOf}
use Rattle.job_input.proofs.second.judged_in.Goals as goal

pub returns-in-Base-clause-gives : goal.returns-in-Base-clause-gives
returns-in-Base-clause-gives c =
    let P : AnyField → Type 0 = λ f. GivesBy (λ s. s) c.judged_over.result (SecondOf (record { signature = c.args.signature; field = field_value f })) ⊥ ⊥ in
    subst P (sym c.in-Base.is) c.judged_over.ensures.gives

pub returns-in-Tower-clause-gives : goal.returns-in-Tower-clause-gives
returns-in-Tower-clause-gives c =
    let P : AnyField → Type 0 = λ f. GivesBy (λ s. s) c.judged_over-in-Tower.result (SecondOf (record { signature = c.args.signature; field = field_value f })) ⊥ ⊥ in
    subst P (sym c.in-Tower.is) c.judged_over-in-Tower.ensures.gives

pub returns-in-Upper-clause-gives : goal.returns-in-Upper-clause-gives
returns-in-Upper-clause-gives c =
    let P : AnyField → Type 0 = λ f. GivesBy (λ s. s) c.judged_over-in-Upper.result (SecondOf (record { signature = c.args.signature; field = field_value f })) ⊥ ⊥ in
    subst P (sym c.in-Upper.is) c.judged_over-in-Upper.ensures.gives
