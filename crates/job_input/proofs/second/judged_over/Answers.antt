use Rattle.std.proofs.Common.{Err, subst, sym}
use Rattle.net_signature.specs.Signature.{SignatureValue}
use Rattle.job_words.specs.Stop.{GivesBy}
use Rattle.job_words.specs.declared.stop.Stop.{Stop}
use Rattle.job_input.specs.Setting.{setting_value}
use Rattle.job_input.specs.SettingOf.{SignedValue}
use Rattle.job_input.specs.SignedIn.{SecondOf}
use Rattle.job_input.proofs.SecondLemmas.{second_taken, word_stop}
use Rattle.job_input.proofs.second.judged_over.Goals as goal

pub returns-in-Ok-clause-gives : goal.returns-in-Ok-clause-gives
returns-in-Ok-clause-gives g c =
    let degree = g.F.Ring.degree c.args.field.now in
    let product = g.F.Ring.product c.args.field.now in
    let signed : SignedValue = record { signature = c.args.signature; field = record { k = degree; product = product } } in
    second_taken signed (setting_value degree product c.in-Ok.setting) c.in-Ok.ensures.gives

pub returns-in-Err-clause-gives : goal.returns-in-Err-clause-gives
returns-in-Err-clause-gives g c =
    let degree = g.F.Ring.degree c.args.field.now in
    let product = g.F.Ring.product c.args.field.now in
    let signed : SignedValue = record { signature = c.args.signature; field = record { k = degree; product = product } } in
    let P : Stop → Type 0 = λ stop. GivesBy {X = SignatureValue} (λ s. s) (Err stop) (SecondOf signed) ⊥ ⊥ in
    subst P (sym c.second_stop.ensures) (word_stop (setting_value degree product) signed c.in-Err.stop c.in-Err.ensures.gives)
