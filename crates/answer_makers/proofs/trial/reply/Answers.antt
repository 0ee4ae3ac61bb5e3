use Rattle.job_words.proofs.StepLemmas.{after, stops}
use Rattle.job_input.specs.Setting.{setting_value}
use Rattle.job_input.specs.SettingValue.{SettingValue}
use Rattle.answer_core.specs.Reply.{reply_of}
use Rattle.answer_makers.specs.Trial.{TermsOf, TrialBeside}
use Rattle.answer_makers.specs.declared.trial.Counted.{Counted}
use Rattle.answer_makers.proofs.trial.reply.Goals as goal

pub returns-in-Ok : goal.returns-in-Ok
returns-in-Ok g c =
    let setting : SettingValue = setting_value (g.F.Ring.degree c.args.field.now) (g.F.Ring.product c.args.field.now) c.args.setting.now in
    let words = c.args.words.now in
    after reply_of c.beside.result (TermsOf setting c.args.circuit.now words.terms) (λ terms. TrialBeside setting c.args.circuit.now c.args.spec.now words.number words.terms terms) c.in-Ok.counted.terms
    ⊥ ⊥ ⊥ ⊥ c.in-Ok.ensures.gives (λ m. m) (λ f. f) c.beside.ensures

pub returns-in-Err : goal.returns-in-Err
returns-in-Err g c =
    let setting : SettingValue = setting_value (g.F.Ring.degree c.args.field.now) (g.F.Ring.product c.args.field.now) c.args.setting.now in
    let words = c.args.words.now in
    stops {X = Counted} (λ counted. counted.terms) reply_of c.in-Err.stop (TermsOf setting c.args.circuit.now words.terms) (λ terms. TrialBeside setting c.args.circuit.now c.args.spec.now words.number words.terms terms) ⊥ ⊥ ⊥ ⊥ (λ m. m) (λ f. f) c.in-Err.ensures.gives
