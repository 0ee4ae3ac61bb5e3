use Rattle.job_words.proofs.StepLemmas.{after, stops}
use Rattle.job_input.specs.Setting.{setting_value}
use Rattle.job_input.specs.SettingValue.{SettingValue}
use Rattle.answer_core.specs.Reply.{reply_of}
use Rattle.answer_polynomials.specs.Check.{WordsLine, CheckBeside}
use Rattle.answer_polynomials.specs.declared.check.Printed.{Printed}
use Rattle.answer_polynomials.proofs.check.reply.Goals as goal

pub returns-in-Ok : goal.returns-in-Ok
returns-in-Ok g c =
    let setting : SettingValue = setting_value (g.F.Ring.degree c.args.field.now) (g.F.Ring.product c.args.field.now) c.args.setting.now in
    after reply_of c.beside.result (WordsLine setting c.args.circuit.now c.args.bound) (λ line. CheckBeside setting c.args.circuit.now c.args.spec.now c.args.bound line) c.in-Ok.printed.line.items
    ⊥ ⊥ ⊥ ⊥ c.in-Ok.ensures.gives (λ m. m) (λ f. f) c.beside.ensures

pub returns-in-Err : goal.returns-in-Err
returns-in-Err g c =
    let setting : SettingValue = setting_value (g.F.Ring.degree c.args.field.now) (g.F.Ring.product c.args.field.now) c.args.setting.now in
    stops {X = Printed} (λ printed. printed.line.items) reply_of c.in-Err.stop (WordsLine setting c.args.circuit.now c.args.bound) (λ line. CheckBeside setting c.args.circuit.now c.args.spec.now c.args.bound line) ⊥ ⊥ ⊥ ⊥ (λ m. m) (λ f. f) c.in-Err.ensures.gives
