use Rattle.std.proofs.Common.{sym, subst}
use Rattle.job_words.specs.declared.command.Task.{Task}
use Rattle.job_input.specs.Setting.{setting_value}
use Rattle.gf_abs.specs.Answer.{TaskAnswer}
use Rattle.answer_core.specs.Replies.{Replies}
use Rattle.gf_abs.proofs.top.task_answer.Goals as goal

pub returns-in-Verify-clause-gives : goal.returns-in-Verify-clause-gives
returns-in-Verify-clause-gives g c =
    let setting = setting_value (g.F.Ring.degree c.args.field.now) (g.F.Ring.product c.args.field.now) c.args.setting.now in
    let P : Task → Type 0 = λ task. Replies g.S.Shelf.held g.S.Shelf.misses g.S.Shelf.faults c.args.shelf.now c.answer-in-Verify.new.shelf c.answer-in-Verify.result (TaskAnswer setting task) in
    subst P (sym c.in-Verify.is) c.answer-in-Verify.ensures.gives
