use Rattle.std.proofs.Common.{map}
use Rattle.gf_basis.specs.BasisParts.{elements_of}
use Rattle.job_words.proofs.StepLemmas.{after}
use Rattle.job_input.specs.Setting.{setting_value}
use Rattle.answer_core.specs.Reply.{reply_of}
use Rattle.answer_composition.specs.Compose.{ComposeReply, ListsOf}
use Rattle.answer_composition.proofs.compose.over.Goals as goal

pub returns-in-Ok : goal.returns-in-Ok
returns-in-Ok g c =
    let setting = setting_value (g.F.Ring.degree c.args.field.now) (g.F.Ring.product c.args.field.now) c.args.setting.now in
    after reply_of c.reply.result (ListsOf setting.k setting.product setting.signature) (λ lists. ComposeReply setting c.args.design.now lists c.args.bound) (map (map elements_of) c.in-Ok.bases)
    ⊥ ⊥ ⊥ ⊥ c.in-Ok.ensures.gives (λ m. m) (λ f. f) c.reply.ensures
