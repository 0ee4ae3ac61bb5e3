use Rattle.std.proofs.Common.{◌∙◌, ap, ◌++◌, ◌∷◌, [], List}
use Rattle.std.proofs.lemmas.Result.{on_ok_weaker}
use Rattle.net_blif.specs.Statement.{Token}
use Rattle.net_blif.specs.Table.{numbers_in}
use Rattle.net_blif.specs.declared.item.Item.{Item}
use Rattle.net_blif.specs.declared.item.Item.TheVariants as items
use Rattle.net_blif.specs.private.Once.{OnceValue}
use Rattle.net_blif.proofs.once.Once.add_instance.Goals as goal

pub returns : goal.returns
returns c =
    let with_lines : List Item → OnceValue = λ lines. record { stood = numbers_in c.args.self.now.stood; lines = lines } in
    let copied = ap (λ (tokens : List Token). c.args.self.now.lines ++ items.Instance c.args.line c.args.model.now tokens ∷ []) (c.deref.ensures.value ∙ c.in_ok-tokens.ensures) in
    on_ok_weaker c.push_instance.result (λ made. ap with_lines (made ∙ copied)) c.push_instance.ensures
