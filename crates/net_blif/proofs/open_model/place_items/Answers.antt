use Rattle.std.proofs.Common.{◌≡◌, ◌∙◌, ap, sym, subst, ◌++◌, ◌∷◌, [], List}
use Rattle.std.specs.Prelude.{OnOk}
use Rattle.net_core.specs.declared.latch.Start.{Start}
use Rattle.net_blif.specs.Statement.{Token}
use Rattle.net_blif.specs.declared.item.Item.TheVariants as items
use Rattle.net_blif.specs.declared.statement.Statement.{Statement}
use Rattle.net_blif.specs.declared.statement.Statement.TheVariants as statements
use Rattle.net_blif.specs.private.Placing.{items_said}
use Rattle.net_blif.proofs.open_model.place_items.Goals as goal

pub returns-in-Inputs : goal.returns-in-Inputs
returns-in-Inputs c =
    let P : Statement → Type 0 = λ s. OnOk c.push_inputs.result (c.push_inputs.new.self ≡ c.args.items.now ++ items_said c.args.line s) in
    subst P (sym (c.in-Inputs.is ∙ ap statements.Inputs (sym c.as_slice.ensures))) c.push_inputs.ensures

pub returns-in-Outputs : goal.returns-in-Outputs
returns-in-Outputs c =
    let P : Statement → Type 0 = λ s. OnOk c.push_outputs.result (c.push_outputs.new.self ≡ c.args.items.now ++ items_said c.args.line s) in
    subst P (sym (c.in-Outputs.is ∙ ap statements.Outputs (sym c.as_slice-in-Outputs.ensures))) c.push_outputs.ensures

pub returns-in-Latch : goal.returns-in-Latch
returns-in-Latch c =
    let P : Statement → Type 0 = λ s. OnOk c.push_latch.result (c.push_latch.new.self ≡ c.args.items.now ++ items_said c.args.line s) in
    let Q : Start → Type 0 = λ start. OnOk c.push_latch.result (c.push_latch.new.self ≡ c.args.items.now ++ items.Latch c.args.line c.bytes.result.now c.bytes-in-Latch.result.now start ∷ []) in
    let read = ap (λ (next : Token). statements.Latch next c.in-Latch.out c.in-Latch.rest) (sym c.bytes.ensures) in
    let driven = ap (λ (out : Token). statements.Latch c.bytes.result.now out c.in-Latch.rest) (sym c.bytes-in-Latch.ensures) in
    let ends = ap (λ (rest : List Token). statements.Latch c.bytes.result.now c.bytes-in-Latch.result.now rest) (sym c.as_slice-in-Latch.ensures) in
    subst P (sym (c.in-Latch.is ∙ (read ∙ (driven ∙ ends)))) (subst Q c.start_of.ensures c.push_latch.ensures)

pub returns-in-Instance : goal.returns-in-Instance
returns-in-Instance c =
    let P : Statement → Type 0 = λ s. OnOk c.push_instance.result (c.push_instance.new.self ≡ c.args.items.now ++ items_said c.args.line s) in
    let named = ap (λ (model : Token). statements.Instance model c.in-Instance.connections) (sym c.bytes-in-Instance.ensures) in
    let connected = ap (λ (connections : List Token). statements.Instance c.bytes-in-Instance.result.now connections) (sym c.as_slice-in-Instance.ensures) in
    subst P (sym (c.in-Instance.is ∙ (named ∙ connected))) c.push_instance.ensures
