use Rattle.std.proofs.Common.{◌∙◌, ap, sym, List}
use Rattle.std.specs.Prelude.{slice_range}
use Rattle.net_blif.specs.Places.{item_at}
use Rattle.net_blif.specs.Statement.{Token}
use Rattle.net_blif.specs.declared.item.Item.TheVariants.{Inputs, Outputs, Gate}
use Rattle.net_blif.proofs.item_list.item_of.Goals as goal

pub returns-in-Inputs : goal.returns-in-Inputs
returns-in-Inputs c = ap Inputs c.range.ensures ∙ ap (item_at c.args.tokens.now) (sym c.in-Inputs.is)

pub returns-in-Outputs : goal.returns-in-Outputs
returns-in-Outputs c = ap Outputs c.range-in-Outputs.ensures ∙ ap (item_at c.args.tokens.now) (sym c.in-Outputs.is)

pub returns-in-Gate : goal.returns-in-Gate
returns-in-Gate c =
    ap (λ (nets : List Token). Gate c.in-Gate.line nets c.new.result c.in-Gate.table) c.range-in-Gate.ensures
    ∙ (ap (λ (out : Token). Gate c.in-Gate.line (slice_range c.args.tokens.now c.in-Gate.first c.in-Gate.end) out c.in-Gate.table) (c.new.ensures ∙ c.get.ensures)
    ∙ ap (item_at c.args.tokens.now) (sym c.in-Gate.is))

pub returns-in-Latch : goal.returns-in-Latch
returns-in-Latch c = c.latch_at.ensures ∙ ap (item_at c.args.tokens.now) (sym c.in-Latch.is)

pub returns-in-Instance : goal.returns-in-Instance
returns-in-Instance c = c.instance_at.ensures ∙ ap (item_at c.args.tokens.now) (sym c.in-Instance.is)
