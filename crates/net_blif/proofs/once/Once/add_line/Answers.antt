use Rattle.std.proofs.Common.{◌≡◌, ◌∙◌, ap, sym, subst}
use Rattle.std.specs.Prelude.{OnOk}
use Rattle.net_blif.specs.Statement.{Token}
use Rattle.net_blif.specs.declared.item.Item.{Item}
use Rattle.net_blif.specs.declared.item.Item.TheVariants as items
use Rattle.net_blif.specs.private.Once.{once_in, with_line}
use Rattle.net_blif.proofs.once.Once.add_line.Goals as goal

pub returns-in-Gate : goal.returns-in-Gate
returns-in-Gate c =
    let P : Item → Type 0 = λ i. OnOk c.add_gate.result (once_in c.add_gate.new.self ≡ with_line (once_in c.args.self.now) i) in
    let is = c.in-Gate.is ∙ ap (λ (out : Token). items.Gate c.in-Gate.line c.in-Gate.inputs out c.in-Gate.table) (sym c.bytes.ensures) in
    subst P (sym is) c.add_gate.ensures

pub returns-in-Latch : goal.returns-in-Latch
returns-in-Latch c =
    let P : Item → Type 0 = λ i. OnOk c.add_latch.result (once_in c.add_latch.new.self ≡ with_line (once_in c.args.self.now) i) in
    let read = ap (λ (next : Token). items.Latch c.in-Latch.line next c.in-Latch.out c.in-Latch.start) (sym c.bytes-in-Latch.ensures) in
    let driven = ap (λ (out : Token). items.Latch c.in-Latch.line c.bytes-in-Latch.result.now out c.in-Latch.start) (sym c.bytes-in-Latch-2.ensures) in
    subst P (sym (c.in-Latch.is ∙ (read ∙ driven))) c.add_latch.ensures

pub returns-in-Instance : goal.returns-in-Instance
returns-in-Instance c =
    let P : Item → Type 0 = λ i. OnOk c.add_instance.result (once_in c.add_instance.new.self ≡ with_line (once_in c.args.self.now) i) in
    let is = c.in-Instance.is ∙ ap (λ (name : Token). items.Instance c.in-Instance.line name c.in-Instance.connections) (sym c.bytes-in-Instance.ensures) in
    subst P (sym is) c.add_instance.ensures
