use Rattle.std.proofs.Common.{◌∙◌, ap, sym, subst, ℕ, List, length}
use Rattle.gf_basis.specs.declared.bases.Basis.{Basis}
use Rattle.circuit_model.specs.Bases.{circuit_in}
use Rattle.lift_table.specs.CircuitTable.{IsTableOf}
use Rattle.lift_table.specs.Small.{IsSmall}
use Rattle.lift_table.specs.TableText.{table_text}
use Rattle.answer_core.proofs.BoundBasesLemmas.{bases_are, count}
use Rattle.answer_tables.proofs.table.reply.Goals as goal

pub table-requires-clause-k : goal.table-requires-clause-k
table-requires-clause-k g c = c.requires.taken.bits

pub table-requires-clause-bases : goal.table-requires-clause-bases
table-requires-clause-bases g c =
    bases_are (g.F.Ring.degree c.args.field.now) (g.F.Ring.product c.args.field.now) c.args.setting.now c.requires.ready c.args.circuit.now c.requires.taken c.as_slice.result.now c.as_slice.ensures.value

pub table-requires-clause-small : goal.table-requires-clause-small
table-requires-clause-small g c =
    let degree = g.F.Ring.degree c.args.field.now in
    let mul = g.F.Ring.product c.args.field.now in
    let P : List Basis → Type 0 = λ bases. IsSmall degree (length (circuit_in degree mul c.args.circuit.now bases).words) in
    let Q : ℕ → Type 0 = λ n. IsSmall degree n in
    subst P (sym c.as_slice.ensures.value) (subst Q (sym (count degree mul c.args.setting.now c.requires.ready c.args.circuit.now c.requires.taken)) c.requires.small)

pub returns : goal.returns
returns g c =
    let degree = g.F.Ring.degree c.args.field.now in
    let mul = g.F.Ring.product c.args.field.now in
    let table = c.in_ok-values.values.items in
    let P : List Basis → Type 0 = λ bases. IsTableOf (circuit_in degree mul c.args.circuit.now bases) table in
    (table, subst P c.as_slice.ensures.value c.in_ok-values.ensures, ap (λ (t : List ℕ). record { status = 0; text = t }) (c.in_ok-text.ensures ∙ ap table_text c.deref.ensures.value))
