use Rattle.std.proofs.Common.{◌≡◌, ◌∙◌, ap, length, arith}
use Rattle.lift_table.proofs.OneWordLemmas.{all_rows, column_elements, column_room, no_rows, one_column}
use Rattle.lift_table.proofs.one_word.columns.Goals as goal

pub elements_of-count-requires : goal.elements_of-count-requires
elements_of-count-requires g c = c.requires.small

pub gather-requires-clause-place : goal.gather-requires-clause-place
gather-requires-clause-place g c = c.loop-row-test.true

pub gather-requires-clause-within : goal.gather-requires-clause-within
gather-requires-clause-within g c = column_room (g.F.Ring.degree c.args.field.now) c.args.n c.elements_of-count.result c.args.table.now c.elements_of-count.ensures c.requires.long

pub loop-row-init : goal.loop-row-init
loop-row-init g c = no_rows (g.F.Ring.degree c.args.field.now) (g.F.Ring.product c.args.field.now) (g.met.F.Ring.laws c.args.field.now) c.args.n c.args.table.now c.new-list.result.items c.new-list.ensures.items

pub add_column-requires-clause-small : goal.add_column-requires-clause-small
add_column-requires-clause-small g c = c.requires.small

pub add_column-requires-clause-products : goal.add_column-requires-clause-products
add_column-requires-clause-products g c = c.requires.products

pub add_column-requires-clause-long : goal.add_column-requires-clause-long
add_column-requires-clause-long g c = ap length c.deref.ensures.value ∙ (c.in_ok-values.ensures.long ∙ c.elements_of-count.ensures)

pub add_column-requires-clause-elements : goal.add_column-requires-clause-elements
add_column-requires-clause-elements g c =
    column_elements (g.F.Ring.degree c.args.field.now) c.args.n c.loop-row.row c.args.table.now c.deref.result.now c.in_ok-values.values.items c.loop-row-test.true c.requires.long c.requires.elements c.deref.ensures.value
    (c.in_ok-values.ensures.long ∙ c.elements_of-count.ensures) (λ x less. c.in_ok-values.ensures.at x (omega (arith, c.elements_of-count.ensures, less)))

pub loop-row-preserved : goal.loop-row-preserved
loop-row-preserved g c =
    one_column (g.F.Ring.degree c.args.field.now) (g.F.Ring.product c.args.field.now) (g.met.F.Ring.laws c.args.field.now) c.args.n c.loop-row.row c.args.table.now c.loop-row.list.items c.add_column.new.list.items c.in_ok-values.values.items c.deref.result.now
    c.deref.ensures.value c.in_ok-add_column.ensures c.loop-row.invariant (λ x less. c.in_ok-values.ensures.at x (omega (arith, c.elements_of-count.ensures, less)))

pub returns : goal.returns
returns g c =
    let end : c.loop-row.row ≡ c.args.n = omega (arith, c.loop-row-test.false, c.loop-row.auto.row-end) in
    all_rows (g.F.Ring.degree c.args.field.now) (g.F.Ring.product c.args.field.now) (g.met.F.Ring.laws c.args.field.now) c.args.n c.loop-row.row c.args.table.now c.loop-row.list.items end c.loop-row.invariant
