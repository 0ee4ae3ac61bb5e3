use Rattle.std.proofs.Common.{◌≡◌, ◌<◌, ◌*◌, ◌^◌, ◌∙◌, sym, subst, length, ℕ, arith}
use Rattle.std.proofs.lemmas.List.{length-map}
use Rattle.circuit_model.specs.Flat.{circuit_of_parts, word_of}
use Rattle.circuit_model.specs.Out.{IsOut}
use Rattle.lift_table.specs.private.Digits.{digits_of}
use Rattle.lift_table.proofs.GatherLemmas.{pushed_long}
use Rattle.lift_table.proofs.TableLemmas.{row_more, table_of}
use Rattle.lift_table.proofs.tabulating.table_over.Goals as goal

pub rows_of-rows-requires : goal.rows_of-rows-requires
rows_of-rows-requires g c = c.requires.small

pub value_at-requires : goal.value_at-requires
value_at-requires g c = record { small = c.requires.small.bits; parts = c.requires.parts }

pub loop-row-preserved : goal.loop-row-preserved
loop-row-preserved g c =
    let k = g.F.Ring.degree c.args.field.now in
    let mul : ℕ → ℕ → ℕ = g.F.Ring.product c.args.field.now in
    let P : ℕ → ℕ → Type 0 = λ r e. IsOut (circuit_of_parts k mul c.args.net.now c.args.words.now c.args.to.now) (digits_of k (length c.args.words.now) r) e in
    let before = c.loop-row.table.items in
    let after = c.push.new.self.items in
    record {
      long = pushed_long before after c.in_ok-value.value c.loop-row.row c.in_ok-push.ensures.items c.loop-row.invariant.long;
      outputs = row_more P before after c.in_ok-value.value c.loop-row.row c.in_ok-push.ensures.items c.loop-row.invariant.long c.in_ok-value.ensures c.loop-row.invariant.outputs;
    }

pub returns : goal.returns
returns g c =
    let k = g.F.Ring.degree c.args.field.now in
    let mul : ℕ → ℕ → ℕ = g.F.Ring.product c.args.field.now in
    let words = c.args.words.now in
    let circuit = circuit_of_parts k mul c.args.net.now words c.args.to.now in
    let all_rows : c.loop-row.row ≡ c.rows_of-rows.result = omega (arith, c.loop-row-test.false, c.loop-row.auto.row-end) in
    let rows : c.loop-row.row ≡ 2 ^ (k * length words) = all_rows ∙ c.rows_of-rows.ensures in
    table_of circuit c.loop-row.table.items (length words) (sym (length-map words word_of)) (c.loop-row.invariant.long ∙ rows)
    (λ row less. c.loop-row.invariant.outputs row (subst (λ (n : ℕ). row < n) (sym rows) less))
