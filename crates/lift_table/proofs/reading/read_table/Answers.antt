use Rattle.std.proofs.Common.{◌≡◌, ◌<◌, ◌+◌, ◌*◌, ◌^◌, ◌∙◌, ◌∷◌, [], length, ap, refl, sym, subst, inl, inr, List, ℕ, arith}
use Rattle.std.specs.Str.Lines.{lines}
use Rattle.std.proofs.lemmas.Bool.{eqb-true}
use Rattle.lists.specs.laws.LineLaws.{no_lines}
use Rattle.lift_table.proofs.ReadingLemmas.{IsReadTo, after_head, no_head, one_row, no_row, at_end, too_many}
use Rattle.lift_table.proofs.reading.read_table.Goals as goal

pub returns-in-Err-clause-fault : goal.returns-in-Err-clause-fault
returns-in-Err-clause-fault c = elim c.in-Err.ensures.fault [ inl want ↦ inl want | inr fault ↦ inr (no_head c.args.k (2 ^ (c.args.k * c.args.words)) (lines c.args.bytes.now) c.in-Err.fault fault) ]

pub loop-row-init : goal.loop-row-init
loop-row-init c =
    let n = 2 ^ (c.args.k * c.args.words) in
    let P : List ℕ → Type 0 = λ xs. IsReadTo c.args.k n (lines c.args.bytes.now) 0 (lines c.in-Ok.rest.now) xs in
    subst P (sym c.new-table.ensures.items) (after_head c.args.k n (lines c.args.bytes.now) (lines c.in-Ok.rest.now) c.in-Ok.ensures.rest)

pub returns-in-Err-read_row-clause-fault : goal.returns-in-Err-read_row-clause-fault
returns-in-Err-read_row-clause-fault c =
    let n = 2 ^ (c.args.k * c.args.words) in
    let below : c.loop-row.row < n = omega (arith, c.loop-row-test.true, c.two_to-rows.ensures) in
    elim c.in-Err-read_row.ensures.fault [
      | inl want ↦ inl want
      | inr fault ↦ inr (no_row c.args.k n (lines c.args.bytes.now) c.loop-row.row (lines c.loop-row.rest.now) c.loop-row.table.items c.loop-row.invariant below (c.loop-row.row + 2) refl c.in-Err-read_row.fault fault)
    ]

pub loop-row-preserved : goal.loop-row-preserved
loop-row-preserved c =
    let n = 2 ^ (c.args.k * c.args.words) in
    let below : c.loop-row.row < n = omega (arith, c.loop-row-test.true, c.two_to-rows.ensures) in
    one_row c.args.k n (lines c.args.bytes.now) c.loop-row.row (lines c.loop-row.rest.now) c.loop-row.table.items c.loop-row.invariant below
    c.in-Ok-read_row.read.0 (lines c.in-Ok-read_row.read.1.now) c.push.new.self.items c.in_ok-push.ensures.items (c.loop-row.row + 2) c.in-Ok-read_row.ensures.row

pub returns-then-is_empty-clause-table : goal.returns-then-is_empty-clause-table
returns-then-is_empty-clause-table c =
    let n = 2 ^ (c.args.k * c.args.words) in
    let rows : c.loop-row.row ≡ n = omega (arith, c.loop-row-test.false, c.loop-row.auto.row-end, c.two_to-rows.ensures) in
    let none : lines c.loop-row.rest.now ≡ [] = no_lines c.loop-row.rest.now (eqb-true (length c.loop-row.rest.now) 0 (sym c.if-is_empty.ensures)) in
    let P : ℕ → Type 0 = λ m. IsReadTo c.args.k n (lines c.args.bytes.now) m (lines c.loop-row.rest.now) c.loop-row.table.items in
    at_end c.args.k n (lines c.args.bytes.now) (lines c.loop-row.rest.now) c.loop-row.table.items none (subst P rows c.loop-row.invariant)

pub returns-else-is_empty-clause-fault : goal.returns-else-is_empty-clause-fault
returns-else-is_empty-clause-fault c =
    let n = 2 ^ (c.args.k * c.args.words) in
    let rows : c.loop-row.row ≡ n = omega (arith, c.loop-row-test.false, c.loop-row.auto.row-end, c.two_to-rows.ensures) in
    let P : ℕ → Type 0 = λ m. IsReadTo c.args.k n (lines c.args.bytes.now) m (lines c.loop-row.rest.now) c.loop-row.table.items in
    inr (too_many c.args.k n (lines c.args.bytes.now) (c.two_to-rows.result + 2) (lines c.loop-row.rest.now) c.loop-row.table.items (ap (λ m. m + 2) c.two_to-rows.ensures)
    (λ none. let wrong : c.next_line.result.0.now ∷ lines c.next_line.result.1.now ≡ [] = sym c.next_line.ensures.lines ∙ none in absurd (cc)) (subst P rows c.loop-row.invariant))
