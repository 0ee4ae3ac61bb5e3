use Rattle.std.proofs.Common.{◌≡◌, ◌<◌, ◌≤◌, ◌+◌, ◌-◌, ◌*◌, ◌^◌, suc, ap, sym, subst, ◌∙◌, List, length, set, drop, get_or, ℕ, arith, rules}
use Rattle.std.specs.List.{AllByRecursion}
use Rattle.std.proofs.lemmas.Nat.{pow_pos}
use Rattle.poly_mixed.specs.laws.Uniqueness.{IsZeros}
use Rattle.lift_table.specs.private.Columns.{AreColumns}
use Rattle.lift_table.specs.private.Lifting.{AddsTable, IsOfWords}
use Rattle.lift_table.proofs.LiftingLemmas.{HasColumns, no_columns, one_column, all_columns, next_part, no_words, on_three, smaller}
use Rattle.lift_table.proofs.RowLemmas.{rows_split}
use Rattle.lift_table.proofs.lifting.+add_terms.Goals as goal

pub add_term-requires-clause-coefficient : goal.add_term-requires-clause-coefficient
add_term-requires-clause-coefficient g t c =
    let pos = pow_pos (g.F.Ring.degree c.args.field.now * c.args.words) in
    c.requires.part.elements 0 (omega (arith, pos, c.requires.part.long))

pub returns-then-words-eq0 : goal.returns-then-words-eq0
returns-then-words-eq0 g t c =
    on_three c.add_term.result _ _ _ _ (λ reduced values words.
    no_words (g.F.Ring.degree c.args.field.now) (g.F.Ring.product c.args.field.now) c.args.words c.args.exponents.now c.args.table.now c.args.sum.now.terms c.add_term.new.sum.terms c.if-words-eq0.true reduced values words)
    c.add_term.ensures.reduced c.add_term.ensures.values c.add_term.ensures.words

pub rows_of-n-requires : goal.rows_of-n-requires
rows_of-n-requires g t c = smaller (g.F.Ring.degree c.args.field.now) c.args.words c.requires.part.small

pub elements_of-count-requires : goal.elements_of-count-requires
elements_of-count-requires g t c = c.requires.part.small.bits

pub columns-requires-clause-small : goal.columns-requires-clause-small
columns-requires-clause-small g t c = c.requires.part.small.bits

pub columns-requires-clause-products : goal.columns-requires-clause-products
columns-requires-clause-products g t c = c.requires.products

pub columns-requires-clause-long : goal.columns-requires-clause-long
columns-requires-clause-long g t c =
    let k = g.F.Ring.degree c.args.field.now in
    let some : 1 ≤ c.args.words = omega arith in
    c.requires.part.long ∙ (rows_split k c.args.words some ∙ ap (λ n. n * 2 ^ k) (sym c.rows_of-n.ensures))

pub columns-requires-clause-elements : goal.columns-requires-clause-elements
columns-requires-clause-elements g t c = c.requires.part.elements

pub loop-e-init : goal.loop-e-init
loop-e-init g t c =
    no_columns (g.F.Ring.degree c.args.field.now) (g.F.Ring.product c.args.field.now) (g.met.F.Ring.laws c.args.field.now) (g.met.F.Field.no_zero_divisors c.args.field.now)
    (c.args.words - 1) c.args.exponents.now c.in_ok-columns.columns.items c.args.sum.now.terms c.requires.sum

pub gather-requires-clause-place : goal.gather-requires-clause-place
gather-requires-clause-place g t c = c.loop-e-test.true

pub gather-requires-clause-within : goal.gather-requires-clause-within
gather-requires-clause-within g t c =
    let k = g.F.Ring.degree c.args.field.now in
    let room : c.rows_of-n.result * c.elements_of-count.result ≡ c.rows_of-n.result * 2 ^ k = ap (λ m. c.rows_of-n.result * m) c.elements_of-count.ensures in
    let long : length c.deref.result.now ≡ c.rows_of-n.result * 2 ^ k = ap length c.deref.ensures.value ∙ c.in_ok-columns.ensures.long in
    omega (arith, room, long)

pub with_exponent-with-requires : goal.with_exponent-with-requires
with_exponent-with-requires g t c = omega (arith, c.requires.part.few)

pub add_terms-requires : goal.add_terms-requires
add_terms-requires g t c κs within =
    let k = g.F.Ring.degree c.args.field.now in
    let mul : ℕ → ℕ → ℕ = g.F.Ring.product c.args.field.now in
    let some : 1 ≤ c.args.words = omega arith in
    let less : c.loop-e.e < 2 ^ k = omega (arith, c.loop-e-test.true, c.elements_of-count.ensures) in
    let Q : ℕ → Type 0 = λ n. AreColumns k mul n c.args.table.now c.in_ok-columns.columns.items in
    let columns = subst Q c.rows_of-n.ensures c.in_ok-columns.ensures in
    let part =
    next_part k c.args.words c.loop-e.e c.args.exponents.now c.args.table.now c.in_ok-columns.columns.items c.in_ok-part.part.items c.deref-in-loop-e.result.now c.with_exponent-with.result some c.requires.part c.with_exponent-with.ensures less columns.long columns.elements
    c.deref-in-loop-e.ensures.value (c.in_ok-part.ensures.long ∙ c.rows_of-n.ensures)
    (λ i low.
    c.in_ok-part.ensures.at i (subst (λ (n : ℕ). i < n) (sym c.rows_of-n.ensures) low)
    ∙ (ap (λ (xs : List ℕ). get_or xs (i * c.elements_of-count.result + c.loop-e.e) 0) c.deref.ensures.value
    ∙ ap (λ n. get_or c.in_ok-columns.columns.items (i * n + c.loop-e.e) 0) c.elements_of-count.ensures)) in
    (search rules, (search rules, (search rules, (c.requires.products, (part, c.loop-e.invariant.reduced)))))

pub loop-e-preserved : goal.loop-e-preserved
loop-e-preserved g t c =
    let k = g.F.Ring.degree c.args.field.now in
    let mul : ℕ → ℕ → ℕ = g.F.Ring.product c.args.field.now in
    let w = c.args.words - 1 in
    let few : w < 8 = omega (arith, c.requires.part.few) in
    let within : w < c.args.words = omega arith in
    let before = c.loop-e.sum.terms in
    let new = c.add_terms.new.sum.terms in
    let with_is : c.with_exponent-with.result ≡ set c.args.exponents.now w c.loop-e.e = c.with_exponent-with.ensures in
    let part_is : c.deref-in-loop-e.result.now ≡ c.in_ok-part.part.items = c.deref-in-loop-e.ensures.value in
    let P : List ℕ → Type 0 = λ es. AddsTable k mul w es c.deref-in-loop-e.result.now before new in
    let Q : List ℕ → Type 0 = λ part. AddsTable k mul w (set c.args.exponents.now w c.loop-e.e) part before new in
    let R : List ℕ → Type 0 = λ es. (every : ℕ) → w ≤ every → IsZeros (drop every es) → AllByRecursion (IsOfWords every) before → AllByRecursion (IsOfWords every) new in
    one_column k mul (g.met.F.Ring.laws c.args.field.now) (g.met.F.Field.no_zero_divisors c.args.field.now)
    w c.args.exponents.now c.in_ok-columns.columns.items c.in_ok-part.part.items c.loop-e.e c.args.sum.now.terms before new few c.told-exponents (c.requires.part.zeros w within) c.loop-e.invariant
    (c.in_ok-part.ensures.long ∙ c.rows_of-n.ensures)
    (λ i less.
    c.in_ok-part.ensures.at i (subst (λ (n : ℕ). i < n) (sym c.rows_of-n.ensures) less)
    ∙ (ap (λ (xs : List ℕ). get_or xs (i * c.elements_of-count.result + c.loop-e.e) 0) c.deref.ensures.value
    ∙ ap (λ n. get_or c.in_ok-columns.columns.items (i * n + c.loop-e.e) 0) c.elements_of-count.ensures))
    c.in_ok-add_terms.ensures.reduced (subst Q part_is (subst P with_is c.in_ok-add_terms.ensures.values)) (subst R with_is c.in_ok-add_terms.ensures.kept)

pub returns : goal.returns
returns g t c =
    let k = g.F.Ring.degree c.args.field.now in
    let mul : ℕ → ℕ → ℕ = g.F.Ring.product c.args.field.now in
    let w = c.args.words - 1 in
    let some : 1 ≤ c.args.words = omega arith in
    let few : w < 8 = omega (arith, c.requires.part.few) in
    let whole : suc w ≡ c.args.words = omega arith in
    let count : c.loop-e.e ≡ 2 ^ k = omega (arith, c.elements_of-count.ensures) in
    let P : ℕ → Type 0 = λ m. AddsTable k mul m c.args.exponents.now c.args.table.now c.args.sum.now.terms c.loop-e.sum.terms in
    let Q : ℕ → Type 0 = λ n. AreColumns k mul n c.args.table.now c.in_ok-columns.columns.items in
    let R : ℕ → Type 0 = λ m. HasColumns k mul w c.args.exponents.now c.in_ok-columns.columns.items m c.args.sum.now.terms c.loop-e.sum.terms in
    record {
      reduced = c.loop-e.invariant.reduced;
      values = subst P whole (all_columns k mul (g.met.F.Ring.laws c.args.field.now) (g.met.F.Field.no_zero_divisors c.args.field.now)
          w c.args.exponents.now c.args.table.now c.in_ok-columns.columns.items c.args.sum.now.terms c.loop-e.sum.terms few (c.requires.part.long ∙ rows_split k c.args.words some) c.requires.part.elements
          (subst Q c.rows_of-n.ensures c.in_ok-columns.ensures) (subst R count c.loop-e.invariant));
      kept = λ every within zeros each. c.loop-e.invariant.words every (omega (arith, whole)) zeros each;
    }
