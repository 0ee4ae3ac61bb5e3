use Rattle.std.proofs.Common.{◌≡◌, ◌++◌, ℕ, List, length, sym, ◌∙◌, ap, arith}
use Rattle.std.proofs.lemmas.Result.{on_ok_weaker}
use Rattle.poly_mixed.specs.Product.{union}
use Rattle.rato_reduce.specs.private.Rows.{term_bits}
use Rattle.rato_reduce.proofs.ShortListLemmas.{one_item, two_items}
use Rattle.rato_reduce.proofs.united.add_union.Goals as goal

pub returns-then-is_before-clause-added : goal.returns-then-is_before-clause-added
returns-then-is_before-clause-added c =
    let set : List ℕ = c.args.set.now in
    let one : length set ≡ 1 = omega arith in
    let united : List ℕ → List ℕ = λ rs. c.args.list.now.items ++ union (term_bits c.args.term.now) rs in
    on_ok_weaker c.add_with_one.result (λ e. e ∙ ap united (sym (one_item set one))) c.add_with_one.ensures.added

pub returns-then-is_before-2-clause-added : goal.returns-then-is_before-2-clause-added
returns-then-is_before-2-clause-added c =
    let set : List ℕ = c.args.set.now in
    let two : length set ≡ 2 = omega arith in
    let united : List ℕ → List ℕ = λ rs. c.args.list.now.items ++ union (term_bits c.args.term.now) rs in
    on_ok_weaker c.add_with_two.result (λ e. e ∙ ap united (sym (two_items set two))) c.add_with_two.ensures.added
