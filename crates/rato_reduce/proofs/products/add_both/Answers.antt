use Rattle.std.proofs.Common.{List, ℕ, sym, ◌∙◌, ap, subst, arith}
use Rattle.std.proofs.lemmas.Result.{on_ok_weaker}
use Rattle.poly_mixed.specs.Monomial.{text_cmp}
use Rattle.poly_mixed.specs.Polynomial.{Terms}
use Rattle.poly_mixed.specs.Sum.{plus}
use Rattle.rato_reduce.specs.private.Buckets.{AreUpTo}
use Rattle.rato_reduce.specs.private.Rows.{product_if}
use Rattle.rato_reduce.proofs.PairLemmas.{pair_before, pair_same, pair_behind}
use Rattle.rato_reduce.proofs.products.add_both.Goals as goal

pub add_chosen-requires-clause-set : goal.add_chosen-requires-clause-set
add_chosen-requires-clause-set c =
    let pair = c.args.pair.now in
    let P : List ℕ → Type 0 = AreUpTo c.args.cut.now.places pair.level in
    subst P (pair_before pair.first pair.second (omega arith)) c.requires.both

pub add_chosen-requires-then-second-first-2-clause-set : goal.add_chosen-requires-then-second-first-2-clause-set
add_chosen-requires-then-second-first-2-clause-set c =
    let pair = c.args.pair.now in
    let P : List ℕ → Type 0 = AreUpTo c.args.cut.now.places pair.level in
    subst P (pair_same pair.first pair.second c.if-second-first-2.true) c.requires.both

pub add_chosen-requires-2-clause-set : goal.add_chosen-requires-2-clause-set
add_chosen-requires-2-clause-set c =
    let pair = c.args.pair.now in
    let P : List ℕ → Type 0 = AreUpTo c.args.cut.now.places pair.level in
    subst P (pair_behind pair.first pair.second (omega arith) c.if-second-first-2.false) c.requires.both

pub returns-then-second-first-clause-sum : goal.returns-then-second-first-clause-sum
returns-then-second-first-clause-sum c =
    let pair = c.args.pair.now in
    let added : List ℕ → Terms = λ rs. plus text_cmp c.args.cut.now.terms (product_if pair.all c.args.term.now rs) in
    on_ok_weaker c.add_chosen.result (λ e. e ∙ ap added (sym (pair_before pair.first pair.second (omega arith)))) c.add_chosen.ensures.sum

pub returns-then-second-first-2-clause-sum : goal.returns-then-second-first-2-clause-sum
returns-then-second-first-2-clause-sum c =
    let pair = c.args.pair.now in
    let added : List ℕ → Terms = λ rs. plus text_cmp c.args.cut.now.terms (product_if pair.all c.args.term.now rs) in
    on_ok_weaker c.add_chosen-then-second-first-2.result (λ e. e ∙ ap added (sym (pair_same pair.first pair.second c.if-second-first-2.true))) c.add_chosen-then-second-first-2.ensures.sum

pub returns-clause-sum : goal.returns-clause-sum
returns-clause-sum c =
    let pair = c.args.pair.now in
    let added : List ℕ → Terms = λ rs. plus text_cmp c.args.cut.now.terms (product_if pair.all c.args.term.now rs) in
    on_ok_weaker c.add_chosen-2.result (λ e. e ∙ ap added (sym (pair_behind pair.first pair.second (omega arith) c.if-second-first-2.false))) c.add_chosen-2.ensures.sum
