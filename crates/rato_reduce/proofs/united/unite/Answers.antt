use Rattle.std.proofs.Common.{ℕ, List, ◌+◌, drop, sym, ◌∙◌, ap}
use Rattle.std.proofs.lemmas.List.{drop_more}
use Rattle.poly_mixed.specs.Product.{union}
use Rattle.rato_reduce.proofs.united.unite.Goals as goal

pub loop-rank-preserved : goal.loop-rank-preserved
loop-rank-preserved c =
    let set : List ℕ = c.args.set.now in
    let i = c.loop-rank.rank-index in
    record {
      front = c.add_rank.ensures.front ∙ c.loop-rank.invariant.front;
      long = c.add_rank.ensures.long;
      united =
          ap (λ (rs : List ℕ). union rs (drop (i + 1) set)) c.in_ok-hash.ensures.with
          ∙ sym (ap (λ (rs : List ℕ). union (drop c.args.start c.loop-rank.list.items) rs) (drop_more set i 0 c.loop-rank-test.true))
          ∙ c.loop-rank.invariant.united;
    }

pub returns-in_err-hash-clause-front : goal.returns-in_err-hash-clause-front
returns-in_err-hash-clause-front c = c.add_rank.ensures.front ∙ c.loop-rank.invariant.front
