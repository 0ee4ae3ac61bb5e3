use Rattle.std.proofs.Common.{◌+◌, ℕ, length, sym, ◌∙◌, ap, subst}
use Rattle.std.proofs.lemmas.Result.{on_ok_weaker}
use Rattle.rato_reduce.specs.private.Buckets.{joined, IsCounted}
use Rattle.rato_reduce.proofs.BucketLemmas.{no_list_out, one_list_out, rest_length, rest_levelled}
use Rattle.rato_reduce.proofs.buckets.take_last.Goals as goal

pub returns-then-len-level-clause-levelled : goal.returns-then-len-level-clause-levelled
returns-then-len-level-clause-levelled c = rest_levelled c.args.list.now.items c.pop_from.new.list.items c.in-Some.bucket c.in-Some.ensures.some

pub returns-else-len-level-clause-levelled : goal.returns-else-len-level-clause-levelled
returns-else-len-level-clause-levelled c = rest_levelled c.args.list.now.items c.pop_from.new.list.items c.in-Some.bucket c.in-Some.ensures.some

pub returns-then-len-level-clause-counted : goal.returns-then-len-level-clause-counted
returns-then-len-level-clause-counted c counted =
    let new = c.pop_from.new.list.items in
    let P : ℕ → Type 0 = IsCounted c.args.count.now in
    c.fewer.ensures (length (joined new)) (subst P (rest_length c.args.list.now.items new c.in-Some.bucket c.in-Some.ensures.some ∙ ap (λ n. length (joined new) + n) (sym c.len.ensures)) counted)

pub returns-else-len-level-clause-counted : goal.returns-else-len-level-clause-counted
returns-else-len-level-clause-counted c counted =
    let new = c.pop_from.new.list.items in
    let P : ℕ → Type 0 = IsCounted c.args.count.now in
    c.fewer.ensures (length (joined new)) (subst P (rest_length c.args.list.now.items new c.in-Some.bucket c.in-Some.ensures.some ∙ ap (λ n. length (joined new) + n) (sym c.len.ensures)) counted)

pub returns-else-len-level-clause-taken : goal.returns-else-len-level-clause-taken
returns-else-len-level-clause-taken c =
    on_ok_weaker c.take_all.result (λ made. one_list_out c.args.list.now.items c.pop_from.new.list.items c.in-Some.bucket c.take_all.new.part c.in-Some.ensures.some made) c.take_all.ensures

pub returns-in-None-clause-taken : goal.returns-in-None-clause-taken
returns-in-None-clause-taken c = no_list_out c.args.list.now.items c.pop_from.new.list.items c.args.part.now c.in-None.ensures.none.0 c.requires
