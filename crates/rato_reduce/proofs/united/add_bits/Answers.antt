use Rattle.std.proofs.Common.{List, ℕ, ◌++◌, [], append-nil, sym, ◌∙◌, ap}
use Rattle.std.proofs.lemmas.List.{append_assoc}
use Rattle.std.proofs.lemmas.Result.{on_ok_weaker}
use Rattle.rato_reduce.proofs.AddedLemmas.{either_way}
use Rattle.rato_reduce.proofs.united.add_bits.Goals as goal

pub returns-in_err-append-clause-longer : goal.returns-in_err-append-clause-longer
returns-in_err-append-clause-longer c = record { more = []; is = c.in_err-append.ensures.kept ∙ sym (append-nil c.args.list.now.items) }

pub returns-clause-added : goal.returns-clause-added
returns-clause-added c =
    let front : List ℕ = c.args.front.now in
    let back : List ℕ = c.args.back.now in
    on_ok_weaker c.append-2.result (λ e. e ∙ ap (λ (xs : List ℕ). xs ++ back) c.in_ok-append.ensures.added ∙ append_assoc c.args.list.now.items front back) c.append-2.ensures.added

pub returns-clause-longer : goal.returns-clause-longer
returns-clause-longer c =
    let front : List ℕ = c.args.front.now in
    let back : List ℕ = c.args.back.now in
    either_way c.append-2.result
    (λ e. record { more = front ++ back; is = e ∙ ap (λ (xs : List ℕ). xs ++ back) c.in_ok-append.ensures.added ∙ append_assoc c.args.list.now.items front back })
    (λ kept. record { more = front; is = kept ∙ c.in_ok-append.ensures.added })
    c.append-2.ensures.added c.append-2.ensures.kept
