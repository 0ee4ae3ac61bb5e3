use Rattle.std.proofs.Common.{◌≡◌, ◌++◌, [], ℕ, List, length, append-nil, sym, ◌∙◌, ap}
use Rattle.std.proofs.lemmas.Bool.{eqb-true}
use Rattle.std.proofs.lemmas.List.{nil_from_length}
use Rattle.rato_reduce.proofs.united.append.Goals as goal

pub returns-then-is_empty-clause-added : goal.returns-then-is_empty-clause-added
returns-then-is_empty-clause-added c =
    let list : List ℕ = c.args.list.now.items in
    let nothing : c.args.bits.now ≡ [] = nil_from_length c.args.bits.now (eqb-true (length c.args.bits.now) 0 (sym c.is_empty.ensures ∙ c.if-is_empty.true)) in
    sym (ap (λ (rs : List ℕ). list ++ rs) nothing ∙ append-nil list)
