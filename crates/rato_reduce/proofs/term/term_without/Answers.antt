use Rattle.std.proofs.Common.{◌+◌, ◌++◌, ◌∷◌, [], ℕ, List, take, ◌∙◌, ap, sym, subst, arith}
use Rattle.std.specs.List.Sorted.{IsStrictlySortedBy}
use Rattle.std.specs.Ordering.{nat_cmp}
use Rattle.std.proofs.lemmas.List.{take_rest}
use Rattle.poly_mixed.specs.Cofactor.{cofactors, lacking}
use Rattle.rato_reduce.specs.private.CutTerms.{of_bits}
use Rattle.rato_reduce.proofs.TermLemmas.{has_the_bit, without_bit_is}
use Rattle.rato_reduce.proofs.term.term_without.Goals as goal

pub returns-then-here-rank-clause-without : goal.returns-then-here-rank-clause-without
returns-then-here-rank-clause-without c =
    let bits : List ℕ = c.bits_of-bits.result.now in
    let place = c.args.place in
    let k = c.args.row.now.coefficient in
    let P : List ℕ → Type 0 = IsStrictlySortedBy nat_cmp in
    let rising : IsStrictlySortedBy nat_cmp bits = subst P (sym c.bits_of-bits.ensures) c.requires.rising in
    ap (λ (rs : List ℕ). (of_bits (take place bits ++ rs), k) ∷ []) (take_rest bits (place + 1))
    ∙ without_bit_is c.args.rank k bits place rising (omega arith) c.if-here-rank.true
    ∙ ap (λ (rs : List ℕ). cofactors c.args.rank ((of_bits rs, k) ∷ [])) c.bits_of-bits.ensures

pub returns-then-here-rank-clause-has : goal.returns-then-here-rank-clause-has
returns-then-here-rank-clause-has c =
    let bits : List ℕ = c.bits_of-bits.result.now in
    let place = c.args.place in
    let k = c.args.row.now.coefficient in
    let P : List ℕ → Type 0 = IsStrictlySortedBy nat_cmp in
    let rising : IsStrictlySortedBy nat_cmp bits = subst P (sym c.bits_of-bits.ensures) c.requires.rising in
    ap (λ (rs : List ℕ). lacking c.args.rank ((of_bits rs, k) ∷ [])) (sym c.bits_of-bits.ensures)
    ∙ has_the_bit c.args.rank k bits place rising (omega arith) c.if-here-rank.true

pub returns-then-here-rank-clause-front : goal.returns-then-here-rank-clause-front
returns-then-here-rank-clause-front c = ap (take c.args.place) c.bits_of-bits.ensures
