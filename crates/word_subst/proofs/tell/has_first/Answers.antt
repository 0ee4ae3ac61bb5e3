use Rattle.std.proofs.Common.{rules, ◌≡◌, ◌≢◌, ◌∙◌, ap, sym, ℕ, List, length, get_or, arith}
use Rattle.std.proofs.lemmas.Bool.{eqb-true, eqb-false}
use Rattle.poly_mixed.specs.Monomial.{Monomial}
use Rattle.word_subst.proofs.FirstBitLemmas.{only_of}
use Rattle.word_subst.proofs.tell.has_first.Goals as goal

pub returns : goal.returns
returns c = λ k w own_are holds.
    let t : Monomial × ℕ = c.args.term.now in
    let bits : List ℕ = c.bits-bits.result.now in
    let own : List ℕ = c.args.own.now in
    let bits_are : bits ≡ t.0.bits = c.bits-bits.ensures.value ∙ ap (λ (m : Monomial). m.bits) c.mono.ensures in
    let one : length own ≡ 1 = search rules in
    let none : length bits ≢ 0 = eqb-false (length bits) 0 (sym c.is_empty.ensures ∙ c.if-is_empty.false) in
    let same : get_or bits 0 0 ≡ get_or own 0 0 = eqb-true (get_or bits 0 0) (get_or own 0 0) holds in
    only_of k w t bits own bits_are own_are one (omega (arith, none)) same
