use Rattle.std.proofs.Common.{◌≡◌, ◌≢◌, ◌∙◌, ap, sym, subst, false, ℕ, ◌-◌, List, length, take, drop, slice_index, rules}
use Rattle.std.specs.List.{AllByRecursion}
use Rattle.std.specs.List.Sorted.{IsStrictlySortedBy}
use Rattle.std.specs.Ordering.{nat_cmp}
use Rattle.poly_mixed.specs.Monomial.{Monomial}
use Rattle.stage_model.specs.WordStage.{is_of_word}
use Rattle.word_subst.specs.Whole.{IsPart}
use Rattle.word_subst.proofs.RisingLemmas.{rest_is, drop_rises}
use Rattle.word_subst.proofs.whole.part.Goals as goal

pub new-requires : goal.new-requires
new-requires g c =
    let P : List ℕ → Type 0 = IsStrictlySortedBy nat_cmp in
    let bits = c.bits-bits.result.now in
    let R : IsStrictlySortedBy nat_cmp bits = subst P (sym c.bits-bits.ensures.value) c.bits-bits.ensures.rising in
    subst P (sym (rest_is 1 bits)) (drop_rises 1 bits R)

pub returns : goal.returns
returns g c =
    let k : ℕ = g.F.Ring.degree c.args.field.now in
    let w : ℕ = c.args.word in
    let m : Monomial = c.args.term.now.0 in
    let P : List ℕ → Type 0 = IsStrictlySortedBy nat_cmp in
    let bits = c.bits-bits.result.now in
    let rest = take (length bits - 1) (drop 1 bits) in
    let R : IsStrictlySortedBy nat_cmp bits = subst P (sym c.bits-bits.ensures.value) c.bits-bits.ensures.rising in
    let rising : IsStrictlySortedBy nat_cmp rest = subst P (sym (rest_is 1 bits)) (drop_rises 1 bits R) in
    let none : slice_index m.exponents w ≡ 0 = search rules in
    let some : c.mul-c.result ≢ 0 = search rules in
    let found : AllByRecursion (λ r. is_of_word c.k.result w r ≡ false) rest = search rules in
    let N : ℕ → Type 0 = λ n. AllByRecursion (λ r. is_of_word n w r ≡ false) rest in
    let others = subst N c.k.ensures found in
    let exponents : c.exponents-2.result.now ≡ m.exponents = c.exponents-2.ensures.value ∙ ap (λ (n : Monomial). n.exponents) c.mono-2.ensures in
    let E : List ℕ → Type 0 = λ es. IsPart w k (record { exponents = es; bits = rest }, c.mul-c.result) in
    let M : Monomial → Type 0 = λ n. IsPart w k (n, c.mul-c.result) in
    subst M (sym c.in_ok-mono.ensures) (subst E (sym exponents) (record {
      rest = record { monomial = record { words = c.requires.term.monomial.words; exponents = c.requires.term.monomial.exponents; rising = rising }; none = none };
      others = others;
      element = c.mul-c.ensures.element;
      some = some;
    }))
