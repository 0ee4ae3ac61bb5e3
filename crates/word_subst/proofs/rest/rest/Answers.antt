use Rattle.std.proofs.Common.{◌∙◌, sym, subst, not, ℕ, Bool, List}
use Rattle.std.specs.List.{filter}
use Rattle.std.specs.List.Sorted.{IsStrictlySortedBy}
use Rattle.std.specs.Ordering.{nat_cmp}
use Rattle.poly_mixed.proofs.CofactorLemmas.{rising-filter}
use Rattle.stage_model.specs.WordStage.{is_of_word}
use Rattle.word_subst.proofs.rest.rest.Goals as goal

pub new-requires : goal.new-requires
new-requires c =
    let other : ℕ → Bool = λ r. not (is_of_word c.args.k c.args.word r) in
    let P : List ℕ → Type 0 = IsStrictlySortedBy nat_cmp in
    let Q : List ℕ → Type 0 = λ xs. IsStrictlySortedBy nat_cmp (filter other xs) in
    subst P (sym (c.deref.ensures.value ∙ c.in_ok-bits.ensures)) (subst Q (sym c.bits.ensures.value) (rising-filter other c.args.mono.now.bits c.bits.ensures.rising))
