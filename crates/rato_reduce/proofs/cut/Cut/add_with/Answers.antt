use Rattle.std.proofs.Common.{◌≡◌, ℕ, List, sym, ◌∙◌, ap, subst}
use Rattle.std.specs.List.Sorted.{IsStrictlySortedBy}
use Rattle.std.specs.Ordering.{nat_cmp}
use Rattle.poly_mixed.specs.Product.{with_rank}
use Rattle.poly_mixed.proofs.ProductLemmas.{rising-with_rank}
use Rattle.rato_reduce.proofs.cut.Cut.add_with.Goals as goal

pub add-requires-clause-rising : goal.add-requires-clause-rising
add-requires-clause-rising c =
    let bits : c.in_ok-bits.bits ≡ with_rank c.args.term.now.0.bits c.args.rank = c.in_ok-bits.ensures ∙ ap (λ (rs : List ℕ). with_rank rs c.args.rank) c.bits.ensures.bits in
    let P : List ℕ → Type 0 = IsStrictlySortedBy nat_cmp in
    subst P (sym bits) (rising-with_rank c.args.term.now.0.bits c.args.rank c.requires.rising)
