-- A term without one of its bits.
use Rattle.std.proofs.Common.{◌≡◌, ℕ, zero, suc, ◌+◌, ◌<◌, true, false, cond, not, nat_eq, List, [], ◌∷◌, ◌++◌, length, take, drop, get_or, refl, sym, ◌∙◌, ap, subst, arith}
use Rattle.std.specs.declared.cmp.Ordering.TheVariants.{Less}
use Rattle.std.specs.List.{AllByRecursion}
use Rattle.std.specs.List.Sorted.{IsStrictlySortedBy}
use Rattle.std.specs.Ordering.{nat_cmp}
use Rattle.std.proofs.lemmas.Bool.{eqb-true, eqb-false}
use Rattle.std.proofs.lemmas.List.{length-append, length-drop, length-take-le}
use Rattle.poly_mixed.specs.Cofactor.{cofactors, lacking}
use Rattle.poly_mixed.proofs.RankLemmas.{from_less}
use Rattle.rato_reduce.specs.private.CutTerms.{of_bits}
use Rattle.rato_reduce.proofs.AddedLemmas.{bits_but, no_other_line, taken_line}

-- bits behind a bit stay
above_stay : (rank : ℕ) (bits : List ℕ) → AllByRecursion (λ r. nat_cmp rank r ≡ Less) bits → bits_but rank bits ≡ bits
above_stay rank [] all = refl
above_stay rank (r ∷ bits) all =
    elim (nat_eq r rank) as (λ b. nat_eq r rank ≡ b → cond (not b) (r ∷ bits_but rank bits) (bits_but rank bits) ≡ r ∷ bits) [
      | true ↦ λ e. (let same : r ≡ rank = eqb-true r rank e in let less : rank < r = from_less rank r all.0 in absurd (omega (arith, same, less)))
      | false ↦ λ e. ap (λ (rs : List ℕ). r ∷ rs) (above_stay rank bits all.1)
    ] refl

less_at : (x : ℕ) (bits : List ℕ) (place : ℕ) → AllByRecursion (λ r. nat_cmp x r ≡ Less) bits → place < length bits → x < get_or bits place 0
less_at x [] place all inside = absurd (omega arith)
less_at x (r ∷ bits) zero all inside = from_less x r all.0
less_at x (r ∷ bits) (suc place) all inside = less_at x bits place all.1 (omega arith)

apart_from : (rank : ℕ) (bits : List ℕ) (place : ℕ) → IsStrictlySortedBy nat_cmp bits → place < length bits → get_or bits place 0 ≡ rank → bits_but rank bits ≡ take place bits ++ drop (suc place) bits
unfolding IsStrictlySortedBy
apart_from rank [] place rising inside is = absurd (omega arith)
apart_from rank (x ∷ bits) zero rising inside is =
    let P : ℕ → Type 0 = λ r. AllByRecursion (λ s. nat_cmp r s ≡ Less) bits in
    elim (nat_eq x rank) as (λ b. nat_eq x rank ≡ b → cond (not b) (x ∷ bits_but rank bits) (bits_but rank bits) ≡ bits) [
      | true ↦ λ e. above_stay rank bits (subst P is rising.0)
      | false ↦ λ e. absurd (eqb-false x rank e is)
    ] refl
apart_from rank (x ∷ bits) (suc place) rising inside is =
    let less : x < get_or bits place 0 = less_at x bits place rising.0 (omega arith) in
    elim (nat_eq x rank) as (λ b. nat_eq x rank ≡ b → cond (not b) (x ∷ bits_but rank bits) (bits_but rank bits) ≡ x ∷ (take place bits ++ drop (suc place) bits)) [
      | true ↦ λ e. (let same : x ≡ rank = eqb-true x rank e in absurd (omega (arith, same, less, is)))
      | false ↦ λ e. ap (λ (rs : List ℕ). x ∷ rs) (apart_from rank bits place rising.1 (omega arith) is)
    ] refl

module _ (rank c : ℕ) (bits : List ℕ) (place : ℕ) (rising : IsStrictlySortedBy nat_cmp bits) (inside : place < length bits) (is : get_or bits place 0 ≡ rank) where
  apart : bits_but rank bits ≡ take place bits ++ drop (place + 1) bits
  apart = let next : suc place ≡ place + 1 = omega arith in apart_from rank bits place rising inside is ∙ ap (λ (n : ℕ). take place bits ++ drop n bits) next

  shorter : length (bits_but rank bits) ≡ length bits → ⊥
  shorter same = absurd (omega (arith, inside, same, ap length apart, length-append (take place bits) (drop (place + 1) bits), length-take-le place bits (omega (arith, inside)), length-drop (place + 1) bits))

  pub without_bit_is : (of_bits (take place bits ++ drop (place + 1) bits), c) ∷ [] ≡ cofactors rank ((of_bits bits, c) ∷ [])
  without_bit_is = ap (λ (rs : List ℕ). (of_bits rs, c) ∷ []) (sym apart) ∙ sym (taken_line rank c bits shorter)

  pub has_the_bit : lacking rank ((of_bits bits, c) ∷ []) ≡ []
  has_the_bit = no_other_line rank c bits shorter
