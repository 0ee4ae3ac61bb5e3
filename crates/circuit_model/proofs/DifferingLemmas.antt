-- Inputs are in a total order by their bits that are 1, so that two functions are told apart at one input at most.
use Rattle.std.proofs.Common.{◌≡◌, ◌≢◌, ◌∙◌, ap, sym, refl, subst, ℕ, ◌<◌, ◌↔◌, List, length, Option, None, Some}
use Rattle.std.specs.declared.cmp.Ordering.{Ordering}
use Rattle.std.specs.declared.cmp.Ordering.TheVariants.{Less, Equal, Greater}
use Rattle.std.specs.Cmp.{nat_cmp_total}
use Rattle.std.specs.Cmp.Lexicographic.{slice_cmp}
use Rattle.std.specs.Ordering.{nat_cmp, ordering_then, ordering_reverse}
use Rattle.std.specs.FinMap.{nat_cmp-IsAntisymmetric, slice_cmp-IsAntisymmetric}
use Rattle.lists.specs.laws.OrderingLaws.{cmp_less}
use Rattle.circuit_model.specs.Circuit.{Circuit}
use Rattle.circuit_model.specs.Differing.{Differ, IsDifferingInput, AreSame, Difference, IsComparison}
use Rattle.circuit_model.specs.InputOrder.{AreOrdered, HasOneDifferingInput}
use Rattle.circuit_model.specs.Ones.{AreOnes, ones_cmp, ones_cmp_total}
use Rattle.circuit_model.specs.WellFormed.{IsWellFormed}
use Rattle.circuit_model.proofs.Functions.{IsFunction}
use Rattle.circuit_model.proofs.OnesLemmas.{one_input}

-- ---- the order

greater_then : (r q : Ordering) → r ≡ Greater → ordering_then r q ≡ Greater
greater_then r q e = ap (λ o. ordering_then o q) e

pub longer_after : (a b : List ℕ) → length b < length a → ones_cmp a b ≡ Greater
longer_after a b less = greater_then (nat_cmp (length a) (length b)) (slice_cmp nat_cmp a b) (nat_cmp_total.antisymm (length a) (length b) ∙ ap ordering_reverse (cmp_less (length b) (length a) less))

pub shorter_before : (a b : List ℕ) → length a < length b → ones_cmp a b ≡ Less
shorter_before a b less = ap (λ o. ordering_then o (slice_cmp nat_cmp a b)) (cmp_less (length a) (length b) less)

equal_then : (r q : Ordering) → ordering_then r q ≡ Equal → q ≡ Equal
equal_then Less q e = cc
equal_then Equal q e = e
equal_then Greater q e = cc

one_at_tie : (a b : List ℕ) → ones_cmp a b ≡ Equal → a ≡ b
one_at_tie a b e = slice_cmp-IsAntisymmetric {R = nat_cmp} (λ m n h. nat_cmp-IsAntisymmetric m n h) a b (equal_then (nat_cmp (length a) (length b)) (slice_cmp nat_cmp a b) e)

-- neither comes after the other
pub neither_after : (a b : List ℕ) → ones_cmp a b ≢ Greater → ones_cmp b a ≢ Greater → a ≡ b
neither_after a b p q =
    elim (ones_cmp a b) as (λ o. ones_cmp a b ≡ o → a ≡ b) [
      | Less ↦ λ e. absurd (q (ones_cmp_total.antisymm b a ∙ ap ordering_reverse e))
      | Equal ↦ λ e. one_at_tie a b e
      | Greater ↦ λ e. absurd (p e)
    ] refl

-- ---- one differing input

pub ordered : (c : Circuit) → AreOrdered c
ordered c xs ys ones others well a b p q =
    let same = neither_after ones others p q in
    let P : List ℕ → Type 0 = AreOnes c ys in
    one_input c well xs ys ones a (subst P (sym same) b)

pub one_differing : (c : Circuit) (f g : List ℕ → ℕ → Type 0) → IsWellFormed c → IsFunction f → IsFunction g → HasOneDifferingInput c f g
one_differing c f g well one two xs ys left right l r a b =
    let same = ordered c xs ys a.ones b.ones well a.are b.are (a.least ys b.ones l r b.are b.differ) (b.least xs a.ones left right a.are a.differ) in
    let P : List ℕ → Type 0 = λ zs. f zs left in
    let Q : List ℕ → Type 0 = λ zs. g zs right in
    (same, one ys left l (subst P same a.differ.first) b.differ.first, two ys right r (subst Q same a.differ.second) b.differ.second)

-- two functions that are told apart somewhere are not the same
pub told_apart : (c : Circuit) (f g : List ℕ → ℕ → Type 0) (xs : List ℕ) (left right : ℕ) → AreSame c f g → IsDifferingInput c f g xs left right → ⊥
told_apart c f g xs left right same is = is.differ.apart (same xs left right is.are.input is.differ.first is.differ.second)

-- two functions have one comparison at most
pub one_comparison : (c : Circuit) (f g : List ℕ → ℕ → Type 0) → IsWellFormed c → IsFunction f → IsFunction g → (a b : Option Difference) → IsComparison c f g a → IsComparison c f g b → a ≡ b
one_comparison c f g well one two None None p q = refl
one_comparison c f g well one two None (Some d) p q = absurd (told_apart c f g d.input d.left d.right p q)
one_comparison c f g well one two (Some d) None p q = absurd (told_apart c f g d.input d.left d.right q p)
one_comparison c f g well one two (Some d) (Some e) p q =
    let same = one_differing c f g well one two d.input e.input d.left d.right e.left e.right p q in
    λ i. Some (record { input = same.0 i; left = same.1 i; right = same.2 i })

-- ---- other relations with the same elements

module _ (c : Circuit) (f g f' g' : List ℕ → ℕ → Type 0) (left : (xs : List ℕ) (e : ℕ) → f xs e ↔ f' xs e) (right : (xs : List ℕ) (e : ℕ) → g xs e ↔ g' xs e) where
  differ_there : (xs : List ℕ) (l r : ℕ) → Differ f g xs l r → Differ f' g' xs l r
  differ_there xs l r is = record { first = (left xs l).0 is.first; second = (right xs r).0 is.second; apart = is.apart }

  differ_back : (xs : List ℕ) (l r : ℕ) → Differ f' g' xs l r → Differ f g xs l r
  differ_back xs l r is = record { first = (left xs l).1 is.first; second = (right xs r).1 is.second; apart = is.apart }

  -- have the same comparison
  pub moved_comparison : (found : Option Difference) → IsComparison c f g found → IsComparison c f' g' found
  moved_comparison None same = λ xs l r input first second. same xs l r input ((left xs l).1 first) ((right xs r).1 second)
  moved_comparison (Some d) is = record {
    differ = differ_there d.input d.left d.right is.differ;
    ones = is.ones;
    are = is.are;
    least = λ ys others l r are there. is.least ys others l r are (differ_back ys l r there);
  }
