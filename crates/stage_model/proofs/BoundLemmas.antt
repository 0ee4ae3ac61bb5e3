-- The variables and cuts of bound words are those of their circuit.
use Rattle.std.proofs.Common.{◌≡◌, ap, sym, subst, ℕ, ◌+◌, ◌↔◌, List, ◌++◌, length}
use Rattle.net_core.specs.NetList.{nets}
use Rattle.net_words.specs.Binding.{BoundNet}
use Rattle.net_words.specs.Variables.{others, variables}
use Rattle.circuit_model.specs.OfBinding.{output_word, output_basis, circuit_with}
use Rattle.poly_mixed.specs.Polynomial.{Point}
use Rattle.stage_model.specs.Variables.{variables_of}
use Rattle.poly_mixed.specs.declared.stage.Stage.{Stage}
use Rattle.stage_model.specs.Cut.{IsCut, CutOf, BoundCut}
use Rattle.stage_model.specs.Listing.{cut_listing, IsOver, AreAllWithin}
use Rattle.stage_model.specs.CircuitListing.{circuit_cuts, bound_cuts}
use Rattle.circuit_model.proofs.BoundLemmas.{word_nets_of}

pub bound_variables : (k : ℕ) (mul : ℕ → ℕ → ℕ) (bound : BoundNet) (bases : List (List ℕ)) → length bases ≡ length bound.binding.words → variables_of (circuit_with k mul bound bases) ≡ variables (nets bound.net) bound.binding.words
bound_variables k mul bound bases long = ap (λ ns. ns ++ others (nets bound.net) ns) (word_nets_of bound.binding.words bases long)

pub bound_cut : (k : ℕ) (mul : ℕ → ℕ → ℕ) (bound : BoundNet) (bases : List (List ℕ)) (t : ℕ) (p : Point) (e : ℕ) → length bases ≡ length bound.binding.words → BoundCut bound (output_basis bound.binding.words bases) t p e ↔ CutOf (circuit_with k mul bound bases) t p e
bound_cut k mul bound bases t p e long =
    let P : List ℕ → Type 0 = λ vs. IsCut bound.net vs (output_word bound.binding.words (output_basis bound.binding.words bases)) t p e in
    let same = bound_variables k mul bound bases long in
    ((λ cut. subst P (sym same) cut), λ cut. subst P same cut)

module _ (k : ℕ) (mul : ℕ → ℕ → ℕ) (binding : BoundNet) (bases : List (List ℕ)) (basis : List ℕ) (bound : ℕ) where
  -- what holds of the cuts with the variables and the output word of one holds with those of the other
  both_ways : (P : List ℕ → List ℕ → Type 0) → length bases ≡ length binding.binding.words → basis ≡ output_basis binding.binding.words bases
      → P (variables (nets binding.net) binding.binding.words) basis ↔ P (variables_of (circuit_with k mul binding bases)) (output_basis binding.binding.words bases)
  both_ways P long same =
      let one = bound_variables k mul binding bases long in
      let Q : List ℕ → Type 0 = λ vs. P vs (output_basis binding.binding.words bases) in
      let R : List ℕ → Type 0 = λ b. P (variables (nets binding.net) binding.binding.words) b in
      ((λ x. subst Q (sym one) (subst R same x)), λ y. subst R (sym same) (subst Q one y))

  pub bound_over : (name : Stage) (n : ℕ) → length bases ≡ length binding.binding.words → basis ≡ output_basis binding.binding.words bases → IsOver k mul (bound_cuts binding basis) bound name n ↔ IsOver k mul (circuit_cuts (circuit_with k mul binding bases)) bound name n
  bound_over name n = both_ways (λ vs b. IsOver k mul (cut_listing (length binding.net.gates + 1) (IsCut binding.net vs (output_word binding.binding.words b))) bound name n)

  pub bound_within : length bases ≡ length binding.binding.words → basis ≡ output_basis binding.binding.words bases → AreAllWithin k mul (bound_cuts binding basis) bound ↔ AreAllWithin k mul (circuit_cuts (circuit_with k mul binding bases)) bound
  bound_within = both_ways (λ vs b. AreAllWithin k mul (cut_listing (length binding.net.gates + 1) (IsCut binding.net vs (output_word binding.binding.words b))) bound)
