-- The stages of a circuit: cuts and then stages of words.
use Rattle.std.proofs.Common.{◌≡◌, ◌∙◌, ap, ℕ, ◌≤◌, List, [], length, map, arith}
use Rattle.std.proofs.lemmas.List.{length-map}
use Rattle.net_core.specs.NetList.{nets}
use Rattle.net_core.specs.Sound.{IsSound}
use Rattle.net_words.specs.Binding.{BoundNet}
use Rattle.net_words.specs.Variables.{variables}
use Rattle.gf_field.specs.Ring.{IsRing}
use Rattle.gf_field.specs.Field.{HasNoZeroDivisors}
use Rattle.gf_basis.specs.BasisParts.{elements_of}
use Rattle.gf_basis.specs.declared.bases.Basis.{Basis}
use Rattle.poly_mixed.specs.Polynomial.{value, Terms}
use Rattle.poly_mixed.specs.declared.stage.ReduceFault.{ReduceFault}
use Rattle.poly_mixed.specs.declared.stage.ReduceFault.TheVariants.{TooManyTerms, OutOfMemory}
use Rattle.poly_mixed.specs.declared.stage.Stage.TheVariants.{Cut, WordProduct, WordSum, SpecProduct, SpecSum, InstanceProduct, InstanceSum}
use Rattle.circuit_model.specs.Bases.{circuit_in}
use Rattle.circuit_model.specs.OfBinding.{output_basis, output_word}
use Rattle.circuit_model.specs.WellFormed.{IsWellFormed}
use Rattle.stage_model.specs.CircuitListing.{bound_cuts}
use Rattle.stage_model.specs.Cut.{BoundCut, CutOf, IsCut}
use Rattle.stage_model.specs.Listing.{AreAllWithin, IsRefusal}
use Rattle.stage_model.specs.Mix.{IsMix}
use Rattle.stage_model.specs.OutputInBits.{IsOutputInBits}
use Rattle.stage_model.specs.Stage.{IsOfStage}
use Rattle.stage_model.specs.WordListing.{word_listing}
use Rattle.stage_model.proofs.BoundLemmas.{bound_cut}
use Rattle.stage_model.proofs.CutLemmas.{one_cut_of}
use Rattle.stage_model.proofs.ListingLemmas.{earlier_over, later_over}
use Rattle.stage_model.proofs.MixLemmas.{mix_none}
use Rattle.stage_model.proofs.OutputInBitsLemmas.{last_is_output}
use Rattle.stage_model.proofs.SizeLemmas.{same_terms}
use Rattle.abstraction.specs.Stages.{stages_in, IsFirstRefusal}

module _ (k : ℕ) (mul : ℕ → ℕ → ℕ) (b : BoundNet) (bases : List Basis) where
  abbrev elements : List ℕ
  elements = output_basis b.binding.words (map elements_of bases)

  -- the polynomial of the last cut is within the bound
  pub few : IsRing k mul → HasNoZeroDivisors k mul → IsSound b.net → (n : ℕ) (ts : Terms) → IsOfStage k mul (BoundCut b elements (length b.net.gates)) ts → AreAllWithin k mul (bound_cuts b elements) n → length ts ≤ n
  few ring field sound n ts stage none =
      let order = variables (nets b.net) b.binding.words in
      let output = output_word b.binding.words elements in
      let last = none (Cut (length b.net.gates)) (omega arith) in
      let e : ts ≡ last.has.terms = same_terms k mul ring field (IsCut b.net order output (length b.net.gates)) (λ p x y at first other. one_cut_of b.net sound order output (length b.net.gates) p x y first other) ts last.has.terms stage last.has.is in
      let size : length ts ≡ length last.has.terms = ap length e in
      omega (arith, last.has.size, last.within)

  -- the last cut is the mix of no words
  pub no_words : IsWellFormed (circuit_in k mul b bases) → length bases ≡ length b.binding.words → b.net.latches ≡ [] → (ts : Terms) → IsOfStage k mul (BoundCut b elements (length b.net.gates)) ts → IsOfStage k mul (IsMix (circuit_in k mul b bases) 0) ts
  no_words well long flat ts stage =
      let many : length (map elements_of bases) ≡ length b.binding.words = length-map bases elements_of ∙ long in
      record {
        reduced = stage.reduced;
        values = λ p at. (mix_none (circuit_in k mul b bases) well flat p (value mul p ts) at).1 ((bound_cut k mul b (map elements_of bases) (length b.net.gates) p (value mul p ts) many).0 (stage.values p at));
      }

  -- the last cut is the output in bits
  pub output_of_last : IsWellFormed (circuit_in k mul b bases) → length bases ≡ length b.binding.words → b.net.latches ≡ [] → (ts : Terms) → IsOfStage k mul (BoundCut b elements (length b.net.gates)) ts → IsOutputInBits (circuit_in k mul b bases) ts
  output_of_last well long flat ts stage =
      let many : length (map elements_of bases) ≡ length b.binding.words = length-map bases elements_of ∙ long in
      let cut : IsOfStage k mul (CutOf (circuit_in k mul b bases) (length b.net.gates)) ts = record {
        reduced = stage.reduced;
        values = λ p at. (bound_cut k mul b (map elements_of bases) (length b.net.gates) p (value mul p ts) many).0 (stage.values p at);
      } in
      (last_is_output (circuit_in k mul b bases) well flat ts).0 cut

  -- a cut over the bound is the first of all stages
  pub cut_refused : (bound : ℕ) (fault : ReduceFault) → IsRefusal k mul (bound_cuts b elements) bound fault → IsFirstRefusal k mul (stages_in k mul b bases) bound fault
  cut_refused bound OutOfMemory over = tt
  cut_refused bound (TooManyTerms (Cut t) n) over = (earlier_over k mul (bound_cuts b elements) (word_listing (circuit_in k mul b bases)) bound (Cut t) n).1 over
  cut_refused bound (TooManyTerms (WordProduct w s j) n) over = absurd over.listed
  cut_refused bound (TooManyTerms (WordSum w s) n) over = absurd over.listed
  cut_refused bound (TooManyTerms (SpecProduct s j) n) over = absurd over.listed
  cut_refused bound (TooManyTerms (SpecSum s) n) over = absurd over.listed
  cut_refused bound (TooManyTerms (InstanceProduct i s j) n) over = absurd over.listed
  cut_refused bound (TooManyTerms (InstanceSum i s) n) over = absurd over.listed

  -- a stage of words over the bound is the first of all stages where no cut is
  pub word_refused : (bound : ℕ) (fault : ReduceFault) → AreAllWithin k mul (bound_cuts b elements) bound → IsRefusal k mul (word_listing (circuit_in k mul b bases)) bound fault → IsFirstRefusal k mul (stages_in k mul b bases) bound fault
  word_refused bound OutOfMemory all over = tt
  word_refused bound (TooManyTerms (Cut t) n) all over = absurd over.listed
  word_refused bound (TooManyTerms (WordProduct w s j) n) all over = (later_over k mul (bound_cuts b elements) (word_listing (circuit_in k mul b bases)) bound (WordProduct w s j) n).1 (all, over)
  word_refused bound (TooManyTerms (WordSum w s) n) all over = (later_over k mul (bound_cuts b elements) (word_listing (circuit_in k mul b bases)) bound (WordSum w s) n).1 (all, over)
  word_refused bound (TooManyTerms (SpecProduct s j) n) all over = absurd over.listed
  word_refused bound (TooManyTerms (SpecSum s) n) all over = absurd over.listed
  word_refused bound (TooManyTerms (InstanceProduct i s j) n) all over = absurd over.listed
  word_refused bound (TooManyTerms (InstanceSum i s) n) all over = absurd over.listed
