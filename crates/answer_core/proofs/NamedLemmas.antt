-- The labels of a job name all that stands in the polynomial of the last cut.
use Rattle.std.proofs.Common.{◌≡◌, ◌∙◌, ap, subst, ℕ, ◌<◌, ◌+◌, List, [], length, arith}
use Rattle.std.specs.List.{AllByRecursion}
use Rattle.std.proofs.lemmas.List.{length-map}
use Rattle.lists.specs.laws.HasLaws.{All_has}
use Rattle.lists.specs.laws.ReadLaws.{from_map}
use Rattle.net_core.specs.Sound.{IsSound}
use Rattle.net_words.specs.Binding.{BoundNet}
use Rattle.net_words.specs.OneCycle.{IsOneCycle}
use Rattle.net_words.specs.declared.word.WordText.{WordText}
use Rattle.gf_field.specs.Ring.{IsRing}
use Rattle.gf_field.specs.Field.{HasNoZeroDivisors}
use Rattle.gf_basis.specs.Basis.{IsBasis}
use Rattle.gf_basis.specs.BasisParts.{elements_of}
use Rattle.gf_basis.specs.declared.bases.Basis.{Basis}
use Rattle.poly_mixed.specs.Polynomial.{Terms}
use Rattle.poly_mixed.specs.Labels.{bit_count}
use Rattle.poly_mixed.specs.Text.{HasNames}
use Rattle.circuit_model.specs.Word.{word_nets}
use Rattle.circuit_model.specs.OfBinding.{words_of, output_basis, circuit_with, HaveBases}
use Rattle.circuit_model.specs.WellFormed.{IsWellFormed}
use Rattle.circuit_model.proofs.BoundLemmas.{bound_well, word_nets_of}
use Rattle.stage_model.specs.Cut.{CutOf, BoundCut}
use Rattle.stage_model.specs.Stage.{IsOfStage}
use Rattle.stage_model.proofs.BlindLemmas.{in_words}
use Rattle.stage_model.proofs.BoundLemmas.{bound_cut}
use Rattle.job_input.specs.Setting.{HaveRoles, elements_of_each, AreBasesOver}
use Rattle.job_input.specs.Labelling.{word_labels, labels_of}
use Rattle.job_input.proofs.CircuitLabelLemmas.{counted}
use Rattle.stage_model.proofs.SharedLemmas.{named_terms}

pub named : (k : ℕ) (mul : ℕ → ℕ → ℕ) (b : BoundNet) (bases : List Basis) (words : List WordText) (basis : List ℕ) (ts : Terms)
    → IsRing k mul → HasNoZeroDivisors k mul → IsSound b.net → IsOneCycle b.net b.binding → b.net.latches ≡ [] → b.binding.k ≡ k → AreBasesOver k mul bases → length bases ≡ length b.binding.words → HaveRoles words b.binding.words
    → basis ≡ output_basis b.binding.words (elements_of_each bases) → IsOfStage k mul (BoundCut b basis (length b.net.gates)) ts → HasNames (labels_of k words) ts
named k mul b bases words basis ts ring nozero sound bound flat same over long roles is stage =
    let all : List (List ℕ) = elements_of_each bases in
    let long' : length all ≡ length b.binding.words = length-map bases elements_of ∙ long in
    let based : HaveBases k b.binding.words all = record { long = long'; each = λ e has. let found = from_map elements_of bases has.0 e has.1 in let P : List ℕ → Type 0 = λ xs. IsBasis k xs in subst P found.2 (over found.0 (has.0, found.1)).elements } in
    let well : IsWellFormed (circuit_with k mul b all) = bound_well k mul b all bound same based ring nozero sound in
    let B : List ℕ → Type 0 = λ xs. IsOfStage k mul (BoundCut b xs (length b.net.gates)) ts in
    let stage' : IsOfStage k mul (BoundCut b (output_basis b.binding.words all) (length b.net.gates)) ts = subst B is stage in
    let cut : IsOfStage k mul (CutOf (circuit_with k mul b all) (length b.net.gates)) ts = record { reduced = stage'.reduced; values = λ p at. (bound_cut k mul b all (length b.net.gates) p _ long').0 (stage'.values p at) } in
    let nets : length (word_nets (words_of b.binding.words all)) ≡ bit_count (word_labels k words) =
    ap length (word_nets_of b.binding.words all long') ∙ counted k b.binding.words words (λ word has. All_has (λ u. length u.nets ≡ b.binding.k) b.binding.words word bound.flat.named has ∙ same) roles in
    let names = named_terms (bit_count (word_labels k words)) ts (λ rank high. in_words (circuit_with k mul b all) well flat ts rank cut (omega (arith, nets, high))) in
    let P : ℕ → Type 0 = λ n. AllByRecursion (λ t. AllByRecursion (λ r. r < n) t.0.bits) ts in
    let none : bit_count (word_labels k words) ≡ bit_count (word_labels k words) + 0 = omega arith in
    subst P none names
