-- A circuit has one certificate, and what its recorder holds is this one.
use Rattle.std.proofs.Common.{◌≡◌, ◌∙◌, ap, sym, subst, ℕ, List, [], ◌++◌, length, map, Some}
use Rattle.gf_basis.specs.BasisParts.{elements_of}
use Rattle.gf_basis.specs.declared.bases.Basis.{Basis}
use Rattle.net_core.specs.NetList.{nets}
use Rattle.net_words.specs.Binding.{BoundNet}
use Rattle.net_words.specs.Variables.{variables}
use Rattle.poly_mixed.specs.Polynomial.{Terms}
use Rattle.poly_mixed.specs.Steps.{Step, Tells}
use Rattle.circuit_model.specs.Bases.{circuit_in}
use Rattle.circuit_model.specs.OfBinding.{output_word, output_basis}
use Rattle.stage_model.specs.CutSteps.{AreCutSteps}
use Rattle.stage_model.specs.Mix.{IsMix}
use Rattle.stage_model.specs.Stage.{IsOfStage}
use Rattle.stage_model.specs.WordSteps.{AreWordSteps}
use Rattle.stage_model.proofs.StepLemmas.{one_cut_steps, one_word_steps}
use Rattle.stage_model.proofs.WordStageLemmas.{one_terms}
use Rattle.cert_check.proofs.SoundLemmas.{well}
use Rattle.cert_make.specs.Recorded.{IsCertificateOf}
use Rattle.cert_laws.specs.OneCertificate.{IsOnlyCertificate}

pub is_only : IsOnlyCertificate
is_only k mul bound bases claim other pairs others ring field sound one same are first second =
    let circuit = well k mul bound bases ring field sound one same are in
    let cuts : first.cuts ≡ second.cuts = one_cut_steps k mul ring field bound.net sound (variables (nets bound.net) bound.binding.words) (output_word bound.binding.words (output_basis bound.binding.words (map elements_of bases))) (length bound.net.gates) first.cuts second.cuts first.are_cuts second.are_cuts in
    let words : first.words ≡ second.words = one_word_steps (circuit_in k mul bound bases) circuit (length (circuit_in k mul bound bases).words) first.words second.words first.are_words second.are_words in (
      one_terms (circuit_in k mul bound bases) circuit (length (circuit_in k mul bound bases).words) claim other first.claims second.claims,
      first.pairs_are ∙ (λ i. cuts i ++ words i) ∙ sym second.pairs_are,
    )

some_same : (x y : List Step) → Some x ≡ Some y → x ≡ y
some_same x y e = cc

-- what a recorder holds that held nothing, and then was handed the steps of both engines
pub recorded : (k : ℕ) (mul : ℕ → ℕ → ℕ) (bound : BoundNet) (bases : List Basis) (basis : List ℕ) (claim : Terms) (cuts words first second : List Step) → basis ≡ output_basis bound.binding.words (map elements_of bases)
    → AreCutSteps k mul bound.net (variables (nets bound.net) bound.binding.words) (output_word bound.binding.words basis) (length bound.net.gates) cuts → AreWordSteps (circuit_in k mul bound bases) words
    → Tells (Some []) (Some first) cuts → Tells (Some first) (Some second) words → IsOfStage k mul (IsMix (circuit_in k mul bound bases) (length (circuit_in k mul bound bases).words)) claim
    → IsCertificateOf k mul bound bases claim second
recorded k mul bound bases basis claim cuts words first second same are_cuts are_words told also claims =
    let P : List ℕ → Type 0 = λ b. AreCutSteps k mul bound.net (variables (nets bound.net) bound.binding.words) (output_word bound.binding.words b) (length bound.net.gates) cuts in
    let one : first ≡ cuts = some_same first cuts told in
    let two : second ≡ first ++ words = some_same second (first ++ words) also in
    record { cuts = cuts; words = words; claims = claims; are_cuts = subst P same are_cuts; are_words = are_words; pairs_are = two ∙ ap (λ (xs : List Step). xs ++ words) one }
