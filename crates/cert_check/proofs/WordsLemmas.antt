-- The bases of the words of a binding, out of those of all words.
use Rattle.std.proofs.Common.{◌≡◌, ◌≢◌, ◌∙◌, ap, sym, refl, ℕ, zero, suc, ◌<◌, ◌≤◌, ◌+◌, ◌-◌, List, [], ◌∷◌, ◌++◌, length, map, drop, Some, arith, drop_of_length-le}
use Rattle.std.specs.Prelude.{slice_get}
use Rattle.net_words.specs.declared.bound.BoundWord.{BoundWord}
use Rattle.net_words.specs.declared.word.Role.{Role}
use Rattle.net_words.specs.declared.word.Role.TheVariants.{Input, State, Fed, Output}
use Rattle.gf_basis.specs.BasisParts.{duals_of}
use Rattle.gf_basis.specs.declared.bases.Basis.{Basis}
use Rattle.circuit_model.specs.Word.{Word}
use Rattle.circuit_model.specs.OfBinding.{word_with, words_of}

-- the words from w on, with their dual bases
abbrev pub words_from : List BoundWord → List Basis → ℕ → List Word
words_from words bases w = words_of (drop w words) (drop w (map duals_of bases))

step : (words : List BoundWord) (bases : List Basis) (w : ℕ) (word : BoundWord) (basis : Basis) → slice_get words w ≡ Some word → slice_get bases w ≡ Some basis
    → words_from words bases w ≡ word_with word.role word.nets (duals_of basis) ++ words_from words bases (suc w)
step [] bases w word basis got at = absurd (cc)
step (u ∷ us) [] w word basis got at = absurd (cc)
step (u ∷ us) (b ∷ bs) zero word basis got at =
    let same : u ≡ word = cc in
    let same' : b ≡ basis = cc in
    (λ i. word_with (same i).role (same i).nets (duals_of (same' i)) ++ words_of us (map duals_of bs))
step (u ∷ us) (b ∷ bs) (suc w) word basis got at = step us bs w word basis got at

-- the word that another role than the output's adds
added : (word : BoundWord) (basis : List ℕ) → word.role ≢ Output → (w : Word) × (word_with word.role word.nets basis ≡ w ∷ []) × (w.basis ≡ basis)
added word basis other = by word.role refl
  where
    by : (r : Role) → word.role ≡ r → (w : Word) × (word_with word.role word.nets basis ≡ w ∷ []) × (w.basis ≡ basis)
    by Input is = (record { role = Input; nets = word.nets; basis = basis }, ap (λ q. word_with q word.nets basis) is, refl)
    by State is = (record { role = Input; nets = word.nets; basis = basis }, ap (λ q. word_with q word.nets basis) is, refl)
    by Fed is = (record { role = Input; nets = word.nets; basis = basis }, ap (λ q. word_with q word.nets basis) is, refl)
    by Output is = absurd (other is)

module _ (words : List BoundWord) (bases : List Basis) (w : ℕ) (word : BoundWord) (basis : Basis) (got : slice_get words w ≡ Some word) (at : slice_get bases w ≡ Some basis) where
  -- an input, state or fed word is the next one
  pub at_input : word.role ≢ Output → (found : Word) → slice_get (words_from words bases w) 0 ≡ Some found → found.basis ≡ duals_of basis
  at_input other found is =
      let own = added word (duals_of basis) other in
      let shape : words_from words bases w ≡ own.0 ∷ words_from words bases (suc w) = step words bases w word basis got at ∙ ap (λ ws. ws ++ words_from words bases (suc w)) own.1 in
      let both : Some own.0 ≡ Some found = sym (ap (λ ws. slice_get ws 0) shape) ∙ is in
      let same : own.0 ≡ found = cc in
      ap (λ (x : Word). x.basis) (sym same) ∙ own.2

  -- and past it the number is less by one
  pub past_input : word.role ≢ Output → (left : ℕ) → 0 < left → slice_get (words_from words bases (w + 1)) (left - 1) ≡ slice_get (words_from words bases w) left
  past_input other left some =
      let own = added word (duals_of basis) other in
      let shape : words_from words bases w ≡ own.0 ∷ words_from words bases (suc w) = step words bases w word basis got at ∙ ap (λ ws. ws ++ words_from words bases (suc w)) own.1 in
      let up : w + 1 ≡ suc w = omega arith in
      let less : suc (left - 1) ≡ left = omega arith in
      ap (λ n. slice_get (words_from words bases n) (left - 1)) up
      ∙ (ap (λ n. slice_get (own.0 ∷ words_from words bases (suc w)) n) less ∙ sym (ap (λ ws. slice_get ws left) shape))

  -- past the output word nothing changes
  pub past_output : word.role ≡ Output → words_from words bases (w + 1) ≡ words_from words bases w
  past_output is =
      let up : w + 1 ≡ suc w = omega arith in
      ap (words_from words bases) up ∙ sym (step words bases w word basis got at ∙ ap (λ r. word_with r word.nets (duals_of basis) ++ words_from words bases (suc w)) is)

-- past all words there is none
pub past_all : (words : List BoundWord) (bases : List Basis) (w left : ℕ) (found : Word) → length words ≤ w → slice_get (words_from words bases w) left ≡ Some found → ⊥
past_all words bases w left found past is =
    let none : words_from words bases w ≡ [] = ap (λ us. words_of us (drop w (map duals_of bases))) (drop_of_length-le words past) in
    let bad : slice_get [] left ≡ Some found = sym (ap (λ ws. slice_get ws left) none) ∙ is in
    absurd (cc)
