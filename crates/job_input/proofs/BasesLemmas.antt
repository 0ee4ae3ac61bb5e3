-- The bases of words, one after another.
use Rattle.std.proofs.Common.{◌≡◌, ◌∙◌, ap, sym, refl, subst, inl, inr, ℕ, zero, suc, ◌+◌, ◌<◌, ◌≤◌, List, [], ◌∷◌, ◌++◌, length, drop, get_or, Result, Ok, Err}
use Rattle.std.proofs.Math.ListN.{drop_of_length-le}
use Rattle.std.proofs.lemmas.List.{append_assoc, append-nil, drop_more, map-append}
use Rattle.lists.specs.Lists.{Has}
use Rattle.lists.specs.laws.HasLaws.{Has_cases}
use Rattle.outcome.specs.Outcome.{Outcome, ◌>>=◌, Exactly}
use Rattle.net_words.specs.declared.word.WordText.{WordText}
use Rattle.net_signature.specs.Body.{BlockValue}
use Rattle.gf_basis.specs.BasisParts.{elements_of, IsBasisOver}
use Rattle.gf_basis.specs.declared.bases.Basis.{Basis}
use Rattle.job_words.specs.declared.signature_fault.SignatureFault.{SignatureFault}
use Rattle.job_input.specs.SettingOf.{WordBasis, BasesOf, BlocksHaveBases}
use Rattle.job_input.specs.Setting.{elements_of_each, AreBasesOver}

module _ (k : ℕ) (product : ℕ → ℕ → ℕ) where
  -- the bases so far, and behind them those of the words that are left
  abbrev pub Rest : List (List ℕ) → List WordText → Outcome SignatureFault (List (List ℕ))
  Rest so_far words = BasesOf k product words >>= (λ more. Exactly (so_far ++ more))

  rest_ok : (so_far : List (List ℕ)) (word : WordText) (words : List WordText) (basis : List ℕ) → WordBasis k product word (Ok basis) → (outcome : Result (List (List ℕ)) SignatureFault) → Rest (so_far ++ basis ∷ []) words outcome → Rest so_far (word ∷ words) outcome
  rest_ok so_far word words basis one (Ok all) rest = (basis ∷ rest.0, (basis, one, (rest.0, rest.1, refl)), rest.2 ∙ append_assoc so_far (basis ∷ []) rest.0)
  rest_ok so_far word words basis one (Err fault) rest = elim rest [ inl fails ↦ inl (inr (basis, one, inl fails)) | inr never ↦ absurd never.2 ]

  -- the bases with that of the next word
  pub rest_step : (old new : List Basis) (basis : Basis) (words : List WordText) (i : ℕ) (d word : WordText) → i < length words → word ≡ get_or words i d → new ≡ old ++ basis ∷ [] → WordBasis k product word (Ok (elements_of basis)) → (outcome : Result (List (List ℕ)) SignatureFault) → Rest (elements_of_each new) (drop (i + 1) words) outcome → Rest (elements_of_each old) (drop i words) outcome
  rest_step old new basis words i d word less is new_is one outcome rest =
      let more : List WordText = drop (i + 1) words in
      let P : List WordText → Type 0 = λ xs. Rest (elements_of_each old) xs outcome in
      let Q : WordText → Type 0 = λ w. WordBasis k product w (Ok (elements_of basis)) in
      let R : List (List ℕ) → Type 0 = λ xs. Rest xs more outcome in
      subst P (sym (drop_more words i d less)) (rest_ok (elements_of_each old) (get_or words i d) more (elements_of basis) (subst Q is one) outcome (subst R (ap elements_of_each new_is ∙ map-append elements_of old (basis ∷ [])) rest))

  -- a fault of the next word
  pub rest_fails : (so_far : List (List ℕ)) (words : List WordText) (i : ℕ) (d word : WordText) → i < length words → word ≡ get_or words i d → (fault : SignatureFault) → WordBasis k product word (Err fault) → Rest so_far (drop i words) (Err fault)
  rest_fails so_far words i d word less is fault fails =
      let P : List WordText → Type 0 = λ xs. Rest so_far xs (Err fault) in
      let Q : WordText → Type 0 = λ w. WordBasis k product w (Err fault) in
      subst P (sym (drop_more words i d less)) (inl (inl (subst Q is fails)))

  -- no word is left
  pub rest_end : (so_far : List (List ℕ)) (words : List WordText) (i : ℕ) → length words ≤ i → Rest so_far (drop i words) (Ok so_far)
  rest_end so_far words i past =
      let P : List WordText → Type 0 = λ xs. Rest so_far xs (Ok so_far) in
      subst P (sym (drop_of_length-le words past)) ([], refl, sym (append-nil so_far))

  -- one basis more
  pub over_push : (old new : List Basis) (basis : Basis) → new ≡ old ++ basis ∷ [] → AreBasesOver k product old → IsBasisOver k product basis → AreBasesOver k product new
  over_push old new basis new_is all one =
      let P : List Basis → Type 0 = λ xs. AreBasesOver k product xs in
      subst P (sym new_is) (λ x has. elim (Has_cases old (basis ∷ []) x has) [ inl before ↦ all x before | inr last ↦ only x last ])
    where
      only : (x : Basis) → Has (basis ∷ []) x → IsBasisOver k product x
      only x (zero, got) = let same : basis ≡ x = cc in subst (IsBasisOver k product) same one
      only x (suc i, got) = absurd (cc)

  blocks_ok : (block : BlockValue) (blocks : List BlockValue) (bases : List (List ℕ)) → BasesOf k product block.words (Ok bases) → (outcome : Result (Unit {0}) SignatureFault) → BlocksHaveBases k product blocks outcome → BlocksHaveBases k product (block ∷ blocks) outcome
  blocks_ok block blocks bases one (Ok u) rest = (bases, one, rest)
  blocks_ok block blocks bases one (Err fault) rest = inr (bases, one, rest)

  -- the words of the next block have bases
  pub blocks_step : (blocks : List BlockValue) (i : ℕ) (d block : BlockValue) (bases : List (List ℕ)) → i < length blocks → block ≡ get_or blocks i d → BasesOf k product block.words (Ok bases) → (outcome : Result (Unit {0}) SignatureFault) → BlocksHaveBases k product (drop (i + 1) blocks) outcome → BlocksHaveBases k product (drop i blocks) outcome
  blocks_step blocks i d block bases less is one outcome rest =
      let P : List BlockValue → Type 0 = λ xs. BlocksHaveBases k product xs outcome in
      let Q : BlockValue → Type 0 = λ b. BasesOf k product b.words (Ok bases) in
      subst P (sym (drop_more blocks i d less)) (blocks_ok (get_or blocks i d) (drop (i + 1) blocks) bases (subst Q is one) outcome rest)
