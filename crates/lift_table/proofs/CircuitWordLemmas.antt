-- The words of a circuit out of those of its binding.
use Rattle.std.proofs.Common.{◌≡◌, ◌∙◌, ap, sym, subst, inl, inr, ◌⊎◌, ℕ, suc, ◌+◌, List, [], ◌∷◌, ◌++◌, drop, Some, arith}
use Rattle.std.specs.Prelude.{slice_get}
use Rattle.std.proofs.lemmas.List.{append_assoc}
use Rattle.circuit_model.proofs.SharedLemmas.{from_word, appended_over}
use Rattle.net_words.specs.declared.bound.BoundWord.{BoundWord}
use Rattle.net_words.specs.declared.word.Role.{Role}
use Rattle.net_words.specs.declared.word.Role.TheVariants.{Input, State, Fed}
use Rattle.gf_basis.specs.BasisParts.{IsBasisOver}
use Rattle.circuit_model.specs.Flat.{AreOver}
use Rattle.circuit_model.specs.Word.{Word}
use Rattle.circuit_model.specs.declared.circuit_word.CircuitWord.{CircuitWord}
use Rattle.circuit_model.specs.OfBinding.{word_with, words_of}

pub one_word : (words : List BoundWord) (bases : List (List ℕ)) (w : ℕ) (word : BoundWord) (basis : List ℕ) (before after : List Word) → slice_get words w ≡ Some word → slice_get bases w ≡ Some basis
    → after ≡ before ++ word_with word.role word.nets basis → before ++ words_of (drop w words) (drop w bases) ≡ words_of words bases → after ++ words_of (drop (w + 1) words) (drop (w + 1) bases) ≡ words_of words bases
one_word words bases w word basis before after got at new so_far =
    let up : w + 1 ≡ suc w = omega arith in
    let rest = words_of (drop (suc w) words) (drop (suc w) bases) in
    ap (λ n. after ++ words_of (drop n words) (drop n bases)) up
    ∙ (ap (λ (ws : List Word). ws ++ rest) new
    ∙ (append_assoc before (word_with word.role word.nets basis) rest
    ∙ (ap (λ (ws : List Word). before ++ ws) (sym (from_word words bases w word basis got at)) ∙ so_far)))

-- the word that is added
pub added_word : (r : Role) (word : BoundWord) (nets basis : List ℕ) → (r ≡ Input) ⊎ (r ≡ State) ⊎ (r ≡ Fed) → r ≡ word.role → nets ≡ word.nets
    → ◌≡◌ {A = List Word} (record { role = Input; nets = nets; basis = basis } ∷ []) (word_with word.role word.nets basis)
added_word r word nets basis is same are =
    let here : ◌≡◌ {A = List Word} (record { role = Input; nets = nets; basis = basis } ∷ []) (word_with r nets basis) = elim is [
      | inl e ↦ sym (ap (λ q. word_with q nets basis) e)
      | inr other ↦ elim other [ inl e ↦ sym (ap (λ q. word_with q nets basis) e) | inr e ↦ sym (ap (λ q. word_with q nets basis) e) ]
    ] in
    here ∙ (λ i. word_with (same i) (are i) basis)

-- one word more over the field
pub pushed_over : (k : ℕ) (mul : ℕ → ℕ → ℕ) (before after : List CircuitWord) (word : CircuitWord) → after ≡ before ++ word ∷ [] → AreOver k mul before → IsBasisOver k mul word.basis → AreOver k mul after
pushed_over k mul before after word is over here =
    let P : List CircuitWord → Type 0 = AreOver k mul in
    subst P (sym is) (appended_over k mul word here before over)
