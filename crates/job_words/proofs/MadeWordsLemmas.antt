-- The words of commands that make netlists, read off a list of words.
use Rattle.std.proofs.Common.{ap, sym, subst, ℕ, ◌≤◌, List, ◌∷◌, codes}
use Rattle.text_core.specs.Numbers.{IsHex}
use Rattle.job_words.proofs.SpelledLemmas.{first_word, rest_of}
use Rattle.job_words.proofs.ValueLemmas.{value_fits}
use Rattle.job_words.specs.Command.{IsNamed}
use Rattle.job_words.specs.MadeWords.{AreTrialWords, IsTrialNumber, IsValueOf}
use Rattle.job_words.specs.Operands.{Word}
use Rattle.job_words.specs.Options.{IsTermsOption}

-- a word whose number is not found is no value
pub no_value : (word : Word) → ((n : ℕ) → IsHex word n → n ≤ 340282366920938463463374607431768211455 → ⊥) → (v : ℕ) → IsValueOf word v → ⊥
no_value word none v is = none v is.hex (value_fits word (record { number = v; hex = is.hex; short = is.short }))

-- ---- the words of a trial

module _ (first second : Word) (options : List Word) (n m t : ℕ) (is : AreTrialWords (first ∷ second ∷ options) n m t) where
  pub first_number : IsTrialNumber first n
  first_number = let P : Word → Type 0 = λ w. IsTrialNumber w n in subst P (sym (ap first_word is.words_are)) is.number_is

  pub second_modulus : IsValueOf second m
  second_modulus = let P : Word → Type 0 = λ w. IsValueOf w m in subst P (sym (ap (λ (ws : List Word). first_word (rest_of ws)) is.words_are)) is.modulus_is

  pub trial_options : IsTermsOption 262144 65536 options t
  trial_options = let P : List Word → Type 0 = λ ws. IsTermsOption 262144 65536 ws t in subst P (sym (ap (λ (ws : List Word). rest_of (rest_of ws)) is.words_are)) is.set

-- behind the name of the command stand the words of a trial
pub trial_behind : (name : Word) (rest : List Word) (n m t : ℕ) → IsNamed (codes "trial") (λ words. AreTrialWords words n m t) (name ∷ rest) → AreTrialWords rest n m t
trial_behind name rest n m t is = let P : List Word → Type 0 = λ words. AreTrialWords words n m t in subst P (sym (ap rest_of is.words_are)) is.follow
