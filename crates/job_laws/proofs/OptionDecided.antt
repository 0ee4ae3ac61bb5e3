-- Whether words set options: each option alone, and two or three of them in any order.
use Rattle.std.proofs.Common.{◌≡◌, ◌≢◌, ◌⊎◌, refl, subst, inl, inr, ℕ, ◌<◌, ◌≤◌, ◌^◌, Bool, true, false, List, [], ◌∷◌, codes, length}
use Rattle.std.specs.Prelude.{slice_index}
use Rattle.text_core.specs.Numbers.{IsDecimal, value_of}
use Rattle.job_words.specs.MadeWords.{IsTrialNumber}
use Rattle.job_words.specs.Operands.{Word}
use Rattle.job_words.specs.Options.{AreOptions, IsCycleCount, IsCyclesOption, IsOption, IsSimplifyOption, IsTermCount, IsTermsOption}
use Rattle.reader_laws.proofs.DecidedLemmas.{IsDecided, both_decided, bytes_decided, digits_decided, even_decided, less_decided, most_decided, moved_decided, one_decided, tokens_decided}
use Rattle.job_laws.proofs.Searches.{AreAppended, appended_decided, implies_decided, not_decided}

-- ---- numbers

-- a decimal number of this property
module _ (word : Word) (P : ℕ → Type 0) (each : (n : ℕ) → IsDecided (P n)) where
  counted : IsDecided ((n : ℕ) × (IsDecimal word n × P n))
  counted =
      moved_decided (λ is. (value_of 10 word, ((is.0, refl), is.1))) (λ found. (found.1.0.0, subst P found.1.0.1 found.1.1)) (both_decided (digits_decided 10 word) (each (value_of 10 word)))

terms_counted : (limit : ℕ) (word : Word) → IsDecided ((n : ℕ) × IsTermCount limit word n)
terms_counted limit word =
    moved_decided (λ is. (is.0, record { decimal = is.1.0; no_zero = is.1.1.0; some = is.1.1.1.0; most = is.1.1.1.1 })) (λ is. (is.0, (is.1.decimal, (is.1.no_zero, (is.1.some, is.1.most)))))
    (counted word (λ n. (slice_index word 0 ≢ 48) × ((1 ≤ n) × (n ≤ limit))) (λ n. both_decided (not_decided (even_decided (slice_index word 0) 48)) (both_decided (most_decided 1 n) (most_decided n limit))))

-- no zeros stand before the last digit
abbrev HasNoZeros : Word → Type 0
HasNoZeros word = slice_index word 0 ≡ 48 → length word ≡ 1

no_zeros_decided : (word : Word) → IsDecided (HasNoZeros word)
no_zeros_decided word = implies_decided (even_decided (slice_index word 0) 48) (even_decided (length word) 1)

cycles_counted : (word : Word) → IsDecided ((n : ℕ) × IsCycleCount word n)
cycles_counted word =
    moved_decided (λ is. (is.0, record { decimal = is.1.0; no_zeros = is.1.1.0; most = is.1.1.1 })) (λ is. (is.0, (is.1.decimal, (is.1.no_zeros, is.1.most))))
    (counted word (λ n. HasNoZeros word × (n ≤ 4096)) (λ n. both_decided (no_zeros_decided word) (most_decided n 4096)))

pub trial_number_decided : (word : Word) → IsDecided ((n : ℕ) × IsTrialNumber word n)
trial_number_decided word =
    moved_decided (λ is. (is.0, record { decimal = is.1.0; no_zeros = is.1.1.0; small = is.1.1.1 })) (λ is. (is.0, (is.1.decimal, (is.1.no_zeros, is.1.small))))
    (counted word (λ n. HasNoZeros word × (n < 2 ^ 64)) (λ n. both_decided (no_zeros_decided word) (less_decided n (2 ^ 64))))

-- ---- one option

module _ (name : Word) (IsNumber : Word → ℕ → Type 0) (each : (word : Word) → IsDecided ((n : ℕ) × IsNumber word n)) (default : ℕ) where
  abbrev IsSet : List Word → Type 0
  IsSet words = (n : ℕ) × IsOption name IsNumber default words n

  -- an option has two words
  not_long : (words : List Word) → (words ≡ [] → ⊥) → ((number : Word) → words ≡ name ∷ number ∷ [] → ⊥) → IsSet words → ⊥
  not_long words some other is = elim (is.1) [ inl set ↦ some set.0 | inr set ↦ other set.0 set.1 ]

  behind_name : (a b : Word) → a ≡ name → IsDecided ((n : ℕ) × IsNumber b n) → IsDecided (IsSet (a ∷ b ∷ []))
  behind_name a b named (inl found) = inl (found.0, inr (b, (λ i. named i ∷ b ∷ []), found.1))
  behind_name a b named (inr none) = inr (λ is. elim (is.1) [
    | inl set ↦ let empty = set.0 in absurd (cc)
    | inr set ↦ let same : set.0 ≡ b = (let whole = set.1 in cc) in let P : Word → Type 0 = λ word. IsNumber word is.0 in none (is.0, subst P same set.2)
  ])

  pub option_decided : (words : List Word) → IsDecided (IsSet words)
  option_decided [] = inl (default, inl (refl, refl))
  option_decided (a ∷ []) = inr (not_long (a ∷ []) (λ none. absurd (cc)) (λ number whole. absurd (cc)))
  option_decided (a ∷ b ∷ []) =
      elim (bytes_decided a name) [
        | inl named ↦ behind_name a b named (each b)
        | inr other ↦ inr (not_long (a ∷ b ∷ []) (λ none. absurd (cc)) (λ number whole. let same : a ≡ name = cc in other same))
      ]
  option_decided (a ∷ b ∷ c ∷ rest) = inr (not_long (a ∷ b ∷ c ∷ rest) (λ none. absurd (cc)) (λ number whole. absurd (cc)))

pub terms_option_decided : (limit default : ℕ) (words : List Word) → IsDecided ((n : ℕ) × IsTermsOption limit default words n)
terms_option_decided limit default = option_decided (codes "--terms") (IsTermCount limit) (terms_counted limit) default

pub cycles_option_decided : (words : List Word) → IsDecided ((n : ℕ) × IsCyclesOption words n)
cycles_option_decided = option_decided (codes "--cycles") IsCycleCount cycles_counted 0

pub simplify_decided : (words : List Word) → IsDecided ((simple : Bool) × IsSimplifyOption words simple)
simplify_decided words =
    moved_decided (λ is. elim is [ inl none ↦ (false, inl (none, refl)) | inr asked ↦ (true, inr (asked, refl)) ]) (λ is. elim (is.1) [ inl none ↦ inl none.0 | inr asked ↦ inr asked.0 ])
    (one_decided (tokens_decided words []) (tokens_decided words (codes "--simplify" ∷ [])))

-- ---- options in any order

-- the words of both, in either order
abbrev pub AreBoth : (X Y : List Word → Type 0) → List Word → Type 0
AreBoth X Y words = AreAppended X Y words ⊎ AreAppended Y X words

module _ (X Y : List Word → Type 0) (x_decided : (words : List Word) → IsDecided (X words)) (y_decided : (words : List Word) → IsDecided (Y words)) where
  pub both_orders : (words : List Word) → IsDecided (AreBoth X Y words)
  both_orders words = one_decided (appended_decided Y y_decided X x_decided words) (appended_decided X x_decided Y y_decided words)

module _ (limit default : ℕ) where
  abbrev pub IsTerms : List Word → Type 0
  IsTerms words = (n : ℕ) × IsTermsOption limit default words n

  abbrev pub IsCycles : List Word → Type 0
  IsCycles words = (n : ℕ) × IsCyclesOption words n

  of_both : (words : List Word) → AreBoth IsTerms IsCycles words → (r : ℕ × ℕ) × AreOptions limit default words r.0 r.1
  of_both words (inl (first, second, e, t, c)) = ((t.0, c.0), record { of_terms = first; of_cycles = second; words_are = inl e; terms_set = t.1; cycles_set = c.1 })
  of_both words (inr (second, first, e, c, t)) = ((t.0, c.0), record { of_terms = first; of_cycles = second; words_are = inr e; terms_set = t.1; cycles_set = c.1 })

  to_both : (words : List Word) (r : ℕ × ℕ) → AreOptions limit default words r.0 r.1 → AreBoth IsTerms IsCycles words
  to_both words r is = elim (is.words_are) [
    | inl e ↦ inl (is.of_terms, is.of_cycles, e, (r.0, is.terms_set), (r.1, is.cycles_set))
    | inr e ↦ inr (is.of_cycles, is.of_terms, e, (r.1, is.cycles_set), (r.0, is.terms_set))
  ]

  pub options_decided : (words : List Word) → IsDecided ((r : ℕ × ℕ) × AreOptions limit default words r.0 r.1)
  options_decided words = moved_decided (of_both words) (λ is. to_both words is.0 is.1) (both_orders IsTerms IsCycles (terms_option_decided limit default) cycles_option_decided words)
