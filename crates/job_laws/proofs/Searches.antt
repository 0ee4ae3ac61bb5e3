-- What is decided by a search: all numbers below a bound, or some number below it; and a list as two lists one after another.
use Rattle.std.proofs.Common.{◌≡◌, ◌⊎◌, sym, refl, subst, inl, inr, ℕ, zero, suc, ◌<◌, Bool, true, false, List, [], ◌∷◌, ◌++◌, arith}
use Rattle.lists.specs.laws.NumberLaws.{nat_eq_or}
use Rattle.reader_laws.proofs.DecidedLemmas.{IsDecided, both_decided, moved_decided, one_decided}

-- ---- parts

module _ {P Q : Type 0} where
  pub implies_decided : IsDecided P → IsDecided Q → IsDecided (P → Q)
  implies_decided (inr other) q = inl (λ p. absurd (other p))
  implies_decided (inl p) (inl q) = inl (λ is. q)
  implies_decided (inl p) (inr other) = inr (λ all. other (all p))

pub not_decided : {P : Type 0} → IsDecided P → IsDecided (P → ⊥)
not_decided (inl p) = inr (λ none. none p)
not_decided (inr other) = inl other

pub truth_decided : (b c : Bool) → IsDecided (b ≡ c)
truth_decided true true = inl refl
truth_decided true false = inr (λ same. absurd (cc))
truth_decided false true = inr (λ same. absurd (cc))
truth_decided false false = inl refl

-- ---- numbers below a bound

module _ (P : ℕ → Type 0) (each : (n : ℕ) → IsDecided (P n)) where
  one_more : (bound : ℕ) → ((n : ℕ) → n < bound → P n) → P bound → (n : ℕ) → n < suc bound → P n
  one_more bound all here n less = elim (nat_eq_or n bound) [ inl same ↦ subst P (sym same) here | inr other ↦ all n (omega (arith, less, other)) ]

  pub below_decided : (bound : ℕ) → IsDecided ((n : ℕ) → n < bound → P n)
  below_decided zero = inl (λ n less. absurd (omega (arith, less)))
  below_decided (suc bound) =
      elim (below_decided bound) [
        | inl all ↦ elim (each bound) [ inl here ↦ inl (one_more bound all here) | inr other ↦ inr (λ more. other (more bound (omega arith))) ]
        | inr some ↦ inr (λ more. some (λ n less. more n (omega (arith, less))))
      ]

  none_more : (bound : ℕ) → ((n : ℕ) × (n < bound) × P n → ⊥) → (P bound → ⊥) → (n : ℕ) × (n < suc bound) × P n → ⊥
  none_more bound none other is = elim (nat_eq_or is.0 bound) [ inl same ↦ other (subst P same is.2) | inr apart ↦ none (is.0, (let less = is.1 in omega (arith, less, apart)), is.2) ]

  pub found_decided : (bound : ℕ) → IsDecided ((n : ℕ) × (n < bound) × P n)
  found_decided zero = inr (λ is. let less = is.1 in omega (arith, less))
  found_decided (suc bound) =
      elim (each bound) [
        | inl here ↦ inl (bound, omega arith, here)
        | inr other ↦ elim (found_decided bound) [ inl found ↦ inl (found.0, (let less = found.1 in omega (arith, less)), found.2) | inr none ↦ inr (none_more bound none other) ]
      ]

-- ---- a list as two, one after another

module _ {A : Type 0} where
  -- the list is one with the first property, and then one with the second
  abbrev pub AreAppended : (List A → Type 0) → (List A → Type 0) → List A → Type 0
  AreAppended X Y list = (first : List A) × (second : List A) × (list ≡ first ++ second) × X first × Y second

  module _ (Y : List A → Type 0) (y_decided : (list : List A) → IsDecided (Y list)) where
    -- nothing first
    at_front : (X : List A → Type 0) (list : List A) → X [] × Y list → AreAppended X Y list
    at_front X list is = ([], list, refl, is.0, is.1)

    here_or_behind : (X : List A → Type 0) (a : A) (list : List A) → (X [] × Y (a ∷ list)) ⊎ AreAppended (λ xs. X (a ∷ xs)) Y list → AreAppended X Y (a ∷ list)
    here_or_behind X a list (inl is) = at_front X (a ∷ list) is
    here_or_behind X a list (inr is) = (a ∷ is.0, is.1, (λ i. a ∷ is.2 i), is.3, is.4)

    back : (X : List A → Type 0) (a : A) (list first second : List A) → a ∷ list ≡ first ++ second → X first → Y second → (X [] × Y (a ∷ list)) ⊎ AreAppended (λ xs. X (a ∷ xs)) Y list
    back X a list [] second same x y = inl (x, subst Y (sym same) y)
    back X a list (b ∷ first) second same x y =
        let head : b ≡ a = cc in
        let tail : list ≡ first ++ second = cc in
        let P : A → Type 0 = λ c. X (c ∷ first) in
        inr (first, second, tail, subst P head x, y)

    none_at_all : (X : List A → Type 0) (first second : List A) → [] ≡ first ++ second → X first → Y second → X [] × Y []
    none_at_all X [] second same x y = (x, subst Y (sym same) y)
    none_at_all X (b ∷ first) second same x y = absurd (cc)

    pub appended_decided : (X : List A → Type 0) → ((list : List A) → IsDecided (X list)) → (list : List A) → IsDecided (AreAppended X Y list)
    appended_decided X x_decided [] = moved_decided (at_front X []) (λ is. none_at_all X is.0 is.1 is.2 is.3 is.4) (both_decided (x_decided []) (y_decided []))
    appended_decided X x_decided (a ∷ list) =
        moved_decided (here_or_behind X a list) (λ is. back X a list is.0 is.1 is.2 is.3 is.4)
        (one_decided (both_decided (x_decided []) (y_decided (a ∷ list))) (appended_decided (λ xs. X (a ∷ xs)) (λ xs. x_decided (a ∷ xs)) list))
