-- Which bytes stand in texts of polynomials, names and numbers.
use Rattle.std.proofs.Common.{◌≡◌, inl, inr, sym, refl, subst, ℕ, ◌+◌, ◌<◌, ◌≤◌, ◌^◌, true, false, cond, ◌&&◌, not, List, [], ◌∷◌, ◌++◌, length, map, ◌==◌, arith, decimal, codes}
use Rattle.std.specs.List.{AllByRecursion}
use Rattle.std.specs.Fmt.{digits}
use Rattle.std.proofs.Math.Nat.{pow-le-pow_right}
use Rattle.lists.specs.laws.ListLaws.{all_append}
use Rattle.text_core.specs.Names.{IsName}
use Rattle.poly_mixed.specs.Labels.{Labelling, AreLabels, IsWord, bit_count, bit_text, rank_text}
use Rattle.poly_mixed.specs.Monomial.{Monomial}
use Rattle.poly_mixed.specs.Polynomial.{Terms, IsElement, IsTerm, IsReduced}
use Rattle.text_core.specs.Scan.{is_digit, is_hex_digit, is_name_byte}
use Rattle.poly_mixed.specs.Text.{joined, power_texts, powers_texts, variable_texts, is_none, factor_texts, term_text, text, HasNames}
use Rattle.text_core.specs.Numbers.{hex_text}
use Rattle.text_core.proofs.RunLemmas.{Passes}
use Rattle.text_core.proofs.ByteLemmas.{digit_is_name, hex_is_name, name_passes}
use Rattle.text_core.proofs.WrittenLemmas.{decimal_digits, hex_digits_64}
use Rattle.poly_mixed.proofs.SpelledLemmas.{rank_spelled}

module _ (P : ℕ → Type 0) (names : (b : ℕ) → is_name_byte b ≡ true → P b) where
  abbrev AreBytes : List ℕ → Type 0
  AreBytes xs = AllByRecursion P xs

  pub name_bytes_are : (xs : List ℕ) → Passes is_name_byte xs → AreBytes xs
  name_bytes_are [] pass = tt
  name_bytes_are (x ∷ xs) pass = (names x pass.0, name_bytes_are xs pass.1)

  pub name_is : (xs : List ℕ) → IsName xs → AreBytes xs
  name_is xs is = name_bytes_are xs (name_passes xs is.each)

  digits_are : (xs : List ℕ) → Passes is_digit xs → AreBytes xs
  digits_are [] pass = tt
  digits_are (x ∷ xs) pass = (names x (digit_is_name x pass.0), digits_are xs pass.1)

  pub decimal_is : (n : ℕ) → n < 2 ^ 64 → AreBytes (decimal n)
  decimal_is n low = digits_are (decimal n) (decimal_digits n low).pass

  hexes_are : (xs : List ℕ) → Passes is_hex_digit xs → AreBytes xs
  hexes_are [] pass = tt
  hexes_are (x ∷ xs) pass = (names x (hex_is_name x pass.0), hexes_are xs pass.1)

  hex_is : (n : ℕ) → n < 2 ^ 64 → AreBytes (hex_text n)
  hex_is n low = (names 48 refl, (names 120 refl, hexes_are (digits 16 false n) (hex_digits_64 n low).pass))

  module _ (space : P 32) (plus : P 43) (times : P 42) (power : P 94) where
    joined_are : (sep : List ℕ) (xs : List (List ℕ)) → AreBytes sep → AllByRecursion AreBytes xs → AreBytes (joined sep xs)
    joined_are sep [] s all = tt
    joined_are sep (x ∷ []) s all = all.0
    joined_are sep (x ∷ y ∷ xs) s all = all_append P (x ++ sep) (joined sep (y ∷ xs)) (all_append P x sep all.0 s) (joined_are sep (y ∷ xs) s all.1)

    power_are : (name : List ℕ) (e : ℕ) → AreBytes name → e < 2 ^ 64 → AllByRecursion AreBytes (power_texts name e)
    power_are name e is low =
        elim (e == 0) as (λ v. AllByRecursion AreBytes (cond v [] (cond (e == 1) (name ∷ []) ((name ++ codes "^" ++ decimal e) ∷ [])))) [
          | true ↦ tt
          | false ↦ elim (e == 1) as (λ v. AllByRecursion AreBytes (cond v (name ∷ []) ((name ++ codes "^" ++ decimal e) ∷ []))) [
            | true ↦ (is, tt)
            | false ↦ (all_append P (name ++ codes "^") (decimal e) (all_append P name (codes "^") is (power, tt)) (decimal_is e low), tt)
          ]
        ]

    powers_are : (ws : List (List ℕ × ℕ)) (es : List ℕ) → AllByRecursion IsWord ws → AllByRecursion (λ e. e < 2 ^ 64) es → AllByRecursion AreBytes (powers_texts ws es)
    powers_are [] es all low = tt
    powers_are (w ∷ ws) [] all low = tt
    powers_are (w ∷ ws) (e ∷ es) all low = all_append AreBytes (power_texts w.0 e) (powers_texts ws es) (power_are w.0 e (name_is w.0 all.0.0) low.0) (powers_are ws es all.1 low.1)

    module _ (l : Labelling) (are : AreLabels l) where
      -- how the ranks of a monomial are written
      AreRanks : List ℕ → Type 0
      AreRanks rs = AllByRecursion (λ r. AreBytes (rank_text l.words l.nets r)) rs

      ranks_are : (rs : List ℕ) → AreRanks rs → AllByRecursion AreBytes (map (rank_text l.words l.nets) rs)
      unfolding AreRanks
      ranks_are [] all = tt
      ranks_are (r ∷ rs) all = (all.0, ranks_are rs all.1)

      variables_are : (m : Monomial) → AllByRecursion (λ e. e < 2 ^ 64) m.exponents → AreRanks m.bits → AllByRecursion AreBytes (variable_texts l m)
      variables_are m low ranks = all_append AreBytes (powers_texts l.words m.exponents) (map (rank_text l.words l.nets) m.bits) (powers_are l.words m.exponents are.words low) (ranks_are m.bits ranks)

      factors_are : (c : ℕ) (vs : List (List ℕ)) → c < 2 ^ 64 → AllByRecursion AreBytes vs → AllByRecursion AreBytes (factor_texts c vs)
      factors_are c vs low all = elim ((c == 1) && not (is_none vs)) as (λ v. AllByRecursion AreBytes (cond v vs (hex_text c ∷ vs))) [ true ↦ all | false ↦ (hex_is c low, all) ]

      -- the exponents and the coefficient of a term are below 2^64, and its ranks are written so
      abbrev IsSpelt : Monomial × ℕ → Type 0
      IsSpelt t = (t.1 < 2 ^ 64) × AllByRecursion (λ e. e < 2 ^ 64) t.0.exponents × AreRanks t.0.bits

      term_are : (t : Monomial × ℕ) → IsSpelt t → AreBytes (term_text l t)
      term_are t is = joined_are (codes "*") (factor_texts t.1 (variable_texts l t.0)) (times, tt) (factors_are t.1 (variable_texts l t.0) is.0 (variables_are t.0 is.1 is.2))

      terms_are : (ts : Terms) → AllByRecursion IsSpelt ts → AllByRecursion AreBytes (map (term_text l) ts)
      terms_are [] all = tt
      terms_are (t ∷ ts) all = (term_are t all.0, terms_are ts all.1)

      spelt_text : (ts : Terms) → AllByRecursion IsSpelt ts → AreBytes (text l ts)
      spelt_text [] all = (names 48 refl, tt)
      spelt_text (t ∷ ts) all = joined_are (codes " + ") (map (term_text l) (t ∷ ts)) (space, (plus, (space, tt))) (terms_are (t ∷ ts) all)

      wide : (k : ℕ) → k ≤ 64 → (x : ℕ) → x < 2 ^ k → x < 2 ^ 64
      wide k small x low = let le : 2 ^ k ≤ 2 ^ 64 = pow-le-pow_right (omega arith) small in omega (arith, le, low)

      all_wide : (k : ℕ) → k ≤ 64 → (xs : List ℕ) → AllByRecursion (IsElement k) xs → AllByRecursion (λ e. e < 2 ^ 64) xs
      all_wide k small [] all = tt
      all_wide k small (x ∷ xs) all = (wide k small x all.0, all_wide k small xs all.1)

      spelt : (k : ℕ) → k ≤ 64 → (t : Monomial × ℕ) → IsTerm k t → AreRanks t.0.bits → IsSpelt t
      spelt k small t is ranks = (wide k small t.1 is.element, all_wide k small t.0.exponents is.monomial.exponents, ranks)

      no_ranks : (rs : List ℕ) → rs ≡ [] → AreRanks rs
      unfolding AreRanks
      no_ranks [] e = tt
      no_ranks (r ∷ rs) e = absurd (cc)

      in_words : (k : ℕ) → k ≤ 64 → (ts : Terms) → AllByRecursion (IsTerm k) ts → AllByRecursion (λ t. t.0.bits ≡ []) ts → AllByRecursion IsSpelt ts
      in_words k small [] all none = tt
      in_words k small (t ∷ ts) all none = (spelt k small t all.0 (no_ranks t.0.bits none.0), in_words k small ts all.1 none.1)

      -- the bytes of a polynomial in words alone
      pub words_text_is : (k : ℕ) → k ≤ 64 → (ts : Terms) → IsReduced k ts → AllByRecursion (λ t. t.0.bits ≡ []) ts → AreBytes (text l ts)
      words_text_is k small ts is none = spelt_text ts (in_words k small ts is.terms none)

      module _ (open_ : P 91) (close : P 93) (at : P 64) where
        bit_is : (name : List ℕ) (place : ℕ) → IsName name → place < 64 → AreBytes (bit_text name place)
        bit_is name place is low =
            all_append P (name ++ codes "[" ++ decimal place) (codes "]")
            (all_append P (name ++ codes "[") (decimal place) (all_append P name (codes "[") (name_is name is) (open_, tt)) (decimal_is place (omega (arith, low))))
            (close, tt)

        rank_is : (r : ℕ) → r < bit_count l.words + length l.nets → AreBytes (rank_text l.words l.nets r)
        rank_is r low =
            let Q : List ℕ → Type 0 = AreBytes in
            elim (rank_spelled l.words l.nets r are.words are.names are.numbers are.nets low) [
              | inl b ↦ subst Q (sym b.text) (bit_is b.name b.place b.is_name b.small)
              | inr n ↦ subst Q (sym n.text) (at, decimal_is n.number (let h = n.small in omega (arith, h)))
            ]

        all_ranks : (rs : List ℕ) → AllByRecursion (λ r. r < bit_count l.words + length l.nets) rs → AreRanks rs
        unfolding AreRanks
        all_ranks [] all = tt
        all_ranks (r ∷ rs) all = (rank_is r all.0, all_ranks rs all.1)

        in_ranks : (k : ℕ) → k ≤ 64 → (ts : Terms) → AllByRecursion (IsTerm k) ts → HasNames l ts → AllByRecursion IsSpelt ts
        in_ranks k small [] all named = tt
        in_ranks k small (t ∷ ts) all named = (spelt k small t all.0 (all_ranks t.0.bits named.0), in_ranks k small ts all.1 named.1)

        -- the bytes of a polynomial
        pub text_is : (k : ℕ) → k ≤ 64 → (ts : Terms) → IsReduced k ts → HasNames l ts → AreBytes (text l ts)
        text_is k small ts is named = spelt_text ts (in_ranks k small ts is.terms named)
