-- Bytes spell one token at most, and one token stands in front of a text at most.
use Rattle.std.proofs.Common.{◌≡◌, ◌≢◌, ◌∙◌, ap, sym, refl, subst, inl, inr, ◌⊎◌, ℕ, ◌<◌, ◌≤◌, cond, List, [], ◌∷◌, length, take, drop, nat_lt, ◌==◌, arith}
use Rattle.std.proofs.lemmas.Bool.{cases_order, ne_eqb, lt-ltb, le-ltb}
use Rattle.std.proofs.lemmas.Bool.Decides.{nat_tests}
use Rattle.text_core.specs.Names.{IsName}
use Rattle.text_core.specs.Numbers.{value_of, digit_value, IsDigit}
use Rattle.spec_text.specs.Token.{Token, name, hex, decimal, equals, plus, times, power, IsSpelling, IsFront}

-- what the first two bytes say of a token
second : List ℕ → ℕ
second [] = 5
second (c ∷ cs) = cond (c == 120) 7 5

kind_at : List ℕ → ℕ
unfolding second
kind_at [] = 0
kind_at (b ∷ bs) = cond (b == 61) 1 (cond (b == 43) 2 (cond (b == 42) 3 (cond (b == 94) 4 (cond (nat_lt b 58) (second bs) 6))))

abbrev kind_of : Token → ℕ
kind_of (name n) = 6
kind_of (hex n) = 7
kind_of (decimal n) = 5
kind_of equals = 1
kind_of plus = 2
kind_of times = 3
kind_of power = 4

letter_kind : (b s : ℕ) → ((65 ≤ b) × (b ≤ 90)) ⊎ ((97 ≤ b) × (b ≤ 122)) → ◌≡◌ {A = ℕ} (cond (b == 61) 1 (cond (b == 43) 2 (cond (b == 42) 3 (cond (b == 94) 4 (cond (nat_lt b 58) s 6))))) 6
letter_kind b s is =
    let high : 65 ≤ b = elim is [ inl i ↦ i.0 | inr i ↦ omega (arith, i.0) ] in
    let other : b ≢ 94 = λ e. elim is [ inl i ↦ omega (arith, i.1, e) | inr i ↦ omega (arith, i.0, e) ] in
    (λ i. cond (ne_eqb b 61 (λ e. omega (arith, high, e)) i) 1 (cond (b == 43) 2 (cond (b == 42) 3 (cond (b == 94) 4 (cond (nat_lt b 58) s 6)))))
    ∙ (λ i. cond (ne_eqb b 43 (λ e. omega (arith, high, e)) i) 2 (cond (b == 42) 3 (cond (b == 94) 4 (cond (nat_lt b 58) s 6))))
    ∙ (λ i. cond (ne_eqb b 42 (λ e. omega (arith, high, e)) i) 3 (cond (b == 94) 4 (cond (nat_lt b 58) s 6)))
    ∙ (λ i. cond (ne_eqb b 94 other i) 4 (cond (nat_lt b 58) s 6))
    ∙ (λ i. cond (le-ltb b 58 (omega (arith, high)) i) s 6)

digit_kind : (b s : ℕ) → 48 ≤ b → b ≤ 57 → ◌≡◌ {A = ℕ} (cond (b == 61) 1 (cond (b == 43) 2 (cond (b == 42) 3 (cond (b == 94) 4 (cond (nat_lt b 58) s 6))))) s
digit_kind b s low high =
    (λ i. cond (ne_eqb b 61 (λ e. omega (arith, high, e)) i) 1 (cond (b == 43) 2 (cond (b == 42) 3 (cond (b == 94) 4 (cond (nat_lt b 58) s 6)))))
    ∙ (λ i. cond (ne_eqb b 43 (λ e. omega (arith, low, e)) i) 2 (cond (b == 42) 3 (cond (b == 94) 4 (cond (nat_lt b 58) s 6))))
    ∙ (λ i. cond (ne_eqb b 42 (λ e. omega (arith, low, e)) i) 3 (cond (b == 94) 4 (cond (nat_lt b 58) s 6)))
    ∙ (λ i. cond (ne_eqb b 94 (λ e. omega (arith, high, e)) i) 4 (cond (nat_lt b 58) s 6))
    ∙ (λ i. cond (lt-ltb b 58 (omega (arith, high)) i) s 6)

-- a decimal digit
pub decimal_digit : (b : ℕ) → IsDigit 10 b → (48 ≤ b) × (b ≤ 57)
decimal_digit b (inl range, low) = range
decimal_digit b (inr (inl range), low) = absurd (upper (digit_value b) (value_upper b range.0 range.1) low)
  where
    value_upper : (b : ℕ) → 65 ≤ b → b ≤ 70 → 10 ≤ digit_value b
    value_upper b p q = grind (arith, nat_tests)

    upper : (v : ℕ) → 10 ≤ v → v < 10 → ⊥
    upper v p q = omega (arith, p, q)
decimal_digit b (inr (inr range), low) = absurd (upper (digit_value b) (value_lower b range.0 range.1) low)
  where
    value_lower : (b : ℕ) → 97 ≤ b → b ≤ 102 → 10 ≤ digit_value b
    value_lower b p q = grind (arith, nat_tests)

    upper : (v : ℕ) → 10 ≤ v → v < 10 → ⊥
    upper v p q = omega (arith, p, q)

kind_is : (bs : List ℕ) (t : Token) → IsSpelling bs t → kind_at bs ≡ kind_of t
unfolding kind_at second
kind_is [] (name n) is = absurd (omega (arith, is.1.some, ap length is.0))
kind_is (b ∷ bs) (name n) is =
    let P : List ℕ → Type 0 = IsName in
    letter_kind b (second bs) (subst P (sym is.0) is.1).letter
kind_is bs (hex n) is = ap kind_at is.1
kind_is [] (decimal n) is = absurd (omega (arith, is.0.0))
kind_is (b ∷ []) (decimal n) is = let d = decimal_digit b (is.0.1 0 (omega arith)) in digit_kind b 5 d.0 d.1
kind_is (b ∷ c ∷ cs) (decimal n) is =
    let d = decimal_digit b (is.0.1 0 (omega arith)) in
    let e = decimal_digit c (is.0.1 1 (omega arith)) in
    digit_kind b (cond (c == 120) 7 5) d.0 d.1 ∙ (λ i. cond (ne_eqb c 120 (λ q. omega (arith, e.1, q)) i) 7 5)
kind_is bs equals is = ap kind_at is
kind_is bs plus is = ap kind_at is
kind_is bs times is = ap kind_at is
kind_is bs power is = ap kind_at is

-- the token of a kind
token_of : ℕ → List ℕ → Token
token_of k bs = cond (k == 1) equals (cond (k == 2) plus (cond (k == 3) times (cond (k == 4) power (cond (k == 5) (decimal (value_of 10 bs)) (cond (k == 6) (name bs) (hex (value_of 16 (drop 2 bs))))))))

token_is : (bs : List ℕ) (t : Token) → IsSpelling bs t → token_of (kind_of t) bs ≡ t
unfolding token_of
token_is bs (name n) is = ap name is.0
token_is bs (hex n) is = ap (λ cs. hex (value_of 16 (drop 2 cs))) is.1 ∙ ap hex (sym is.3)
token_is bs (decimal n) is = ap decimal (sym is.1)
token_is bs equals is = refl
token_is bs plus is = refl
token_is bs times is = refl
token_is bs power is = refl

pub one_spelling : (bs : List ℕ) (t u : Token) → IsSpelling bs t → IsSpelling bs u → t ≡ u
one_spelling bs t u p q = sym (token_is bs t p) ∙ ap (λ k. token_of k bs) (sym (kind_is bs t p) ∙ kind_is bs u q) ∙ token_is bs u q

pub one_front : (bs : List ℕ) (t u : Token) (m n : ℕ) → IsFront bs t m → IsFront bs u n → (m ≡ n) × (t ≡ u)
one_front bs t u m n p q =
    elim (cases_order m n) [
      | inl e ↦ (let P : ℕ → Type 0 = λ i. IsSpelling (take i bs) t in (e, one_spelling (take n bs) t u (subst P e p.spelling) q.spelling))
      | inr which ↦ elim which [
        | inl low ↦ absurd (p.longest n u low q.within q.spelling)
        | inr high ↦ absurd (q.longest m t high p.within p.spelling)
      ]
    ]
