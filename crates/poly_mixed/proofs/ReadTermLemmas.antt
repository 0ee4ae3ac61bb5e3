-- A term and what comes after it, read byte by byte, told by tokens.
use Rattle.std.proofs.Common.{◌≡◌, ◌≢◌, ℕ, suc, ◌≤◌, ◌^◌, Bool, true, false, cond, ◌&&◌, List, [], ◌∷◌, length, drop, nat_lt, ◌==◌, Some, None, Result, Ok, Err, inl, inr, refl, sym, ◌∙◌, ap, subst, arith}
use Rattle.std.specs.Prelude.{bytes_eq}
use Rattle.std.proofs.lemmas.Bool.{ne_eqb, cases_eq}
use Rattle.std.proofs.lemmas.Grind.{common_steps}
use Rattle.std.proofs.lemmas.List.Sums.{take_while-cons}
use Rattle.std.proofs.lemmas.Slice.Eq.{bytes_eq-Decides}
use Rattle.lists.specs.laws.TestLaws.{other_bytes}
use Rattle.text_core.specs.Lines.{is_blank}
use Rattle.text_core.specs.Numbers.{value_of}
use Rattle.poly_mixed.specs.Labels.{Labelling}
use Rattle.poly_mixed.specs.Monomial.{Monomial}
use Rattle.poly_mixed.specs.Polynomial.{Terms}
use Rattle.text_core.specs.Scan.{run, after, skip, is_digit, is_hex_digit, has_digits}
use Rattle.poly_mixed.specs.Said.{one, added}
use Rattle.poly_mixed.specs.private.Reading.{Scanned, Progress, done, more, with_variable, next_at, after_factor, factor_at, after_zero, coefficient_at, zero_at, term_at}
use Rattle.poly_mixed.specs.Token.{variable, hex, figures, plus_sign, times_sign, power_sign, Front, number_front, token_front}
use Rattle.poly_mixed.specs.declared.fault.PolyFault.{PolyFault}
use Rattle.poly_mixed.specs.declared.fault.PolyFault.TheVariants.{Syntax}
use Rattle.poly_mixed.specs.declared.variables.Variable.{Variable}
use Rattle.text_core.proofs.RunLemmas.{skip_none, run_front, after_front}
use Rattle.poly_mixed.proofs.FrontLemmas.{by_front, by_number, by_sign}
use Rattle.poly_mixed.proofs.ReadFactorLemmas.{variable_in, variable_is}
use Rattle.text_core.proofs.ByteLemmas.{digit_range}

-- ---- what a token says where a term is to come, or the end

-- after a term, where these sums are kept
abbrev pub sign_in : Terms → Terms → ℕ → Monomial → Bool → Front → Result Progress PolyFault
sign_in sum new c m factors None = Err Syntax
sign_in sum new c m factors (Some (plus_sign, rest)) = Ok (more true new 1 one rest)
sign_in sum new c m true (Some (times_sign, rest)) = Ok (more false sum c m rest)
sign_in sum new c m false (Some (times_sign, rest)) = Err Syntax
sign_in sum new c m factors (Some (power_sign, rest)) = Err Syntax
sign_in sum new c m factors (Some (variable v, rest)) = Err Syntax
sign_in sum new c m factors (Some (hex d, rest)) = Err Syntax
sign_in sum new c m factors (Some (figures ds, rest)) = Err Syntax

abbrev pub next_in : Terms → Terms → ℕ → Monomial → Bool → List ℕ → Front → Result Progress PolyFault
next_in sum new c m factors [] front = Ok (done new)
next_in sum new c m factors (b ∷ bs) front = sign_in sum new c m factors front

abbrev pub term_in : Labelling → ℕ → Terms → Front → Result Progress PolyFault
term_in l k sum None = Err Syntax
term_in l k sum (Some (hex c, rest)) = cond (nat_lt c (2 ^ k)) (next_at sum c one (skip rest)) (Err Syntax)
term_in l k sum (Some (figures ds, rest)) = cond (bytes_eq ds (48 ∷ [])) (after_zero sum (skip rest)) (Err Syntax)
term_in l k sum (Some (variable v, rest)) = after_factor sum 1 (with_variable k one (variable_in l (Some (variable v, rest))))
term_in l k sum (Some (plus_sign, rest)) = Err Syntax
term_in l k sum (Some (times_sign, rest)) = Err Syntax
term_in l k sum (Some (power_sign, rest)) = Err Syntax

-- ---- after a factor

no_sign : (sum new : Terms) (c : ℕ) (m : Monomial) (factors : Bool) (b : ℕ) (bs : List ℕ) → b ≢ 43 → (b ≡ 42 → factors ≡ false) → ◌≡◌ {A = Result Progress PolyFault} (Err Syntax) (sign_in sum new c m factors (token_front (b ∷ bs)))
no_sign sum new c m true b bs ne none =
    let P : Front → Type 0 = λ f. ◌≡◌ {A = Result Progress PolyFault} (Err Syntax) (sign_in sum new c m true f) in
    by_front P b bs (λ v rest. refl) (λ e. by_number P b bs (λ c rest. refl) refl) (by_sign P b bs (λ e. absurd (ne e)) (λ e. (let bad : true ≡ false = none e in absurd (cc))) (λ e. refl) refl) refl
no_sign sum new c m false b bs ne none =
    let P : Front → Type 0 = λ f. ◌≡◌ {A = Result Progress PolyFault} (Err Syntax) (sign_in sum new c m false f) in
    by_front P b bs (λ v rest. refl) (λ e. by_number P b bs (λ c rest. refl) refl) (by_sign P b bs (λ e. absurd (ne e)) (λ e. refl) (λ e. refl) refl) refl

pub next_is : (sum : Terms) (c : ℕ) (m : Monomial) (bs : List ℕ) → next_at sum c m bs ≡ next_in sum (added sum c m) c m true bs (token_front bs)
next_is sum c m [] = refl
next_is sum c m (b ∷ bs) =
    let P : ℕ → Type 0 = λ x. next_at sum c m (x ∷ bs) ≡ sign_in sum (added sum c m) c m true (token_front (x ∷ bs)) in
    elim (cases_eq b 42) [
      | inl is ↦ subst P (sym is) refl
      | inr ne ↦ elim (cases_eq b 43) [
        | inl is ↦ subst P (sym is) refl
        | inr other ↦
            ap (λ v. cond v (Ok (more false sum c m bs)) (cond (b == 43) (Ok (more true (added sum c m) 1 one bs)) (Err Syntax))) (ne_eqb b 42 ne)
            ∙ ap (λ v. cond v (Ok (more true (added sum c m) 1 one bs)) (Err Syntax)) (ne_eqb b 43 other)
            ∙ no_sign sum (added sum c m) c m true b bs other (λ e. absurd (ne e))
      ]
    ]

pub zero_next_is : (sum : Terms) (bs : List ℕ) → after_zero sum bs ≡ next_in sum sum 1 one false bs (token_front bs)
zero_next_is sum [] = refl
zero_next_is sum (b ∷ bs) =
    elim (cases_eq b 43) [
      | inl is ↦ (let P : ℕ → Type 0 = λ x. after_zero sum (x ∷ bs) ≡ sign_in sum sum 1 one false (token_front (x ∷ bs)) in subst P (sym is) refl)
      | inr ne ↦ ap (λ v. cond v (Ok (more true sum 1 one bs)) (Err Syntax)) (ne_eqb b 43 ne) ∙ no_sign sum sum 1 one false b bs ne (λ e. refl)
    ]

-- ---- a term

other_digits : (b : ℕ) (xs : List ℕ) → b ≢ 48 → bytes_eq (b ∷ xs) (48 ∷ []) ≡ false
other_digits b xs ne = other_bytes (b ∷ xs) (48 ∷ []) (λ e. ne (ap first e))
  where
    first : List ℕ → ℕ
    first [] = 0
    first (x ∷ xs) = x

longer_digits : (b : ℕ) (xs : List ℕ) → bytes_eq (48 ∷ b ∷ xs) (48 ∷ []) ≡ false
longer_digits b xs = elim (bytes_eq (48 ∷ b ∷ xs) (48 ∷ [])) as (λ v. bytes_eq (48 ∷ b ∷ xs) (48 ∷ []) ≡ v → v ≡ false) [
  | true ↦ λ e. (let bad : suc (suc (length xs)) ≡ 1 = ap length ((bytes_eq-Decides (48 ∷ b ∷ xs) (48 ∷ [])).0 e) in absurd (omega (arith, bad)))
  | false ↦ λ e. refl
] refl

-- a digit after `0`
two_digits : (b : ℕ) (bs : List ℕ) → is_digit b ≡ true → run is_digit (48 ∷ b ∷ bs) ≡ 48 ∷ b ∷ run is_digit bs
two_digits b bs e =
    take_while-cons is_digit 48 (b ∷ bs)
    ∙ ap (λ (xs : List ℕ). 48 ∷ xs) (take_while-cons is_digit b bs ∙ ap (λ v. cond v (b ∷ run is_digit bs) []) e)

after_term_zero : (sum : Terms) (b : ℕ) (bs : List ℕ) → after_zero sum (skip (b ∷ bs)) ≡ cond (bytes_eq (run is_digit (48 ∷ b ∷ bs)) (48 ∷ [])) (after_zero sum (skip (after is_digit (48 ∷ b ∷ bs)))) (Err Syntax)
after_term_zero sum b bs =
    elim (is_digit b) as (λ v. is_digit b ≡ v → after_zero sum (skip (b ∷ bs)) ≡ cond (bytes_eq (run is_digit (48 ∷ b ∷ bs)) (48 ∷ [])) (after_zero sum (skip (after is_digit (48 ∷ b ∷ bs)))) (Err Syntax)) [
      | true ↦ λ e.
          let bounds = digit_range b e in
          ap (after_zero sum) (skip_none b bs (not_blank b bounds.0))
          ∙ ap (λ v. cond v (Ok (more true sum 1 one bs)) (Err Syntax)) (ne_eqb b 43 (λ f. omega (arith, f, bounds.0)))
          ∙ sym (ap (λ (xs : List ℕ). cond (bytes_eq xs (48 ∷ [])) (after_zero sum (skip (after is_digit (48 ∷ b ∷ bs)))) (Err Syntax)) (two_digits b bs e)
          ∙ ap (λ v. cond v (after_zero sum (skip (after is_digit (48 ∷ b ∷ bs)))) (Err Syntax)) (longer_digits b (run is_digit bs)))
      | false ↦ λ e.
          sym (ap (λ (xs : List ℕ). cond (bytes_eq xs (48 ∷ [])) (after_zero sum (skip (after is_digit (48 ∷ b ∷ bs)))) (Err Syntax)) (run_front is_digit (48 ∷ []) (b ∷ bs) (refl, tt) e)
          ∙ ap (λ (xs : List ℕ). after_zero sum (skip xs)) (after_front is_digit (48 ∷ []) (b ∷ bs) (refl, tt) e))
    ] refl
  where
    not_blank : (b : ℕ) → 48 ≤ b → is_blank b ≡ false
    not_blank b h = grind (arith, common_steps)

zero_term : (l : Labelling) (k : ℕ) (sum : Terms) (bs : List ℕ) → zero_at k sum bs ≡ term_in l k sum (number_front 48 bs)
zero_term l k sum [] = refl
zero_term l k sum (b ∷ bs) =
    elim ((b == 120) && nat_lt 0 (length (run is_hex_digit bs))) as (λ v. cond v (coefficient_at k sum bs) (after_zero sum (skip (b ∷ bs))) ≡ term_in l k sum (cond v (Some (hex (value_of 16 (run is_hex_digit bs)), after is_hex_digit bs)) (Some (figures (run is_digit (48 ∷ b ∷ bs)), after is_digit (48 ∷ b ∷ bs))))) [
      | true ↦ refl
      | false ↦ after_term_zero sum b bs
    ]

-- a term that does not begin with `0`
other_term : (l : Labelling) (k : ℕ) (sum : Terms) (b : ℕ) (bs : List ℕ) → b ≢ 48 → after_factor sum 1 (with_variable k one (variable_in l (token_front (b ∷ bs)))) ≡ term_in l k sum (token_front (b ∷ bs))
other_term l k sum b bs ne =
    let P : Front → Type 0 = λ f. after_factor sum 1 (with_variable k one (variable_in l f)) ≡ term_in l k sum f in
    by_front P b bs (λ v rest. refl)
    (λ e.
    ap (λ v. after_factor sum 1 (with_variable k one (variable_in l (cond (v && has_digits bs) (Some (hex (value_of 16 (run is_hex_digit (drop 1 bs))), after is_hex_digit (drop 1 bs))) (Some (figures (run is_digit (b ∷ bs)), after is_digit (b ∷ bs))))))) (ne_eqb b 48 ne)
    ∙ sym (ap (λ v. term_in l k sum (cond (v && has_digits bs) (Some (hex (value_of 16 (run is_hex_digit (drop 1 bs))), after is_hex_digit (drop 1 bs))) (Some (figures (run is_digit (b ∷ bs)), after is_digit (b ∷ bs))))) (ne_eqb b 48 ne)
    ∙ ap (λ (xs : List ℕ). cond (bytes_eq xs (48 ∷ [])) (after_zero sum (skip (after is_digit (b ∷ bs)))) (Err Syntax)) (take_while-cons is_digit b bs ∙ ap (λ v. cond v (b ∷ run is_digit bs) []) e)
    ∙ ap (λ v. cond v (after_zero sum (skip (after is_digit (b ∷ bs)))) (Err Syntax)) (other_digits b (run is_digit bs) ne)))
    (by_sign P b bs (λ e. refl) (λ e. refl) (λ e. refl) refl) refl

pub term_is : (l : Labelling) (k : ℕ) (sum : Terms) (bs : List ℕ) → term_at l k sum bs ≡ term_in l k sum (token_front bs)
term_is l k sum [] = refl
term_is l k sum (b ∷ bs) =
    elim (cases_eq b 48) [
      | inl is ↦ (let P : ℕ → Type 0 = λ x. term_at l k sum (x ∷ bs) ≡ term_in l k sum (token_front (x ∷ bs)) in subst P (sym is) (zero_term l k sum bs))
      | inr ne ↦
          ap (λ v. cond v (zero_at k sum bs) (factor_at l k sum 1 one (b ∷ bs))) (ne_eqb b 48 ne)
          ∙ ap (λ (r : Scanned Variable). after_factor sum 1 (with_variable k one r)) (variable_is l (b ∷ bs)) ∙ other_term l k sum b bs ne
    ]
