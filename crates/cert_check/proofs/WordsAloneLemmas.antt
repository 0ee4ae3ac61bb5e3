-- A text without `[` and `@` says a polynomial in words alone.
use Rattle.std.proofs.Common.{◌≡◌, ◌∙◌, ap, sym, refl, subst, ℕ, zero, suc, true, false, cond, ◌&&◌, ◌==◌, List, [], ◌∷◌, ◌++◌, length, drop, Some, None, bit_xor}
use Rattle.std.specs.List.{AllByRecursion, list_all}
use Rattle.std.specs.Prelude.{Option}
use Rattle.std.proofs.lemmas.Bool.{ne_eqb, eqb-true}
use Rattle.text_core.specs.Lines.{is_blank}
use Rattle.text_core.specs.Numbers.{value_of}
use Rattle.poly_mixed.specs.Labels.{Labelling, word_of}
use Rattle.poly_mixed.specs.Monomial.{Monomial, text_cmp}
use Rattle.poly_mixed.specs.Polynomial.{Terms, Point, term_value, value, powers}
use Rattle.text_core.specs.Scan.{run, after, skip, name_of, index_of, closed_by, is_digit, is_hex_digit, is_letter, has_digits}
use Rattle.poly_mixed.specs.Sum.{plus}
use Rattle.poly_mixed.specs.Token.{word, bit, net, Token, variable, hex, figures, plus_sign, times_sign, power_sign, Front, net_front, name_with, name_front, number_front, sign_front, token_front, AreFront}
use Rattle.poly_mixed.specs.Grammar.{Part, number, factor, IsPart, IsTerm}
use Rattle.text_core.specs.Joined.{AreJoined}
use Rattle.poly_mixed.specs.Said.{one, with_power, with_part, monomial_of, coefficient_of, added, sum_of}
use Rattle.poly_mixed.specs.TextOutcome.{IsRead}
use Rattle.poly_mixed.proofs.SumLemmas.{all_plus}
use Rattle.cert_check.specs.Certificate.{IsInWords}

dropped : (n : ℕ) (xs : List ℕ) → IsInWords xs → IsInWords (drop n xs)
dropped zero xs all = all
dropped (suc n) [] all = tt
dropped (suc n) (x ∷ xs) all = dropped n xs all.1

-- ---- tokens

-- no bit and no net
abbrev IsWordToken : Token → Type 0
IsWordToken (variable (word name)) = Unit {0}
IsWordToken (variable (bit name place)) = ⊥
IsWordToken (variable (net n)) = ⊥
IsWordToken (hex c) = Unit {0}
IsWordToken (figures ds) = Unit {0}
IsWordToken plus_sign = Unit {0}
IsWordToken times_sign = Unit {0}
IsWordToken power_sign = Unit {0}

abbrev IsFine : Front → Type 0
IsFine None = Unit {0}
IsFine (Some (t, rest)) = IsWordToken t × IsInWords rest

no_index : (bs : List ℕ) → IsInWords bs → index_of bs ≡ None
no_index [] all = refl
no_index (b ∷ bs) all = ap (λ v. cond v (closed_by (run is_digit bs) (after is_digit bs)) None) (ne_eqb b 91 all.0.0)

number_fine : (b : ℕ) (bs : List ℕ) → IsInWords (b ∷ bs) → IsFine (number_front b bs)
number_fine b bs all =
    elim ((b == 48) && has_digits bs) as (λ v. IsFine (cond v (Some (hex (value_of 16 (run is_hex_digit (drop 1 bs))), after is_hex_digit (drop 1 bs))) (Some (figures (run is_digit (b ∷ bs)), after is_digit (b ∷ bs))))) [
      | true ↦ (tt, dropped (length (run is_hex_digit (drop 1 bs))) (drop 1 bs) (dropped 1 bs all.1))
      | false ↦ (tt, dropped (length (run is_digit (b ∷ bs))) (b ∷ bs) all)
    ]

sign_fine : (b : ℕ) (bs : List ℕ) → IsInWords bs → IsFine (sign_front b bs)
sign_fine b bs all =
    elim (b == 43) as (λ v. IsFine (cond v (Some (plus_sign, bs)) (cond (b == 42) (Some (times_sign, bs)) (cond (b == 94) (Some (power_sign, bs)) None)))) [
      | true ↦ (tt, all)
      | false ↦ elim (b == 42) as (λ v. IsFine (cond v (Some (times_sign, bs)) (cond (b == 94) (Some (power_sign, bs)) None))) [
        | true ↦ (tt, all)
        | false ↦ elim (b == 94) as (λ v. IsFine (cond v (Some (power_sign, bs)) None)) [ true ↦ (tt, all) | false ↦ tt ]
      ]
    ]

name_fine : (bs : List ℕ) → IsInWords bs → IsFine (name_front bs)
name_fine bs all =
    let rest : List ℕ = drop (length (name_of bs)) bs in
    let fine : IsInWords rest = dropped (length (name_of bs)) bs all in
    let P : Option (List ℕ × List ℕ) → Type 0 = λ o. IsFine (name_with (name_of bs) rest o) in
    subst P (sym (no_index rest fine)) (tt, fine)

front_fine : (bs : List ℕ) → IsInWords bs → IsFine (token_front bs)
front_fine [] all = tt
front_fine (b ∷ bs) all =
    elim (b == 64) as (λ v. (b == 64) ≡ v → IsFine (cond v (net_front bs) (cond (is_letter b) (name_front (b ∷ bs)) (cond (is_digit b) (number_front b bs) (sign_front b bs))))) [
      | true ↦ λ e. absurd (all.0.1 (eqb-true b 64 e))
      | false ↦ λ e. elim (is_letter b) as (λ v. IsFine (cond v (name_front (b ∷ bs)) (cond (is_digit b) (number_front b bs) (sign_front b bs)))) [
        | true ↦ name_fine (b ∷ bs) all
        | false ↦ elim (is_digit b) as (λ v. IsFine (cond v (number_front b bs) (sign_front b bs))) [ true ↦ number_fine b bs all | false ↦ sign_fine b bs all.1 ]
      ]
    ] refl

tokens_fine : (bytes : List ℕ) (ts : List Token) (rest : List ℕ) → AreFront bytes ts rest → IsInWords bytes → AllByRecursion IsWordToken ts
tokens_fine bytes [] rest are all = tt
tokens_fine bytes (t ∷ ts) rest (more, e, are) all =
    let P : Front → Type 0 = IsFine in
    let fine : IsWordToken t × IsInWords more = subst P e (front_fine (skip bytes) (dropped (length (run is_blank bytes)) bytes all)) in
    (fine.0, tokens_fine more ts rest are fine.1)

-- ---- parts

abbrev IsWordPart : Part → Type 0
IsWordPart (number c) = Unit {0}
IsWordPart (factor (word name) e) = Unit {0}
IsWordPart (factor (bit name place) e) = ⊥
IsWordPart (factor (net n) e) = ⊥

abbrev AreWordTokens : List Token → Type 0
AreWordTokens ts = AllByRecursion IsWordToken ts

front_of : (ts us : List Token) → AreWordTokens (ts ++ us) → AreWordTokens ts
front_of [] us all = tt
front_of (t ∷ ts) us all = (all.0, front_of ts us all.1)

back_of : (ts us : List Token) → AreWordTokens (ts ++ us) → AreWordTokens us
back_of [] us all = all
back_of (t ∷ ts) us all = back_of ts us all.1

all_joined : {A : Type 0} (sign : Token) (Is : List Token → A → Type 0) (P : A → Type 0) → ((ts : List Token) (a : A) → AreWordTokens ts → Is ts a → P a) → (ts : List Token) (xs : List A) → AreWordTokens ts → AreJoined sign Is ts xs → AllByRecursion P xs
all_joined sign Is P each ts [] all is = tt
all_joined sign Is P each ts (a ∷ []) all is = (each ts a all is, tt)
all_joined sign Is P each ts (a ∷ b ∷ more) all is =
    let Q : List Token → Type 0 = AreWordTokens in
    let whole : AreWordTokens (is.0 ++ sign ∷ is.1) = subst Q is.2 all in
    let rest : AreWordTokens (sign ∷ is.1) = back_of is.0 (sign ∷ is.1) whole in
    (each is.0 a (front_of is.0 (sign ∷ is.1) whole) is.3, all_joined sign Is P each is.1 (b ∷ more) rest.1 is.4)

part_fine : (k : ℕ) (ts : List Token) (p : Part) → AreWordTokens ts → IsPart k ts p → IsWordPart p
part_fine k ts (number c) all is = tt
part_fine k ts (factor (word name) e) all is = tt
part_fine k ts (factor (bit name place) e) all is = let Q : List Token → Type 0 = AreWordTokens in let own : AreWordTokens (variable (bit name place) ∷ []) = subst Q is.0 all in own.0
part_fine k ts (factor (net n) e) all is = let Q : List Token → Type 0 = AreWordTokens in let own : AreWordTokens (variable (net n) ∷ []) = subst Q is.0 all in own.0

term_fine : (k : ℕ) (ts : List Token) (ps : List Part) → AreWordTokens ts → IsTerm k ts ps → AllByRecursion IsWordPart ps
term_fine k ts [] all is = tt
term_fine k ts (p ∷ ps) all is = all_joined times_sign (IsPart k) IsWordPart (part_fine k) ts (p ∷ ps) all is.0

-- ---- what they say

abbrev HasNoBits : Monomial × ℕ → Type 0
HasNoBits t = t.0.bits ≡ []

power_bits : (m : Monomial) (o : Option ℕ) (e : ℕ) → (with_power m o e).bits ≡ m.bits
power_bits m None e = refl
power_bits m (Some w) e = refl

part_bits : (l : Labelling) (m : Monomial) (p : Part) → IsWordPart p → m.bits ≡ [] → (with_part l m p).bits ≡ []
part_bits l m (number c) is none = none
part_bits l m (factor (word name) e) is none = power_bits m (word_of l.words name) e ∙ none
part_bits l m (factor (bit name place) e) is none = absurd is
part_bits l m (factor (net n) e) is none = absurd is

monomial_bits : (l : Labelling) (m : Monomial) (ps : List Part) → AllByRecursion IsWordPart ps → m.bits ≡ [] → (monomial_of l m ps).bits ≡ []
monomial_bits l m [] are none = none
monomial_bits l m (p ∷ ps) are none = monomial_bits l (with_part l m p) ps are.1 (part_bits l m p are.0 none)

added_bits : (sum : Terms) (c : ℕ) (m : Monomial) → AllByRecursion HasNoBits sum → m.bits ≡ [] → AllByRecursion HasNoBits (added sum c m)
added_bits sum c m all none =
    elim (c == 0) as (λ v. AllByRecursion HasNoBits (plus text_cmp sum (cond v [] ((m, c) ∷ [])))) [
      | true ↦ all
      | false ↦ all_plus text_cmp HasNoBits (λ t u h g n. h) sum ((m, c) ∷ []) all (none, tt)
    ]

terms_bits : (l : Labelling) (sum : Terms) (ts : List (List Part)) → AllByRecursion HasNoBits sum → AllByRecursion (λ ps. AllByRecursion IsWordPart ps) ts → AllByRecursion HasNoBits (sum_of l sum ts)
terms_bits l sum [] all are = all
terms_bits l sum ([] ∷ ts) all are = terms_bits l sum ts all are.1
terms_bits l sum ((p ∷ ps) ∷ ts) all are =
    terms_bits l (added sum (coefficient_of (p ∷ ps)) (monomial_of l one (p ∷ ps))) ts
    (added_bits sum (coefficient_of (p ∷ ps)) (monomial_of l one (p ∷ ps)) all (monomial_bits l one (p ∷ ps) are.0 refl)) are.1

-- no bit stands in what such a text says
pub no_bits : (l : Labelling) (k : ℕ) (bytes : List ℕ) (said : Terms) → IsInWords bytes → IsRead l k bytes said → AllByRecursion (λ t. t.0.bits ≡ []) said
no_bits l k bytes said all is =
    let tokens : AreWordTokens is.tokens = tokens_fine bytes is.tokens is.rest is.so_far.front all in
    let P : Terms → Type 0 = λ ts. AllByRecursion HasNoBits ts in
    subst P (sym is.said_is) (terms_bits l [] is.terms tt (all_joined plus_sign (IsTerm k) (λ ps. AllByRecursion IsWordPart ps) (term_fine k) is.tokens is.terms tokens is.grammar))

-- and so its value does not look at bits
pub blind_value : (mul : ℕ → ℕ → ℕ) (p q : Point) (ts : Terms) → AllByRecursion (λ t. t.0.bits ≡ []) ts → p.words ≡ q.words → value mul p ts ≡ value mul q ts
blind_value mul p q [] none same = refl
blind_value mul p q (t ∷ ts) none same =
    let alone : (r : Point) → term_value mul r t ≡ mul t.1 (powers mul t.0.exponents r.words) = λ r. ap (λ bs. cond (list_all r.is_one bs) (mul t.1 (powers mul t.0.exponents r.words)) 0) none.0 in
    (λ i. bit_xor ((alone p ∙ (ap (λ ws. mul t.1 (powers mul t.0.exponents ws)) same ∙ sym (alone q))) i) (blind_value mul p q ts none.1 same i))
