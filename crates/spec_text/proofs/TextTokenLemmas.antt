-- A text has one list of tokens.
use Rattle.std.proofs.Common.{◌≡◌, ◌∙◌, ap, sym, refl, subst, inl, inr, ℕ, zero, suc, ◌<◌, ◌≤◌, ◌+◌, List, [], ◌∷◌, length, take, drop, get_or, arith}
use Rattle.std.proofs.lemmas.Bool.{cases_order}
use Rattle.text_core.specs.Names.{IsName}
use Rattle.spec_text.specs.Token.{Token, name, hex, decimal, equals, plus, times, power, IsSpelling, IsWhite, AreWhite, IsFront, HasNoFront}
use Rattle.spec_text.specs.Tokens.{Stop, ended, stuck, AreTokens}
use Rattle.spec_text.proofs.TokenLemmas.{one_front, decimal_digit}

white_low : (b : ℕ) → IsWhite b → b ≤ 32
white_low b (inl e) = omega (arith, e)
white_low b (inr (inl e)) = omega (arith, e)
white_low b (inr (inr (inl e))) = omega (arith, e)
white_low b (inr (inr (inr e))) = omega (arith, e)

first_high : (b : ℕ) (bs : List ℕ) (t : Token) → IsSpelling (b ∷ bs) t → 33 ≤ b
first_high b bs (name n) is =
    let P : List ℕ → Type 0 = IsName in
    elim (subst P (sym is.0) is.1).letter [ inl i ↦ omega (arith, i.0) | inr i ↦ omega (arith, i.0) ]
first_high b bs (hex n) is = let e : b ≡ 48 = ap (λ xs. get_or xs 0 0) is.1 in omega (arith, e)
first_high b bs (decimal n) is = omega (arith, (decimal_digit b (is.0.1 0 (omega arith))).0)
first_high b bs equals is = let e : b ≡ 61 = ap (λ xs. get_or xs 0 0) is in omega (arith, e)
first_high b bs plus is = let e : b ≡ 43 = ap (λ xs. get_or xs 0 0) is in omega (arith, e)
first_high b bs times is = let e : b ≡ 42 = ap (λ xs. get_or xs 0 0) is in omega (arith, e)
first_high b bs power is = let e : b ≡ 94 = ap (λ xs. get_or xs 0 0) is in omega (arith, e)

pub nothing : (t : Token) → IsSpelling [] t → ⊥
nothing (name n) is = omega (arith, is.1.some, ap length is.0)
nothing (hex n) is = let e = ap length is.1 in omega (arith, e)
nothing (decimal n) is = omega (arith, is.0.0)
nothing equals is = let e = ap length is in omega (arith, e)
nothing plus is = let e = ap length is in omega (arith, e)
nothing times is = let e = ap length is in omega (arith, e)
nothing power is = let e = ap length is in omega (arith, e)

pub tail_white : (b : ℕ) (bs : List ℕ) → AreWhite (b ∷ bs) → AreWhite bs
tail_white b bs all = λ k less. all (suc k) (omega (arith, less))

-- white bytes at whose place a token is spelled: there are none
clash : (bs : List ℕ) (w v n : ℕ) (t : Token) → w < v → AreWhite (take v bs) → IsSpelling (take n (drop w bs)) t → ⊥
clash bs w zero n t less all is = omega (arith, less)
clash [] zero (suc v) zero t less all is = nothing t is
clash [] zero (suc v) (suc n) t less all is = nothing t is
clash [] (suc w) (suc v) zero t less all is = nothing t is
clash [] (suc w) (suc v) (suc n) t less all is = nothing t is
clash (b ∷ bs) zero (suc v) zero t less all is = nothing t is
clash (b ∷ bs) zero (suc v) (suc n) t less all is = omega (arith, first_high b (take n bs) t is, white_low b (all 0 (omega arith)))
clash (b ∷ bs) (suc w) (suc v) n t less all is = clash bs w v n t (omega (arith, less)) (tail_white b (take v bs) all) is

all_clash : (bs : List ℕ) (w n : ℕ) (t : Token) → AreWhite bs → IsSpelling (take n (drop w bs)) t → ⊥
all_clash [] zero zero t all is = nothing t is
all_clash [] zero (suc n) t all is = nothing t is
all_clash [] (suc w) zero t all is = nothing t is
all_clash [] (suc w) (suc n) t all is = nothing t is
all_clash (b ∷ bs) zero zero t all is = nothing t is
all_clash (b ∷ bs) zero (suc n) t all is = omega (arith, first_high b (take n bs) t is, white_low b (all 0 (omega arith)))
all_clash (b ∷ bs) (suc w) n t all is = all_clash bs w n t (tail_white b bs all) is

pub more_white : (b : ℕ) (bs : List ℕ) → IsWhite b → AreWhite bs → AreWhite (b ∷ bs)
more_white b bs first rest zero less = first
more_white b bs first rest (suc k) less = rest k (omega (arith, less))

fewer_white : (bs : List ℕ) (m v : ℕ) → m ≤ v → AreWhite (take v bs) → AreWhite (take m bs)
fewer_white bs zero v low all = λ k less. absurd (omega (arith, less))
fewer_white bs (suc m) zero low all = absurd (omega (arith, low))
fewer_white [] (suc m) (suc v) low all = all
fewer_white (b ∷ bs) (suc m) (suc v) low all = more_white b (take m bs) (all 0 (omega arith)) (fewer_white bs m v (omega (arith, low)) (tail_white b (take v bs) all))

all_white : (bs : List ℕ) (m : ℕ) → AreWhite bs → AreWhite (take m bs)
all_white bs zero all = λ k less. absurd (omega (arith, less))
all_white [] (suc m) all = all
all_white (b ∷ bs) (suc m) all = more_white b (take m bs) (all 0 (omega arith)) (all_white bs m (tail_white b bs all))

-- the text ends where a token stands: it does not
no_token : (place : ℕ) (bs : List ℕ) (stop : Stop) (w n : ℕ) (t : Token) → AreTokens place bs [] stop → AreWhite (take w bs) → IsFront (drop w bs) t n → ⊥
no_token place bs (ended at) w n t is all front = all_clash bs w n t is.0 front.spelling
no_token place bs (stuck at) w n t is all front =
    elim (cases_order is.0 w) [
      | inl e ↦ (let P : ℕ → Type 0 = λ i. HasNoFront (drop i bs) in subst P e is.5 n t front.spelling)
      | inr which ↦ elim which [
        | inl low ↦ is.4 (fewer_white bs (is.0 + 1) w (omega (arith, low)) all)
        | inr high ↦ clash bs w is.0 n t high is.2 front.spelling
      ]
    ]

same_white : (bs : List ℕ) (w v n m : ℕ) (t u : Token) → AreWhite (take w bs) → AreWhite (take v bs) → IsFront (drop w bs) t n → IsFront (drop v bs) u m → w ≡ v
same_white bs w v n m t u p q front other =
    elim (cases_order w v) [
      | inl e ↦ e
      | inr which ↦ elim which [ inl low ↦ absurd (clash bs w v n t low q front.spelling) | inr high ↦ absurd (clash bs v w m u high p other.spelling) ]
    ]

one_stop : (place : ℕ) (bs : List ℕ) (stop other : Stop) → AreTokens place bs [] stop → AreTokens place bs [] other → stop ≡ other
one_stop place bs (ended m) (ended n) p q = ap ended (p.1 ∙ sym q.1)
one_stop place bs (ended m) (stuck n) p q = absurd (q.4 (all_white bs (q.0 + 1) p.0))
one_stop place bs (stuck m) (ended n) p q = absurd (p.4 (all_white bs (p.0 + 1) q.0))
one_stop place bs (stuck m) (stuck n) p q =
    elim (cases_order p.0 q.0) [
      | inl e ↦ ap stuck (p.3 ∙ ap (λ w. place + w) e ∙ sym q.3)
      | inr which ↦ elim which [
        | inl low ↦ absurd (p.4 (fewer_white bs (p.0 + 1) q.0 (omega (arith, low)) q.2))
        | inr high ↦ absurd (q.4 (fewer_white bs (q.0 + 1) p.0 (omega (arith, high)) p.2))
      ]
    ]

pub one_tokens : (place : ℕ) (bs : List ℕ) (ts us : List (Token × ℕ)) (stop other : Stop) → AreTokens place bs ts stop → AreTokens place bs us other → (ts ≡ us) × (stop ≡ other)
one_tokens place bs [] [] stop other p q = (refl, one_stop place bs stop other p q)
one_tokens place bs [] (u ∷ us) stop other p q = absurd (no_token place bs stop q.0 q.1 u.0 p q.2 q.4)
one_tokens place bs (t ∷ ts) [] stop other p q = absurd (no_token place bs other p.0 p.1 t.0 q p.2 p.4)
one_tokens place bs (t ∷ ts) (u ∷ us) stop other p q =
    let w : p.0 ≡ q.0 = same_white bs p.0 q.0 p.1 q.1 t.0 u.0 p.2 q.2 p.4 q.4 in
    let P : ℕ → Type 0 = λ i. IsFront (drop i bs) t.0 p.1 in
    let front = one_front (drop q.0 bs) t.0 u.0 p.1 q.1 (subst P w p.4) q.4 in
    let at : t.1 ≡ u.1 = p.3 ∙ ap (λ i. place + i) w ∙ sym q.3 in
    let Q : ℕ → Type 0 = λ i. AreTokens i (drop (p.0 + p.1) bs) ts stop in
    let R : ℕ → Type 0 = λ i. AreTokens (u.1 + q.1) (drop i bs) ts stop in
    let place_is : t.1 + p.1 ≡ u.1 + q.1 = omega (arith, at, front.0) in
    let drop_is : p.0 + p.1 ≡ q.0 + q.1 = omega (arith, w, front.0) in
    let rest = one_tokens (u.1 + q.1) (drop (q.0 + q.1) bs) ts us stop other (subst R drop_is (subst Q place_is p.5)) q.5 in
    (λ i. (front.1 i, at i) ∷ rest.0 i, rest.1)
