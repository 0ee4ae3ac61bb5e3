-- Laws of spans.
use Rattle.std.proofs.Common.{◌≡◌, ◌≢◌, ℕ, zero, suc, get_or, refl, sym, ◌∙◌, ap, ap₂, ◌<◌, ◌≤◌, ◌^◌, ◌*◌, ◌/◌, ◌%◌, ◌⊎◌, inl, inr, arith, pow_pos, pow-suc, add-one, mod-lt, zero-mul, one-mul, List, [], ◌∷◌, length, le_antisymm, lt_of_le_of_lt}
use Rattle.std.specs.Prelude.{bit_xor}
use Rattle.std.specs.Int.Bits.{xor_self, xor_lt, xor_shr, xor_mod, xor_zero_l, xor_zero_r}
use Rattle.std.proofs.lemmas.Bool.{cases_eq, cases_lt}
use Rattle.std.proofs.lemmas.Nat.{pow_below, field_of}
use Rattle.std.proofs.Math.Pow.{mod-mod-pow}
use Rattle.lists.specs.laws.NumberLaws.{bit_cases, below_differs}
use Rattle.lists.specs.laws.XorLaws.{xor_same, xor_cross, bit_times}
use Rattle.gf_field.specs.laws.PigeonholeLaws.{Meets, pigeonhole, FoundAt, find}
use Rattle.gf_field.specs.laws.FermatLaws.{replaced, replaced_same, replaced_other}
use Rattle.irreducible.specs.Span.{combination, InSpan, IsIndependent, IsRank}

pub combination-xor : (rows : List ℕ) (c d : ℕ) → combination rows (bit_xor c d) ≡ bit_xor (combination rows c) (combination rows d)
combination-xor [] c d = sym (xor_self 0)
combination-xor (r ∷ rs) c d =
    ap₂ bit_xor (ap (λ x. x * r) (xor_mod c d 1) ∙ bit_times (c % 2) (d % 2) r (omega arith) (omega arith))
    (ap (combination rs) (xor_shr c d 1) ∙ combination-xor rs (c / 2) (d / 2))
    ∙ xor_cross (c % 2 * r) (d % 2 * r) (combination rs (c / 2)) (combination rs (d / 2))

-- choices up to the number of rows do
pub combination-short : (rows : List ℕ) (c : ℕ) → combination rows (c % 2 ^ length rows) ≡ combination rows c
combination-short [] c = refl
combination-short (r ∷ rs) c =
    ap₂ (λ x y. bit_xor (x * r) (combination rs y)) (low c (length rs)) (high c (length rs))
    ∙ ap (bit_xor (c % 2 * r)) (combination-short rs (c / 2))
  where
    low : (c n : ℕ) → c % 2 ^ suc n % 2 ≡ c % 2
    low c n = ap (λ x. c % 2 ^ x % 2) (sym (add-one n)) ∙ mod-mod-pow c n 1

    high : (c n : ℕ) → c % 2 ^ suc n / 2 ≡ c / 2 % 2 ^ n
    high c n = ap (λ x. c % 2 ^ x / 2) (sym (add-one n)) ∙ field_of c n 1

pub combination_zero : (rows : List ℕ) → combination rows 0 ≡ 0
combination_zero [] = refl
combination_zero (r ∷ rs) = ap₂ bit_xor (zero-mul r) (combination_zero rs) ∙ xor_self 0

-- the choice of one row
pub combination_unit : (rows : List ℕ) (i : ℕ) → combination rows (2 ^ i) ≡ get_or rows i 0
combination_unit [] i = refl
combination_unit (r ∷ rs) zero = ap₂ bit_xor (one-mul r) (combination_zero rs) ∙ xor_zero_r r
combination_unit (r ∷ rs) (suc i) =
    ap₂ (λ x y. bit_xor (x * r) (combination rs y)) (even i) (half i) ∙ ap (λ x. bit_xor x (combination rs (2 ^ i))) (zero-mul r) ∙ xor_zero_l (combination rs (2 ^ i)) ∙ combination_unit rs i
  where
    even : (i : ℕ) → 2 ^ suc i % 2 ≡ 0
    even i = omega (arith, pow-suc 2 i)

    half : (i : ℕ) → 2 ^ suc i / 2 ≡ 2 ^ i
    half i = omega (arith, pow-suc 2 i)

-- sums of short rows are short
pub combination_below : (rows : List ℕ) (n c : ℕ) → ((i : ℕ) → i < length rows → get_or rows i 0 < 2 ^ n) → combination rows c < 2 ^ n
combination_below [] n c h = pow_pos n
combination_below (r ∷ rs) n c h = xor_lt n _ _ (bit_row (c % 2) (omega arith)) (combination_below rs n (c / 2) (λ i l. h (suc i) (omega arith)))
  where
    bit_row : (b : ℕ) → b < 2 → b * r < 2 ^ n
    bit_row zero l = rw (zero-mul) (pow_pos n)
    bit_row (suc zero) l = rw (one-mul) (h 0 (omega arith))
    bit_row (suc (suc b)) l = absurd (omega arith)

pub span_zero : (rows : List ℕ) → InSpan rows 0
span_zero rows = record { choice = 0; is = combination_zero rows }

pub span_xor : (rows : List ℕ) (v w : ℕ) → InSpan rows v → InSpan rows w → InSpan rows (bit_xor v w)
span_xor rows v w p q = record { choice = bit_xor p.choice q.choice; is = combination-xor rows p.choice q.choice ∙ ap₂ bit_xor p.is q.is }

-- the first row, and a sum of the others
pub span_first : (r : ℕ) (rs : List ℕ) → InSpan (r ∷ rs) r
span_first r rs = record { choice = 1; is = ap₂ bit_xor (one-mul r) (combination_zero rs) ∙ xor_zero_r r }

pub span_rest : (r : ℕ) (rs : List ℕ) (w : ℕ) → InSpan rs w → InSpan (r ∷ rs) w
span_rest r rs w p = record { choice = p.choice * 2; is = ap₂ (λ x y. bit_xor (x * r) (combination rs y)) (even p.choice) (half p.choice) ∙ ap₂ bit_xor (zero-mul r) p.is ∙ xor_zero_l w }
  where
    even : (c : ℕ) → c * 2 % 2 ≡ 0
    even c = omega arith

    half : (c : ℕ) → c * 2 / 2 ≡ c
    half c = omega arith

pub span_item : (rows : List ℕ) (i : ℕ) → InSpan rows (get_or rows i 0)
span_item [] i = record { choice = 0; is = refl }
span_item (r ∷ rs) zero = span_first r rs
span_item (r ∷ rs) (suc i) = span_rest r rs (get_or rs i 0) (span_item rs i)

pub span_all : (rows basis : List ℕ) → ((i : ℕ) → i < length rows → InSpan basis (get_or rows i 0)) → (c : ℕ) → InSpan basis (combination rows c)
span_all [] basis h c = span_zero basis
span_all (r ∷ rs) basis h c = span_xor basis (c % 2 * r) (combination rs (c / 2)) (bit_row (c % 2) (omega arith)) (span_all rs basis (λ i l. h (suc i) (omega arith)) (c / 2))
  where
    bit_row : (b : ℕ) → b < 2 → InSpan basis (b * r)
    bit_row zero l = rw (zero-mul) (span_zero basis)
    bit_row (suc zero) l = rw (one-mul) (h 0 (omega arith))
    bit_row (suc (suc b)) l = absurd (omega arith)

pub span_trans : (rows basis : List ℕ) (w : ℕ) → ((i : ℕ) → i < length rows → InSpan basis (get_or rows i 0)) → InSpan rows w → InSpan basis w
span_trans rows basis w h p = let q : InSpan basis (combination rows p.choice) = span_all rows basis h p.choice in record { choice = q.choice; is = q.is ∙ p.is }

-- a sum of rows, by whether the first one is in it
pub record IsSplit (r : ℕ) (rs : List ℕ) (w : ℕ) : Type 0 where
  pub part : ℕ
  pub within : InSpan rs part
  pub is : (w ≡ part) ⊎ (w ≡ bit_xor r part)

pub span_split : (r : ℕ) (rs : List ℕ) (w : ℕ) → InSpan (r ∷ rs) w → IsSplit r rs w
span_split r rs w p = record {
  part = combination rs (p.choice / 2);
  within = record { choice = p.choice / 2; is = refl };
  is = elim (bit_cases (p.choice % 2) (omega arith)) [
    | inl z ↦ inl (sym p.is ∙ ap (λ x. bit_xor (x * r) (combination rs (p.choice / 2))) z ∙ ap (λ x. bit_xor x (combination rs (p.choice / 2))) (zero-mul r) ∙ xor_zero_l (combination rs (p.choice / 2)))
    | inr o ↦ inr (sym p.is ∙ ap (λ x. bit_xor (x * r) (combination rs (p.choice / 2))) o ∙ ap (λ x. bit_xor x (combination rs (p.choice / 2))) (one-mul r))
  ];
}

-- a row that is no sum of independent ones is independent of them
pub independent_more : (r : ℕ) (rs : List ℕ) → IsIndependent rs → (InSpan rs r → ⊥) → IsIndependent (r ∷ rs)
independent_more r rs free out = record { only_zero = at }
  where
    at : (c : ℕ) → c < 2 ^ suc (length rs) → combination (r ∷ rs) c ≡ 0 → c ≡ 0
    at c h e = elim (bit_cases (c % 2) (omega arith)) [
      | inl z ↦ let rest_zero : c / 2 ≡ 0 = free.only_zero (c / 2) (omega (arith, pow-suc 2 (length rs))) (sym (xor_zero_l (combination rs (c / 2))) ∙ sym (ap (λ x. bit_xor x (combination rs (c / 2))) (ap (λ x. x * r) z ∙ zero-mul r)) ∙ e) in omega arith
      | inr o ↦ absurd (out (record { choice = c / 2; is = sym (xor_same r (combination rs (c / 2)) (sym (ap (λ x. bit_xor x (combination rs (c / 2))) (ap (λ x. x * r) o ∙ one-mul r)) ∙ e)) }))
    ]

pub independent_nil : IsIndependent []
independent_nil = record { only_zero = λ c h e. omega arith }

-- no more independent sums than rows
pub independent-le : (a b : List ℕ) → IsIndependent a → ((c : ℕ) → InSpan b (combination a c)) → length a ≤ length b
independent-le a b free inside = elim (cases_lt (length b) (length a)) [
  | inr h ↦ h
  | inl h ↦ absurd (clash h (pigeonhole (2 ^ length b) place (λ i le. mod-lt (inside i).choice (pow_pos (length b)))))
]
  where
    place : ℕ → ℕ
    place i = (inside i).choice % 2 ^ length b

    at_place : (i : ℕ) → combination b (place i) ≡ combination a i
    at_place i = combination-short b (inside i).choice ∙ (inside i).is

    clash : length b < length a → Meets place (2 ^ length b) → ⊥
    clash h m = below_differs m.first m.second m.ordered (xor_same m.first m.second (free.only_zero (bit_xor m.first m.second)
        (xor_lt (length a) m.first m.second (wide m.first (omega (arith, m.ordered, m.within))) (wide m.second m.within))
        (combination-xor a m.first m.second ∙ ap₂ bit_xor (sym (at_place m.first) ∙ ap (combination b) m.same ∙ at_place m.second) refl ∙ xor_self (combination a m.second))))
      where
        wide : (i : ℕ) → i ≤ 2 ^ length b → i < 2 ^ length a
        wide i le = lt_of_le_of_lt le (pow_below (length b) (length a) h)

-- a map of the numbers below n to themselves that keeps them apart reaches each
pub reaches : (n : ℕ) (f : ℕ → ℕ) → ((i : ℕ) → i < n → f i < n) → ((i j : ℕ) → i < n → j < n → f i ≡ f j → i ≡ j) → (v : ℕ) → v < n → FoundAt f n v
reaches n f below apart v hv = elim (find f n v) [
  | inl w ↦ w
  | inr none ↦ absurd (clash none (pigeonhole n (replaced n v f) (low none)))
]
  where
    low : ((i : ℕ) → i < n → f i ≢ v) → (i : ℕ) → i ≤ n → replaced n v f i < n
    low none i le = elim (cases_eq i n) [
      | inl e ↦ rw (e) (rw (replaced_same n v f) hv)
      | inr ne ↦ rw (replaced_other n v f i ne) (below i (omega arith))
    ]

    less : (i : ℕ) → i < n → replaced n v f i ≡ f i
    less i h = replaced_other n v f i (λ e. differ i e h)
      where
        differ : (i : ℕ) → i ≡ n → i < n → ⊥
        differ i e h = omega arith

    clash : ((i : ℕ) → i < n → f i ≢ v) → Meets (replaced n v f) n → ⊥
    clash none m = elim (cases_eq m.second n) [
      | inl e ↦ none m.first (omega (arith, m.ordered, m.within)) (sym (less m.first (omega (arith, m.ordered, m.within))) ∙ m.same ∙ ap (replaced n v f) e ∙ replaced_same n v f)
      | inr ne ↦ below_differs m.first m.second m.ordered (apart m.first m.second (omega (arith, m.ordered, m.within)) (omega (arith, m.within)) (sym (less m.first (omega (arith, m.ordered, m.within))) ∙ m.same ∙ less m.second (omega (arith, m.within))))
    ]

-- rows are independent exactly where their number is the rank
pub IsIndependent-from_rank : (rows : List ℕ) (r : ℕ) → IsRank rows r → r ≡ length rows → IsIndependent rows
IsIndependent-from_rank rows r k e = record { only_zero = λ c h z. at c h z }
  where
    same : length k.basis ≡ length rows
    same = k.count ∙ e

    place : ℕ → ℕ
    place d = (k.inside d).choice % 2 ^ length rows

    at_place : (d : ℕ) → combination rows (place d) ≡ combination k.basis d
    at_place d = combination-short rows (k.inside d).choice ∙ (k.inside d).is

    apart : (i j : ℕ) → i < 2 ^ length rows → j < 2 ^ length rows → place i ≡ place j → i ≡ j
    apart i j hi hj p = xor_same i j (k.independent.only_zero (bit_xor i j) (rw same (xor_lt (length rows) i j hi hj))
        (combination-xor k.basis i j ∙ ap (λ x. bit_xor x (combination k.basis j)) (sym (at_place i) ∙ ap (combination rows) p ∙ at_place j) ∙ xor_self (combination k.basis j)))

    back : (c : ℕ) → c < 2 ^ length rows → FoundAt place (2 ^ length rows) c
    back c h = reaches (2 ^ length rows) place (λ i l. mod-lt (k.inside i).choice (pow_pos (length rows))) apart c h

    zero_at : (c : ℕ) (w : FoundAt place (2 ^ length rows) c) → combination rows c ≡ 0 → w.at ≡ 0
    zero_at c w z = k.independent.only_zero w.at (rw same w.below) (sym (at_place w.at) ∙ ap (combination rows) w.is ∙ z)

    at : (c : ℕ) → c < 2 ^ length rows → combination rows c ≡ 0 → c ≡ 0
    at c h z =
        sym (back c h).is ∙ ap place (zero_at c (back c h) z ∙ sym (zero_at 0 (back 0 (pow_pos (length rows))) (combination_zero rows))) ∙ (back 0 (pow_pos (length rows))).is

pub rank-from_independent : (rows : List ℕ) (r : ℕ) → IsRank rows r → IsIndependent rows → r ≡ length rows
rank-from_independent rows r k free =
    sym k.count ∙ le_antisymm (independent-le k.basis rows k.independent k.inside) (independent-le rows k.basis free k.spans)
