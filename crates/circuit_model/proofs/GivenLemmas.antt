-- Bits that are given to nets.
use Rattle.std.proofs.Common.{◌≡◌, ◌≢◌, ◌⊎◌, ◌∙◌, ap, refl, inl, inr, ℕ, zero, suc, ◌<◌, ◌≤◌, Bool, List, [], ◌∷◌, length, Some, cond, arith}
use Rattle.std.specs.Prelude.{slice_get, ◌==◌}
use Rattle.std.proofs.lemmas.Bool.Decides.{nat_tests}
use Rattle.lists.specs.Lists.{Has, times}
use Rattle.lists.specs.laws.HasLaws.{times_get}
use Rattle.lists.specs.laws.NumberLaws.{nat_eq_or}
use Rattle.lists.specs.laws.TestLaws.{one_here}
use Rattle.net_core.specs.Value.{bit_of}

-- nets with bits
abbrev pub Pairs : Type 0
Pairs = List (ℕ × Bool)

abbrev pub keys : Pairs → List ℕ
keys [] = []
keys (p ∷ ps) = p.0 ∷ keys ps

-- the bit of the first pair with the net, and that of f where there is none
abbrev pub given : Pairs → (ℕ → Bool) → ℕ → Bool
given [] f n = f n
given (p ∷ ps) f n = cond (p.0 == n) p.1 (given ps f n)

-- the nets of the pairs have the pairs' bits
abbrev pub Gives : (ℕ → Bool) → Pairs → Type 0
Gives f ps = (n : ℕ) (b : Bool) → Has ps (n, b) → f n ≡ b

pub here : (n m : ℕ) (a b : Bool) → m ≡ n → ◌≡◌ {A = Bool} (cond (m == n) a b) a
here n m a b same = grind (arith, nat_tests)

pub elsewhere : (n m : ℕ) (a b : Bool) → m ≢ n → ◌≡◌ {A = Bool} (cond (m == n) a b) b
elsewhere n m a b other = grind (arith, nat_tests)

pub has_or : (ns : List ℕ) (n : ℕ) → Has ns n ⊎ (Has ns n → ⊥)
has_or [] n = inr (λ has. let got = has.1 in absurd (cc))
has_or (m ∷ ms) n =
    elim (nat_eq_or m n) [
      | inl same ↦ inl (0, ap Some same)
      | inr other ↦ elim (has_or ms n) [
        | inl has ↦ inl (suc has.0, has.1)
        | inr none ↦ inr (λ has. neither has.0 has.1 other none)
      ]
    ]
  where
    neither : (k : ℕ) → slice_get (m ∷ ms) k ≡ Some n → m ≢ n → (Has ms n → ⊥) → ⊥
    neither zero got other none = other (cc)
    neither (suc k) got other none = none (k, got)

pub given_not : (ps : Pairs) (f : ℕ → Bool) (n : ℕ) → (Has (keys ps) n → ⊥) → given ps f n ≡ f n
given_not [] f n none = refl
given_not (p ∷ ps) f n none = elsewhere n p.0 p.1 (given ps f n) (λ same. none (0, ap Some same)) ∙ given_not ps f n (λ has. none (suc has.0, has.1))

pub has_key : (ps : Pairs) (n : ℕ) (b : Bool) → Has ps (n, b) → Has (keys ps) n
has_key [] n b has = let got = has.1 in absurd (cc)
has_key (p ∷ ps) n b (zero, got) = let same : p ≡ (n, b) = cc in (0, ap (λ (q : ℕ × Bool). Some q.0) same)
has_key (p ∷ ps) n b (suc k, got) = let rest = has_key ps n b (k, got) in (suc rest.0, rest.1)

pub given_has : (ps : Pairs) (f : ℕ → Bool) → ((n : ℕ) → times n (keys ps) ≤ 1) → Gives (given ps f) ps
given_has [] f once n b has = let got = has.1 in absurd (cc)
given_has (p ∷ ps) f once n b (zero, got) =
    let same : p ≡ (n, b) = cc in
    here n p.0 p.1 (given ps f n) (ap (λ (q : ℕ × Bool). q.0) same) ∙ ap (λ (q : ℕ × Bool). q.1) same
given_has (p ∷ ps) f once n b (suc k, got) =
    let later = has_key ps n b (k, got) in
    let other : p.0 ≢ n = λ same. twice same (times_get n (keys ps) later.0 later.1) in
    elsewhere n p.0 p.1 (given ps f n) other ∙ given_has ps f (λ m. fewer m) n b (k, got)
  where
    twice : p.0 ≡ n → 1 ≤ times n (keys ps) → ⊥
    twice same some = omega (arith, once n, one_here n p.0 same)

    fewer : (m : ℕ) → times m (keys ps) ≤ 1
    fewer m = omega (arith, once m)

-- the list of the bits of the first nets
abbrev pub bits_by : ℕ → (ℕ → Bool) → List Bool
bits_by zero f = []
bits_by (suc m) f = f 0 ∷ bits_by m (λ i. f (suc i))

pub bits_long : (m : ℕ) (f : ℕ → Bool) → length (bits_by m f) ≡ m
bits_long zero f = refl
bits_long (suc m) f = ap suc (bits_long m (λ i. f (suc i)))

pub bits_at : (m : ℕ) (f : ℕ → Bool) (n : ℕ) → n < m → bit_of (bits_by m f) n ≡ f n
bits_at zero f n less = absurd (omega arith)
bits_at (suc m) f zero less = refl
bits_at (suc m) f (suc n) less = bits_at m (λ i. f (suc i)) n (omega arith)
