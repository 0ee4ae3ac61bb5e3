-- The numbers of nets in all cycles.
use Rattle.std.proofs.Common.{◌≡◌, ◌∙◌, ap, sym, refl, inl, inr, ℕ, zero, suc, ◌<◌, ◌≤◌, ◌+◌, ◌-◌, ◌/◌, ◌%◌, List, [], ◌∷◌, Some, arith}
use Rattle.std.specs.Prelude.{slice_get}
use Rattle.std.proofs.lemmas.Bool.{cases_lt}
use Rattle.std.proofs.lemmas.Nat.{div-mul-add, mod-mul-add, mul-add-lt}
use Rattle.net_words.specs.declared.bound.BoundWord.{BoundWord}
use Rattle.net_words.specs.declared.word.Role.TheVariants.{Fed}
use Rattle.unroll.specs.Places.{net_at, cycle_nets, fed_bits, fed_count, first_bit}

pub first_at : (v n : ℕ) → net_at v 0 n ≡ n
first_at v n = omega arith

-- a net of a cycle is below the nets of all cycles
pub at_below : (v c t n : ℕ) → t ≤ c → n < v → net_at v t n < cycle_nets v c
at_below v c t n within less = omega (arith, mul-add-lt t v n (c + 1) (omega arith) less)

pub at_cycle : (v t n : ℕ) → n < v → net_at v t n / v ≡ t
at_cycle v t n less = div-mul-add t v n less

pub at_net : (v t n : ℕ) → n < v → net_at v t n % v ≡ n
at_net v t n less = mod-mul-add t v n less

-- a number is that of one net of one cycle
pub one_cycle : (v t s n m : ℕ) → n < v → m < v → net_at v t n ≡ net_at v s m → t ≡ s
one_cycle v t s n m less low same = sym (at_cycle v t n less) ∙ (ap (λ x. x / v) same ∙ at_cycle v s m low)

pub one_net : (v t s n m : ℕ) → n < v → m < v → net_at v t n ≡ net_at v s m → n ≡ m
one_net v t s n m less low same = sym (at_net v t n less) ∙ (ap (λ x. x % v) same ∙ at_net v s m low)

-- each number below is that of a net of a cycle
pub placed : (v c m : ℕ) → m < cycle_nets v c → (t : ℕ) × (n : ℕ) × (t ≤ c) × (n < v) × (net_at v t n ≡ m)
placed v zero m less = (0, m, omega arith, omega arith, omega arith)
placed v (suc c) m less =
    elim (cases_lt m (cycle_nets v c)) [
      | inl low ↦ let rest = placed v c m low in (rest.0, rest.1, omega (arith, rest.2), rest.3, rest.4)
      | inr high ↦ (suc c, m - cycle_nets v c, omega arith, omega (arith, less, high), omega (arith, high))
    ]

-- the first of two where the difference is more than 0
abbrev pub below : {X : Type 0} → ℕ → X → X → X
below zero x y = y
below (suc d) x y = x

pub below_low : {X : Type 0} (m k : ℕ) (x y : X) → m < k → below (k - m) x y ≡ x
below_low {X} m k x y less = by (k - m) (omega arith)
  where
    by : (d : ℕ) → 0 < d → below d x y ≡ x
    by zero some = absurd (omega arith)
    by (suc d) some = refl

pub below_high : {X : Type 0} (m k : ℕ) (x y : X) → k ≤ m → below (k - m) x y ≡ y
below_high {X} m k x y high = by (k - m) (omega arith)
  where
    by : (d : ℕ) → d ≡ 0 → below d x y ≡ y
    by zero none = refl
    by (suc d) none = absurd (omega arith)

-- the bit of a fed word is among the nets that the fed words add
pub bit_within : (k base : ℕ) (words : List BoundWord) (w place : ℕ) (word : BoundWord) → slice_get words w ≡ Some word → word.role ≡ Fed → place < k → (base ≤ first_bit k base words w) × (first_bit k base words w + place < base + fed_count k words)
bit_within k base [] w place word got is less = absurd (cc)
bit_within k base (u ∷ us) zero place word got is less =
    let here : u ≡ word = cc in
    let same : u.role ≡ Fed = ap (λ (o : BoundWord). o.role) here ∙ is in
    let many : fed_bits k u.role ≡ k = ap (fed_bits k) same in
    (omega arith, omega (arith, many, less))
bit_within k base (u ∷ us) (suc w) place word got is less =
    let rest = bit_within k (base + fed_bits k u.role) us w place word got is less in
    (omega (arith, rest.0), omega (arith, rest.1))

pub bit_high : (k base : ℕ) (words : List BoundWord) (w : ℕ) → base ≤ first_bit k base words w
bit_high k base [] w = omega arith
bit_high k base (u ∷ us) zero = omega arith
bit_high k base (u ∷ us) (suc w) = omega (arith, bit_high k (base + fed_bits k u.role) us w)
