-- Lists in which one entry is changed, and terms that are added one by one.
use Rattle.std.proofs.Common.{◌≡◌, ◌∙◌, ap, sym, subst, inl, inr, ℕ, zero, suc, ◌<◌, ◌≤◌, ◌+◌, ◌^◌, List, [], ◌∷◌, ◌++◌, length, take, drop, take_all, append-nil, drop_of_length-le, length-set, get_or-set_same, get_or-set_other, bit_xor, arith}
use Rattle.std.specs.Prelude.{slice_index, slice_set, replicate}
use Rattle.std.specs.List.{AllByRecursion}
use Rattle.std.proofs.lemmas.Bool.{cases_eq}
use Rattle.std.proofs.lemmas.Nat.{pow_pos}
use Rattle.cert_check.specs.private.Held.{power_of}

all_put : (k : ℕ) (xs : List ℕ) (i x : ℕ) → AllByRecursion (λ e. e < 2 ^ k) xs → x < 2 ^ k → AllByRecursion (λ e. e < 2 ^ k) (slice_set xs i x)
all_put k [] i x all less = tt
all_put k (y ∷ ys) zero x all less = (less, all.1)
all_put k (y ∷ ys) (suc i) x all less = (all.0, all_put k ys i x all.1 less)

all_none : (k n : ℕ) → AllByRecursion (λ e. e < 2 ^ k) (replicate n 0)
all_none k zero = tt
all_none k (suc n) = (pow_pos k, all_none k n)

-- the exponents of a power of one word
pub power_exponents : (k word e : ℕ) → e < 2 ^ k → AllByRecursion (λ x. x < 2 ^ k) (power_of word e).exponents
power_exponents k word e less = all_put k (replicate 8 0) word e (all_none k 8) less

-- a list that is written whole
pub refilled : (old new : List ℕ) (n : ℕ) → length new ≡ length old → n ≡ length old → take n (new ++ drop (length new) old) ≡ new
refilled old new n same long =
    let past : drop (length new) old ≡ [] = drop_of_length-le old {i = length new} (omega (arith, same)) in
    ap (λ (xs : List ℕ). take n (new ++ xs)) past ∙ (ap (take n) (append-nil new) ∙ take_all n new (omega (arith, same, long)))

-- where the sums of the entries before place j are made
pub record AreSums (mul : ℕ → ℕ → ℕ) (c : ℕ) (old from : List ℕ) (j : ℕ) (new : List ℕ) : Type 0 where
  pub long : length new ≡ length old
  pub before : (i : ℕ) → i < j → slice_index new i ≡ bit_xor (slice_index old i) (mul c (slice_index from i))
  pub after : (i : ℕ) → j ≤ i → slice_index new i ≡ slice_index old i

-- one more sum
pub sums_more : (mul : ℕ → ℕ → ℕ) (c : ℕ) (old from now new : List ℕ) (j p : ℕ) → j < length old → p ≡ mul c (slice_index from j) → new ≡ slice_set now j (bit_xor (slice_index now j) p) → AreSums mul c old from j now → AreSums mul c old from (j + 1) new
sums_more mul c old from now new j p less made is are =
    let v : ℕ = bit_xor (slice_index now j) p in
    let A : List ℕ → Type 0 = AreSums mul c old from (j + 1) in
    subst A (sym is)
    (record {
      long = length-set now j v ∙ are.long;
      before = λ i low. elim (cases_eq i j) [
        | inl here ↦
            ap (slice_index (slice_set now j v)) here
            ∙ (get_or-set_same now j v 0 (omega (arith, less, are.long))
            ∙ ((λ k. bit_xor (are.after j (omega arith) k) (made k))
            ∙ ap (λ (n : ℕ). bit_xor (slice_index old n) (mul c (slice_index from n))) (sym here)))
        | inr other ↦ get_or-set_other now j i v 0 other ∙ are.before i (omega (arith, low, other))
      ];
      after = λ i high. get_or-set_other now j i v 0 (λ e. omega (arith, high, e)) ∙ are.after i (omega (arith, high));
    })
