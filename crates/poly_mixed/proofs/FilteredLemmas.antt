-- The terms of a reduced polynomial that pass a test are a reduced polynomial.
use Rattle.std.proofs.Common.{◌≡◌, ℕ, ◌≢◌, Bool, true, false, cond, [], ◌∷◌}
use Rattle.std.specs.declared.cmp.Ordering.TheVariants.{Less}
use Rattle.std.specs.List.{AllByRecursion, filter}
use Rattle.std.specs.List.Sorted.{IsStrictlySortedBy}
use Rattle.std.specs.Map.{keys_of}
use Rattle.std.specs.Ordering.{nat_cmp}
use Rattle.poly_mixed.specs.Monomial.{Monomial, text_cmp}
use Rattle.poly_mixed.specs.Polynomial.{Terms, IsTerm, IsReduced}

-- the terms that pass a test, as a map
module _ (q : Monomial × ℕ → Bool) where
  filter_all : (P : Monomial × ℕ → Type 0) (ts : Terms) → AllByRecursion P ts → AllByRecursion P (filter q ts)
  filter_all P [] all = tt
  filter_all P (t ∷ ts) all = elim (q t) as (λ b. AllByRecursion P (cond b (t ∷ filter q ts) (filter q ts))) [ true ↦ (all.0, filter_all P ts all.1) | false ↦ filter_all P ts all.1 ]

  filter_below : (x : Monomial) (ts : Terms) → AllByRecursion (λ y. text_cmp x y ≡ Less) (keys_of ts) → AllByRecursion (λ y. text_cmp x y ≡ Less) (keys_of (filter q ts))
  filter_below x [] up = tt
  filter_below x (t ∷ ts) up = elim (q t) as (λ b. AllByRecursion (λ y. text_cmp x y ≡ Less) (keys_of (cond b (t ∷ filter q ts) (filter q ts)))) [ true ↦ (up.0, filter_below x ts up.1) | false ↦ filter_below x ts up.1 ]

  filter_sorted : (ts : Terms) → IsStrictlySortedBy text_cmp (keys_of ts) → IsStrictlySortedBy text_cmp (keys_of (filter q ts))
  unfolding IsStrictlySortedBy
  filter_sorted [] s = tt
  filter_sorted (t ∷ ts) s = elim (q t) as (λ b. IsStrictlySortedBy text_cmp (keys_of (cond b (t ∷ filter q ts) (filter q ts)))) [ true ↦ (filter_below t.0 ts s.0, filter_sorted ts s.1) | false ↦ filter_sorted ts s.1 ]

  pub filter_reduced : (degree : ℕ) (ts : Terms) → IsReduced degree ts → IsReduced degree (filter q ts)
  filter_reduced degree ts r = record {
    is_map = record { sorted = filter_sorted ts r.is_map.sorted; rising = filter_all (λ t. IsStrictlySortedBy nat_cmp t.0.bits) ts r.is_map.rising; nonzero = filter_all (λ t. t.1 ≢ 0) ts r.is_map.nonzero };
    terms = filter_all (IsTerm degree) ts r.terms;
  }
