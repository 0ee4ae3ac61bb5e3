-- The steps of the code, over plain lists and numbers.
use Rattle.std.proofs.Common.{◌≡◌, ◌≢◌, ℕ, suc, refl, sym, inl, inr, pow_pos, ◌∙◌, ap, ap₂, ◌<◌, ◌≤◌, ◌^◌, ◌+◌, arith, add-one, subst, List, length, take, set, get_or, get_or-set_same, get_or-set_other}
use Rattle.std.specs.Prelude.{bit_xor, Option, None, Some, IsSome}
use Rattle.std.proofs.lemmas.List.{length-take-le, get_or-take, get_or_past}
use Rattle.std.proofs.lemmas.Bool.{cases_eq, cases_lt}
use Rattle.gf_field.specs.Ring.{IsRing}
use Rattle.gf_field.specs.Power.{power}
use Rattle.gf_field.specs.Polynomial.{coefficient}
use Rattle.gf_field.specs.Trace.{frobenius}
use Rattle.irreducible.specs.Span.{combination}
use Rattle.irreducible.specs.Matrix.{IsSquare}
use Rattle.gf_iso.specs.Root.{value_at}
use Rattle.gf_iso.specs.private.Fields.{base_image, fixed, quadratic}
use Rattle.gf_iso.specs.private.Search.{IsLeastOf}
use Rattle.gf_iso.proofs.CarriedLaws.{value_at_below}
use Rattle.gf_iso.proofs.IsoLaws.{value_combination}

-- ---- rows of a matrix, written into an array
pub fixed_row : (mul : ℕ → ℕ → ℕ) (n i u r : ℕ) → u ≡ 2 ^ i → r ≡ frobenius mul n u → bit_xor r u ≡ fixed mul n (2 ^ i)
fixed_row mul n i u r e is = ap₂ bit_xor (is ∙ ap (frobenius mul n) e) e

pub quadratic_row : (mul : ℕ → ℕ → ℕ) (b i u p q : ℕ) → u ≡ 2 ^ i → p ≡ mul u u → q ≡ mul b u → bit_xor p q ≡ quadratic mul b (2 ^ i)
quadratic_row mul b i u p q e p_is q_is = ap₂ bit_xor (p_is ∙ ap₂ mul e e) (q_is ∙ ap (mul b) e)

pub taken_size : (k d : ℕ) (rows : List ℕ) → k ≡ d → d ≤ 64 → length rows ≡ 64 → length (take k rows) ≡ d
taken_size k d rows e small whole = length-take-le k rows (omega arith) ∙ e

pub taken_square : (k d : ℕ) (rows : List ℕ) → k ≡ d → d ≤ 64 → length rows ≡ 64 → ((j : ℕ) → j < k → get_or rows j 0 < 2 ^ d) → IsSquare (take k rows)
taken_square k d rows e small whole short j h =
    let l : j < k = omega (arith, taken_size k d rows e small whole) in
    rw (taken_size k d rows e small whole, get_or-take k rows j 0 l) (short j l)

-- ---- the value of the base's modulus
pub taken_value : (k : ℕ) (big : ℕ → ℕ → ℕ) → IsRing k big → (y : ℕ) (all : List ℕ) (n u : ℕ) → length all ≡ 64 → n ≤ 16 → ((j : ℕ) → j < n + 1 → get_or all j 0 ≡ power big y j) → combination (take (n + 1) all) u ≡ value_at big (suc n) (coefficient 1 u) y
taken_value k big ring y all n u whole small at =
    sym (value_combination k big ring y (take (n + 1) all) (suc n) u (size ∙ add-one n) (λ i l. get_or-take (n + 1) all i 0 (omega (arith, size)) ∙ at i (omega (arith, size))))
  where
    size : length (take (n + 1) all) ≡ n + 1
    size = length-take-le (n + 1) all (omega arith)

-- ---- arrays
pub set_all : (P : ℕ → Type 0) (xs : List ℕ) (i v : ℕ) → i < length xs → ((j : ℕ) → P (get_or xs j 0)) → P v → (j : ℕ) → P (get_or (set xs i v) j 0)
set_all P xs i v room all here j = elim (cases_eq j i) [
  | inl e ↦ subst (λ (m : ℕ). P (get_or (set xs i v) m 0)) (sym e) (subst P (sym (get_or-set_same xs i v 0 room)) here)
  | inr ne ↦ subst P (sym (other ne)) (all j)
]
  where
    other : j ≢ i → get_or (set xs i v) j 0 ≡ get_or xs j 0
    other ne = rw get_or-set_other refl

pub kept_low : (xs : List ℕ) (n i v j : ℕ) → j < n → get_or (set xs (n + i) v) j 0 ≡ get_or xs j 0
kept_low xs n i v j h = let ne : j ≢ n + i = omega arith in rw get_or-set_other refl

pub more_high : (Q : ℕ → ℕ → Type 0) (xs : List ℕ) (n i v : ℕ) → n + i < length xs → ((j : ℕ) → j < i → Q j (get_or xs (n + j) 0)) → Q i v → (j : ℕ) → j < i + 1 → Q j (get_or (set xs (n + i) v) (n + j) 0)
more_high Q xs n i v room before here j h = elim (cases_eq j i) [
  | inl e ↦ subst (λ (m : ℕ). Q m (get_or (set xs (n + i) v) (n + m) 0)) (sym e) (subst (Q i) (sym (get_or-set_same xs (n + i) v 0 room)) here)
  | inr ne ↦ subst (Q j) (sym (other ne)) (before j (omega arith))
]
  where
    other : j ≢ i → get_or (set xs (n + i) v) (n + j) 0 ≡ get_or xs (n + j) 0
    other ne = let apart : n + j ≢ n + i = omega arith in rw get_or-set_other refl

pub taken_elements : (d n : ℕ) (xs : List ℕ) → n ≤ length xs → ((j : ℕ) → get_or xs j 0 < 2 ^ d) → (j : ℕ) → get_or (take n xs) j 0 < 2 ^ d
taken_elements d n xs room all j = elim (cases_lt j n) [
  | inl h ↦ rw (get_or-take n xs j 0 h) (all j)
  | inr h ↦ rw (get_or_past (take n xs) j 0 (omega (arith, length-take-le n xs room))) (pow_pos d)
]

-- ---- the image of an element of the base
pub powers_image : (k : ℕ) (big : ℕ → ℕ → ℕ) → IsRing k big → (s : ℕ) (powers : List ℕ) (u : ℕ) → ((j : ℕ) → j < length powers → get_or powers j 0 ≡ power big s j) → combination powers u ≡ base_image big (length powers) s u
unfolding base_image
powers_image k big ring s powers u at = sym (value_combination k big ring s powers (length powers) u refl at)

pub image_below : (k : ℕ) (big : ℕ → ℕ → ℕ) → IsRing k big → (n s u : ℕ) → base_image big n s u < 2 ^ k
unfolding base_image
image_below k big ring n s u = value_at_below k big ring n (coefficient 1 u) s

-- ---- what is found
pub found_some : (k : ℕ) (f : ℕ → ℕ) (vectors : List ℕ) (start : ℕ) (r : Option ℕ) → IsLeastOf k f vectors start r → (IsLeastOf k f vectors start None → ⊥) → IsSome r
found_some k f vectors start None least other = absurd (other least)
found_some k f vectors start (Some y) least other = refl
