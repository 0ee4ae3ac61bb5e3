-- The search, at the first word of a slice and the rest.
use Rattle.std.proofs.Common.{◌≡◌, ℕ, suc, refl, inl, sym, ◌∙◌, ap, ◌<◌, ◌≤◌, ◌^◌, ◌-◌, arith, subst, List, [], ◌∷◌, length, take, drop, get_or}
use Rattle.std.specs.Prelude.{bit_xor, Option, None, Some}
use Rattle.std.specs.Int.Bits.{xor_zero_r}
use Rattle.std.proofs.Math.Seq.{take-length}
use Rattle.gf_iso.specs.private.Search.{IsLeastOf, IsLesserOf}
use Rattle.gf_iso.proofs.SearchLaws.{joined}

-- what follows the first
abbrev pub others : List ℕ → List ℕ
others xs = take (length xs - 1) (drop 1 xs)

others_are : (x : ℕ) (xs : List ℕ) → others (x ∷ xs) ≡ xs
others_are x xs = ap (λ n. take n xs) less ∙ take-length xs
  where
    less : length (x ∷ xs) - 1 ≡ length xs
    less = omega arith

pub others_below : (d : ℕ) (xs : List ℕ) → ((i : ℕ) → get_or xs i 0 < 2 ^ d) → (i : ℕ) → get_or (others xs) i 0 < 2 ^ d
others_below d [] h i = h i
others_below d (x ∷ xs) h i = subst (λ l. get_or l i 0 < 2 ^ d) (sym (others_are x xs)) (h (suc i))

module _ (k : ℕ) (f : ℕ → ℕ) where
  pub joined_at : (vectors : List ℕ) (start : ℕ) (a b r : Option ℕ) → 1 ≤ length vectors → IsLeastOf k f (others vectors) start a → IsLeastOf k f (others vectors) (bit_xor start (get_or vectors 0 0)) b → IsLesserOf a b r → IsLeastOf k f vectors start r
  joined_at [] start a b r h ha hb e = absurd (omega arith)
  joined_at (v ∷ vs) start a b r h ha hb e =
      joined k f v vs start a b r (subst (λ l. IsLeastOf k f l start a) (others_are v vs) ha) (subst (λ l. IsLeastOf k f l (bit_xor start v) b) (others_are v vs) hb) e

  -- a first word that is 0 makes no other sums
  pub skipped_at : (vectors : List ℕ) (start : ℕ) (r : Option ℕ) → 1 ≤ length vectors → get_or vectors 0 0 ≡ 0 → IsLeastOf k f (others vectors) start r → IsLeastOf k f vectors start r
  skipped_at vectors start r h z found =
      joined_at vectors start r r r h found (subst (λ s. IsLeastOf k f (others vectors) s r) (sym (ap (bit_xor start) z ∙ xor_zero_r start)) found) (lesser_self r)
    where
      lesser_self : (r : Option ℕ) → IsLesserOf r r r
      lesser_self None = refl
      lesser_self (Some a) = record { first = omega arith; second = omega arith; is = inl refl }
