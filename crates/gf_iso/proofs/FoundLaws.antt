-- The arrays of powers and of images, as the search writes them, make the isomorphism.
use Rattle.std.proofs.Common.{◌≡◌, ℕ, suc, sym, ◌∙◌, ap, ◌<◌, ◌≤◌, ◌+◌, ◌*◌, arith, subst, List, [], ◌∷◌, length, take, get_or}
use Rattle.std.proofs.lemmas.List.{length-take-le, get_or-take}
use Rattle.gf_field.specs.Ring.{IsRing}
use Rattle.gf_field.specs.Field.{HasNoZeroDivisors}
use Rattle.gf_field.specs.Power.{power}
use Rattle.gf_field.specs.Polynomial.{coefficient}
use Rattle.gf_tower.specs.Tower.{tower_polynomial}
use Rattle.irreducible.specs.Span.{combination, IsIndependent}
use Rattle.irreducible.specs.Matrix.{AreInverse}
use Rattle.gf_iso.specs.Root.{IsLeastRoot}
use Rattle.gf_iso.specs.Isomorphism.{IsIsoOf}
use Rattle.gf_iso.specs.private.Fields.{IsTowerField, base_image}
use Rattle.gf_iso.proofs.IsoLaws.{made, rows_independent}

pub first_count : (n : ℕ) (all : List ℕ) → n ≤ 16 → length all ≡ 64 → length (take n all) ≡ n
first_count n all small whole = length-take-le n all (omega arith)

module _ (k : ℕ) (big : ℕ → ℕ → ℕ) (ring : IsRing k big) (field : HasNoZeroDivisors k big) (n g c0 c1 : ℕ) (tower : IsTowerField n g c0 c1) (double : k ≡ n * 2)
    (s : ℕ) (hs : IsLeastRoot k big (suc n) (coefficient 1 g) s) (all : List ℕ) (whole : length all ≡ 64) (powers : (j : ℕ) → j < n → get_or all j 0 ≡ power big s j) (t : ℕ)
    (ht : IsLeastRoot k big 3 (λ i. base_image big (length (take n all)) s (coefficient (length (take n all)) (tower_polynomial (length (take n all)) (c0 ∷ c1 ∷ [])) i)) t)
    (rows : List ℕ) (room : length rows ≡ 64) (low : (j : ℕ) → j < length (take n all) → get_or rows j 0 ≡ get_or (take n all) j 0)
    (high : (j : ℕ) → j < length (take n all) → get_or rows (length (take n all) + j) 0 ≡ big t (get_or (take n all) j 0)) where
  count : length (take n all) ≡ n
  count = first_count n all tower.base.small whole

  at_n : IsLeastRoot k big 3 (λ i. base_image big n s (coefficient n (tower_polynomial n (c0 ∷ c1 ∷ [])) i)) t
  at_n = subst (λ m. IsLeastRoot k big 3 (λ i. base_image big m s (coefficient m (tower_polynomial m (c0 ∷ c1 ∷ [])) i)) t) count ht

  power_at : (j : ℕ) → j < n → get_or (take n all) j 0 ≡ power big s j
  power_at j h = get_or-take n all j 0 h ∙ powers j h

  size : length (take (2 * n) rows) ≡ n * 2
  size = length-take-le (2 * n) rows (let small : n ≤ 16 = tower.base.small in omega arith) ∙ turned n
    where
      turned : (n : ℕ) → 2 * n ≡ n * 2
      turned n = omega arith

  low_at : (j : ℕ) → j < n → get_or (take (2 * n) rows) j 0 ≡ get_or (take n all) j 0
  low_at j h = get_or-take (2 * n) rows j 0 (omega arith) ∙ low j (omega (arith, count))

  high_at : (j : ℕ) → j < n → get_or (take (2 * n) rows) (n + j) 0 ≡ big t (get_or (take n all) j 0)
  high_at j h = get_or-take (2 * n) rows (n + j) 0 (omega arith) ∙ ap (λ m. get_or rows (m + j) 0) (sym count) ∙ high j (omega (arith, count))

  pub found_independent : IsIndependent (take (2 * n) rows)
  found_independent = rows_independent k big ring field n g c0 c1 tower double s hs t at_n (take n all) (take (2 * n) rows) count power_at size low_at high_at

  pub found_iso : (origins : List ℕ) → AreInverse (take (2 * n) rows) origins → IsIsoOf n g (c0 ∷ c1 ∷ []) big (combination (take (2 * n) rows)) (combination origins)
  found_iso origins inverse = made k big ring field n g c0 c1 tower double s hs t at_n (take n all) (take (2 * n) rows) count power_at size low_at high_at origins inverse
