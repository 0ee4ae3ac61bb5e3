-- Between a field and a tower of degree 2 with as many elements there is the isomorphism that takes x and Y to the least roots.
use Rattle.std.proofs.Common.{◌≡◌, ◌≢◌, ◌⊎◌, ◌∙◌, ap, sym, refl, subst, inl, inr, ℕ, zero, suc, ◌+◌, ◌-◌, ◌*◌, ◌<◌, ◌≤◌, ◌^◌, true, false, cond, List, [], ◌∷◌, get_or, length, take, arith}
use Rattle.std.specs.Prelude.{nat_lt}
use Rattle.std.proofs.lemmas.Bool.{cases_eq, cases_lt, ltb-false, ltb-true}
use Rattle.std.proofs.lemmas.List.{get_or-take, length-take-le}
use Rattle.gf_basis.specs.Basis.{first_values}
use Rattle.gf_basis.proofs.CodeLaws.{get_or-first_values, length-first_values}
use Rattle.gf_field.specs.Field.{HasNoZeroDivisors}
use Rattle.gf_field.specs.Polynomial.{coefficient}
use Rattle.gf_field.specs.Power.{power}
use Rattle.gf_field.specs.Ring.{IsRing}
use Rattle.gf_field.specs.laws.PigeonholeLaws.{FoundAt}
use Rattle.gf_field.specs.laws.PowerLaws.{one_below}
use Rattle.gf_iso.specs.Isomorphism.{IsIsoOf}
use Rattle.gf_iso.specs.Root.{value_at, IsLeastRoot}
use Rattle.gf_iso.specs.private.Fields.{base_image, IsTowerField}
use Rattle.gf_iso.proofs.FoundLaws.{first_count, found_independent, found_iso}
use Rattle.gf_iso.proofs.SubfieldLaws.{base_root_found}
use Rattle.gf_iso.proofs.TowerImageLaws.{tower_root_found}
use Rattle.gf_tower.specs.Tower.{tower_polynomial}
use Rattle.irreducible.specs.Matrix.{IsSquare}
use Rattle.irreducible.specs.Span.{combination}
use Rattle.exist_laws.proofs.InverseExists.{some_inverse}

-- ---- the least root

-- a function is 0 at none of the first n numbers, or at one that is the least
abbrev Searched : (ℕ → ℕ) → ℕ → Type 0
Searched f n = ((i : ℕ) → i < n → f i ≢ 0) ⊎ ((y : ℕ) × (y < n) × (f y ≡ 0) × ((i : ℕ) → i < y → f i ≢ 0))

searched : (f : ℕ → ℕ) (n : ℕ) → Searched f n
searched f zero = inl (λ i less. absurd (omega (arith, less)))
searched f (suc n) =
    elim (searched f n) [
      | inl none ↦ elim (cases_eq (f n) 0) [
        | inl here ↦ inr (n, omega arith, here, none)
        | inr other ↦ inl (λ i less same. elim (cases_eq i n) [ inl last ↦ other (sym (ap f last) ∙ same) | inr apart ↦ none i (omega (arith, less, apart)) same ])
      ]
      | inr found ↦ inr (found.0, omega (arith, found.1), found.2, found.3)
    ]

some_least : (k : ℕ) (mul : ℕ → ℕ → ℕ) (m : ℕ) (f : ℕ → ℕ) → FoundAt (λ y. value_at mul m f y) (2 ^ k) 0 → (y : ℕ) × IsLeastRoot k mul m f y
some_least k mul m f found =
    elim (searched (λ y. value_at mul m f y) (2 ^ k)) [
      | inl none ↦ absurd (none found.at found.below found.is)
      | inr first ↦ (first.0, record { element = first.1; root = first.2; least = λ x less root. past first.0 x root first.3 })
    ]
  where
    past : (y x : ℕ) → value_at mul m f x ≡ 0 → ((i : ℕ) → i < y → value_at mul m f i ≢ 0) → y ≤ x
    past y x root before = elim (cases_lt x y) [ inl less ↦ absurd (before x less root) | inr most ↦ most ]

-- ---- the images of 1, 2, 4, ..

module _ (k : ℕ) (big : ℕ → ℕ → ℕ) (ring : IsRing k big) (field : HasNoZeroDivisors k big) (n g c0 c1 : ℕ) (tower : IsTowerField n g c0 c1) (double : k ≡ n * 2) where
  root : (s : ℕ) × IsLeastRoot k big (suc n) (coefficient 1 g) s
  root = some_least k big (suc n) (coefficient 1 g) (base_root_found n g tower.base k big ring field double)

  s : ℕ
  s = root.0

  s_is : IsLeastRoot k big (suc n) (coefficient 1 g) s
  unfolding s
  s_is = root.1

  carried_to : ℕ → ℕ → ℕ
  carried_to m i = base_image big m s (coefficient m (tower_polynomial m (c0 ∷ c1 ∷ [])) i)

  upper : (t : ℕ) × IsLeastRoot k big 3 (λ i. base_image big n s (coefficient n (tower_polynomial n (c0 ∷ c1 ∷ [])) i)) t
  upper = some_least k big 3 (λ i. base_image big n s (coefficient n (tower_polynomial n (c0 ∷ c1 ∷ [])) i)) (tower_root_found n g c0 c1 tower k big ring double s s_is.element s_is.root field)

  t : ℕ
  t = upper.0

  t_is : IsLeastRoot k big 3 (λ i. base_image big n s (coefficient n (tower_polynomial n (c0 ∷ c1 ∷ [])) i)) t
  unfolding t
  t_is = upper.1

  all : List ℕ
  all = first_values 64 (λ j. power big s j)

  all_long : length all ≡ 64
  unfolding all
  all_long = length-first_values 64 (λ j. power big s j)

  small : n ≤ 16
  small = tower.base.small

  all_at : (j : ℕ) → j < n → get_or all j 0 ≡ power big s j
  unfolding all
  all_at j less = get_or-first_values 64 (λ i. power big s i) j (omega (arith, less, small))

  taken_at : (j : ℕ) → j < n → get_or (take n all) j 0 ≡ power big s j
  taken_at j less = get_or-take n all j 0 less ∙ all_at j less

  count : length (take n all) ≡ n
  count = first_count n all small all_long

  image_of : ℕ → ℕ
  image_of j = cond (nat_lt j n) (power big s j) (big t (power big s (j - n)))

  rows : List ℕ
  rows = first_values 64 image_of

  rows_long : length rows ≡ 64
  unfolding rows
  rows_long = length-first_values 64 image_of

  low_at : (j : ℕ) → j < n → get_or rows j 0 ≡ power big s j
  unfolding rows image_of
  low_at j less = get_or-first_values 64 (λ i. cond (nat_lt i n) (power big s i) (big t (power big s (i - n)))) j (omega (arith, less, small)) ∙ ap (λ b. cond b (power big s j) (big t (power big s (j - n)))) (below j less)
    where
      below : (j : ℕ) → j < n → nat_lt j n ≡ true
      below j less = elim (nat_lt j n) as (λ b. nat_lt j n ≡ b → nat_lt j n ≡ true) [ true ↦ λ e. e | false ↦ λ e. absurd (let more = ltb-false j n e in omega (arith, more, less)) ] refl

  high_at : (j : ℕ) → j < n → get_or rows (n + j) 0 ≡ big t (power big s j)
  unfolding rows image_of
  high_at j less =
      get_or-first_values 64 (λ i. cond (nat_lt i n) (power big s i) (big t (power big s (i - n)))) (n + j) (omega (arith, less, small)) ∙ ap (λ b. cond b (power big s (n + j)) (big t (power big s (n + j - n)))) above
      ∙ ap (λ i. big t (power big s i)) (let same : n + j - n ≡ j = omega arith in same)
    where
      above : nat_lt (n + j) n ≡ false
      above = elim (nat_lt (n + j) n) as (λ b. nat_lt (n + j) n ≡ b → nat_lt (n + j) n ≡ false) [ true ↦ λ e. absurd (let less = ltb-true (n + j) n e in omega (arith, less)) | false ↦ λ e. e ] refl

  -- ---- the isomorphism

  first_rows : (j : ℕ) → j < length (take n all) → get_or rows j 0 ≡ get_or (take n all) j 0
  first_rows j less = let here : j < n = omega (arith, count, less) in low_at j here ∙ sym (taken_at j here)

  last_rows : (j : ℕ) → j < length (take n all) → get_or rows (length (take n all) + j) 0 ≡ big t (get_or (take n all) j 0)
  last_rows j less =
      let here : j < n = omega (arith, count, less) in
      ap (λ m. get_or rows (m + j) 0) count ∙ (high_at j here ∙ ap (big t) (sym (taken_at j here)))

  t_there : IsLeastRoot k big 3 (λ i. base_image big (length (take n all)) s (coefficient (length (take n all)) (tower_polynomial (length (take n all)) (c0 ∷ c1 ∷ [])) i)) t
  t_there =
      let P : ℕ → Type 0 = λ m. IsLeastRoot k big 3 (λ i. base_image big m s (coefficient m (tower_polynomial m (c0 ∷ c1 ∷ [])) i)) t in
      subst P (sym count) t_is

  taken_rows : length (take (2 * n) rows) ≡ k
  taken_rows = length-take-le (2 * n) rows (omega (arith, rows_long, small)) ∙ (let turned : 2 * n ≡ k = omega (arith, double) in turned)

  power_low : (i : ℕ) → power big s i < 2 ^ k
  unfolding power
  power_low zero = one_below k big ring
  power_low (suc i) = ring.closed s (power big s i)

  image_low : (j : ℕ) → image_of j < 2 ^ k
  unfolding image_of
  image_low j = elim (nat_lt j n) as (λ b. cond b (power big s j) (big t (power big s (j - n))) < 2 ^ k) [ true ↦ power_low j | false ↦ ring.closed t (power big s (j - n)) ]

  square : IsSquare (take (2 * n) rows)
  unfolding rows
  square i less =
      let here : i < k = omega (arith, taken_rows, less) in
      let P : ℕ → Type 0 = λ x. x < 2 ^ k in
      let Q : ℕ → Type 0 = λ m. get_or (take (2 * n) rows) i 0 < 2 ^ m in
      let at : get_or (take (2 * n) rows) i 0 ≡ image_of i = get_or-take (2 * n) rows i 0 (omega (arith, here, double)) ∙ get_or-first_values 64 image_of i (omega (arith, here, double, small)) in
      subst Q (sym taken_rows) (subst P (sym at) (image_low i))

  pub some_iso : (there : ℕ → ℕ) × (back : ℕ → ℕ) × IsIsoOf n g (c0 ∷ c1 ∷ []) big there back
  some_iso =
      let free = found_independent k big ring field n g c0 c1 tower double s s_is all all_long all_at t t_there rows rows_long first_rows last_rows in
      let inverse = some_inverse (take (2 * n) rows) square free in
      (combination (take (2 * n) rows), combination inverse.0, found_iso k big ring field n g c0 c1 tower double s s_is all all_long all_at t t_there rows rows_long first_rows last_rows inverse.0 inverse.1)
