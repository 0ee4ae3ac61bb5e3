-- Levels of points, one after another.
use Rattle.std.proofs.Common.{◌≡◌, ◌≢◌, ◌∙◌, ap, sym, refl, subst, inl, inr, ◌⊎◌, ℕ, zero, suc, ◌<◌, ◌≤◌, ◌+◌, max, All, List, [], ◌∷◌, ◌++◌, length, set, Some, arith}
use Rattle.std.specs.Prelude.{slice_get, slice_index}
use Rattle.std.proofs.lemmas.Bool.{cases_order}
use Rattle.std.proofs.lemmas.Option.{slice_get_within}
use Rattle.lists.specs.Lists.{Has}
use Rattle.lists.specs.laws.HasLaws.{all_from}
use Rattle.lists.specs.laws.ListLaws.{length_more}
use Rattle.lists.specs.laws.ReadLaws.{get_below, get_set_other, get_set_same}
use Rattle.graph_core.specs.Arranged.{IsArranged}
use Rattle.graph_core.specs.Graph.{edges, Graph}
use Rattle.compose_polys.specs.LevelOrder.{first_numbers, level_from, level_over, AreLevels}

-- ---- numbers

pub numbers_long : (n : ℕ) → length (first_numbers n) ≡ n
numbers_long zero = refl
numbers_long (suc n) = omega (arith, length_more (first_numbers n) n, numbers_long n)

last_at : (xs : List ℕ) (x i : ℕ) → i ≡ length xs → slice_get (xs ++ x ∷ []) i ≡ Some x
last_at [] x zero e = refl
last_at [] x (suc i) e = absurd (omega (arith, e))
last_at (y ∷ xs) x zero e = absurd (omega (arith, e))
last_at (y ∷ xs) x (suc i) e = last_at xs x i (omega (arith, e))

front_at : (xs : List ℕ) (x y i : ℕ) → slice_get xs i ≡ Some y → slice_get (xs ++ x ∷ []) i ≡ Some y
front_at [] x y i got = absurd (cc)
front_at (z ∷ xs) x y zero got = got
front_at (z ∷ xs) x y (suc i) got = front_at xs x y i got

-- each number stands at its place
pub number_at : (n a : ℕ) → a < n → slice_get (first_numbers n) a ≡ Some a
number_at zero a less = absurd (omega (arith, less))
number_at (suc n) a less =
    elim (cases_order a n) [
      | inl same ↦ let P : ℕ → Type 0 = λ x. slice_get (first_numbers n ++ x ∷ []) a ≡ Some a in subst P same (last_at (first_numbers n) a a (same ∙ sym (numbers_long n)))
      | inr other ↦ elim other [ inl low ↦ front_at (first_numbers n) n a a (number_at n a low) | inr high ↦ absurd (omega (arith, less, high)) ]
    ]

pub read_number : (n i a : ℕ) → slice_get (first_numbers n) i ≡ Some a → a ≡ i
read_number n i a got =
    let less : i < n = omega (arith, slice_get_within (first_numbers n) i a got, numbers_long n) in
    let here : slice_get (first_numbers n) i ≡ Some i = number_at n i less in
    let same : a ≡ i = cc in
    same

pub numbers_below : (n : ℕ) → All (λ a. a < n) (first_numbers n)
numbers_below n = all_from (λ a. a < n) (first_numbers n) (λ a has. omega (arith, read_number n has.0 a has.1, slice_get_within (first_numbers n) has.0 a has.1, numbers_long n))

-- ---- one point after another

set_long : (levels : List ℕ) (a v : ℕ) → length (set levels a v) ≡ length levels
set_long [] a v = refl
set_long (l ∷ levels) zero v = refl
set_long (l ∷ levels) (suc a) v = ap suc (set_long levels a v)

set_read : (levels : List ℕ) (a v b : ℕ) → b ≢ a → slice_index (set levels a v) b ≡ slice_index levels b
set_read [] a v b other = refl
set_read (l ∷ levels) zero v zero other = absurd (other refl)
set_read (l ∷ levels) zero v (suc b) other = refl
set_read (l ∷ levels) (suc a) v zero other = refl
set_read (l ∷ levels) (suc a) v (suc b) other = set_read levels a v b (λ e. other (ap suc e))

set_within : (levels : List ℕ) (a v i l : ℕ) → slice_get (set levels a v) i ≡ Some l → (l ≡ v) ⊎ Has levels l
set_within [] a v i l got = absurd (cc)
set_within (x ∷ levels) zero v zero l got = let same : v ≡ l = cc in inl (sym same)
set_within (x ∷ levels) zero v (suc i) l got = inr (suc i, got)
set_within (x ∷ levels) (suc a) v zero l got = inr (zero, got)
set_within (x ∷ levels) (suc a) v (suc i) l got = elim (set_within levels a v i l got) [ inl same ↦ inl same | inr has ↦ inr (suc has.0, has.1) ]

level_kept : (levels : List ℕ) (a v m : ℕ) (bs : List ℕ) → ((b : ℕ) → Has bs b → b ≢ a) → level_from (set levels a v) m bs ≡ level_from levels m bs
level_kept levels a v m [] other = refl
level_kept levels a v m (b ∷ bs) other =
    ap (λ x. level_from (set levels a v) (max m (x + 1)) bs) (set_read levels a v b (other b (zero, refl)))
    ∙ level_kept levels a v (max m (slice_index levels b + 1)) bs (λ c has. other c (suc has.0, has.1))

-- the first m points of the order have their levels, which are at most m
pub record AreFirstLevels (graph : Graph) (order : List ℕ) (m : ℕ) (levels : List ℕ) : Type 0 where
  pub long : length levels ≡ length graph
  pub low : (l : ℕ) → Has levels l → l ≤ m
  pub over : (j a l : ℕ) → j < m → slice_get order j ≡ Some a → slice_get levels a ≡ Some l → l ≡ level_over levels (edges graph a)

module _ (graph : Graph) (roots order : List ℕ) (arranged : IsArranged graph roots order) where
  pub one_level : (m a v : ℕ) (levels new : List ℕ) → slice_get order m ≡ Some a → new ≡ set levels a v → v ≡ level_over levels (edges graph a) → v ≤ m + 1 → AreFirstLevels graph order m levels → AreFirstLevels graph order (m + 1) new
  one_level m a v levels new here e is low first =
      let P : List ℕ → Type 0 = AreFirstLevels graph order (m + 1) in
      subst P (sym e) (record { long = set_long levels a v ∙ first.long; low = lower; over = over })
    where
      lower : (l : ℕ) → Has (set levels a v) l → l ≤ m + 1
      lower l has = elim (set_within levels a v has.0 l has.1) [ inl same ↦ omega (arith, same, low) | inr old ↦ omega (arith, first.low l old) ]

      -- a point that stands here or before does not lead to this one
      elsewhere : (j c : ℕ) → j ≤ m → slice_get order j ≡ Some c → (b : ℕ) → Has (edges graph c) b → b ≢ a
      elsewhere j c before at b edge same =
          let earlier = arranged.after j c b at edge in
          let P : ℕ → Type 0 = λ x. slice_get order earlier.0 ≡ Some x in
          let twice = arranged.once earlier.0 m a (subst P same earlier.2) here in
          omega (arith, earlier.1, twice, before)

      over : (j c l : ℕ) → j < m + 1 → slice_get order j ≡ Some c → slice_get (set levels a v) c ≡ Some l → l ≡ level_over (set levels a v) (edges graph c)
      over j c l less at got =
          elim (cases_order j m) [
            | inl same ↦
                let P : ℕ → Type 0 = λ x. slice_get order x ≡ Some c in
                let at_m : slice_get order m ≡ Some c = subst P same at in
                let here_m : slice_get order m ≡ Some a = here in
                let point : c ≡ a = cc in
                let old = get_below levels a (omega (arith, first.long, arranged.inside a (m, here))) in
                let own : slice_get (set levels a v) a ≡ Some v = get_set_same levels a old.0 v old.1 in
                let Q : ℕ → Type 0 = λ x. slice_get (set levels a v) x ≡ Some l in
                let got_a : slice_get (set levels a v) a ≡ Some l = subst Q point got in
                let value : l ≡ v = cc in
                value ∙ is ∙ sym (ap (λ x. level_over (set levels a v) (edges graph x)) point ∙ level_kept levels a v 1 (edges graph a) (elsewhere m a (omega arith) here))
            | inr other ↦ elim other [
              | inl before ↦
                  let apart : c ≢ a = (λ same. let P : ℕ → Type 0 = λ x. slice_get order j ≡ Some x in let twice = arranged.once j m a (subst P same at) here in omega (arith, twice, before)) in
                  let old = get_below levels c (omega (arith, first.long, arranged.inside c (j, at))) in
                  let kept : slice_get (set levels a v) c ≡ Some old.0 = get_set_other levels a v c old.0 apart old.1 in
                  let value : l ≡ old.0 = cc in
                  value ∙ first.over j c old.0 before at old.1 ∙ sym (level_kept levels a v 1 (edges graph c) (elsewhere j c (omega (arith, before)) at))
              | inr after ↦ absurd (omega (arith, less, after))
            ]
          ]

  pub all_levels : (m : ℕ) (levels : List ℕ) → length order ≤ m → ((a : ℕ) → a < length graph → Has order a) → AreFirstLevels graph order m levels → AreLevels graph levels
  all_levels m levels last all first = record {
    long = first.long;
    over = λ a l got.
        let place = all a (omega (arith, first.long, slice_get_within levels a l got)) in
        first.over place.0 a l (omega (arith, last, slice_get_within order place.0 a place.1)) place.1 got;
  }
