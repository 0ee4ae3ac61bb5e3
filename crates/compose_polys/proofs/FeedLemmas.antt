-- Polynomials of feeds.
use Rattle.std.proofs.Common.{◌≡◌, ◌≢◌, ◌∙◌, ap, ap₂, sym, refl, subst, inl, inr, ◌⊎◌, ℕ, zero, suc, ◌<◌, ◌+◌, ◌^◌, List, [], ◌∷◌, ◌++◌, length, map, set, Some, arith}
use Rattle.std.specs.Prelude.{slice_get, slice_index}
use Rattle.std.specs.Option.{unwrap_or}
use Rattle.std.specs.List.{AllByRecursion}
use Rattle.lists.specs.Lists.{Has}
use Rattle.gf_field.specs.Power.{power}
use Rattle.gf_field.specs.Ring.{IsRing}
use Rattle.gf_field.specs.laws.PowerLaws.{power-one}
use Rattle.poly_mixed.specs.Polynomial.{IsElement, IsPolynomialOf, IsReduced, Terms}
use Rattle.compose_polys.specs.Instance.{AreReduced}
use Rattle.compose_model.specs.Wiring.{instances_among}
use Rattle.compose_model.specs.declared.feeder.Feeder.{Feeder}
use Rattle.compose_model.specs.declared.feeder.Feeder.TheVariants.{InputWord, OutputOf}
use Rattle.compose_polys.specs.Words.{feed_terms, AreWordPolys}

-- ---- words

word_element : (k : ℕ) (xs : List ℕ) (w : ℕ) → AllByRecursion (IsElement k) xs → w < length xs → slice_index xs w < 2 ^ k
word_element k [] w all less = absurd (omega (arith, less))
word_element k (x ∷ xs) zero all less = all.0
word_element k (x ∷ xs) (suc w) all less = word_element k xs w all.1 (omega (arith, less))

-- 1 times the power 1 of a word is the word
pub word_itself : (k : ℕ) (mul : ℕ → ℕ → ℕ) (w : ℕ) (ts : Terms) → IsRing k mul → w < 8 → IsPolynomialOf k mul (λ p. mul 1 (power mul (slice_index p.words w) 1)) ts → IsPolynomialOf k mul (λ p. slice_index p.words w) ts
word_itself k mul w ts ring less is = record {
  reduced = is.reduced;
  values = λ p at.
      let x : ℕ = slice_index p.words w in
      let element : x < 2 ^ k = word_element k p.words w at.elements (omega (arith, at.words, less)) in
      is.values p at ∙ ap (mul 1) (power-one k mul ring x element) ∙ ring.one x element;
}

last_read : (xs : List Terms) (x y : Terms) (w : ℕ) → slice_get (xs ++ x ∷ []) w ≡ Some y → ((w ≡ length xs) × (x ≡ y)) ⊎ (slice_get xs w ≡ Some y)
last_read [] x y zero got = let same : x ≡ y = cc in inl (refl, same)
last_read [] x y (suc w) got = absurd (cc)
last_read (z ∷ xs) x y zero got = inr got
last_read (z ∷ xs) x y (suc w) got = elim (last_read xs x y w got) [ inl here ↦ inl (ap suc here.0, here.1) | inr there ↦ inr there ]

pub words_more : (k : ℕ) (mul : ℕ → ℕ → ℕ) (words new : List Terms) (n : ℕ) (ts : Terms) → new ≡ words ++ ts ∷ [] → length words ≡ n → AreWordPolys k mul words → IsPolynomialOf k mul (λ p. slice_index p.words n) ts → AreWordPolys k mul new
words_more k mul words new n ts e long are is w us got =
    let P : List Terms → Type 0 = λ vs. slice_get vs w ≡ Some us in
    elim (last_read words ts us w (subst P e got)) [
      | inl here ↦
          let at : w ≡ n = here.0 ∙ long in
          let Q : Terms → Type 0 = λ vs. IsPolynomialOf k mul (λ p. slice_index p.words w) vs in
          let R : ℕ → Type 0 = λ v. IsPolynomialOf k mul (λ p. slice_index p.words v) ts in
          subst Q here.1 (subst R (sym at) is)
      | inr there ↦ are w us there
    ]

-- ---- feeds

pub mapped_more : {A : Type 0} (g : A → Terms) (xs : List A) (x : A) → map g (xs ++ x ∷ []) ≡ map g xs ++ g x ∷ []
mapped_more g [] x = refl
mapped_more g (y ∷ xs) x = ap (λ ys. g y ∷ ys) (mapped_more g xs x)

-- ---- other polynomials

mapped_same : (g h : Feeder → Terms) (fs : List Feeder) → ((j : ℕ) (f : Feeder) → slice_get fs j ≡ Some f → g f ≡ h f) → map g fs ≡ map h fs
mapped_same g h [] same = refl
mapped_same g h (f ∷ fs) same = ap₂ (λ y ys. y ∷ ys) (same 0 f refl) (mapped_same g h fs (λ j e got. same (suc j) e got))

other_read : (polys : List Terms) (i j : ℕ) (ts : Terms) → j ≢ i → unwrap_or (slice_get (set polys i ts) j) [] ≡ unwrap_or (slice_get polys j) []
other_read [] i j ts other = refl
other_read (p ∷ polys) zero zero ts other = absurd (other refl)
other_read (p ∷ polys) zero (suc j) ts other = refl
other_read (p ∷ polys) (suc i) zero ts other = refl
other_read (p ∷ polys) (suc i) (suc j) ts other = other_read polys i j ts (λ e. other (ap suc e))

pub among : (fs : List Feeder) (n i : ℕ) → slice_get fs n ≡ Some (OutputOf i) → Has (instances_among fs) i
among [] n i got = absurd (cc)
among (InputWord w ∷ fs) zero i got = absurd (cc)
among (InputWord w ∷ fs) (suc n) i got = among fs n i got
among (OutputOf j ∷ fs) zero i got = let same : j ≡ i = cc in (zero, ap Some same)
among (OutputOf j ∷ fs) (suc n) i got = let found = among fs n i got in (suc found.0, found.1)

-- feeds of which none is an instance have the same polynomials whatever polynomial the instance has
pub feeds_kept : (words polys : List Terms) (feeds : List Feeder) (i : ℕ) (ts : Terms) → (Has (instances_among feeds) i → ⊥) → map (feed_terms words (set polys i ts)) feeds ≡ map (feed_terms words polys) feeds
feeds_kept words polys feeds i ts none = mapped_same (feed_terms words (set polys i ts)) (feed_terms words polys) feeds each
  where
    each : (j : ℕ) (f : Feeder) → slice_get feeds j ≡ Some f → feed_terms words (set polys i ts) f ≡ feed_terms words polys f
    each j (InputWord w) got = refl
    each j (OutputOf n) got = other_read polys i n ts (λ same. let P : ℕ → Type 0 = Has (instances_among feeds) in none (subst P same (among feeds j n got)))

read_reduced : (k : ℕ) (polys : List Terms) (i : ℕ) → AreReduced k polys → IsReduced k [] → IsReduced k (unwrap_or (slice_get polys i) [])
read_reduced k [] i all none = none
read_reduced k (p ∷ polys) zero all none = all.0
read_reduced k (p ∷ polys) (suc i) all none = read_reduced k polys i all.1 none

-- the polynomials of feeds are over the field
pub feeds_reduced : (k : ℕ) (words polys : List Terms) (feeds : List Feeder) → AreReduced k words → AreReduced k polys → IsReduced k [] → AreReduced k (map (feed_terms words polys) feeds)
feeds_reduced k words polys [] a b none = tt
feeds_reduced k words polys (InputWord w ∷ feeds) a b none = (read_reduced k words w a none, feeds_reduced k words polys feeds a b none)
feeds_reduced k words polys (OutputOf i ∷ feeds) a b none = (read_reduced k polys i b none, feeds_reduced k words polys feeds a b none)
