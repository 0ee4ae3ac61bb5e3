-- A function of the first words and ranks has a polynomial in these alone.
use Rattle.std.proofs.Common.{◌≡◌, ◌≢◌, ◌∙◌, sym, refl, ℕ, zero, suc, ◌<◌, ◌≤◌, false, List, [], ◌∷◌, arith}
use Rattle.std.specs.Prelude.{slice_get}
use Rattle.gf_field.specs.Ring.{IsRing}
use Rattle.gf_field.specs.Field.{HasNoZeroDivisors}
use Rattle.poly_mixed.specs.Cofactor.{at_bit}
use Rattle.poly_mixed.specs.Polynomial.{Terms, Point, IsPolynomialOf, value}
use Rattle.poly_mixed.specs.laws.Uniqueness.{InFirstWords}
use Rattle.poly_mixed.proofs.FieldLaws.{field_of}
use Rattle.poly_mixed.proofs.FirstWordLemmas.{first_words, first_point, is_first_point, first_alone}
use Rattle.stage_model.specs.Stage.{IsOfStage}
use Rattle.stage_model.specs.First.{IsFunctionOfFirst, InFirstRanks}
use Rattle.stage_model.proofs.SizeLemmas.{IsFunction, is_unique, lacks}
use Rattle.stage_model.proofs.InterpolationLemmas.{LooksAtFirst, bit_elsewhere, of_first}

first_get : (n : ℕ) (ws : List ℕ) (i : ℕ) → i < n → slice_get (first_words n ws) i ≡ slice_get ws i
first_get zero ws i less = absurd (omega arith)
first_get (suc n) [] i less = refl
first_get (suc n) (w ∷ ws) zero less = refl
first_get (suc n) (w ∷ ws) (suc i) less = first_get n ws i (omega arith)

module _ (k : ℕ) (mul : ℕ → ℕ → ℕ) (ring : IsRing k mul) (field : HasNoZeroDivisors k mul) (stage : Point → ℕ → Type 0) (one : IsFunction k stage) (words ranks : ℕ) (looks : LooksAtFirst k stage words ranks) where
  -- no other word stands in the polynomial
  pub in_first_words : (ts : Terms) → IsOfStage k mul stage ts → InFirstWords words ts
  in_first_words ts is =
      let f = field_of k mul ring field in
      first_alone f (is_unique k mul ring field) words ts is.reduced
      (λ p at.
      let q = first_point words p in
      let there = is_first_point f words p at in
      one p (value mul q ts) (value mul p ts) at (looks.alone q p (value mul q ts) there at (record { elements = first_get words p.words; bits = λ r less. refl }) (is.values q there)) (is.values p at))

  -- no other rank stands in the polynomial
  pub in_first_ranks : (ts : Terms) → IsOfStage k mul stage ts → InFirstRanks ranks ts
  in_first_ranks ts is rank high =
      lacks k mul ring field stage one rank ts is
      (λ p x at has. looks.alone p (at_bit p rank false) x at (record { words = at.words; elements = at.elements }) (record { elements = λ i less. refl; bits = λ r less. sym (bit_elsewhere p rank false r (apart r less)) }) has)
    where
      apart : (r : ℕ) → r < ranks → r ≢ rank
      apart r less e = omega (arith, less, high, e)

module _ (k : ℕ) (mul : ℕ → ℕ → ℕ) (ring : IsRing k mul) (field : HasNoZeroDivisors k mul) (words ranks : ℕ) (h : Point → ℕ) (few : words ≤ 8) (is : IsFunctionOfFirst k words ranks h) where
  looks : LooksAtFirst k (λ p e. h p ≡ e) words ranks
  looks = record {
    some = λ p at. (h p, refl, is.element p at);
    alone = λ p q e at at' same has. sym (is.alone p q at at' same) ∙ has;
  }

  one : IsFunction k (λ p e. h p ≡ e)
  one p x y at a b = sym a ∙ b

  pub function_polynomial : (ts : Terms) × IsPolynomialOf k mul h ts × InFirstWords words ts × InFirstRanks ranks ts
  function_polynomial =
      let made = of_first k mul ring field words ranks (λ p e. h p ≡ e) few looks in (
        made.0,
        record { reduced = made.1.reduced; values = λ p at. sym (made.1.values p at) },
        in_first_words k mul ring field (λ p e. h p ≡ e) one words ranks looks made.0 made.1,
        in_first_ranks k mul ring field (λ p e. h p ≡ e) one words ranks looks made.0 made.1,
      )
