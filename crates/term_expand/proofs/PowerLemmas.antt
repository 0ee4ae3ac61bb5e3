-- The powers of what feeds a word.
use Rattle.std.proofs.Common.{◌≡◌, ◌∙◌, ap, sym, subst, ℕ, zero, suc, ◌<◌, ◌+◌, ◌^◌, List, [], ◌∷◌, map, arith, add-one, pow-suc}
use Rattle.std.specs.Prelude.{slice_get, slice_index, Some}
use Rattle.std.specs.Option.{option_map}
use Rattle.std.proofs.lemmas.Option.{get_or_from_slice_get, slice_get-map}
use Rattle.gf_field.specs.Ring.{IsRing}
use Rattle.gf_field.specs.Field.{HasNoZeroDivisors}
use Rattle.gf_field.specs.Power.{power}
use Rattle.gf_field.specs.laws.PowerLaws.{power-add, power-one}
use Rattle.poly_mixed.specs.Polynomial.{value, IsPolynomialOf, IsReduced, Point, Terms}
use Rattle.poly_mixed.proofs.FieldLaws.{field_of}
use Rattle.poly_mixed.proofs.ProductLemmas.{value_element}
use Rattle.term_expand.specs.Feeds.{feed_values, AreReduced}
use Rattle.term_expand.specs.private.Reached.{IsFeedPower}
use Rattle.term_expand.specs.private.Square.{square_of}

feed_value : (mul : ℕ → ℕ → ℕ) (feeds : List Terms) (w : ℕ) (ts : Terms) (p : Point) → slice_get feeds w ≡ Some ts → slice_get (feed_values mul feeds p) w ≡ Some (value mul p ts)
feed_value mul [] w ts p got = absurd (cc)
feed_value mul (us ∷ feeds) zero ts p got = let same : us ≡ ts = cc in ap (λ vs. Some (value mul p vs)) same
feed_value mul (us ∷ feeds) (suc w) ts p got = feed_value mul feeds w ts p got

pub feed_reduced : (k : ℕ) (feeds : List Terms) (w : ℕ) (ts : Terms) → AreReduced k feeds → slice_get feeds w ≡ Some ts → IsReduced k ts
feed_reduced k [] w ts all got = absurd (cc)
feed_reduced k (us ∷ feeds) zero ts all got = let same : us ≡ ts = cc in let P : Terms → Type 0 = IsReduced k in subst P same all.0
feed_reduced k (us ∷ feeds) (suc w) ts all got = feed_reduced k feeds w ts all.1 got

-- one of the feeds
pub fed : {A : Type 0} (f : A → Terms) (xs : List A) (w : ℕ) (x : A) → slice_get xs w ≡ Some x → slice_get (map f xs) w ≡ Some (f x)
fed f xs w x got = slice_get-map f xs w ∙ ap (option_map f) got

module _ (k : ℕ) (mul : ℕ → ℕ → ℕ) (ring : IsRing k mul) (field : HasNoZeroDivisors k mul) (feeds : List Terms) (w : ℕ) where
  -- what feeds the word is its power 2^0
  pub power_first : (ts us : Terms) → AreReduced k feeds → slice_get feeds w ≡ Some ts → IsPolynomialOf k mul (λ p. value mul p ts) us → IsFeedPower k mul (feed_values mul feeds) w 0 us
  power_first ts us all got is = record {
    reduced = is.reduced;
    values = λ p at.
        let x : ℕ = value mul p ts in
        let read : slice_index (feed_values mul feeds p) w ≡ x = get_or_from_slice_get (feed_values mul feeds p) w x 0 (feed_value mul feeds w ts p got) in
        let element : x < 2 ^ k = value_element (field_of k mul ring field) p at ts (feed_reduced k feeds w ts all got).terms in
        is.values p at ∙ sym (ap (λ y. power mul y (2 ^ 0)) read ∙ power-one k mul ring x element);
  }

  twice : (j : ℕ) → 2 ^ j + 2 ^ j ≡ 2 ^ (j + 1)
  twice j = let up : 2 ^ suc j ≡ 2 ^ (j + 1) = ap (λ n. 2 ^ n) (sym (add-one j)) in omega (arith, pow-suc 2 j, up)

  -- its square is the next power
  pub power_next : (j : ℕ) (ts us : Terms) → IsFeedPower k mul (feed_values mul feeds) w j ts → IsPolynomialOf k mul (λ p. square_of mul (value mul p ts)) us → IsFeedPower k mul (feed_values mul feeds) w (j + 1) us
  power_next j ts us a is = record {
    reduced = is.reduced;
    values = λ p at.
        let x : ℕ = slice_index (feed_values mul feeds p) w in
        is.values p at ∙ ap (square_of mul) (a.values p at) ∙ sym (power-add k mul ring x (2 ^ j) (2 ^ j)) ∙ ap (power mul x) (twice j);
  }
