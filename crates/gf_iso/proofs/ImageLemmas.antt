-- The images of bases under an isomorphism, and those of the numbers 2 to the i.
use Rattle.std.proofs.Common.{◌≡◌, ℕ, zero, suc, refl, sym, ◌∙◌, ap, subst, ◌<◌, ◌^◌, ◌%◌, arith, pow_pos, List, ◌∷◌, length, get_or, map}
use Rattle.std.proofs.lemmas.List.{get_or-map, length-map}
use native.Mathlib.Nat.{mod-eq_of_lt}
use Rattle.gf_field.specs.Element.{AreElements}
use Rattle.irreducible.specs.Span.{combination, IsIndependent}
use Rattle.irreducible.specs.laws.SpanLaws.{combination-xor, combination_below, combination_unit, combination-short}
use Rattle.irreducible.specs.laws.AdditiveLaws.{IsAdditive, IsAdditive-self, additive_zero, combination-additive}
use Rattle.gf_basis.specs.Basis.{AreBits, IsBasis, IsBasisList, first_values}
use Rattle.gf_basis.proofs.BasisLaws.{IsBasis-from_independent, IsIndependent-from_basis}
use Rattle.gf_basis.proofs.CodeLaws.{length-first_values, get_or-first_values, AreElements-units, IsIndependent-powers}
use Rattle.gf_iso.specs.Isomorphism.{IsIsomorphism}
use Rattle.gf_iso.specs.Images.{KeepsBases, HasImages, images_of}
use Rattle.gf_iso.proofs.WordLaws.{IsAdditive-clipped}

map_first : (there : ℕ → ℕ) (k : ℕ) (f : ℕ → ℕ) → map there (first_values k f) ≡ first_values k (λ i. there (f i))
map_first there zero f = refl
map_first there (suc k) f = ap (λ (xs : List ℕ). there (f 0) ∷ xs) (map_first there k (λ i. f (suc i)))

module _ (k : ℕ) (first second : ℕ → ℕ → ℕ) (there back : ℕ → ℕ) (iso : IsIsomorphism k first second there back) where
  back_zero : back 0 ≡ 0
  back_zero = ap back (sym (mod-eq_of_lt (pow_pos k))) ∙ additive_zero (λ a. back (a % 2 ^ k)) (IsAdditive-clipped k second first back iso.back_keeps)

  -- the image of a sum of elements is the sum of their images
  image_of_sum : (bs : List ℕ) (c : ℕ) → AreElements k bs → combination (map there bs) c ≡ there (combination bs c)
  image_of_sum bs c inside =
      combination-additive (map there bs) (λ d. there (combination bs d % 2 ^ k)) additive at c
      ∙ ap (λ l. there (combination bs (c % 2 ^ l) % 2 ^ k)) (length-map bs there)
      ∙ ap (λ s. there (s % 2 ^ k)) (combination-short bs c)
      ∙ ap there (mod-eq_of_lt (combination_below bs k c inside))
    where
      clipped : IsAdditive (λ a. there (a % 2 ^ k))
      clipped = IsAdditive-clipped k first second there iso.there_keeps

      additive : IsAdditive (λ d. there (combination bs d % 2 ^ k))
      additive = record { sum = λ a b. ap (λ s. there (s % 2 ^ k)) (combination-xor bs a b) ∙ clipped.sum (combination bs a) (combination bs b) }

      at : (i : ℕ) → i < length (map there bs) → get_or (map there bs) i 0 ≡ there (combination bs (2 ^ i) % 2 ^ k)
      at i h =
          let l : i < length bs = omega (arith, length-map bs there) in
          get_or-map there bs i 0 0 l ∙ ap there (sym (mod-eq_of_lt (inside i l))) ∙ ap (λ s. there (s % 2 ^ k)) (sym (combination_unit bs i))

  module _ (bs : List ℕ) (basis : IsBasis k bs) where
    size : length (map there bs) ≡ k
    size = length-map bs there ∙ basis.size

    images_inside : AreElements k (map there bs)
    images_inside i h =
        let l : i < length bs = omega (arith, length-map bs there) in
        rw (get_or-map there bs i 0 0 l) (iso.there_keeps.element (get_or bs i 0) (basis.inside i l))

    images_free : IsIndependent (map there bs)
    images_free = record { only_zero = λ c h e. at c h e }
      where
        at : (c : ℕ) → c < 2 ^ length (map there bs) → combination (map there bs) c ≡ 0 → c ≡ 0
        at c h e =
            let zero_sum : combination bs c ≡ 0 = sym (iso.undone (combination bs c) (combination_below bs k c basis.inside)) ∙ ap back (sym (image_of_sum bs c basis.inside) ∙ e) ∙ back_zero in
            (IsIndependent-from_basis k bs basis).only_zero c (subst (λ (l : ℕ). c < 2 ^ l) (length-map bs there) h) zero_sum

    images_basis : IsBasis k (map there bs)
    images_basis = IsBasis-from_independent k (map there bs) size images_inside images_free

    to_image : (x bits : ℕ) → AreBits bs x bits → AreBits (map there bs) (there x) bits
    to_image x bits are = record {
      short = subst (λ (l : ℕ). bits < 2 ^ l) (sym (length-map bs there)) are.short;
      is = image_of_sum bs bits basis.inside ∙ ap there are.is;
    }

    from_image : (x bits : ℕ) → x < 2 ^ k → AreBits (map there bs) (there x) bits → AreBits bs x bits
    from_image x bits h are = record {
      short = subst (λ (l : ℕ). bits < 2 ^ l) (length-map bs there) are.short;
      is = sym (iso.undone (combination bs bits) (combination_below bs k bits basis.inside)) ∙ ap back (sym (image_of_sum bs bits basis.inside) ∙ are.is) ∙ iso.undone x h;
    }

  pub KeepsBases-iso : KeepsBases k there
  KeepsBases-iso = record {
    basis = images_basis;
    same_bits = λ elements x bits basis h. (to_image elements basis x bits, from_image elements basis x bits h);
  }

  units_basis : IsBasis k (first_values k (λ i. 2 ^ i))
  units_basis = IsBasis-from_independent k (first_values k (λ i. 2 ^ i)) (length-first_values k (λ i. 2 ^ i)) (AreElements-units k) (IsIndependent-powers k)

  -- a number is its own bits over 1, 2, 4, ..
  own_bits : (x : ℕ) → x < 2 ^ k → AreBits (first_values k (λ i. 2 ^ i)) x x
  own_bits x h =
      let count : length (first_values k (λ i. 2 ^ i)) ≡ k = length-first_values k (λ i. 2 ^ i) in
      record {
        short = rw (count) h;
        is = combination-additive (first_values k (λ i. 2 ^ i)) (λ a. a) IsAdditive-self (λ i l. get_or-first_values k (λ i. 2 ^ i) i (omega (arith, count))) x
            ∙ ap (λ l. x % 2 ^ l) count ∙ mod-eq_of_lt h;
      }

  pub HasImages-iso : HasImages k there
  HasImages-iso =
      let same : map there (first_values k (λ i. 2 ^ i)) ≡ images_of k there = map_first there k (λ i. 2 ^ i) in
      record {
        list = subst (IsBasisList k) same (record {
          size = size (first_values k (λ i. 2 ^ i)) units_basis;
          inside = images_inside (first_values k (λ i. 2 ^ i)) units_basis;
          free = images_free (first_values k (λ i. 2 ^ i)) units_basis;
        });
        bits = λ x h. subst (λ (bs : List ℕ). AreBits bs (there x) x) same (to_image (first_values k (λ i. 2 ^ i)) units_basis x x (own_bits x h));
      }
