-- The running sums of pairs, one after another.
use Rattle.std.proofs.Common.{◌≡◌, ◌⊎◌, inl, inr, ◌∙◌, ap, sym, refl, subst, ℕ, List, [], ◌∷◌, ◌++◌, length, bit_xor, Ok, arith}
use Rattle.lists.specs.laws.XorLaws.{xor_turn}
use lib.Bits.{xor_self, xor_assoc, xor_zero_l, xor_zero_r}
use Rattle.gf_basis.specs.declared.bases.Basis.{Basis}
use Rattle.net_words.specs.Binding.{BoundNet}
use Rattle.poly_mixed.specs.Polynomial.{Terms, Point, IsPoint, value}
use Rattle.poly_mixed.specs.Steps.{Step}
use Rattle.poly_mixed.proofs.FieldLaws.{IsField}
use Rattle.poly_mixed.proofs.SimpleLemmas.{reduced_nothing}
use Rattle.cert_check.specs.Running.{generator_value, products, output_value}
use Rattle.cert_check.specs.Verdict.{IsRunningSum, AsksAtMost}
use Rattle.cert_laws.proofs.SizedLemmas.{IsSized}

-- where a list of steps is split, so is its first part or its second
cut_list : (xs ys a b : List Step) → xs ++ ys ≡ a ++ b → ((c : List Step) × (xs ≡ a ++ c)) ⊎ ((c : List Step) × (a ≡ xs ++ c) × (ys ≡ c ++ b))
cut_list [] ys a b e = inr (a, refl, e)
cut_list (x ∷ xs) ys [] b e = inl (x ∷ xs, refl)
cut_list (x ∷ xs) ys (y ∷ a) b e =
    let head : x ≡ y = ap (first x) e in
    let tail : xs ++ ys ≡ a ++ b = ap rest e in
    elim (cut_list xs ys a b tail) [
      | inl found ↦ inl (found.0, λ i. head i ∷ found.1 i)
      | inr found ↦ inr (found.0, (λ i. sym head i ∷ found.1 i), found.2)
    ]
  where
    first : Step → List Step → Step
    first d [] = d
    first d (z ∷ zs) = z

    rest : List Step → List Step
    rest [] = []
    rest (z ∷ zs) = zs

nothing_left : (a b : List Step) → [] ≡ a ++ b → a ≡ []
nothing_left [] b e = refl
nothing_left (x ∷ a) b e = absurd (cc)

module _ (k : ℕ) (mul : ℕ → ℕ → ℕ) (bound : BoundNet) (bases : List Basis) (f : IsField k mul) (claim : Terms) (most : ℕ) where
  abbrev pub all_products : List Step → Point → ℕ
  all_products steps p = products k mul bound bases steps p

  products_append : (xs ys : List Step) (p : Point) → all_products (xs ++ ys) p ≡ bit_xor (all_products xs p) (all_products ys p)
  products_append [] ys p = sym (xor_zero_l (all_products ys p))
  products_append (x ∷ xs) ys p =
      let own : ℕ = mul (generator_value k mul bound bases x.0 p) (value mul p x.1) in
      ap (bit_xor own) (products_append xs ys p) ∙ sym (xor_assoc own (all_products xs p) (all_products ys p))

  -- with the claim the function has a polynomial within the bound
  abbrev pub IsLow : (Point → ℕ) → Type 0
  IsLow v = IsSized k mul (λ p. bit_xor (v p) (value mul p claim)) most

  -- the function that the products of the first steps make of another, with a polynomial
  record IsMet (v : Point → ℕ) (steps : List Step) : Type 0 where
    met : Point → ℕ
    is : (p : Point) → IsPoint k p → bit_xor (v p) (all_products steps p) ≡ met p
    low : IsLow met

  -- from the function v the products of the steps lead to w, and on the way each sum is within the bound
  pub record Walk (v w : Point → ℕ) (steps : List Step) : Type 0 where
    each : (a b : List Step) → steps ≡ a ++ b → IsMet v a
    pub ends : (p : Point) → IsPoint k p → bit_xor (v p) (all_products steps p) ≡ w p

  pub walk_none : (v w : Point → ℕ) → IsLow v → ((p : Point) → IsPoint k p → v p ≡ w p) → Walk v w []
  walk_none v w low same = record {
    each = λ a b e.
        let P : List Step → Type 0 = IsMet v in
        subst P (sym (nothing_left a b e)) (record { met = v; is = λ p at. xor_zero_r (v p); low = low });
    ends = λ p at. xor_zero_r (v p) ∙ same p at;
  }

  pub walk_one : (v w : Point → ℕ) (s : Step) → IsLow v → IsLow w → ((p : Point) → IsPoint k p → bit_xor (v p) (mul (generator_value k mul bound bases s.0 p) (value mul p s.1)) ≡ w p) → Walk v w (s ∷ [])
  walk_one v w s low high step = record {
    each = each;
    ends = whole;
  }
    where
      whole : (p : Point) → IsPoint k p → bit_xor (v p) (all_products (s ∷ []) p) ≡ w p
      whole p at = ap (bit_xor (v p)) (xor_zero_r (mul (generator_value k mul bound bases s.0 p) (value mul p s.1))) ∙ step p at

      each : (a b : List Step) → s ∷ [] ≡ a ++ b → IsMet v a
      each [] b e = record { met = v; is = λ p at. xor_zero_r (v p); low = low }
      each (x ∷ []) b e =
          let head : s ≡ x = ap first e in
          let P : Step → Type 0 = λ y. IsMet v (y ∷ []) in
          subst P head (record { met = w; is = whole; low = high })
        where
          first : List Step → Step
          first [] = s
          first (z ∷ zs) = z
      each (x ∷ y ∷ a) b e = absurd (longer (ap length e))
        where
          longer : 1 ≡ length (x ∷ y ∷ (a ++ b)) → ⊥
          longer h = omega (arith, h)

  pub walk_then : (u v w : Point → ℕ) (xs ys : List Step) → Walk u v xs → Walk v w ys → Walk u w (xs ++ ys)
  walk_then u v w xs ys one two = record {
    each = λ a b e. elim (cut_list xs ys a b e) [
      | inl found ↦ one.each a found.0 found.1
      | inr found ↦
          let met = two.each found.0 b found.2 in
          let P : List Step → Type 0 = IsMet u in
          subst P (sym found.1) (record { met = met.met; is = λ p at. over found.0 p at ∙ met.is p at; low = met.low })
    ];
    ends = λ p at. over ys p at ∙ two.ends p at;
  }
    where
      over : (c : List Step) (p : Point) → IsPoint k p → bit_xor (u p) (all_products (xs ++ c) p) ≡ bit_xor (v p) (all_products c p)
      over c p at = ap (bit_xor (u p)) (products_append xs c p) ∙ sym (xor_assoc (u p) (all_products xs p) (all_products c p)) ∙ ap (λ x. bit_xor x (all_products c p)) (one.ends p at)

  -- the sums of a certificate whose pairs lead from the output to the claim
  module _ (pairs : List Step) (walk : Walk (output_value k mul bound bases) (λ p. value mul p claim) pairs) where
    pub within : (n : ℕ) (shared : List Terms) (front back : List Step) → pairs ≡ front ++ back → AsksAtMost k mul bound bases most n (record { claim = claim; shared = shared; pairs = front }) (Ok tt)
    within n shared front back e =
        let met = walk.each front back e in
        let sized = met.low in (
          sized.terms,
          record {
            reduced = sized.is.reduced;
            values = λ p at. sized.is.values p at ∙ ap (λ x. bit_xor x (value mul p claim)) (sym (met.is p at)) ∙ xor_turn (output_value k mul bound bases p) (all_products front p) (value mul p claim);
          },
          sized.small,
        )

    pub nothing_left_over : (shared : List Terms) → IsRunningSum k mul bound bases (record { claim = claim; shared = shared; pairs = pairs }) []
    nothing_left_over shared = record {
      reduced = reduced_nothing f;
      values = λ p at. sym (xor_turn (output_value k mul bound bases p) (value mul p claim) (all_products pairs p) ∙ ap (λ x. bit_xor x (value mul p claim)) (walk.ends p at) ∙ xor_self (value mul p claim));
    }
