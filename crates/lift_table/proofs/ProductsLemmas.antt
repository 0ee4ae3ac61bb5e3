-- The products of all elements, one after another.
use Rattle.std.proofs.Common.{◌≡◌, ◌∙◌, ap, ap₂, sym, subst, inl, inr, ℕ, ◌+◌, ◌*◌, ◌/◌, ◌%◌, ◌<◌, ◌^◌, List, [], ◌∷◌, ◌++◌, length, get_or, arith}
use Rattle.std.proofs.Math.ListN.{get_or-append}
use Rattle.std.proofs.Math.Seq.{get_or-append_seam}
use Rattle.std.proofs.lemmas.Bool.{cases_eq}
use Rattle.std.proofs.lemmas.Nat.{pow_pos, pow-add, div-mul-add, mod-mul-add, div_below, mod_below}
use Rattle.lift_table.specs.private.Products.{AreProducts}
use Rattle.lift_table.proofs.GatherLemmas.{inside, pushed_long}

-- so many products there are
pub all_pairs : (k n : ℕ) → n ≡ 2 ^ (k * 2) → 2 ^ k * 2 ^ k ≡ n
all_pairs k n is = let twice : k * 2 ≡ k + k = omega arith in sym (pow-add 2 k k) ∙ (ap (λ m. 2 ^ m) (sym twice) ∙ sym is)

-- the place of a product
pub place_within : (k a b n : ℕ) → a < 2 ^ k → b < 2 ^ k → n ≡ 2 ^ (k * 2) → b * 2 ^ k + a < n
place_within k a b n first second is = inside b (2 ^ k) a (2 ^ k) n second first (let e = all_pairs k n is in omega (arith, e))

module _ (k : ℕ) (mul : ℕ → ℕ → ℕ) where
  -- the first i products
  pub record AreProductsTo (i : ℕ) (list : List ℕ) : Type 0 where
    pub long : length list ≡ i
    pub at : (j : ℕ) → j < i → get_or list j 0 ≡ mul (j % 2 ^ k) (j / 2 ^ k)

  pub one_product : (before after : List ℕ) (i v : ℕ) → after ≡ before ++ v ∷ [] → v ≡ mul (i % 2 ^ k) (i / 2 ^ k) → AreProductsTo i before → AreProductsTo (i + 1) after
  one_product before after i v is value so = record {
    long = pushed_long before after v i is so.long;
    at = λ j less.
        ap (λ (xs : List ℕ). get_or xs j 0) is
        ∙ elim (cases_eq j i) [
          | inl e ↦ ap (λ n. get_or (before ++ v ∷ []) n 0) (e ∙ sym so.long) ∙ (get_or-append_seam before v [] 0 ∙ (value ∙ ap (λ n. mul (n % 2 ^ k) (n / 2 ^ k)) (sym e)))
          | inr n ↦ let small : j < i = omega arith in let within : j < length before = omega (arith, so.long) in get_or-append before (v ∷ []) 0 j within ∙ so.at j small
        ];
  }

  pub all_products : (n : ℕ) (list : List ℕ) → n ≡ 2 ^ (k * 2) → AreProductsTo n list → AreProducts k mul list
  all_products n list is so = record {
    long = so.long ∙ is;
    at = λ a b first second. so.at (b * 2 ^ k + a) (place_within k a b n first second is) ∙ ap₂ mul (mod-mul-add b (2 ^ k) a first) (div-mul-add b (2 ^ k) a first);
  }

-- the parts of a place
pub low_part : (k count i : ℕ) → count ≡ 2 ^ k → i % count < 2 ^ k
low_part k count i is = subst (λ (m : ℕ). i % m < 2 ^ k) (sym is) (mod_below i (2 ^ k) (pow_pos k))

pub high_part : (k n count i : ℕ) → count ≡ 2 ^ k → n ≡ 2 ^ (k * 2) → i < n → i / count < 2 ^ k
high_part k n count i is all less =
    let room : i < 2 ^ k * 2 ^ k = (let e = all_pairs k n all in omega (arith, e, less)) in
    subst (λ (m : ℕ). i / m < 2 ^ k) (sym is) (div_below i (2 ^ k) (2 ^ k) (pow_pos k) room)
