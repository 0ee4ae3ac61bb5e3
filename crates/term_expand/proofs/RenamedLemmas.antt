-- The stages of one listing under the names of another: what is within the bound, and which stage is the first over it.
use Rattle.std.proofs.Common.{◌≡◌, sym, subst, ℕ}
use Rattle.poly_mixed.specs.Polynomial.{value, IsPoint, Point}
use Rattle.stage_model.specs.Stage.{HasSize, IsWithin}
use Rattle.stage_model.specs.Listing.{AreAllWithin, IsOver, Listing}

-- Each listed name has a name in the other listing, which has no others; its stage relates a point of elements to nothing that
-- the other one's does not, and what comes before it there comes before it here.
pub record IsRenamed {A B : Type 0} (k : ℕ) (one : Listing A) (other : Listing B) (name : A → B) : Type 0 where
  pub listed : (a : A) → one.is_listed a → other.is_listed (name a)
  pub named : (b : B) → other.is_listed b → (a : A) × one.is_listed a × (name a ≡ b)
  pub related : (a : A) (p : Point) (e : ℕ) → one.is_listed a → IsPoint k p → one.stage_of a p e → other.stage_of (name a) p e
  pub before : (a b : A) → other.comes_before (name a) (name b) → one.comes_before a b

module _ {A B : Type 0} (k : ℕ) (mul : ℕ → ℕ → ℕ) (one : Listing A) (other : Listing B) (name : A → B) (bound : ℕ) (is : IsRenamed k one other name) where
  size_there : (a : A) (n : ℕ) → one.is_listed a → HasSize k mul (one.stage_of a) n → HasSize k mul (other.stage_of (name a)) n
  size_there a n listed has = record {
    terms = has.terms;
    is = record { reduced = has.is.reduced; values = λ p at. is.related a p (value mul p has.terms) listed at (has.is.values p at) };
    size = has.size;
  }

  within_there : (a : A) → one.is_listed a → IsWithin k mul (one.stage_of a) bound → IsWithin k mul (other.stage_of (name a)) bound
  within_there a listed within = record { size = within.size; has = size_there a within.size listed within.has; within = within.within }

  pub all_within_there : AreAllWithin k mul one bound → AreAllWithin k mul other bound
  all_within_there all b listed =
      let found = is.named b listed in
      let P : B → Type 0 = λ c. IsWithin k mul (other.stage_of c) bound in
      subst P found.2 (within_there found.0 found.1 (all found.0 found.1))

  pub over_there : (a : A) (n : ℕ) → IsOver k mul one bound a n → IsOver k mul other bound (name a) n
  over_there a n over = record {
    listed = is.listed a over.listed;
    size = size_there a n over.listed over.size;
    over = over.over;
    before = before;
  }
    where
      before : (b : B) → other.is_listed b → other.comes_before b (name a) → IsWithin k mul (other.stage_of b) bound
      before b listed earlier =
          let found = is.named b listed in
          let P : B → Type 0 = λ c. IsWithin k mul (other.stage_of c) bound in
          let Q : B → Type 0 = λ c. other.comes_before c (name a) in
          let first = is.before found.0 a (subst Q (sym found.2) earlier) in
          subst P found.2 (within_there found.0 found.1 (over.before found.0 found.1 first))
