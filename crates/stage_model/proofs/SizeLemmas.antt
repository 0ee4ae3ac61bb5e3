-- The polynomials and sizes of stages that are functions.
use Rattle.std.proofs.Common.{◌≡◌, ◌∙◌, ap, sym, refl, subst, ℕ, true, false, not, cond, [], ◌∷◌, length}
use Rattle.gf_field.specs.Ring.{IsRing}
use Rattle.gf_field.specs.Field.{HasNoZeroDivisors}
use Rattle.gf_field.specs.laws.RootsLaws.{HasFewRoots-from_field}
use Rattle.poly_mixed.specs.Monomial.{has_bit}
use Rattle.poly_mixed.specs.Polynomial.{IsPoint, Terms, Point, value}
use Rattle.poly_mixed.specs.Cofactor.{LacksBit, at_bit, lacking}
use Rattle.poly_mixed.specs.laws.Uniqueness.{InBits, Unique}
use Rattle.poly_mixed.proofs.FieldLaws.{field_of}
use Rattle.poly_mixed.proofs.RootLemmas.{independent}
use Rattle.poly_mixed.proofs.UniquenessLemmas.{unique}
use Rattle.poly_mixed.proofs.FirstWordLemmas.{first_point, is_first_point, first_alone}
use Rattle.poly_mixed.proofs.CofactorLemmas.{value-lacking, reduced_lacking}
use Rattle.stage_model.specs.Stage.{IsOfStage, HasSize}

-- the stage relates no point to two elements
abbrev pub IsFunction : ℕ → (Point → ℕ → Type 0) → Type 0
IsFunction k stage = (p : Point) (x y : ℕ) → IsPoint k p → stage p x → stage p y → x ≡ y

module _ (k : ℕ) (mul : ℕ → ℕ → ℕ) (ring : IsRing k mul) (field : HasNoZeroDivisors k mul) where
  pub is_unique : Unique k mul
  is_unique = let f = field_of k mul ring field in unique f (independent f (HasFewRoots-from_field k mul ring field))

  module _ (stage : Point → ℕ → Type 0) (one : IsFunction k stage) where
    pub same_terms : (ts us : Terms) → IsOfStage k mul stage ts → IsOfStage k mul stage us → ts ≡ us
    same_terms ts us a b = is_unique ts us a.reduced b.reduced (λ p at. one p (value mul p ts) (value mul p us) at (a.values p at) (b.values p at))

    pub same_size : (m n : ℕ) → HasSize k mul stage m → HasSize k mul stage n → m ≡ n
    same_size m n a b = sym a.size ∙ (ap length (same_terms a.terms b.terms a.is b.is) ∙ b.size)

    -- where the stage does not depend on a bit, its polynomial lacks it
    pub lacks : (bit : ℕ) (ts : Terms) → IsOfStage k mul stage ts → ((p : Point) (x : ℕ) → IsPoint k p → stage p x → stage (at_bit p bit false) x) → LacksBit bit ts
    lacks bit ts is blind =
        let same : lacking bit ts ≡ ts =
        is_unique (lacking bit ts) ts (reduced_lacking k bit ts is.reduced) is.reduced
        (λ p at. value-lacking mul p bit ts ∙ one (at_bit p bit false) (value mul (at_bit p bit false) ts) (value mul p ts) (moved p at) (is.values (at_bit p bit false) (moved p at)) (blind p (value mul p ts) at (is.values p at))) in
        let P : Terms → Type 0 = LacksBit bit in
        subst P same (none ts)
      where
        moved : (p : Point) → IsPoint k p → IsPoint k (at_bit p bit false)
        moved p at = record { words = at.words; elements = at.elements }

        none : (ts : Terms) → LacksBit bit (lacking bit ts)
        none [] = tt
        none (t ∷ ts) = elim (has_bit bit t.0) as (λ b. has_bit bit t.0 ≡ b → LacksBit bit (cond (not b) (t ∷ lacking bit ts) (lacking bit ts))) [ true ↦ λ e. none ts | false ↦ λ e. (e, none ts) ] refl

    -- where the stage does not depend on the words, no word stands in its polynomial
    pub wordless_stage : (ts : Terms) → IsOfStage k mul stage ts → ((p : Point) (x : ℕ) → IsPoint k p → stage (first_point 0 p) x → stage p x) → InBits ts
    wordless_stage ts is blind =
        let f = field_of k mul ring field in
        first_alone f is_unique 0 ts is.reduced
        (λ p at. one p (value mul (first_point 0 p) ts) (value mul p ts) at (blind p (value mul (first_point 0 p) ts) at (is.values (first_point 0 p) (is_first_point f 0 p at))) (is.values p at))
