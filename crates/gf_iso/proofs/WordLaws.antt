-- A word whose list basis are the images of the numbers 2 to the i.
use Rattle.std.proofs.Common.{ℕ, sym, ◌∙◌, ap, ◌^◌, ◌*◌, ◌%◌, arith, pow_pos, mod-lt, List, length}
use Rattle.std.specs.Int.Bits.{xor_mod}
use Rattle.std.proofs.lemmas.Nat.{pow_below}
use native.Mathlib.Nat.{mod-eq_of_lt}
use Rattle.irreducible.specs.laws.AdditiveLaws.{IsAdditive, combination-additive}
use Rattle.gf_iso.specs.Isomorphism.{IsHomomorphism, HasSameWord}

-- a map that keeps the sums of elements is additive, when numbers are cut to elements
pub IsAdditive-clipped : (k : ℕ) (first second : ℕ → ℕ → ℕ) (f : ℕ → ℕ) → IsHomomorphism k first second f → IsAdditive (λ a. f (a % 2 ^ k))
IsAdditive-clipped k first second f h = record { sum = λ a b. ap f (xor_mod a b k) ∙ h.sum (a % 2 ^ k) (b % 2 ^ k) (mod-lt a (pow_pos k)) (mod-lt b (pow_pos k)) }

pub same_word : (n g : ℕ) (cs : List ℕ) (big : ℕ → ℕ → ℕ) → HasSameWord n g cs big
same_word n g cs big there back basis bits iso size at h =
    combination-additive basis (λ a. there (a % 2 ^ (n * length cs))) (IsAdditive-clipped (n * length cs) _ _ there iso.isomorphism.there_keeps)
    (λ i l. at i l ∙ ap there (sym (mod-eq_of_lt (pow_below i (n * length cs) (omega (arith, size)))))) bits
    ∙ ap (λ x. there (x % 2 ^ (n * length cs))) (mod-eq_of_lt h)
    ∙ ap there (mod-eq_of_lt (rw (sym size) h))
