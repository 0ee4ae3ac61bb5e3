-- The basis of the output word, out of those of all words of a binding.
use Rattle.std.proofs.Common.{◌≡◌, ◌≢◌, ◌∙◌, ap, sym, refl, subst, ℕ, zero, suc, ◌+◌, cond, List, [], ◌∷◌, length, map, drop, filter, Some, arith}
use Rattle.std.specs.Prelude.{slice_get}
use Rattle.net_words.specs.Roles.{same_role}
use Rattle.net_words.specs.declared.bound.BoundWord.{BoundWord}
use Rattle.net_words.specs.declared.word.Role.{Role}
use Rattle.net_words.specs.declared.word.Role.TheVariants.{Input, State, Fed, Output}
use Rattle.gf_basis.specs.BasisParts.{elements_of}
use Rattle.gf_basis.specs.declared.bases.Basis.{Basis}
use Rattle.circuit_model.specs.OfBinding.{output_basis, output_basis_with}

at_word : (words : List BoundWord) (bases : List Basis) (w : ℕ) (word : BoundWord) (basis : Basis) → slice_get words w ≡ Some word → slice_get bases w ≡ Some basis
    → output_basis (drop w words) (drop w (map elements_of bases)) ≡ output_basis_with word.role (elements_of basis) (output_basis (drop (suc w) words) (drop (suc w) (map elements_of bases)))
at_word [] bases w word basis got at = absurd (cc)
at_word (u ∷ us) [] w word basis got at = absurd (cc)
at_word (u ∷ us) (b ∷ bs) zero word basis got at =
    let same : u ≡ word = cc in
    let same' : b ≡ basis = cc in
    (λ i. output_basis_with (same i).role (elements_of (same' i)) (output_basis us (map elements_of bs)))
at_word (u ∷ us) (b ∷ bs) (suc w) word basis got at = at_word us bs w word basis got at

-- at the output word this is its basis
pub at_output : (words : List BoundWord) (bases : List Basis) (w : ℕ) (word : BoundWord) (basis : Basis) → slice_get words w ≡ Some word → slice_get bases w ≡ Some basis → word.role ≡ Output
    → output_basis (drop w words) (drop w (map elements_of bases)) ≡ elements_of basis
at_output words bases w word basis got at is = at_word words bases w word basis got at ∙ ap (λ r. output_basis_with r (elements_of basis) (output_basis (drop (suc w) words) (drop (suc w) (map elements_of bases)))) is

-- and past another word nothing changes
pub past_other : (words : List BoundWord) (bases : List Basis) (w : ℕ) (word : BoundWord) (basis : Basis) → slice_get words w ≡ Some word → slice_get bases w ≡ Some basis → word.role ≢ Output
    → output_basis (drop (w + 1) words) (drop (w + 1) (map elements_of bases)) ≡ output_basis (drop w words) (drop w (map elements_of bases))
past_other words bases w word basis got at other =
    let up : w + 1 ≡ suc w = omega arith in
    ap (λ n. output_basis (drop n words) (drop n (map elements_of bases))) up ∙ sym (at_word words bases w word basis got at ∙ by word.role refl)
  where
    by : (r : Role) → word.role ≡ r → output_basis_with word.role (elements_of basis) (output_basis (drop (suc w) words) (drop (suc w) (map elements_of bases))) ≡ output_basis (drop (suc w) words) (drop (suc w) (map elements_of bases))
    by Input is = ap (λ q. output_basis_with q (elements_of basis) (output_basis (drop (suc w) words) (drop (suc w) (map elements_of bases)))) is
    by State is = ap (λ q. output_basis_with q (elements_of basis) (output_basis (drop (suc w) words) (drop (suc w) (map elements_of bases)))) is
    by Fed is = ap (λ q. output_basis_with q (elements_of basis) (output_basis (drop (suc w) words) (drop (suc w) (map elements_of bases)))) is
    by Output is = absurd (other is)

abbrev outputs : List BoundWord → ℕ
outputs words = length (filter (λ word. same_role word.role Output) words)

-- nor does the number of output words from there on
pub past_count : (words : List BoundWord) (w : ℕ) (word : BoundWord) → slice_get words w ≡ Some word → word.role ≢ Output → outputs (drop (w + 1) words) ≡ outputs (drop w words)
past_count words w word got other = let up : w + 1 ≡ suc w = omega arith in ap (λ n. outputs (drop n words)) up ∙ sym (rest words w got)
  where
    own : (us : List BoundWord) (r : Role) → word.role ≡ r → outputs (word ∷ us) ≡ outputs us
    own us Input is = (λ i. length (cond (same_role (is i) Output) (word ∷ filter (λ v. same_role v.role Output) us) (filter (λ v. same_role v.role Output) us)))
    own us State is = (λ i. length (cond (same_role (is i) Output) (word ∷ filter (λ v. same_role v.role Output) us) (filter (λ v. same_role v.role Output) us)))
    own us Fed is = (λ i. length (cond (same_role (is i) Output) (word ∷ filter (λ v. same_role v.role Output) us) (filter (λ v. same_role v.role Output) us)))
    own us Output is = absurd (other is)

    rest : (us : List BoundWord) (v : ℕ) → slice_get us v ≡ Some word → outputs (drop v us) ≡ outputs (drop (suc v) us)
    rest [] v at = absurd (cc)
    rest (u ∷ us) zero at = let same : word ≡ u = cc in (let P : BoundWord → Type 0 = λ x. outputs (x ∷ us) ≡ outputs us in subst P same (own us word.role refl))
    rest (u ∷ us) (suc v) at = rest us v at
