-- A valid claim is the output.
use Rattle.std.proofs.Common.{◌≡◌, ◌∙◌, ap, sym, refl, subst, ℕ, List, [], ◌∷◌, length, map, take, bit_xor, arith}
use Rattle.std.proofs.lemmas.List.{length-map}
use Rattle.std.specs.List.{AllByRecursion}
use Rattle.lists.specs.laws.XorLaws.{xor_same}
use Rattle.cert_check.proofs.CheckLemmas.{bits_of}
use lib.Bits.{xor_zero_r}
use Rattle.gf_field.specs.Ring.{IsRing}
use Rattle.gf_field.specs.Field.{HasNoZeroDivisors}
use Rattle.gf_basis.specs.BasisParts.{duals_of}
use Rattle.gf_basis.specs.declared.bases.Basis.{Basis}
use Rattle.net_core.specs.Sound.{IsSound}
use Rattle.net_words.specs.Binding.{BoundNet}
use Rattle.net_words.specs.OneCycle.{IsOneCycle}
use Rattle.poly_mixed.specs.Labels.{Labelling}
use Rattle.poly_mixed.specs.Polynomial.{Terms, Point, IsPoint, value}
use Rattle.poly_mixed.specs.Steps.{Step}
use Rattle.poly_mixed.specs.declared.steps.Generator.{Generator}
use Rattle.poly_mixed.specs.declared.steps.Generator.TheVariants.{Net, Bit}
use Rattle.poly_mixed.proofs.FieldLaws.{field_of}
use Rattle.poly_mixed.proofs.FirstWordLemmas.{first_point, first_taken, is_first_point, first_alone}
use Rattle.poly_mixed.proofs.RootLemmas.{independent}
use Rattle.poly_mixed.proofs.UniquenessLemmas.{unique}
use Rattle.gf_field.specs.laws.RootsLaws.{HasFewRoots-from_field}
use Rattle.circuit_model.specs.Bases.{AreBases, circuit_in}
use Rattle.circuit_model.specs.Out.{IsOut}
use Rattle.circuit_model.proofs.OutLemmas.{one_out}
use Rattle.circuit_model.proofs.BoundLemmas.{count_of}
use Rattle.cert_check.specs.Labels.{NameWords}
use Rattle.cert_check.specs.Certificate.{Certificate}
use Rattle.cert_check.specs.Running.{dual_words, products, output_value}
use Rattle.cert_check.specs.Verdict.{IsRunningSum, AsksAtMost}
use Rattle.cert_check.specs.Output.{IsOutput, ProvesOutput}
use Rattle.cert_check.specs.private.Reading.{IsGenerator}
use Rattle.cert_check.proofs.SaidLemmas.{IsSaid, said_is}
use Rattle.poly_mixed.specs.laws.Uniqueness.{InFirstWords}
use Rattle.cert_check.proofs.SoundLemmas.{well, q, IsThere, products_zero, output_is}
use Rattle.cert_check.proofs.WordsAloneLemmas.{blind_value}

module _ (k : ℕ) (mul : ℕ → ℕ → ℕ) (bound : BoundNet) (bases : List Basis) (ring : IsRing k mul) (field : HasNoZeroDivisors k mul) (sound : IsSound bound.net) (one : IsOneCycle bound.net bound.binding) (same : bound.binding.k ≡ k) (are : AreBases k mul bound bases) (labels : Labelling) (names : NameWords bound.binding labels) where
  there : (g : Generator) (p : Point) (at : IsPoint k p) → IsGenerator bound.net labels g → IsThere k mul bound bases ring field sound one same are p at g
  there (Net n) p at is = is
  there (Bit w i) p at is =
      let count : length (dual_words bound bases) ≡ length labels.words = count_of bound.binding.words (map duals_of bases) (length-map bases duals_of ∙ are.long) ∙ sym names.count in
      (omega (arith, is.0, count), omega (arith, is.1, bits_of bound.binding.k labels.words w names.bits is.0, same))

  all_there : (steps : List Step) (p : Point) (at : IsPoint k p) → AllByRecursion (λ s. IsGenerator bound.net labels s.0) steps → AllByRecursion (λ s. IsThere k mul bound bases ring field sound one same are p at s.0) steps
  all_there [] p at all = tt
  all_there (s ∷ steps) p at all = (there s.0 p at all.0, all_there steps p at all.1)

  module _ (c : Certificate) (said : IsSaid k bound.net labels c) (sum : IsRunningSum k mul bound bases c []) where
    -- the claim has the output's value at each point
    claim_values : (p : Point) → IsPoint k p → IsOut (circuit_in k mul bound bases) (take (length (circuit_in k mul bound bases).words) p.words) (value mul p c.claim)
    claim_values p at =
        let r : Point = q k mul bound bases ring field sound one same are p at in
        let at_r : IsPoint k r = record { words = at.words; elements = at.elements } in
        let out : ℕ = output_value k mul bound bases r in
        let own : ℕ = value mul r c.claim in
        let none : products k mul bound bases c.pairs r ≡ 0 = products_zero k mul bound bases ring field sound one same are p at c.pairs (all_there c.pairs p at said.generators) in
        let zero_sum : bit_xor out own ≡ 0 = sym (sum.values r at_r ∙ (ap (bit_xor (bit_xor out own)) none ∙ xor_zero_r (bit_xor out own))) in
        let equal : out ≡ value mul p c.claim = xor_same out own zero_sum ∙ blind_value mul r p c.claim said.claim.no_bits refl in
        let P : ℕ → Type 0 = IsOut (circuit_in k mul bound bases) (take (length (circuit_in k mul bound bases).words) p.words) in
        subst P equal (output_is k mul bound bases ring field sound one same are p at)

    claim_alone : InFirstWords (length (circuit_in k mul bound bases).words) c.claim
    claim_alone =
        let n : ℕ = length (circuit_in k mul bound bases).words in
        let f = field_of k mul ring field in
        first_alone f (unique f (independent f (HasFewRoots-from_field k mul ring field))) n c.claim said.claim.reduced
        (λ p at.
        let r = first_point n p in
        let at_r = is_first_point f n p at in
        let P : List ℕ → Type 0 = λ ws. IsOut (circuit_in k mul bound bases) ws (value mul r c.claim) in
        one_out (circuit_in k mul bound bases) (take n p.words) (value mul r c.claim) (value mul p c.claim) (well k mul bound bases ring field sound one same are) (subst P (first_taken n p.words) (claim_values r at_r)) (claim_values p at))

    output_claim : IsOutput (circuit_in k mul bound bases) c.claim
    output_claim = record { reduced = said.claim.reduced; words_alone = claim_alone; no_bits = said.claim.no_bits; values = claim_values }

pub proves_output : ProvesOutput
proves_output k mul bound bases labels most bytes claim ring field sound one same are names (c, read, (is, sum)) =
    let said = said_is k bound.net labels (AsksAtMost k mul bound bases most) bytes c ring.some read in
    let P : Terms → Type 0 = IsOutput (circuit_in k mul bound bases) in
    subst P (sym is) (output_claim k mul bound bases ring field sound one same are labels names c said sum)
