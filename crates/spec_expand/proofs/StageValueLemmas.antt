-- Each listed stage of a specification has exactly one value at each point.
use Rattle.std.proofs.Common.{◌≡◌, subst, ℕ, ◌<◌, ◌^◌, List, take, Some, arith}
use Rattle.std.specs.Prelude.{slice_get}
use Rattle.poly_mixed.specs.Polynomial.{Point, IsPoint}
use Rattle.poly_mixed.specs.declared.stage.Stage.{Stage}
use Rattle.poly_mixed.specs.declared.stage.Stage.TheVariants.{Cut, WordProduct, WordSum, SpecProduct, SpecSum, InstanceProduct, InstanceSum}
use Rattle.circuit_model.specs.Circuit.{Circuit}
use Rattle.circuit_model.specs.WellFormed.{IsWellFormed}
use Rattle.term_expand.proofs.StageLemmas.{sum_in}
use Rattle.spec_expand.specs.Specification.{SpecTerms}
use Rattle.spec_expand.specs.SpecValue.{powers_at, spec_at, product_at, factors_of}
use Rattle.spec_expand.specs.SpecListing.{IsAtPoint, is_spec_stage, spec_stage_of}
use Rattle.spec_expand.proofs.StageLemmas.{some_at, only_at}

module _ (c : Circuit) (well : IsWellFormed c) where
  pub some_stage : (spec : SpecTerms) (name : Stage) (p : Point) → IsPoint c.k p → is_spec_stage spec name → (e : ℕ) × spec_stage_of c spec name p e × (e < 2 ^ c.k)
  some_stage spec (SpecProduct s j) p at is =
      let found = some_at c well (λ xs. product_at c.product xs is.term j) p at (λ xs input. well.ring.closed is.term.0 (powers_at c.product xs (take j (factors_of is.term.1)))) in
      (found.0, record { place = is.place; term = is.term; number = is.number; at = is.at; is = found.1 }, found.2)
  some_stage spec (SpecSum s) p at is = some_at c well (λ xs. spec_at c.product xs (take s spec)) p at (λ xs input. sum_in c.k c.product well.ring xs (take s spec))
  some_stage spec (Cut t) p at is = absurd is
  some_stage spec (WordProduct w s j) p at is = absurd is
  some_stage spec (WordSum w s) p at is = absurd is
  some_stage spec (InstanceProduct i s j) p at is = absurd is
  some_stage spec (InstanceSum i s) p at is = absurd is

  pub only_stage : (spec : SpecTerms) (name : Stage) (p : Point) (e other : ℕ) → spec_stage_of c spec name p e → spec_stage_of c spec name p other → e ≡ other
  only_stage spec (SpecProduct s j) p e other a b =
      let place : b.place ≡ a.place = omega (arith, a.number, b.number) in
      let P : ℕ → Type 0 = λ n. slice_get spec n ≡ Some b.term in
      let there : slice_get spec a.place ≡ Some b.term = subst P place b.at in
      let here : slice_get spec a.place ≡ Some a.term = a.at in
      let same : b.term ≡ a.term = cc in
      let Q : ℕ × List (ℕ × ℕ) → Type 0 = λ t. IsAtPoint c (λ xs. product_at c.product xs t j) p other in
      only_at c well (λ xs. product_at c.product xs a.term j) p e other a.is (subst Q same b.is)
  only_stage spec (SpecSum s) p e other a b = only_at c well (λ xs. spec_at c.product xs (take s spec)) p e other a b
  only_stage spec (Cut t) p e other a b = absurd a
  only_stage spec (WordProduct w s j) p e other a b = absurd a
  only_stage spec (WordSum w s) p e other a b = absurd a
  only_stage spec (InstanceProduct i s j) p e other a b = absurd a
  only_stage spec (InstanceSum i s) p e other a b = absurd a
