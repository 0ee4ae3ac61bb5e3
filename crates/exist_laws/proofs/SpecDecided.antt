-- All stages of a specification are within a bound, or one of them is the first over it: each has a polynomial.
use Rattle.std.proofs.Common.{◌≡◌, ◌∙◌, sym, refl, inl, inr, ℕ, List, length, arith}
use Rattle.net_core.specs.NetList.{nets}
use Rattle.circuit_model.specs.Circuit.{Circuit}
use Rattle.circuit_model.specs.WellFormed.{IsWellFormed}
use Rattle.circuit_model.specs.Word.{word_nets}
use Rattle.poly_mixed.specs.Polynomial.{Point}
use Rattle.poly_mixed.specs.declared.stage.Stage.{Stage}
use Rattle.poly_mixed.specs.declared.stage.Stage.TheVariants.{Cut, WordProduct, WordSum, SpecProduct, SpecSum, InstanceProduct, InstanceSum}
use Rattle.stage_model.specs.First.{AgreeAtFirst}
use Rattle.stage_model.specs.InputPoint.{IsAtInput}
use Rattle.stage_model.specs.Stage.{HasPolynomial}
use Rattle.stage_model.specs.Variables.{point_bits, rank_in, variables_of}
use Rattle.stage_model.proofs.InterpolationLemmas.{of_first, LooksAtFirst}
use Rattle.stage_model.proofs.PointLemmas.{point_bits_at, same_word}
use Rattle.stage_model.proofs.SearchLemmas.{IsDecided}
use Rattle.stage_model.proofs.SomeStageLemmas.{word_net}
use Rattle.stage_model.proofs.VariableLemmas.{has_each}
use Rattle.term_expand.specs.SumListing.{is_earlier_sum_stage, is_sum_stage}
use Rattle.term_expand.specs.declared.stage.SumStage.{SumStage}
use Rattle.term_expand.specs.declared.stage.SumStage.TheVariants.{TermProduct, TermSum}
use Rattle.term_expand.proofs.RenamedLemmas.{all_within_there, over_there, IsRenamed}
use Rattle.spec_expand.specs.Specification.{SpecTerms}
use Rattle.spec_expand.specs.SpecListing.{is_earlier_spec_stage, is_spec_stage, spec_listing, spec_stage_of, IsAtPoint}
use Rattle.spec_expand.specs.private.Names.{spec_stage}
use Rattle.spec_expand.proofs.StageValueLemmas.{some_stage}
use Rattle.exist_laws.specs.Sums.{stages_with}
use Rattle.exist_laws.proofs.DecidedSums.{sum_decided}

-- ---- names

-- the stage of a sum by the name of a stage, if a specification has it
by_name : (name : Stage) → (stage : SumStage) × ((spec : SpecTerms) → is_spec_stage spec name → is_sum_stage spec stage × (spec_stage stage ≡ name))
by_name (SpecProduct s j) = (TermProduct s j, λ spec listed. (listed, refl))
by_name (SpecSum s) = (TermSum s, λ spec listed. (listed, refl))
by_name (Cut t) = (TermSum 0, λ spec listed. absurd listed)
by_name (WordProduct w s j) = (TermSum 0, λ spec listed. absurd listed)
by_name (WordSum w s) = (TermSum 0, λ spec listed. absurd listed)
by_name (InstanceProduct i s j) = (TermSum 0, λ spec listed. absurd listed)
by_name (InstanceSum i s) = (TermSum 0, λ spec listed. absurd listed)

-- a specification has the stages of its sum, in their order
in_order : (spec : SpecTerms) (stage other : SumStage) → (is_sum_stage spec stage → is_spec_stage spec (spec_stage stage)) × (is_earlier_spec_stage (spec_stage stage) (spec_stage other) → is_earlier_sum_stage stage other)
in_order spec (TermProduct r i) (TermProduct s j) = ((λ listed. listed), (λ earlier. earlier))
in_order spec (TermProduct r i) (TermSum s) = ((λ listed. listed), (λ earlier. earlier))
in_order spec (TermSum r) (TermProduct s j) = ((λ listed. listed), (λ earlier. earlier))
in_order spec (TermSum r) (TermSum s) = ((λ listed. listed), (λ earlier. earlier))

module _ (c : Circuit) (well : IsWellFormed c) where
  -- ---- polynomials

  abbrev ranks : ℕ
  ranks = length (variables_of c)

  -- points with the same bits at all nets are at the same inputs
  at_both : (p q : Point) (xs : List ℕ) → AgreeAtFirst 0 ranks p q → IsAtInput c xs p → IsAtInput c xs q
  at_both p q xs same at i w x got here any =
      same_word (point_bits (nets c.net) (variables_of c) p) (point_bits (nets c.net) (variables_of c) q) w x
      (λ n has.
      let less = word_net c well i n w got has in
      point_bits_at (nets c.net) (variables_of c) p n less ∙ (same.bits (rank_in (variables_of c) n) (has_each c.net (word_nets c.words) n less) ∙ sym (point_bits_at (nets c.net) (variables_of c) q n less)))
      (at i w x got here any)

  at_points : (h : List ℕ → ℕ) (p q : Point) (e : ℕ) → AgreeAtFirst 0 ranks p q → IsAtPoint c h p e → IsAtPoint c h q e
  at_points h p q e same is = record { xs = is.xs; input = is.input; at = at_both p q is.xs same is.at; value = is.value }

  stage_alone : (spec : SpecTerms) (name : Stage) (p q : Point) (e : ℕ) → AgreeAtFirst 0 ranks p q → spec_stage_of c spec name p e → spec_stage_of c spec name q e
  stage_alone spec (SpecProduct s j) p q e same is = record { place = is.place; term = is.term; number = is.number; at = is.at; is = at_points _ p q e same is.is }
  stage_alone spec (SpecSum s) p q e same is = at_points _ p q e same is
  stage_alone spec (Cut t) p q e same is = absurd is
  stage_alone spec (WordProduct w s j) p q e same is = absurd is
  stage_alone spec (WordSum w s) p q e same is = absurd is
  stage_alone spec (InstanceProduct i s j) p q e same is = absurd is
  stage_alone spec (InstanceSum i s) p q e same is = absurd is

  stage_looks : (spec : SpecTerms) (name : Stage) → is_spec_stage spec name → LooksAtFirst c.k (spec_stage_of c spec name) 0 ranks
  stage_looks spec name is = record { some = λ p at. some_stage c well spec name p at is; alone = λ p q e at at' same has. stage_alone spec name p q e same has }

  pub spec_polynomial : (spec : SpecTerms) (name : Stage) → is_spec_stage spec name → HasPolynomial c.k c.product (spec_stage_of c spec name)
  spec_polynomial spec name is = of_first c.k c.product well.ring well.no_zero_divisors 0 ranks (spec_stage_of c spec name) (omega arith) (stage_looks spec name is)

  module _ (spec : SpecTerms) (bound : ℕ) where
    abbrev stages : SumStage → Point → ℕ → Type 0
    stages name = spec_stage_of c spec (spec_stage name)

    renamed : IsRenamed c.k (stages_with spec stages) (spec_listing c spec) spec_stage
    renamed = record {
      listed = λ stage is. (in_order spec stage stage).0 is;
      named = λ name listed. let found = by_name name in let is = found.1 spec listed in (found.0, is.0, is.1);
      related = λ a p e listed at is. is;
      before = λ stage other earlier. (in_order spec stage other).1 earlier;
    }

    moved : IsDecided c.k c.product (stages_with spec stages) bound → IsDecided c.k c.product (spec_listing c spec) bound
    moved (inl all) = inl (all_within_there c.k c.product (stages_with spec stages) (spec_listing c spec) spec_stage bound renamed all)
    moved (inr (name, n, over)) = inr (spec_stage name, n, over_there c.k c.product (stages_with spec stages) (spec_listing c spec) spec_stage bound renamed name n over)

    pub spec_decided : IsDecided c.k c.product (spec_listing c spec) bound
    spec_decided = moved (sum_decided c.k c.product spec stages (λ name is. spec_polynomial spec (spec_stage name) ((in_order spec name name).0 is)) bound)
