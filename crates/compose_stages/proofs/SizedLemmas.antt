-- A listed stage of an instance has a polynomial.
use Rattle.std.proofs.Common.{◌≡◌, ap₂, refl, subst, ℕ, suc, ◌<◌, List, [], ◌∷◌, length, take, Some, arith}
use Rattle.std.specs.Prelude.{slice_get}
use Rattle.gf_field.specs.Field.{HasNoZeroDivisors}
use Rattle.gf_field.specs.Ring.{IsRing}
use Rattle.poly_mixed.specs.Polynomial.{Point, Terms}
use Rattle.poly_mixed.specs.declared.stage.Stage.{Stage}
use Rattle.poly_mixed.specs.declared.stage.Stage.TheVariants.{Cut, WordProduct, WordSum, SpecProduct, SpecSum, InstanceProduct, InstanceSum}
use Rattle.stage_model.specs.Stage.{IsOfStage}
use Rattle.stage_model.proofs.InterpolationLemmas.{of_first, LooksAtFirst}
use Rattle.term_expand.specs.Sums.{SumOfProducts}
use Rattle.compose_polys.specs.Instance.{block_terms}
use Rattle.compose_polys.specs.InstanceListing.{instance_stage_of}
use Rattle.compose_model.specs.Given.{IsGiven}
use Rattle.compose_model.specs.Hierarchy.{top_words, Hierarchy}
use Rattle.compose_model.specs.NamedWord.{inputs_among}
use Rattle.compose_model.specs.Wiring.{feeding_graph, AreAllFeeds, HaveBlocks}
use Rattle.compose_model.specs.declared.feeder.Feeder.{Feeder}
use Rattle.compose_polys.specs.LevelOrder.{IsLevelOrder}
use Rattle.compose_stages.specs.InstanceStages.{instance_in, AreFed, IsStageName, IsStageOf}
use Rattle.compose_stages.proofs.SomeStageLemmas.{some_element}

same_elements : (xs ys : List ℕ) → length xs ≡ length ys → ((i : ℕ) → i < length xs → slice_get xs i ≡ slice_get ys i) → xs ≡ ys
same_elements [] [] long same = refl
same_elements [] (y ∷ ys) long same = absurd (omega (arith, long))
same_elements (x ∷ xs) [] long same = absurd (omega (arith, long))
same_elements (x ∷ xs) (y ∷ ys) long same =
    let first : Some x ≡ Some y = same 0 (omega arith) in
    let equal : x ≡ y = cc in
    ap₂ (λ z zs. z ∷ zs) equal (same_elements xs ys (omega (arith, long)) (λ i less. same (suc i) (omega (arith, less))))

-- a stage at values does not look at the point
elsewhere : (mul : ℕ → ℕ → ℕ) (ys : List ℕ) (block : SumOfProducts) (name : Stage) (p q : Point) (e : ℕ) → instance_stage_of mul (λ r. ys) block name p e → instance_stage_of mul (λ r. ys) block name q e
elsewhere mul ys block (InstanceProduct n s j) p q e is = record { place = is.place; term = is.term; number = is.number; at = is.at; is = is.is }
elsewhere mul ys block (InstanceSum n s) p q e is = is
elsewhere mul ys block (Cut t) p q e is = absurd is
elsewhere mul ys block (WordProduct w s j) p q e is = absurd is
elsewhere mul ys block (WordSum w s) p q e is = absurd is
elsewhere mul ys block (SpecProduct s j) p q e is = absurd is
elsewhere mul ys block (SpecSum s) p q e is = absurd is

module _ (k : ℕ) (mul : ℕ → ℕ → ℕ) (h : Hierarchy) (rows : List (List Feeder)) where
  -- a stage looks at the point's words alone
  same_stage : (name : Stage) (p q : Point) (e : ℕ) → p.words ≡ q.words → IsStageOf k mul h rows name p e → IsStageOf k mul h rows name q e
  same_stage name p q e same is =
      let P : List ℕ → Type 0 = λ ws. AreFed k mul h rows (instance_in name) (take (length (inputs_among (top_words h))) ws) is.ys in
      record { block = is.block; has = is.has; ys = is.ys; fed = subst P same is.fed; is = elsewhere mul is.ys (block_terms is.block) name p q e is.is }

  pub some_terms : IsRing k mul → HasNoZeroDivisors k mul → IsGiven k h → AreAllFeeds h rows → HaveBlocks k mul h → (order : List ℕ) → IsLevelOrder (feeding_graph rows) order → (name : Stage) → IsStageName k mul h name → (ts : Terms) × IsOfStage k mul (IsStageOf k mul h rows name) ts
  some_terms ring field given all blocks_are order by_level name is = of_first k mul ring field 8 0 (IsStageOf k mul h rows name) (omega arith) looks
    where
      looks : LooksAtFirst k (IsStageOf k mul h rows name) 8 0
      looks = record {
        some = λ p at. some_element k mul ring field h given rows all blocks_are order by_level name p at is;
        alone = λ p q e at at' same has.
            same_stage name p q e (same_elements p.words q.words (omega (arith, at.words, at'.words)) (λ i less. same.elements i (omega (arith, less, at.words)))) has;
      }
