-- The stages of used blocks: of these one is first over a bound at most, and it is the first of a block all of whose earlier ones are
-- within the bound.
use Rattle.std.proofs.Common.{◌≡◌, ◌↔◌, sym, refl, subst, inl, inr, ℕ, Some, arith}
use Rattle.std.specs.Prelude.{slice_get}
use Rattle.std.proofs.lemmas.Bool.{cases_order}
use Rattle.net_blif.specs.Top.{instances_of, model_in}
use Rattle.net_blif.specs.declared.item.Item.{Item}
use Rattle.gf_field.specs.Field.{HasNoZeroDivisors}
use Rattle.gf_field.specs.Ring.{IsRing}
use Rattle.poly_mixed.specs.Polynomial.{value, IsPoint}
use Rattle.poly_mixed.specs.declared.stage.Stage.{Stage}
use Rattle.circuit_model.specs.Circuit.{Circuit}
use Rattle.stage_model.specs.CircuitListing.{circuit_stages}
use Rattle.stage_model.specs.Listing.{AreAllWithin, IsOver, Joined}
use Rattle.stage_model.specs.Stage.{HasSize, IsWithin}
use Rattle.stage_model.proofs.CircuitListingLemmas.{one_stage, stages_ordered}
use Rattle.stage_model.proofs.ListingLemmas.{one_over, over_not_all, HaveOneSize, IsOrdered}
use Rattle.stage_model.proofs.SizeLemmas.{same_size, IsFunction}
use Rattle.compose_model.specs.Given.{IsGiven}
use Rattle.compose_model.specs.Hierarchy.{block_of, Hierarchy}
use Rattle.compose_model.specs.Values.{IsBlockOf}
use Rattle.compose_blocks.proofs.OneCircuitLemmas.{one_block}
use Rattle.compose_stages.specs.BlockStages.{block_stage_of, block_stages, is_block_stage, is_earlier_block_stage, AreBlocksWithin, AreEarlierWithin, BlockStage, IsFirstOfBlocks, IsFirstUse, IsUsedBlock}
use Rattle.compose_stages.proofs.BlockLemmas.{block_facts}

-- ---- uses

-- a block is first used at one place
pub one_use : (h : Hierarchy) (b i j : ℕ) → IsFirstUse h b i → IsFirstUse h b j → i ≡ j
one_use h b i j x y =
    elim (cases_order i j) [
      | inl same ↦ same
      | inr apart ↦ elim apart [ inl low ↦ absurd (y.first i x.item low x.at x.named) | inr high ↦ absurd (x.first j y.item high y.at y.named) ]
    ]

-- and at one place one block is used
pub one_number : (h : Hierarchy) (b c i j : ℕ) → IsFirstUse h b i → IsFirstUse h c j → i ≡ j → b ≡ c
one_number h b c i j x y same =
    let P : ℕ → Type 0 = λ l. slice_get (instances_of h.design) l ≡ Some x.item in
    let at_x : slice_get (instances_of h.design) j ≡ Some x.item = subst P same x.at in
    let at_y : slice_get (instances_of h.design) j ≡ Some y.item = y.at in
    let item : x.item ≡ y.item = cc in
    let Q : Item → Type 0 = λ it. block_of h (model_in it) ≡ Some b in
    let named_x : block_of h (model_in y.item) ≡ Some b = subst Q item x.named in
    let named_y : block_of h (model_in y.item) ≡ Some c = y.named in
    let equal : b ≡ c = cc in
    equal

module _ (k : ℕ) (mul : ℕ → ℕ → ℕ) (h : Hierarchy) where
  -- a used block has one circuit
  pub one_used : (b : ℕ) (c d : Circuit) → IsUsedBlock k mul h b c → IsUsedBlock k mul h b d → c ≡ d
  one_used b c d x y =
      let place : x.place ≡ y.place = one_use h b x.place y.place x.use_is y.use_is in
      let P : ℕ → Type 0 = λ l. slice_get (instances_of h.design) l ≡ Some x.use_is.item in
      let at_x : slice_get (instances_of h.design) y.place ≡ Some x.use_is.item = subst P place x.use_is.at in
      let at_y : slice_get (instances_of h.design) y.place ≡ Some y.use_is.item = y.use_is.at in
      let item : x.use_is.item ≡ y.use_is.item = cc in
      let Q : Item → Type 0 = λ it. IsBlockOf k mul h it c in
      one_block k mul h y.use_is.item c d (subst Q item x.is) y.is

  -- ---- stages of one block among all

  module _ (b : ℕ) (circuit : Circuit) (used : IsUsedBlock k mul h b circuit) (name : Joined Stage Stage) where
    size_among : (n : ℕ) → HasSize k mul ((circuit_stages circuit).stage_of name) n → HasSize k mul (block_stage_of k mul h (b, name)) n
    size_among n has = record {
      terms = has.terms;
      is = record { reduced = has.is.reduced; values = λ p at. (circuit, used, has.is.values p at) };
      size = has.size;
    }

    size_of : (n : ℕ) → HasSize k mul (block_stage_of k mul h (b, name)) n → HasSize k mul ((circuit_stages circuit).stage_of name) n
    size_of n has = record {
      terms = has.terms;
      is = record {
        reduced = has.is.reduced;
        values = λ p at.
            let there = has.is.values p at in
            let P : Circuit → Type 0 = λ c. (circuit_stages c).stage_of name p (value mul p has.terms) in
            subst P (one_used b there.0 circuit there.1 used) there.2;
      };
      size = has.size;
    }

    within_among : (bound : ℕ) → IsWithin k mul ((circuit_stages circuit).stage_of name) bound → IsWithin k mul (block_stage_of k mul h (b, name)) bound
    within_among bound within = record { size = within.size; has = size_among within.size within.has; within = within.within }

    within_of : (bound : ℕ) → IsWithin k mul (block_stage_of k mul h (b, name)) bound → IsWithin k mul ((circuit_stages circuit).stage_of name) bound
    within_of bound within = record { size = within.size; has = size_of within.size within.has; within = within.within }

  module _ (bound : ℕ) where
    -- all are within the bound where those of each block are
    pub blocks_within : AreBlocksWithin k mul h bound ↔ ((b : ℕ) (circuit : Circuit) → IsUsedBlock k mul h b circuit → AreAllWithin k mul (circuit_stages circuit) bound)
    blocks_within = (
      (λ all b circuit used name listed. within_of b circuit used name bound (all (b, name) (circuit, used, listed))),
      λ each name is. within_among name.0 is.0 is.1 name.1 bound (each name.0 is.0 is.1 name.1 is.2),
    )

    -- the first over the bound of a block is the first of all where those of earlier blocks are within it
    pub block_over : (b : ℕ) (name : Joined Stage Stage) (n : ℕ) (circuit : Circuit) (used : IsUsedBlock k mul h b circuit) → AreEarlierWithin k mul h bound used.place → IsOver k mul (circuit_stages circuit) bound name n → IsFirstOfBlocks k mul h bound (b, name) n
    block_over b name n circuit used earlier over = record {
      listed = (circuit, used, over.listed);
      size = size_among b circuit used name n over.size;
      over = over.over;
      before = before;
    }
      where
        before : (other : BlockStage) → is_block_stage k mul h other → is_earlier_block_stage k mul h other (b, name) → IsWithin k mul (block_stage_of k mul h other) bound
        before other is (inl first) =
            let here : is.1.place ≡ first.0 = one_use h other.0 is.1.place first.0 is.1.use_is first.2 in
            let there : first.1 ≡ used.place = one_use h b first.1 used.place first.3 used.use_is in
            within_among other.0 is.0 is.1 other.1 bound (earlier other.0 is.0 is.1 (omega (arith, here, there, first.4)) other.1 is.2)
        before other is (inr same) =
            let P : ℕ → Type 0 = λ c. IsUsedBlock k mul h c circuit in
            let used_other : IsUsedBlock k mul h other.0 circuit = subst P (sym same.0) used in
            let one : is.0 ≡ circuit = one_used other.0 is.0 circuit is.1 used_other in
            let two : same.1.0 ≡ circuit = one_used other.0 same.1.0 circuit same.1.1 used_other in
            let Q : Circuit → Type 0 = λ c. (circuit_stages c).is_listed other.1 in
            let R : Circuit → Type 0 = λ c. (circuit_stages c).comes_before other.1 name in
            within_among other.0 circuit used_other other.1 bound (over.before other.1 (subst Q one is.2) (subst R two same.1.2))

    pub over_block : (b : ℕ) (name : Joined Stage Stage) (n : ℕ) → IsFirstOfBlocks k mul h bound (b, name) n → (circuit : Circuit) × (used : IsUsedBlock k mul h b circuit) × AreEarlierWithin k mul h bound used.place × IsOver k mul (circuit_stages circuit) bound name n
    over_block b name n over =
        let circuit : Circuit = over.listed.0 in
        let used : IsUsedBlock k mul h b circuit = over.listed.1 in (
          circuit,
          used,
          (λ c other is low stage listed. within_of c other is stage bound (over.before (c, stage) (other, is, listed) (inl (is.place, used.place, is.use_is, used.use_is, low)))),
          record {
            listed = over.listed.2;
            size = size_of b circuit used name n over.size;
            over = over.over;
            before = λ stage listed low. within_of b circuit used stage bound (over.before (b, stage) (circuit, used, listed) (inr (refl, (circuit, used, low))));
          },
        )

  -- ---- one is first

  pub blocks_ordered : IsOrdered (block_stages k mul h)
  blocks_ordered a b x y =
      elim (cases_order x.1.place y.1.place) [
        | inl same ↦
            let number : a.0 ≡ b.0 = one_number h a.0 b.0 x.1.place y.1.place x.1.use_is y.1.use_is same in
            let P : ℕ → Type 0 = λ c. IsUsedBlock k mul h c x.0 in
            let circuit : y.0 ≡ x.0 = one_used b.0 y.0 x.0 y.1 (subst P number x.1) in
            let Q : Circuit → Type 0 = λ c. (circuit_stages c).is_listed b.1 in
            elim (stages_ordered x.0 a.1 b.1 x.2 (subst Q circuit y.2)) [
              | inl equal ↦ inl (λ t. (number t, equal t))
              | inr other ↦ elim other [ inl low ↦ inr (inl (inr (number, (x.0, x.1, low)))) | inr high ↦ inr (inr (inr (sym number, (x.0, subst P number x.1, high)))) ]
            ]
        | inr apart ↦ elim apart [
          | inl low ↦ inr (inl (inl (x.1.place, y.1.place, x.1.use_is, y.1.use_is, low)))
          | inr high ↦ inr (inr (inl (y.1.place, x.1.place, y.1.use_is, x.1.use_is, high)))
        ]
      ]

  module _ (ring : IsRing k mul) (field : HasNoZeroDivisors k mul) (given : IsGiven k h) where
    one_element : (name : BlockStage) → IsFunction k (block_stage_of k mul h name)
    one_element name p x y at a b =
        let same : b.0 ≡ a.0 = one_used name.0 b.0 a.0 b.1 a.1 in
        let facts = (block_facts k mul ring field h given a.1.use_is.item a.0 a.1.is).1 in
        let P : ℕ → Type 0 = λ l. IsPoint l p in
        let Q : Circuit → Type 0 = λ c. (circuit_stages c).stage_of name.1 p y in
        one_stage a.0 facts.well name.1 p x y (subst P (sym facts.bits) at) a.2 (subst Q same b.2)

    pub blocks_sizes : HaveOneSize k mul (block_stages k mul h)
    blocks_sizes name m n is a b = same_size k mul ring field (block_stage_of k mul h name) (one_element name) m n a b

    pub one_first_block : (bound : ℕ) (a b : BlockStage) (m n : ℕ) → IsFirstOfBlocks k mul h bound a m → IsFirstOfBlocks k mul h bound b n → (a ≡ b) × (m ≡ n)
    one_first_block bound a b m n x y = one_over k mul (block_stages k mul h) bound blocks_ordered blocks_sizes a b m n x y

    pub first_block_not_all : (bound : ℕ) (a : BlockStage) (m : ℕ) → IsFirstOfBlocks k mul h bound a m → AreBlocksWithin k mul h bound → ⊥
    first_block_not_all bound a m x all = over_not_all k mul (block_stages k mul h) bound blocks_sizes a m x all
