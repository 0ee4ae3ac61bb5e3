-- What the walk over the lines of the top finds.
use Rattle.std.proofs.Common.{◌≡◌, ◌∙◌, ap, sym, refl, subst, inl, inr, ℕ, zero, suc, ◌<◌, ◌≤◌, ◌+◌, true, cond, List, [], ◌∷◌, ◌++◌, length, drop, Some, Ok, Err, append-nil, append_assoc, drop_of_length-le}
use Rattle.std.specs.Prelude.{filter, slice_get}
use Rattle.lists.specs.laws.ReadLaws.{get_here}
use Rattle.outcome.specs.ForEach.{ForEach, IsFirstFault}
use Rattle.net_signature.specs.Body.{BlockValue}
use Rattle.net_blif.specs.Design.{items_of, model_named, ModelValue}
use Rattle.net_blif.specs.Models.{AreRight}
use Rattle.net_blif.specs.Top.{is_instance, model_in}
use Rattle.net_blif.specs.declared.item.Item.{Item}
use Rattle.net_blif.proofs.StepLemmas.{filter_got}
use Rattle.net_blif.proofs.TopLemmas.{some_named}
use Rattle.compose_model.specs.Hierarchy.{block_from}
use Rattle.compose_blocks.specs.Planned.{refusal, MayFault}
use Rattle.compose_blocks.specs.Structure.{numbered, NumberOf}
use Rattle.compose_blocks.specs.declared.plan_fault.PlanFault.{PlanFault}
use Rattle.compose_blocks.specs.declared.uses.Found.{Found}
use Rattle.compose_blocks.specs.private.Found.{AreFound, IsAdded, IsFound}
use Rattle.compose_blocks.proofs.Walked.{IsWalked}
use Rattle.compose_blocks.proofs.BlockLemmas.{found_block}
use Rattle.compose_blocks.proofs.ListLemmas.{front_read, lifted}

module _ (design : List ModelValue) (blocks : List BlockValue) where
  found_more : (is : List Item) (fs : List Found) (i : Item) (f : Found) → AreFound design blocks is fs → IsFound design blocks i f → AreFound design blocks (is ++ i ∷ []) (fs ++ f ∷ [])
  found_more [] [] i f are is = (is, tt)
  found_more [] (g ∷ fs) i f are is = absurd are
  found_more (j ∷ is) [] i f are one = absurd are
  found_more (j ∷ is) (g ∷ fs) i f are one = (are.0, found_more is fs i f are.1 one)

  pub found_long : (is : List Item) (fs : List Found) → AreFound design blocks is fs → length fs ≡ length is
  found_long [] [] are = refl
  found_long [] (g ∷ fs) are = absurd are
  found_long (j ∷ is) [] are = absurd are
  found_long (j ∷ is) (g ∷ fs) are = ap suc (found_long is fs are.1)

  -- what is found of an instance
  pub found_at : (is : List Item) (fs : List Found) (n : ℕ) (i : Item) → AreFound design blocks is fs → slice_get is n ≡ Some i → (f : Found) × (slice_get fs n ≡ Some f) × IsFound design blocks i f
  found_at [] [] n i are got = absurd (cc)
  found_at [] (g ∷ fs) n i are got = absurd are
  found_at (j ∷ is) [] n i are got = absurd are
  found_at (j ∷ is) (g ∷ fs) zero i are got = let same : j ≡ i = cc in let P : Item → Type 0 = λ k. IsFound design blocks k g in (g, refl, subst P same are.0)
  found_at (j ∷ is) (g ∷ fs) (suc n) i are got = found_at is fs n i are.1 got

  -- that of which it is found
  pub at_found : (is : List Item) (fs : List Found) (n : ℕ) (f : Found) → AreFound design blocks is fs → slice_get fs n ≡ Some f → (i : Item) × (slice_get is n ≡ Some i) × IsFound design blocks i f
  at_found [] [] n f are got = absurd (cc)
  at_found [] (g ∷ fs) n f are got = absurd are
  at_found (j ∷ is) [] n f are got = absurd are
  at_found (j ∷ is) (g ∷ fs) zero f are got = let same : g ≡ f = cc in let P : Found → Type 0 = λ h. IsFound design blocks j h in (j, refl, subst P same are.0)
  at_found (j ∷ is) (g ∷ fs) (suc n) f are got = at_found is fs n f are.1 got

  pub number_is : (i : Item) (f : Found) → IsFound design blocks i f → NumberOf blocks i (Ok f.block)
  number_is i f found = sym (ap (numbered (model_in i)) found.is.named)

  module _ (items : List Item) (n : ℕ) (list : List Found) (walked : IsWalked design blocks items n list) (item : Item) (at : Some item ≡ slice_get items n) where
    -- an instance stands in the whole after those of the front
    stands : is_instance item ≡ true → filter is_instance items ≡ walked.front ++ item ∷ filter is_instance (drop (n + 1) items)
    stands is = walked.whole ∙ ap (λ rest. walked.front ++ rest) (filter_got is_instance items n item at ∙ ap (λ b. cond b (item ∷ filter is_instance (drop (n + 1) items)) (filter is_instance (drop (n + 1) items))) is)

    pub instance_at : is_instance item ≡ true → slice_get (filter is_instance items) (length walked.front) ≡ Some item
    instance_at is =
        let P : List Item → Type 0 = λ xs. slice_get xs (length walked.front) ≡ Some item in
        subst P (sym (stands is)) (get_here walked.front item (filter is_instance (drop (n + 1) items)))

    pub walked_more : (new : List Found) → IsAdded design blocks item list new → IsWalked design blocks items (n + 1) new
    walked_more new (inl added) =
        let found : Found = added.1.0 in
        let P : List Found → Type 0 = AreFound design blocks (walked.front ++ item ∷ []) in
        record {
          front = walked.front ++ item ∷ [];
          whole = stands added.0 ∙ sym (append_assoc walked.front (item ∷ []) (filter is_instance (drop (n + 1) items)));
          found = subst P (sym added.1.2) (found_more walked.front list item found walked.found added.1.1);
        }
    walked_more new (inr added) =
        let P : List Found → Type 0 = AreFound design blocks walked.front in
        record {
          front = walked.front;
          whole = walked.whole ∙ ap (λ rest. walked.front ++ rest) (filter_got is_instance items n item at ∙ ap (λ b. cond b (item ∷ filter is_instance (drop (n + 1) items)) (filter is_instance (drop (n + 1) items))) added.0);
          found = subst P (sym added.1) walked.found;
        }

    -- the first model that has no block
    pub number_refused : is_instance item ≡ true → (fault : PlanFault) → MayFault (NumberOf blocks item) fault → MayFault (ForEach (NumberOf blocks) (filter is_instance items)) fault
    number_refused is fault may = lifted (NumberOf blocks item) (ForEach (NumberOf blocks) (filter is_instance items)) first (refusal fault) may
      where
        before : (j : ℕ) (y : Item) → j < length walked.front → slice_get (filter is_instance items) j ≡ Some y → (number : ℕ) × NumberOf blocks y (Ok number)
        before j y less got =
            let P : List Item → Type 0 = λ xs. slice_get xs j ≡ Some y in
            let read : slice_get walked.front j ≡ Some y = front_read walked.front (filter is_instance (drop n items)) j y less (subst P walked.whole got) in
            let found = found_at walked.front list j y walked.found read in
            (found.0.block, number_is y found.0 found.2)

        first : (e : PlanFault) → NumberOf blocks item (Err e) → IsFirstFault (NumberOf blocks) (filter is_instance items) e
        first e refused = record { place = length walked.front; element = item; at = instance_at is; is = refused; before = before }

-- past the last line all instances are found
pub all_walked : (design : List ModelValue) (blocks : List BlockValue) (items : List Item) (n : ℕ) (list : List Found) → IsWalked design blocks items n list → length items ≤ n → AreFound design blocks (filter is_instance items) list
all_walked design blocks items n list walked past =
    let P : List Item → Type 0 = λ instances. AreFound design blocks instances list in
    subst P (sym (walked.whole ∙ ap (λ rest. walked.front ++ filter is_instance rest) (drop_of_length-le items {i = n} past) ∙ append-nil walked.front)) walked.found

-- an instance of a design has a model
pub has_model : (design : List ModelValue) (blocks : List BlockValue) (items : List Item) (n : ℕ) (list : List Found) (item : Item) → items ≡ items_of design 0 → AreRight design (Ok tt) → IsWalked design blocks items n list → Some item ≡ slice_get items n → is_instance item ≡ true → (model : ℕ) × (model_named design (model_in item) ≡ Some model)
has_model design blocks items n list item same right walked at is =
    let P : List Item → Type 0 = λ xs. slice_get (filter is_instance xs) (length walked.front) ≡ Some item in
    some_named design (length walked.front) item right (subst P same (instance_at design blocks items n list walked item at is))

-- what is found of an instance, by the name of its model
pub found_made : (design : List ModelValue) (blocks : List BlockValue) (item : Item) (name : List ℕ) (number model : ℕ) → name ≡ model_in item → Some number ≡ block_from 0 blocks name → Some model ≡ model_named design name → IsFound design blocks item (record { block = number; model = model })
found_made design blocks item name number model is named has =
    let own : block_from 0 blocks (model_in item) ≡ Some number = sym (ap (block_from 0 blocks) is) ∙ sym named in
    let block = found_block blocks (model_in item) number own in
    record { block = block.0; is = record { named = own; found = block.1; model_is = sym (ap (model_named design) is) ∙ sym has } }
