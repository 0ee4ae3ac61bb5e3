-- What is known of a top whose instances have blocks and are wired.
use Rattle.std.proofs.Common.{◌≡◌, ◌≢◌, ◌∙◌, ap, sym, refl, subst, ℕ, suc, ◌+◌, Bool, true, false, cond, List, [], ◌∷◌, length, map, get_or, Option, None, Some, Result, Ok, Err, arith}
use Rattle.std.specs.Prelude.{slice_get}
use Rattle.std.specs.List.{list_any, AllByRecursion}
use Rattle.std.specs.Option.{unwrap_or}
use Rattle.std.proofs.lemmas.List.Folds.{list_any_at}
use Rattle.std.proofs.lemmas.Option.{get_or_from_slice_get, slice_get_within}
use Rattle.lists.specs.Lists.{Has}
use Rattle.lists.specs.laws.BoolLaws.{neither}
use Rattle.lists.specs.laws.ListLaws.{length_map as mapped_long}
use Rattle.lists.specs.laws.ReadLaws.{from_map, get_below, mapped_at}
use Rattle.outcome.specs.ForEach.{AreValues}
use Rattle.net_core.specs.NetList.{NetList}
use Rattle.net_words.specs.Bind.{BindingOf}
use Rattle.net_words.specs.Binding.{AreWords, Binding, BoundNet}
use Rattle.net_words.specs.Roles.{same_role}
use Rattle.net_words.specs.declared.bound.BoundWord.{BoundWord}
use Rattle.net_words.specs.declared.feed.FeedText.{FeedText}
use Rattle.net_words.specs.declared.word.Role.{Role}
use Rattle.net_words.specs.declared.word.Role.TheVariants.{Fed}
use Rattle.net_words.specs.declared.word.WordText.{WordText}
use Rattle.net_words.proofs.BoundLemmas.{first_long}
use Rattle.net_signature.specs.Body.{is_fed, BlockValue}
use Rattle.net_signature.specs.Signature.{SignatureValue}
use Rattle.net_blif.specs.Design.{model_named, ModelValue}
use Rattle.net_blif.specs.Models.{AreRight}
use Rattle.net_blif.specs.Top.{gate_line, instances_of, model_in}
use Rattle.net_blif.specs.declared.item.Item.{Item}
use Rattle.net_flat.specs.Flat.{nothing, walked, Flat}
use Rattle.net_flat.specs.Walk.{walk_of}
use Rattle.net_flat.proofs.LatchLemmas.{no_latches}
use Rattle.gf_basis.specs.Basis.{IsBasis}
use Rattle.gf_basis.specs.BasisParts.{elements_of}
use Rattle.gf_basis.specs.declared.bases.Basis.{Basis}
use Rattle.circuit_model.specs.Circuit.{Circuit}
use Rattle.circuit_model.specs.OfBinding.{circuit_with}
use Rattle.compose_model.specs.Given.{HaveBasesOf, IsGiven}
use Rattle.compose_model.specs.Hierarchy.{bases_at, Hierarchy}
use Rattle.compose_model.specs.Values.{IsBlockOf, IsTop}
use Rattle.compose_model.specs.Wiring.{HaveBlocks}
use Rattle.compose_model.specs.declared.feeder.Feeder.{Feeder}
use Rattle.compose_model.proofs.InstanceLemmas.{flat_of}
use Rattle.compose_model.proofs.NamesLemmas.{binding_named, AreBound}
use Rattle.compose_blocks.specs.Planned.{AreKept}
use Rattle.compose_blocks.specs.Structure.{gate_refused, has_feed, is_fed_by_line, HasInstancesAlone, IsUnfed}
use Rattle.compose_blocks.specs.Uses.{BlockUse, IsUse, UseOf}
use Rattle.compose_blocks.specs.declared.plan_fault.PlanFault.{PlanFault}
use Rattle.compose_blocks.specs.declared.plan_fault.PlanFault.TheVariants.{FedInTop}
use Rattle.compose_wiring.specs.Answer.{AreWired}
use Rattle.block_compose.specs.Composed.{hierarchy_of, HasBases, IsComposable}
use Rattle.block_compose.specs.private.Blocks.{AreKeptBlocks, IsKeptBlock}

-- ---- lists

-- ---- nothing is fed

unfed_test : (b : Bool) → ◌≡◌ {A = Result (Unit {0}) PlanFault} (Ok tt) (cond b (Err FedInTop) (Ok tt)) → b ≡ false
unfed_test true e = absurd (cc)
unfed_test false e = refl

no_lines : (feeds : List FeedText) → is_fed_by_line feeds ≡ false → feeds ≡ []
no_lines [] e = refl
no_lines (feed ∷ feeds) e = absurd (cc)

role_unfed : (r : Role) → same_role r Fed ≡ false → r ≢ Fed
role_unfed r other fed = let P : Role → Type 0 = λ s. same_role s Fed ≡ false in let both : true ≡ false = subst P fed other in absurd (cc)

pub none_fed : (words : List WordText) → ((i : ℕ) (word : WordText) → slice_get words i ≡ Some word → word.role ≢ Fed) → AllByRecursion (λ (word : WordText). word.role ≢ Fed) words
none_fed [] each = tt
none_fed (word ∷ words) each = (each 0 word refl, none_fed words (λ i w got. each (suc i) w got))

false_or_true : (b : Bool) → (b ≡ true → ⊥) → b ≡ false
false_or_true true other = absurd (other refl)
false_or_true false other = refl

no_fed_word : (words : List WordText) → list_any is_fed words ≡ false → AllByRecursion (λ (word : WordText). word.role ≢ Fed) words
no_fed_word words none = none_fed words each
  where
    not_fed : (i : ℕ) (word : WordText) → slice_get words i ≡ Some word → same_role word.role Fed ≡ true → ⊥
    not_fed i word got fed =
        let P : WordText → Type 0 = λ w. is_fed w ≡ true in
        let here : is_fed (get_or words i word) ≡ true = subst P (sym (get_or_from_slice_get words i word word got)) fed in
        let any : list_any is_fed words ≡ true = list_any_at is_fed words i word (slice_get_within words i word got) here in
        absurd (cc)

    each : (i : ℕ) (word : WordText) → slice_get words i ≡ Some word → word.role ≢ Fed
    each i word got = role_unfed word.role (false_or_true (same_role word.role Fed) (not_fed i word got))

pub unfed_words : (signature : SignatureValue) → IsUnfed signature (Ok tt) → AllByRecursion (λ (word : WordText). word.role ≢ Fed) signature.words × (signature.feeds ≡ [])
unfed_words signature unfed =
    let both = neither (list_any is_fed signature.words) (is_fed_by_line signature.feeds) (unfed_test (has_feed signature) unfed) in
    (no_fed_word signature.words both.0, no_lines signature.feeds both.1)

-- ---- no gates

no_gate : (line : Option ℕ) → ◌≡◌ {A = Result (Unit {0}) PlanFault} (Ok tt) (gate_refused line) → line ≡ None
no_gate None e = refl
no_gate (Some line) e = absurd (cc)

-- ---- bindings

-- a binding has the bits of the words, and as many words
pub binding_bits : (net : NetList) (k : ℕ) (words : List WordText) (binding : Binding) → AreWords k words → BindingOf net words [] (Ok binding) → binding.k ≡ k
binding_bits net k words binding are bound = ap (λ (b : Binding). b.k) bound.2.2.2.2 ∙ first_long k words are

pub bound_long : (net : NetList) (words : List WordText) (list : List BoundWord) → AreBound net words list → length list ≡ length words
bound_long net [] [] are = refl
bound_long net [] (b ∷ list) are = absurd are
bound_long net (w ∷ words) [] are = absurd are
bound_long net (w ∷ words) (b ∷ list) are = ap suc (bound_long net words list are.2)

-- ---- the whole

module _ (k : ℕ) (mul : ℕ → ℕ → ℕ) (design : List ModelValue) (signature : SignatureValue) (bases : List (List Basis)) where
  abbrev h : Hierarchy
  h = hierarchy_of design signature bases

  pub bases_read : (n : ℕ) (words : List WordText) → (has : HasBases k mul bases n words) → bases_at h n ≡ map elements_of has.list
  bases_read n words has = ap (λ found. unwrap_or found []) (mapped_at (map elements_of) bases n has.list has.at)

  based : (n : ℕ) (words : List WordText) → HasBases k mul bases n words → AreWords k words → AllByRecursion (λ (word : WordText). word.role ≢ Fed) words → HaveBasesOf k words (bases_at h n)
  based n words has words_are unfed =
      let P : List (List ℕ) → Type 0 = HaveBasesOf k words in
      subst P (sym (bases_read n words has)) (record { words_are = words_are; unfed = unfed; long = mapped_long elements_of has.list ∙ has.long; each = each })
    where
      each : (basis : List ℕ) → Has (map elements_of has.list) basis → IsBasis k basis
      each basis (i, got) =
          let found = from_map elements_of has.list i basis got in
          let Q : List ℕ → Type 0 = IsBasis k in
          subst Q found.2 (has.each found.0 (i, found.1)).elements

  module _ (given : IsComposable k mul design signature bases) (unfed : IsUnfed signature (Ok tt)) where
    pub block_based : (number : ℕ) (block : BlockValue) → slice_get signature.blocks number ≡ Some block → HaveBasesOf k block.words (bases_at h (number + 1))
    block_based number block found =
        let can = given.blocks_are number block found in
        based (number + 1) block.words (given.blocks number block found) can.words_are can.unfed

    pub top_based : HaveBasesOf k signature.words (bases_at h 0)
    top_based = based 0 signature.words given.top given.words_are (unfed_words signature unfed).0

    pub is_given : (rows : List (List Feeder)) (output : Feeder) → AreRight design (Ok tt) → AreWired h rows output → IsGiven k h
    is_given rows output right wired = record { depth = right.2.2; top = top_based; blocks = block_based; outputs = wired.outputs }

  -- the block that an instance uses, as a circuit
  pub used_block : (item : Item) (one_use : BlockUse) → IsUse design signature.blocks item one_use → IsBlockOf k mul h item (circuit_with k mul one_use.circuit (bases_at h (one_use.number + 1)))
  used_block item one_use is =
      record {
        number = one_use.number;
        named = is.is_block.named;
        block = one_use.block;
        found = is.is_block.found;
        model = is.model;
        model_is = is.is_block.model_is;
        is = record { net = one_use.circuit.net; flat = is.circuit.flat; latches = is.circuit.latches; binding = one_use.circuit.binding; bound = is.circuit.bound; is = refl };
      }

  module _ (uses : List BlockUse) (values : AreValues (UseOf design signature.blocks) (instances_of design) uses) where
    pub use_at : (i : ℕ) (item : Item) → slice_get (instances_of design) i ≡ Some item → (one_use : BlockUse) × (slice_get uses i ≡ Some one_use) × IsUse design signature.blocks item one_use
    use_at i item at =
        let one_use = get_below uses i (omega (arith, values.long, slice_get_within (instances_of design) i item at)) in
        (one_use.0, one_use.1, values.each i item one_use.0 at one_use.1)

    pub have_blocks : HaveBlocks k mul h
    have_blocks i item at = let one_use = use_at i item at in (circuit_with k mul one_use.0.circuit (bases_at h (one_use.0.number + 1)), used_block item one_use.0 one_use.2)

    -- the flat top has no latch, and so is a circuit
    pub top_circuit : IsComposable k mul design signature bases → IsUnfed signature (Ok tt) → HasInstancesAlone design (Ok tt) → AreRight design (Ok tt) → (top : Circuit) × IsTop k mul h top
    top_circuit given unfed alone right =
        let whole = flat_of design 0 given.net given.flat in
        let none : whole.0.latches ≡ [] = no_latches design whole.0 right.2.2 (no_gate (gate_line design) alone) whole.1 latchless in
        let latches : given.net.latches ≡ [] = ap (λ (n : NetList). n.latches) whole.2 ∙ none in
        let P : List FeedText → Type 0 = λ feeds. BindingOf given.net signature.words feeds (Ok given.binding) in (
          circuit_with k mul (record { net = given.net; binding = given.binding }) (bases_at h 0),
          record { net = given.net; flat = given.flat; latches = latches; binding = given.binding; bound = subst P (unfed_words signature unfed).1 given.bound; is = refl },
        )
      where
        latchless : (i model : ℕ) (item : Item) → slice_get (instances_of design) i ≡ Some item → model_named design (model_in item) ≡ Some model → (flat : Flat) × (walked nothing (walk_of design model) ≡ Ok flat) × (flat.latches ≡ [])
        latchless i model item at named =
            let one_use = use_at i item at in
            let there : model_named design (model_in item) ≡ Some one_use.2.model = one_use.2.is_block.model_is in
            let same : one_use.2.model ≡ model = cc in
            let flat = flat_of design one_use.2.model one_use.0.circuit.net one_use.2.circuit.flat in
            let P : ℕ → Type 0 = λ m. walked nothing (walk_of design m) ≡ Ok flat.0 in
            (flat.0, subst P same flat.1, sym (ap (λ (n : NetList). n.latches) flat.2) ∙ one_use.2.circuit.latches)

    -- the blocks of the instances, with their circuits and bases
    pub kept_blocks : (numbers : List ℕ) (circuits : List (Option BoundNet)) → IsComposable k mul design signature bases → AreKept uses numbers circuits → AreKeptBlocks k mul signature.blocks circuits bases numbers
    kept_blocks numbers circuits given kept i number got =
        let less = slice_get_within numbers i number got in
        let item = get_below (instances_of design) i (omega (arith, less, kept.long, values.long)) in
        let one_use = use_at i item.0 item.1 in
        let there : slice_get numbers i ≡ Some one_use.0.number = kept.number i one_use.0 one_use.1 in
        let same : one_use.0.number ≡ number = cc in
        let block : BlockValue = one_use.0.block in
        let found : slice_get signature.blocks one_use.0.number ≡ Some block = one_use.2.is_block.found in
        let has = given.blocks one_use.0.number block found in
        let can = given.blocks_are one_use.0.number block found in
        let bound = one_use.2.circuit.bound in
        let words : AreBound one_use.0.circuit.net block.words one_use.0.circuit.binding.words = binding_named one_use.0.circuit.net block.words one_use.0.circuit.binding can.unfed bound in
        let P : ℕ → Type 0 = λ n. IsKeptBlock k mul signature.blocks circuits bases n one_use.0.circuit has.list in (
          one_use.0.circuit,
          has.list,
          subst P same (record {
            block = block;
            found = found;
            at = kept.circuit i one_use.0 one_use.1;
            bases_at = has.at;
            bits = binding_bits one_use.0.circuit.net k block.words one_use.0.circuit.binding can.words_are bound;
            bases_are = record { long = has.long ∙ sym (bound_long one_use.0.circuit.net block.words one_use.0.circuit.binding.words words); each = has.each };
          }),
        )
