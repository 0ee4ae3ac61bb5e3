-- The circuit of a model, flattened alone.
use Rattle.std.proofs.Common.{◌≡◌, ◌≢◌, ◌∙◌, ap, sym, refl, subst, inl, inr, ℕ, zero, suc, List, [], ◌∷◌, length, map, Ok, Some}
use Rattle.std.specs.Prelude.{slice_get}
use Rattle.lists.specs.Lists.{Has}
use Rattle.lists.specs.laws.HasLaws.{All_has, all_from}
use Rattle.net_core.specs.NetList.{NetList}
use Rattle.net_core.specs.Sound.{IsSound}
use Rattle.net_words.specs.Bind.{BindingOf}
use Rattle.net_words.specs.Binding.{AreWords, Binding, HasWidth}
use Rattle.net_words.specs.BoundTo.{IsBoundTo}
use Rattle.net_words.specs.OneCycle.{IsFlat}
use Rattle.net_words.specs.declared.bound.BoundWord.{BoundWord}
use Rattle.net_words.specs.declared.word.Role.TheVariants.{Fed}
use Rattle.net_words.specs.declared.word.WordText.{WordText}
use Rattle.net_words.proofs.BoundLemmas.{bound_to}
use Rattle.net_blif.specs.Design.{ModelValue}
use Rattle.net_flat.specs.Flat.{net_list, nothing, walked, Flat, Flattens}
use Rattle.net_flat.specs.Walk.{walk_of}
use Rattle.gf_field.specs.Field.{HasNoZeroDivisors}
use Rattle.gf_field.specs.Ring.{IsRing}
use Rattle.circuit_model.specs.Circuit.{Circuit}
use Rattle.circuit_model.specs.OfBinding.{circuit_with}
use Rattle.circuit_model.specs.WellFormed.{IsWellFormed}
use Rattle.circuit_model.proofs.TakenLemmas.{taken_well}
use Rattle.compose_model.specs.Given.{HaveBasesOf}
use Rattle.compose_model.specs.Hierarchy.{Hierarchy}
use Rattle.compose_model.specs.NamedWord.{inputs_among, named_words, outputs_among, NamedWord}
use Rattle.compose_model.specs.Values.{IsCircuitOf}
use Rattle.compose_model.proofs.InputsLemmas.{inputs_are, output_basis_is, output_named, AreInputs}
use Rattle.compose_model.proofs.NamesLemmas.{binding_named, binding_unfed, AreBound, AreUnfed, HaveNumbers}
use Rattle.net_words.proofs.SharedLemmas.{no_feeds}

-- a net is the net list of its model's walk
pub flat_of : (design : List ModelValue) (model : ℕ) (net : NetList) → Flattens design model (Ok net) → (flat : Flat) × (walked nothing (walk_of design model) ≡ Ok flat) × (net ≡ net_list flat) × IsSound (net_list flat)
flat_of design model net (flat, e, rest) = (flat, sym e, rest.0, rest.1)

bound_unfed : (net : NetList) (words : List WordText) (bs : List BoundWord) (i : ℕ) (b : BoundWord) → AreBound net words bs → AreUnfed words → slice_get bs i ≡ Some b → b.role ≢ Fed
bound_unfed net [] [] i b bound unfed got = absurd (cc)
bound_unfed net [] (c ∷ bs) i b bound unfed got = absurd bound
bound_unfed net (w ∷ ws) [] i b bound unfed got = absurd bound
bound_unfed net (w ∷ ws) (c ∷ bs) zero b bound unfed got = let same : c ≡ b = cc in λ fed. unfed.0 (sym bound.0 ∙ ap (λ (u : BoundWord). u.role) same ∙ fed)
bound_unfed net (w ∷ ws) (c ∷ bs) (suc i) b bound unfed got = bound_unfed net ws bs i b bound.2 unfed.1 got

-- where nothing is fed and there are no latches, what is bound is of one cycle
pub flat_binding : (k : ℕ) (words : List WordText) → AreWords k words → AreUnfed words → (net : NetList) (binding : Binding) → IsSound net → net.latches ≡ [] → BindingOf net words [] (Ok binding) → IsFlat net binding
flat_binding k words words_are unfed net binding sound none bound =
    let is : IsBoundTo net binding = bound_to net k words [] binding sound words_are (no_feeds k (map (λ word. word.role) words)) bound in
    let named : AreBound net words binding.words = binding_named net words binding unfed bound in
    record {
      latches = none;
      feeds = binding_unfed net words binding bound;
      named = all_from (λ (word : BoundWord). length word.nets ≡ binding.k) binding.words (λ word has.
          wide named word has (All_has (HasWidth binding.k) binding.words word is.parts.each has));
    }
  where
    wide : AreBound net words binding.words → (word : BoundWord) → Has binding.words word → HasWidth binding.k word → length word.nets ≡ binding.k
    wide named word has (inl long) = long
    wide named word has (inr fed) = absurd (bound_unfed net words binding.words has.0 word named unfed has.1 fed.0)

-- what is known of the circuit of a model
pub record AreFacts (k : ℕ) (mul : ℕ → ℕ → ℕ) (alone : Flat) (words : List WordText) (bases : List (List ℕ)) (circuit : Circuit) : Type 0 where
  pub well : IsWellFormed circuit
  pub bits : circuit.k ≡ k
  pub product : circuit.product ≡ mul
  pub net : circuit.net ≡ net_list alone
  pub latches : circuit.net.latches ≡ []
  pub cycles : circuit.cycles ≡ 0
  pub inputs : AreInputs (net_list alone) (inputs_among (named_words words bases)) circuit.words
  pub output : (word : NamedWord) → outputs_among (named_words words bases) ≡ word ∷ [] → HaveNumbers (net_list alone) word.nets circuit.output.nets
  pub basis : (word : NamedWord) → outputs_among (named_words words bases) ≡ word ∷ [] → circuit.output.basis ≡ word.basis

module _ (k : ℕ) (mul : ℕ → ℕ → ℕ) (ring : IsRing k mul) (field : HasNoZeroDivisors k mul) (h : Hierarchy) (model : ℕ) (words : List WordText) (bases : List (List ℕ)) (based : HaveBasesOf k words bases) where
  facts_with : (alone : Flat) (net : NetList) (binding : Binding) → net ≡ net_list alone → IsSound (net_list alone) → net.latches ≡ [] → BindingOf net words [] (Ok binding) → AreFacts k mul alone words bases (circuit_with k mul (record { net = net; binding = binding }) bases)
  facts_with alone net binding same sound none bound =
      let P : NetList → Type 0 = IsSound in
      let sound_net : IsSound net = subst P (sym same) sound in
      let named : AreBound net words binding.words = binding_named net words binding based.unfed bound in
      let Q : NetList → Type 0 = λ n. AreBound n words binding.words in
      let named_alone : AreBound (net_list alone) words binding.words = subst Q same named in
      record {
        well = taken_well k mul (record { net = net; binding = binding }) words [] bases ring field sound_net based.words_are (no_feeds k (map (λ word. word.role) words)) bound (flat_binding k words based.words_are based.unfed net binding sound_net none bound) based.long based.each;
        bits = refl;
        product = refl;
        net = same;
        latches = none;
        cycles = refl;
        inputs = inputs_are (net_list alone) words binding.words bases named_alone based.long;
        output = λ word one. output_named (net_list alone) words binding.words bases word named_alone based.long one;
        basis = λ word one. output_basis_is (net_list alone) words binding.words bases word [] named_alone based.long one;
      }

  -- the facts of the circuit of a model
  pub facts_of : (circuit : Circuit) → IsCircuitOf k mul h model words bases circuit → (alone : Flat) × (walked nothing (walk_of h.design model) ≡ Ok alone) × AreFacts k mul alone words bases circuit
  facts_of circuit is =
      let flat = flat_of h.design model is.net is.flat in
      let P : Circuit → Type 0 = AreFacts k mul flat.0 words bases in
      (flat.0, flat.1, subst P is.is (facts_with flat.0 is.net is.binding flat.2 flat.3 is.latches is.bound))
