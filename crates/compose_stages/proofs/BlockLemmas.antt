-- The block of an instance: what is known of its circuit, its one polynomial in words, and the value of this polynomial.
use Rattle.std.proofs.Common.{◌≡◌, ◌∙◌, ap, refl, subst, ℕ, zero, suc, ◌<◌, ◌≤◌, ◌+◌, ◌-◌, ◌^◌, List, [], ◌∷◌, length, replicate, Some, arith}
use Rattle.std.specs.Prelude.{slice_get}
use Rattle.std.specs.List.{AllByRecursion}
use Rattle.lists.specs.Lists.{Has}
use Rattle.lists.specs.laws.TakeLaws.{taken_front}
use Rattle.net_blif.specs.Top.{instances_of}
use Rattle.net_blif.specs.declared.item.Item.{Item}
use Rattle.net_flat.specs.Flat.{Flat}
use Rattle.gf_field.specs.Field.{HasNoZeroDivisors}
use Rattle.gf_field.specs.Ring.{IsRing}
use Rattle.poly_mixed.specs.Polynomial.{value, IsElement, IsPoint, Terms}
use Rattle.circuit_model.specs.Circuit.{Circuit, IsInput}
use Rattle.circuit_model.specs.Out.{IsOut}
use Rattle.circuit_model.specs.WellFormed.{IsWellFormed}
use Rattle.circuit_model.proofs.OutLemmas.{one_out}
use Rattle.stage_model.specs.InputPoint.{input_of}
use Rattle.stage_model.specs.OutputInWords.{IsOutputInWords}
use Rattle.stage_model.proofs.OutputInWordsLemmas.{all_words_is_output}
use Rattle.stage_model.proofs.WordStageLemmas.{one_terms}
use Rattle.compose_polys.specs.Instance.{point_of}
use Rattle.compose_model.specs.Given.{IsGiven}
use Rattle.compose_model.specs.Hierarchy.{bases_at, Hierarchy}
use Rattle.compose_model.specs.Values.{IsBlockOf}
use Rattle.compose_model.proofs.InstanceLemmas.{facts_of, AreFacts}
use Rattle.compose_blocks.proofs.OneCircuitLemmas.{one_block}
use Rattle.compose_polys.proofs.PointLemmas.{is_point_of}
use Rattle.compose_stages.specs.InstanceStages.{IsBlockPoly}

elements_from : (k : ℕ) (xs : List ℕ) → ((x : ℕ) → Has xs x → x < 2 ^ k) → AllByRecursion (IsElement k) xs
elements_from k [] each = tt
elements_from k (x ∷ xs) each = (each x (zero, refl), elements_from k xs (λ y has. each y (suc has.0, has.1)))

pub one_polynomial : (circuit : Circuit) → IsWellFormed circuit → (ts us : Terms) → IsOutputInWords circuit ts → IsOutputInWords circuit us → ts ≡ us
one_polynomial circuit well ts us a b =
    one_terms circuit well (length circuit.words) ts us ((all_words_is_output circuit well ts).1 a) ((all_words_is_output circuit well us).1 b)

module _ (k : ℕ) (mul : ℕ → ℕ → ℕ) (ring : IsRing k mul) (field : HasNoZeroDivisors k mul) (h : Hierarchy) (given : IsGiven k h) where
  -- what is known of the circuit of a block
  pub block_facts : (item : Item) (circuit : Circuit) → (is : IsBlockOf k mul h item circuit) → (alone : Flat) × AreFacts k mul alone is.block.words (bases_at h (is.number + 1)) circuit
  block_facts item circuit is =
      let found = facts_of k mul ring field h is.model is.block.words (bases_at h (is.number + 1)) (given.blocks is.number is.block is.found) circuit is.is in
      (found.0, found.2)

  -- a block's output is the value of its polynomial in words
  pub block_value : (item : Item) (circuit : Circuit) (block : Terms) (ys : List ℕ) (e : ℕ) → IsBlockOf k mul h item circuit → IsOutputInWords circuit block → IsOut circuit ys e → e ≡ value mul (point_of ys) block
  block_value item circuit block ys e is output out =
      let facts = (block_facts item circuit is).1 in
      let input : IsInput circuit ys = out.is_run.open_run.input in
      let few : length ys ≤ 8 = omega (arith, input.long, facts.well.few) in
      let point : IsPoint circuit.k (point_of ys) = is_point_of circuit.k ys few (elements_from circuit.k ys input.elements) in
      let there : IsOut circuit (input_of circuit (point_of ys)) (value circuit.product (point_of ys) block) = output.values (point_of ys) point in
      let same : input_of circuit (point_of ys) ≡ ys = taken_front ys (replicate (8 - length ys) 0) (length circuit.words) input.long in
      let P : List ℕ → Type 0 = λ zs. IsOut circuit zs (value circuit.product (point_of ys) block) in
      one_out circuit ys e (value circuit.product (point_of ys) block) facts.well out (subst P same there) ∙ ap (λ times. value times (point_of ys) block) facts.product

  -- an instance's block has one polynomial in words
  pub one_poly : (n : ℕ) (ts us : Terms) → IsBlockPoly k mul h n ts → IsBlockPoly k mul h n us → ts ≡ us
  one_poly n ts us a b =
      let place : b.place ≡ a.place = omega (arith, a.number, b.number) in
      let P : ℕ → Type 0 = λ i. slice_get (instances_of h.design) i ≡ Some b.item in
      let at_b : slice_get (instances_of h.design) a.place ≡ Some b.item = subst P place b.at in
      let at_a : slice_get (instances_of h.design) a.place ≡ Some a.item = a.at in
      let item : b.item ≡ a.item = cc in
      let Q : Item → Type 0 = λ it. IsBlockOf k mul h it b.circuit in
      let circuit : b.circuit ≡ a.circuit = one_block k mul h a.item b.circuit a.circuit (subst Q item b.block_is) a.block_is in
      let R : Circuit → Type 0 = λ c. IsOutputInWords c us in
      one_polynomial a.circuit (block_facts a.item a.circuit a.block_is).1.well ts us a.output (subst R circuit b.output)
