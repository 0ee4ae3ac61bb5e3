-- The job of the net gives the product.
use Rattle.std.proofs.Common.{◌≡◌, ◌∙◌, ap, ap₂, sym, refl, subst, ℕ, zero, suc, ◌<◌, ◌^◌, ◌-◌, Bool, List, [], ◌∷◌, length, map, Result, Ok, arith}
use Rattle.std.specs.Prelude.{slice_index, ◌&&◌}
use Rattle.std.specs.Int.{bit_at}
use Rattle.std.proofs.lemmas.Nat.Bits.{bit_at-lt}
use Rattle.lists.specs.Lists.{Has}
use Rattle.lists.specs.laws.ListLaws.{length_map as map_long}
use Rattle.net_core.specs.LatchValue.{LatchValue}
use Rattle.net_core.specs.NetList.{NetList}
use Rattle.net_core.specs.Sound.{IsSound}
use Rattle.net_core.specs.Value.{bit_of, IsConsistent}
use Rattle.net_words.specs.Bind.{BindingOf}
use Rattle.net_words.specs.Binding.{Binding}
use Rattle.net_words.specs.Feeds.{AreFeeds}
use Rattle.net_words.specs.declared.word.Role.TheVariants.{State}
use Rattle.net_words.specs.declared.word.WordText.{WordText}
use Rattle.net_words.proofs.BindDetermined.{binding_determined}
use Rattle.gf_field.specs.Ring.{IsRing}
use Rattle.gf_field.specs.Field.{HasNoZeroDivisors}
use Rattle.gf_field.specs.Polynomial.{sum_of_first}
use Rattle.gf_field.specs.Trace.{frobenius}
use Rattle.gf_basis.specs.Basis.{AreBits, IsBasis}
use Rattle.gf_basis.specs.BasisFault.{conjugates_of}
use Rattle.circuit_model.specs.Circuit.{Circuit}
use Rattle.circuit_model.specs.Job.{IsJob}
use Rattle.circuit_model.specs.JobOfBinding.{job_with}
use Rattle.circuit_model.specs.Out.{IsOut}
use Rattle.circuit_model.specs.Word.{Word}
use Rattle.circuit_model.proofs.TakenLemmas.{taken_job}
use Rattle.gf_basis.proofs.CodeLaws.{get_or-first_values}
use Rattle.gf_field.proofs.SharedLemmas.{same_sum}
use Rattle.make_nets.specs.BindingOfMade.{binding_of}
use Rattle.make_nets.specs.Computes.{ComputesOfTwo}
use Rattle.make_nets.specs.Form.{AllWide, HasWords, same_bases}
use Rattle.make_nets.specs.Ports.{word_names}
use Rattle.make_nets.proofs.FormLemmas.{basis_is, job_words, output_nets}
use Rattle.make_nets.proofs.RunLemmas.{are_words}
use Rattle.make_laws.specs.Chosen.{chosen}
use Rattle.make_laws.specs.NormalRegisters.{last_coordinate, last_coordinate_sum}
use Rattle.make_laws.specs.Held.{bit_at_place, IsHeld, Multiplies}
use Rattle.make_laws.specs.NormalNets.{AreNormalNets, NormalNets}
use Rattle.make_laws.proofs.NormalRunLemmas.{normal_nets_multiply}
use Rattle.mult_normal.specs.Coordinates.{coordinates_in, product_coordinate}
use Rattle.mult_normal.specs.NormalNet.{first_factor, latches_of, normal_net, normal_products, product_nets, second_factor}
use Rattle.mult_normal.specs.NormalPlan.{sum_net}
use Rattle.mult_normal.proofs.CoordinateLemmas.{coordinates_are}
use Rattle.mult_normal.proofs.LatchLemmas.{each_move, first_turn, move, second_turn, turn}
use Rattle.mult_normal.proofs.ProductLemmas.{sum_is}
use Rattle.mult_normal.proofs.WordLemmas.{factors, one, state_other}

module _ (k : ℕ) (mul : ℕ → ℕ → ℕ) (ring : IsRing k mul) (field : HasNoZeroDivisors k mul) (elements : List ℕ) (basis : IsBasis k elements) (gamma : ℕ) (normal : elements ≡ conjugates_of k mul gamma)
    (words : List WordText) (has : HasWords State 2 words) (wide : AllWide k words)
  where
    abbrev net : NetList
    net = normal_net k mul elements words

    abbrev job : Circuit
    job = job_with k mul (record { net = net; binding = binding_of net words [] }) (same_bases elements words) k

    abbrev nets_are : NormalNets
    nets_are = record { a = first_factor k words; b = second_factor k words; z = product_nets words; last = sum_net (normal_products k mul elements words) }

    abbrev state : List ℕ → List ℕ → Word
    state elements nets = record { role = State; nets = nets; basis = elements }

    -- element i of the basis is gamma squared i times
    element_is : (i : ℕ) → i < k → slice_index elements i ≡ frobenius mul i gamma
    element_is i less = ap (λ xs. slice_index xs i) normal ∙ get_or-first_values k (λ j. frobenius mul j gamma) i less

    gamma_below : gamma < 2 ^ k
    unfolding frobenius
    gamma_below = below (basis.inside 0 (let e = basis.size in let s = ring.some in omega (arith, e, s)))
      where
        below : slice_index elements 0 < 2 ^ k → gamma < 2 ^ k
        below h = subst (λ (x : ℕ). x < 2 ^ k) (element_is 0 (let s = ring.some in omega (arith, s)) ∙ start gamma) h
          where
            start : (x : ℕ) → frobenius mul 0 x ≡ x
            start x = refl

    conjugates_basis : IsBasis k (conjugates_of k mul gamma)
    conjugates_basis = subst (IsBasis k) normal basis

    coordinate_is : (i j : ℕ) → i < k → j < k → product_coordinate k mul elements i j ≡ last_coordinate k mul gamma (coordinates_in elements) i j
    coordinate_is i j first second = ap₂ (λ x y. bit_at (coordinates_in elements (mul x y)) (k - 1)) (element_is i first) (element_is j second)

    sums : (bits : List Bool) → IsConsistent net bits → chosen (bit_of bits (sum_net (normal_products k mul elements words))) 1 ≡ last_coordinate_sum k mul gamma (coordinates_in elements) (bit_at_place bits (first_factor k words)) (bit_at_place bits (second_factor k words))
    sums bits consistent =
        sum_is bits k (length (word_names words)) (product_coordinate k mul elements) (first_factor k words) (second_factor k words)
        (λ i j. bit_at-lt (coordinates_in elements (mul (slice_index elements i) (slice_index elements j))) (k - 1)) consistent.gates
        ∙ same_sum k (λ i. sum_of_first k (λ j. chosen (bit_at_place bits (first_factor k words) i && bit_at_place bits (second_factor k words) j) (product_coordinate k mul elements i j)))
        (λ i. sum_of_first k (λ j. chosen (bit_at_place bits (first_factor k words) i && bit_at_place bits (second_factor k words) j) (last_coordinate k mul gamma (coordinates_in elements) i j)))
        (λ i first. same_sum k (λ j. chosen (bit_at_place bits (first_factor k words) i && bit_at_place bits (second_factor k words) j) (product_coordinate k mul elements i j))
        (λ j. chosen (bit_at_place bits (first_factor k words) i && bit_at_place bits (second_factor k words) j) (last_coordinate k mul gamma (coordinates_in elements) i j))
        (λ j second. ap (chosen (bit_at_place bits (first_factor k words) i && bit_at_place bits (second_factor k words) j)) (coordinate_is i j first second)))

    words_are : job.words ≡ state (conjugates_of k mul gamma) (first_factor k words) ∷ state (conjugates_of k mul gamma) (second_factor k words) ∷ []
    words_are =
        let lists = factors k words has wide in
        job_words State 0 words elements state_other (one k words has wide)
        ∙ (ap (map (state elements)) lists.2
        ∙ (ap₂ (λ first second. state elements first ∷ state elements second ∷ []) lists.3 lists.4
        ∙ ap (λ elements. state elements (first_factor k words) ∷ state elements (second_factor k words) ∷ []) normal))

    held_by : (latch : LatchValue) → Has (latches_of k mul elements words) latch → IsHeld net latch.next latch.out
    held_by latch there = record { latch = latch; has = there; next_is = refl; out_is = refl }

    are : AreNormalNets job gamma (coordinates_in elements) nets_are
    are = record {
      words = words_are;
      output_nets = output_nets 0 words;
      output_basis = basis_is 0 0 words elements has.output ∙ normal;
      cycles = refl;
      a_turns = λ i less. held_by (turn k (sum_net (normal_products k mul elements words)) (first_factor k words) (second_factor k words) (product_nets words) (first_factor k words) i)
          (first_turn k (sum_net (normal_products k mul elements words)) (first_factor k words) (second_factor k words) (product_nets words) i less);
      b_turns = λ i less. held_by (turn k (sum_net (normal_products k mul elements words)) (first_factor k words) (second_factor k words) (product_nets words) (second_factor k words) i)
          (second_turn k (sum_net (normal_products k mul elements words)) (first_factor k words) (second_factor k words) (product_nets words) i less);
      z_takes = held_by (move k (sum_net (normal_products k mul elements words)) (first_factor k words) (second_factor k words) (product_nets words) 0)
          (each_move k (sum_net (normal_products k mul elements words)) (first_factor k words) (second_factor k words) (product_nets words) 0 (let s = ring.some in omega (arith, s)));
      z_moves = λ i less. held_by (move k (sum_net (normal_products k mul elements words)) (first_factor k words) (second_factor k words) (product_nets words) (suc i))
          (each_move k (sum_net (normal_products k mul elements words)) (first_factor k words) (second_factor k words) (product_nets words) (suc i) less);
      sums = sums;
    }

    module _ (sound : IsSound net) (binds : BindingOf net words [] (Ok (binding_of net words []))) where
      each_same : (ws : List WordText) (b : List ℕ) → Has (same_bases elements ws) b → IsBasis k b
      each_same [] b (i, got) = absurd (cc)
      each_same (w ∷ ws) b (zero, got) = let same : elements ≡ b = cc in subst (IsBasis k) same basis
      each_same (w ∷ ws) b (suc i, got) = each_same ws b (i, got)

      no_feeds : AreFeeds k (map (λ (w : WordText). w.role) words) []
      no_feeds = record { sources = λ feed there. absurd (let got = there.1 in cc); apart = λ i j f g first second. absurd (cc) }

      is_job : IsJob job
      is_job =
          taken_job k mul (record { net = net; binding = binding_of net words [] }) words [] (same_bases elements words) k ring field sound
          (are_words State 2 k words ring.some ring.small (omega arith) has wide) no_feeds binds (map_long (λ (w : WordText). elements) words) (each_same words)

      multiplies : Multiplies job
      multiplies = normal_nets_multiply job gamma (coordinates_in elements) nets_are is_job are gamma_below conjugates_basis
          (λ x below. subst (λ (es : List ℕ). AreBits es x (coordinates_in elements x)) normal (coordinates_are k elements basis x below))

      one_bound : (bound : Binding) → BindingOf net words [] (Ok bound) → bound ≡ binding_of net words []
      one_bound bound is = same (binding_determined net words [] (Ok bound) (Ok (binding_of net words [])) is binds)
        where
          same : {F : Type 0} {x y : Binding} → ◌≡◌ {A = Result Binding F} (Ok x) (Ok y) → x ≡ y
          same e = cc

      pub computes : ComputesOfTwo k mul net words elements k mul
      computes = record {
        binding = binding_of net words [];
        binds = binds;
        out = λ bound is a b low high.
            let P : Binding → Type 0 = λ x. IsOut (job_with k mul (record { net = net; binding = x }) (same_bases elements words) k) (a ∷ b ∷ []) (mul a b) in
            subst P (sym (one_bound bound is)) (multiplies a b low high);
      }
