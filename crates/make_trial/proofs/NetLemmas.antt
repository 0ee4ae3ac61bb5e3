-- The net of a trial: its gate is there, it is sound, its words bind to it, and nothing is left to unroll.
use Rattle.std.proofs.Common.{◌≡◌, ◌∙◌, ap, sym, refl, inl, inr, ℕ, zero, suc, codes, ◌<◌, ◌≤◌, ◌+◌, ◌*◌, ◌/◌, ◌%◌, ◌^◌, [], length, take, drop, Option, Some, Result, Ok, Err, arith}
use Rattle.std.specs.Prelude.{slice_get, slice_index}
use Rattle.std.specs.List.{range_with_len}
use Rattle.std.proofs.Math.Nat.{mul-pos}
use Rattle.std.proofs.lemmas.Nat.{mod_below}
use Rattle.lists.specs.Lists.{Has}
use Rattle.lists.specs.laws.HasLaws.{all_from as all_has, none_at as none_of, Has_cases, Has_left}
use Rattle.gf_field.specs.Modulus.{IsModulus}
use Rattle.net_core.specs.GateValue.{GateValue}
use Rattle.net_core.specs.NetList.{nets}
use Rattle.net_core.specs.Sound.{IsSound}
use Rattle.net_core.specs.Turned.{turned}
use Rattle.net_core.proofs.TurnLemmas.{turned_sound}
use Rattle.net_words.specs.Bind.{BindingOf}
use Rattle.net_words.specs.Binding.{Binding, BoundNet}
use Rattle.net_words.specs.BindReading.{FitsBinding}
use Rattle.net_words.specs.declared.binding.BindFault.{BindFault}
use Rattle.net_words.specs.declared.binding.BindFault.TheVariants as binds
use Rattle.net_words.specs.declared.word.BasisText.TheVariants.{Poly}
use Rattle.net_words.specs.declared.word.Role.TheVariants.{Input, Output}
use Rattle.net_words.specs.declared.word.WordText.{WordText}
use Rattle.net_words.proofs.BindDetermined.{binding_determined}
use Rattle.make_nets.specs.BindingOfMade.{binding_of}
use Rattle.make_nets.specs.Form.{AllPoly, HasWords}
use Rattle.make_nets.specs.Made.{IsPlanFor}
use Rattle.make_nets.specs.Ports.{word_names}
use Rattle.make_nets.proofs.BindingLemmas.{found_front, words_bind}
use Rattle.make_nets.proofs.MadeLemmas.{made_sound, outer_found}
use Rattle.make_nets.specs.Plan.{Plan}
use Rattle.mult_gen.specs.Chains.{mastrovito_plan}
use Rattle.mult_gen.specs.Form.{HasPolyForm, inputs_in, made_mastrovito, outer_of, outputs_in}
use Rattle.mult_gen.proofs.ComputeLemmas.{mastrovito_fits}
use Rattle.mult_gen.proofs.PlanLemmas.{held}
use Rattle.make_trial.proofs.DifferLemmas.{product_gates}
use Rattle.make_trial.proofs.MutatedLemmas.{column_low, place_is, row_low}
use Rattle.make_trial.proofs.PlaceLemmas.{and_gate}
use Rattle.unroll.specs.Unrolled.{unrolled}
use Rattle.make_trial.specs.TwoInputs.{lettered, two_inputs}
use Rattle.make_trial.specs.Trial.{trial_circuit, trial_index, trial_net, trial_place, trial_words}
use Rattle.make_trial.proofs.NameLemmas.{trial_names, trial_wide}

pub place_low : (k number : ℕ) → 1 ≤ k → trial_place k number < k * k
place_low k number some = mod_below number (k * k) (mul-pos some some)

pub index_low : (k number : ℕ) → trial_index k number < 4
index_low k number = omega arith

pub trial_two : (k : ℕ) → HasWords Input 2 (trial_words k)
trial_two k = record { all = refl; others = refl; output = refl }

-- the signature has the form of the multiplier
trial_poly : (k : ℕ) → AllPoly (trial_words k)
trial_poly k = all_has (λ word. word.basis ≡ Poly) (trial_words k) (λ word has. by word has)
  where
    same : (w word : WordText) → ◌≡◌ {A = Option WordText} (Some w) (Some word) → w ≡ word
    same w word e = cc

    by : (word : WordText) → Has (trial_words k) word → word.basis ≡ Poly
    by word (zero, got) = ap (λ (w : WordText). w.basis) (sym (same (lettered 3 (codes "A") Input (codes "a") k) word got))
    by word (suc zero, got) = ap (λ (w : WordText). w.basis) (sym (same (lettered 4 (codes "B") Input (codes "b") k) word got))
    by word (suc (suc zero), got) = ap (λ (w : WordText). w.basis) (sym (same (lettered 5 (codes "Z") Output (codes "z") k) word got))
    by word (suc (suc (suc i)), got) = absurd (cc)

pub trial_form : (k g : ℕ) → k ≤ 64 → HasPolyForm 2 (two_inputs k g)
trial_form k g most = record { tower = refl; bases = trial_poly k; ports = record { blocks = refl; feeds = refl; words = trial_two k; names = trial_names k most } }

module _ (k g : ℕ) (ok : IsModulus k g) (number : ℕ) where
  abbrev p : ℕ
  p = trial_place k number

  abbrev index : ℕ
  index = trial_index k number

  abbrev plan : Plan
  plan = mastrovito_plan (outer_of (trial_words k)) k g (take k (inputs_in (trial_words k))) (drop k (inputs_in (trial_words k))) (outputs_in (trial_words k))

  low : trial_place k number < k * k
  low = place_low k number ok.some

  abbrev gate : GateValue
  gate = and_gate (outer_of (trial_words k) + trial_place k number / k * k + trial_place k number % k) (slice_index (take k (inputs_in (trial_words k))) (trial_place k number / k)) (slice_index (drop k (inputs_in (trial_words k))) (trial_place k number % k))

  gate_there : slice_get (made_mastrovito k g (trial_words k)).gates (trial_place k number) ≡ Some gate
  gate_there = ap (slice_get (made_mastrovito k g (trial_words k)).gates) (sym (place_is k p)) ∙ product_gates k g (trial_words k) (p / k) (p % k) (row_low k p low) (column_low k p low)

  -- the gate that is turned has two inputs
  pub gate_has : (h : GateValue) × (slice_get (made_mastrovito k g (trial_words k)).gates (trial_place k number) ≡ Some h) × (trial_index k number < 2 ^ length h.inputs)
  gate_has = (gate, gate_there, let less = index_low k number in omega (arith, less))

  fits : IsPlanFor (trial_words k) [] [] (outputs_in (trial_words k)) plan
  fits = mastrovito_fits k g ok.small (trial_words k) (trial_two k) (trial_wide k)

  pub net_sound : IsSound (trial_net k g number)
  unfolding trial_net
  net_sound =
      turned_sound (made_mastrovito k g (trial_words k)) p index gate gate_there (let less = index_low k number in omega (arith, less))
      (made_sound (trial_words k) [] [] (outputs_in (trial_words k)) plan (trial_names k ok.small) fits)

  pub net_binds : BindingOf (trial_net k g number) (trial_words k) [] (Ok (binding_of (trial_net k g number) (trial_words k) []))
  unfolding trial_net
  net_binds =
      words_bind (turned (made_mastrovito k g (trial_words k)) p index) (trial_words k) [] []
      (found_front (made_mastrovito k g (trial_words k)) 0 (word_names (trial_words k)) [] (outer_found (trial_words k) [] [] (outputs_in (trial_words k)) plan (trial_names k ok.small) fits))
      (λ n h. Has_left (inputs_in (trial_words k)) (range_with_len (outer_of (trial_words k)) 0) n h) (held 2 k (trial_words k) (trial_two k) (trial_wide k)) refl
      (λ n h. elim (Has_cases (inputs_in (trial_words k)) (range_with_len (outer_of (trial_words k)) 0) n h) [ inl w ↦ inl w | inr w ↦ absurd (none_of n w) ])

  one : (x y : Result Binding BindFault) → BindingOf (trial_net k g number) (trial_words k) [] x → BindingOf (trial_net k g number) (trial_words k) [] y → x ≡ y
  one = binding_determined (trial_net k g number) (trial_words k) []

  same_ok : (a b : Binding) → ◌≡◌ {A = Result Binding BindFault} (Ok a) (Ok b) → a ≡ b
  same_ok a b e = cc

  pub only_binding : (bound : Binding) → BindingOf (trial_net k g number) (trial_words k) [] (Ok bound) → bound ≡ (trial_circuit k g number).binding
  only_binding bound is = same_ok bound (trial_circuit k g number).binding (one (Ok bound) (Ok (trial_circuit k g number).binding) is net_binds)

  pub no_fault : (fault : BindFault) → BindingOf (trial_net k g number) (trial_words k) [] (Err fault) → ⊥
  no_fault fault is = let wrong = one (Err fault) (Ok (trial_circuit k g number).binding) is net_binds in cc

  -- so binding answers no fault but out of memory
  pub only_memory : (fault : BindFault) → FitsBinding {A = Binding} (λ bound. bound) (Err fault) (BindingOf (trial_net k g number) (trial_words k) []) → fault ≡ binds.OutOfMemory
  only_memory (binds.NoSuchNet word place) is = absurd (no_fault (binds.NoSuchNet word place) is)
  only_memory (binds.NotInput word place) is = absurd (no_fault (binds.NotInput word place) is)
  only_memory (binds.NotLatch word place) is = absurd (no_fault (binds.NotLatch word place) is)
  only_memory (binds.NetTwice n) is = absurd (no_fault (binds.NetTwice n) is)
  only_memory (binds.FeedNotFree line) is = absurd (no_fault (binds.FeedNotFree line) is)
  only_memory (binds.Uncovered n) is = absurd (no_fault (binds.Uncovered n) is)
  only_memory (binds.UnknownStart n) is = absurd (no_fault (binds.UnknownStart n) is)
  only_memory binds.OutOfMemory is = refl

  -- it is the multiplier with one bit turned
  pub trial_is : turned (made_mastrovito k g (trial_words k)) (trial_place k number) (trial_index k number) ≡ trial_net k g number
  unfolding trial_net
  trial_is = refl

  -- nothing is left to unroll
  pub stays : unrolled (trial_net k g number) (trial_circuit k g number).binding 0 ≡ trial_circuit k g number
  unfolding trial_net
  stays = refl

  pub few_nets : 2 ^ 20 < nets (unrolled (trial_net k g number) (trial_circuit k g number).binding 0).net → ⊥
  few_nets more = let most = net_sound.inside.few_nets in let same = ap (λ (c : BoundNet). nets c.net) stays in omega (arith, most, more, same)

  pub few_gates : 2 ^ 20 < length (unrolled (trial_net k g number) (trial_circuit k g number).binding 0).net.gates → ⊥
  few_gates more = let most = net_sound.inside.few_gates in let same = ap (λ (c : BoundNet). length c.net.gates) stays in omega (arith, most, more, same)
