-- All cycles of a netlist as one circuit.
use Rattle.std.proofs.Common.{◌≡◌, ◌∙◌, ap, sym, refl, subst, inl, inr, ℕ, suc, ◌⊎◌, ◌^◌, Bool, ◌<◌, ◌≤◌, List, [], ◌∷◌, length, map, drop, true, false, cond, Result, Ok, Err, arith}
use Rattle.std.specs.Prelude.{IfOk}
use Rattle.std.proofs.lemmas.Bool.{cases_lt}
use Rattle.outcome.specs.Outcome.{Determined}
use Rattle.net_core.specs.NetList.{nets}
use Rattle.net_words.specs.Binding.{BoundNet}
use Rattle.net_words.specs.Rebind.{rebound}
use Rattle.net_words.specs.declared.bound.BoundWord.{BoundWord}
use Rattle.unroll.specs.Unrolled.{in_one_cycle, is_flat, unrolled, unrolled_nets}
use Rattle.unroll.specs.declared.fault.UnrollFault.{UnrollFault}
use Rattle.unroll.specs.declared.fault.UnrollFault.TheVariants as unrolls
use Rattle.job_words.specs.declared.netlist_fault.NetlistFault.TheVariants.{TooManyNets, TooManyGates}
use Rattle.job_words.specs.declared.stop.Stop.{Stop}
use Rattle.job_input.specs.CircuitOf.{CircuitOf, all_cycles}
use Rattle.job_input.specs.Setting.{IsReady, IsTakenFor}
use Rattle.job_input.specs.private.NetlistReading.{FitsNetlist, unroll_refusal}
use Rattle.job_input.specs.declared.setting.Setting.{Setting}

-- ---- at most one circuit

pub circuit_determined : (netlist : BoundNet) (cycles : ℕ) → Determined (CircuitOf netlist cycles)
circuit_determined netlist cycles (Ok a) (Ok b) h k = ap Ok (h.0 ∙ sym k.0)
circuit_determined netlist cycles (Ok a) (Err e) h (inl k) = absurd (omega (arith, h.1, k.1))
circuit_determined netlist cycles (Ok a) (Err e) h (inr k) = absurd (omega (arith, h.2, k.2))
circuit_determined netlist cycles (Err d) (Ok b) (inl h) k = absurd (omega (arith, h.1, k.1))
circuit_determined netlist cycles (Err d) (Ok b) (inr h) k = absurd (omega (arith, h.2, k.2))
circuit_determined netlist cycles (Err d) (Err e) (inl h) (inl k) = ap Err (h.0 ∙ sym k.0)
circuit_determined netlist cycles (Err d) (Err e) (inl h) (inr k) = absurd (omega (arith, h.1, k.1))
circuit_determined netlist cycles (Err d) (Err e) (inr h) (inl k) = absurd (omega (arith, h.1, k.1))
circuit_determined netlist cycles (Err d) (Err e) (inr h) (inr k) = ap Err (h.0 ∙ sym k.0)

-- ---- its words

rebound_roles : (k : ℕ) (words : List BoundWord) (list : List ℕ) → map (λ (w : BoundWord). w.role) (rebound k words list) ≡ map (λ (w : BoundWord). w.role) words
rebound_roles k [] list = refl
rebound_roles k (word ∷ words) list = ap (λ rs. word.role ∷ rs) (rebound_roles k words (drop k list))

rebound_long : (k : ℕ) (words : List BoundWord) (list : List ℕ) → length (rebound k words list) ≡ length words
rebound_long k [] list = refl
rebound_long k (word ∷ words) list = ap suc (rebound_long k words (drop k list))

-- the same words: as many, with the same roles, of k bits each
pub record KeepsWords (netlist circuit : BoundNet) : Type 0 where
  pub bits : circuit.binding.k ≡ netlist.binding.k
  pub roles : map (λ (w : BoundWord). w.role) circuit.binding.words ≡ map (λ (w : BoundWord). w.role) netlist.binding.words
  pub long : length circuit.binding.words ≡ length netlist.binding.words

pub keeps_words : (netlist : BoundNet) (cycles : ℕ) → KeepsWords netlist (all_cycles netlist cycles)
unfolding all_cycles
keeps_words netlist cycles = by (is_flat netlist.net netlist.binding)
  where
    flat : BoundNet
    flat = record { net = netlist.net; binding = netlist.binding }

    list : List ℕ
    list = unrolled_nets netlist.net netlist.binding cycles

    by : (b : Bool) → KeepsWords netlist (cond b flat (in_one_cycle netlist.net netlist.binding cycles))
    by true = record { bits = refl; roles = refl; long = refl }
    by false = record { bits = refl; roles = rebound_roles netlist.binding.k netlist.binding.words list; long = rebound_long netlist.binding.k netlist.binding.words list }

-- what is taken for a setting stays so
pub still_taken : (k : ℕ) (setting : Setting) (netlist circuit : BoundNet) → KeepsWords netlist circuit → IsTakenFor k setting netlist → IsTakenFor k setting circuit
still_taken k setting netlist circuit keeps taken = record { bits = keeps.bits ∙ taken.bits; roles = keeps.roles ∙ taken.roles; long = taken.long ∙ sym keeps.long }

pub circuit_taken : (netlist circuit : BoundNet) (cycles : ℕ) → CircuitOf netlist cycles (Ok circuit) → (k : ℕ) (setting : Setting) → IsTakenFor k setting netlist → IsTakenFor k setting circuit
circuit_taken netlist circuit cycles is k setting taken =
    let P : BoundNet → Type 0 = λ c. KeepsWords netlist c in
    still_taken k setting netlist circuit (subst P (sym is.0) (keeps_words netlist cycles)) taken

-- so does what is taken for each field
pub still_taken_for : (setting : Setting) (netlist : BoundNet) (result : Result BoundNet Stop) → IfOk result (λ circuit. (k : ℕ) (s : Setting) → IsTakenFor k s netlist → IsTakenFor k s circuit) → ((k : ℕ) (product : ℕ → ℕ → ℕ) → IsReady k product setting → IsTakenFor k setting netlist)
    → IfOk result (λ circuit. (k : ℕ) (product : ℕ → ℕ → ℕ) → IsReady k product setting → IsTakenFor k setting circuit)
still_taken_for setting netlist (Ok circuit) keeps taken = λ k product ready. keeps k setting (taken k product ready)
still_taken_for setting netlist (Err stop) keeps taken = tt

-- ---- what comes of unrolling

le_of_not_lt : (m n : ℕ) → (m < n → ⊥) → n ≤ m
le_of_not_lt m n none = by (cases_lt m n)
  where
    by : (m < n) ⊎ (n ≤ m) → n ≤ m
    by (inl less) = absurd (none less)
    by (inr le) = le

pub circuit_made : (netlist circuit : BoundNet) (cycles : ℕ) → circuit ≡ unrolled netlist.net netlist.binding cycles → (2 ^ 20 < nets (unrolled netlist.net netlist.binding cycles).net → ⊥) → length (unrolled netlist.net netlist.binding cycles).net.gates ≤ 2 ^ 20 → CircuitOf netlist cycles (Ok circuit)
unfolding all_cycles
circuit_made netlist circuit cycles made few room = (made, le_of_not_lt (2 ^ 20) (nets (unrolled netlist.net netlist.binding cycles).net) few, room)

too_many_nets : (netlist : BoundNet) (cycles : ℕ) → 2 ^ 20 < nets (unrolled netlist.net netlist.binding cycles).net → CircuitOf netlist cycles (Err TooManyNets)
unfolding all_cycles
too_many_nets netlist cycles many = inl (refl, many)

too_many_gates : (netlist : BoundNet) (cycles : ℕ) → (2 ^ 20 < nets (unrolled netlist.net netlist.binding cycles).net → ⊥) → 2 ^ 20 < length (unrolled netlist.net netlist.binding cycles).net.gates → CircuitOf netlist cycles (Err TooManyGates)
unfolding all_cycles
too_many_gates netlist cycles few many = inr (refl, le_of_not_lt (2 ^ 20) (nets (unrolled netlist.net netlist.binding cycles).net) few, many)

-- a netlist that is not unrolled, by what its fault tells of its nets and gates
pub cycles_refused : (netlist : BoundNet) (cycles : ℕ) (fault : UnrollFault) → (fault ≡ unrolls.TooManyNets → 2 ^ 20 < nets (unrolled netlist.net netlist.binding cycles).net) → (2 ^ 20 < nets (unrolled netlist.net netlist.binding cycles).net → fault ≡ unrolls.TooManyNets)
    → (fault ≡ unrolls.TooManyGates → 2 ^ 20 < length (unrolled netlist.net netlist.binding cycles).net.gates) → FitsNetlist {A = BoundNet} (Err (unroll_refusal fault)) (CircuitOf netlist cycles)
cycles_refused netlist cycles unrolls.TooManyNets many told many_gates = too_many_nets netlist cycles (many refl)
cycles_refused netlist cycles unrolls.TooManyGates many told many_gates = too_many_gates netlist cycles (λ over. let wrong : unrolls.TooManyGates ≡ unrolls.TooManyNets = told over in absurd (cc)) (many_gates refl)
cycles_refused netlist cycles unrolls.OutOfMemory many told many_gates = tt
