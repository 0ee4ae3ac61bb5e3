-- The circuit of all cycles, or a simpler one: sound, with the same words, and of the same function.
use Rattle.std.proofs.Common.{◌≡◌, ◌∙◌, ◌↔◌, ap, sym, subst, ℕ, Bool, true, false, List, length, map, Ok, Err}
use Rattle.outcome.specs.Outcome.{Determined}
use Rattle.net_core.specs.Sound.{IsSound}
use Rattle.net_words.specs.Binding.{Binding, BoundNet}
use Rattle.net_words.specs.OneCycle.{IsOneCycle}
use Rattle.net_words.specs.declared.bound.BoundWord.{BoundWord}
use Rattle.net_simplify.proofs.CircuitLemmas as simplified
use Rattle.circuit_model.specs.Circuit.{Circuit}
use Rattle.circuit_model.specs.OfBinding.{words_of}
use Rattle.circuit_model.specs.Out.{IsOut}
use Rattle.circuit_model.specs.WellFormed.{IsWellFormed}
use Rattle.circuit_model.specs.Word.{Word}
use Rattle.circuit_model.proofs.BoundLemmas.{bound_well}
use Rattle.job_input.specs.CircuitOf.{CircuitOf}
use Rattle.job_input.specs.NetlistOf.{BoundNetOf, NetlistText}
use Rattle.job_input.specs.JobOf.{job_of}
use Rattle.job_input.specs.Setting.{HaveRoles, IsTakenFor}
use Rattle.job_input.specs.SettingSound.{IsSoundSetting}
use Rattle.job_input.specs.SettingValue.{SettingValue}
use Rattle.job_input.specs.declared.setting.Setting.{Setting}
use Rattle.answer_core.specs.Abstraction.{taken_circuit}
use Rattle.answer_core.specs.Simpler.{IsSimpler, SimplerOf, SimplerOfText}
use Rattle.answer_core.proofs.JobLemmas.{IsOneWith, with_job}
use Rattle.answer_core.proofs.TakenLemmas.{bases_long, circuit_bits, circuit_roles, one_cycle}

-- ---- a circuit and a simpler one

-- the words are the same
pub same_binding : (simple : Bool) (circuit simpler : BoundNet) → IsSimpler simple circuit simpler → simpler.binding ≡ circuit.binding
same_binding true circuit simpler is = is.binding
same_binding false circuit simpler same = ap (λ (c : BoundNet). c.binding) same

-- the net list is sound, with the words in one cycle
simpler_cycle : (simple : Bool) (circuit simpler : BoundNet) → IsSound circuit.net × IsOneCycle circuit.net circuit.binding → IsSimpler simple circuit simpler → IsSound simpler.net × IsOneCycle simpler.net simpler.binding
simpler_cycle true circuit simpler (sound, one) is = (simplified.circuit_sound circuit simpler sound is, simplified.circuit_cycle circuit simpler sound one is)
simpler_cycle false circuit simpler both same = let P : BoundNet → Type 0 = λ c. IsSound c.net × IsOneCycle c.net c.binding in subst P (sym same) both

-- there is at most one
simpler_unique : (simple : Bool) (circuit a b : BoundNet) → IsSound circuit.net → IsSimpler simple circuit a → IsSimpler simple circuit b → a ≡ b
simpler_unique true circuit a b sound is other = simplified.circuit_one circuit a b sound is other
simpler_unique false circuit a b sound is other = is ∙ sym other

pub one_simpler : {F : Type 0} (simple : Bool) (circuit : BoundNet) → IsSound circuit.net → Determined {F = F} (SimplerOf simple circuit)
one_simpler simple circuit sound (Ok a) (Ok b) is other = ap Ok (simpler_unique simple circuit a b sound is other)
one_simpler simple circuit sound (Ok a) (Err e) is never = absurd never
one_simpler simple circuit sound (Err e) y never other = absurd never

-- the output is the same
simpler_output : (simple : Bool) (setting : SettingValue) (circuit simpler : BoundNet) → IsSound circuit.net → IsSimpler simple circuit simpler → (xs : List ℕ) (e : ℕ) → IsOut (taken_circuit setting simpler) xs e ↔ IsOut (taken_circuit setting circuit) xs e
simpler_output true setting circuit simpler sound is xs e = simplified.circuit_out setting.k setting.product circuit simpler setting.bases xs e sound is
simpler_output false setting circuit simpler sound same xs e =
    let P : BoundNet → Type 0 = λ c. IsOut (taken_circuit setting c) xs e ↔ IsOut (taken_circuit setting circuit) xs e in
    subst P (sym same) ((λ out. out), (λ out. out))

-- as is the basis of each word
bases_of : SettingValue → Binding → List (List ℕ)
bases_of setting binding = map (λ (w : Word). w.basis) (words_of binding.words setting.bases)

-- so it is one function with the job that the circuit is one function with
simpler_one_with : (simple : Bool) (setting : SettingValue) (circuit simpler : BoundNet) (job : Circuit) → IsSound circuit.net → IsSimpler simple circuit simpler → IsOneWith (taken_circuit setting circuit) job → IsOneWith (taken_circuit setting simpler) job
unfolding bases_of
simpler_one_with simple setting circuit simpler job sound is one = record {
  alike = record { k = one.alike.k; product = one.alike.product; bases = ap (bases_of setting) (same_binding simple circuit simpler is) ∙ one.alike.bases };
  output = λ xs e. let same = simpler_output simple setting circuit simpler sound is xs e in ((λ out. (one.output xs e).0 (same.0 out)), (λ out. same.1 ((one.output xs e).1 out)));
}

-- it is taken for the setting
pub simpler_taken : (simple : Bool) (circuit simpler : BoundNet) (k : ℕ) (setting : Setting) → IsSimpler simple circuit simpler → IsTakenFor k setting circuit → IsTakenFor k setting simpler
simpler_taken simple circuit simpler k setting is taken =
    let same = same_binding simple circuit simpler is in
    record {
      bits = ap (λ (b : Binding). b.k) same ∙ taken.bits;
      roles = ap (λ (b : Binding). map (λ (w : BoundWord). w.role) b.words) same ∙ taken.roles;
      long = taken.long ∙ ap (λ (b : Binding). length b.words) (sym same);
    }

-- ---- that of a netlist's text

module _ (setting : SettingValue) (simpler : BoundNet) (sound : IsSoundSetting setting) (text : NetlistText) (cycles : ℕ) (simple : Bool) (is : SimplerOfText setting.signature text cycles simple (Ok simpler)) where
  same : simpler.binding ≡ is.0.binding
  same = same_binding simple is.0 simpler is.2

  pub simpler_roles : HaveRoles setting.signature.words simpler.binding.words
  simpler_roles = ap (λ (b : Binding). map (λ (w : BoundWord). w.role) b.words) same ∙ circuit_roles setting is.0 sound text cycles is.1

  pub simpler_long : length setting.bases ≡ length simpler.binding.words
  simpler_long = bases_long setting is.0 sound text cycles is.1 ∙ ap (λ (b : Binding). length b.words) (sym same)

  pub simpler_bits : simpler.binding.k ≡ setting.k
  simpler_bits = ap (λ (b : Binding). b.k) same ∙ circuit_bits setting is.0 sound text cycles is.1

  pub simpler_one_cycle : IsSound simpler.net × IsOneCycle simpler.net simpler.binding
  simpler_one_cycle = simpler_cycle simple is.0 simpler (one_cycle setting is.0 sound text cycles is.1) is.2

  pub simpler_well : IsWellFormed (taken_circuit setting simpler)
  simpler_well =
      bound_well setting.k setting.product simpler setting.bases simpler_one_cycle.1 simpler_bits (record { long = simpler_long; each = sound.each }) sound.ring sound.field simpler_one_cycle.0

-- it is one function with the job over all cycles of the netlist
pub simpler_with_job : (setting : SettingValue) (netlist circuit simpler : BoundNet) (cycles : ℕ) (simple : Bool) → IsSoundSetting setting → (text : NetlistText) → BoundNetOf setting.signature text (Ok netlist) → CircuitOf netlist cycles (Ok circuit) → IsSimpler simple circuit simpler
    → IsOneWith (taken_circuit setting simpler) (job_of setting netlist cycles)
simpler_with_job setting netlist circuit simpler cycles simple sound text is of made =
    simpler_one_with simple setting circuit simpler (job_of setting netlist cycles) (one_cycle setting circuit sound text cycles (netlist, is, of)).0 made (with_job setting netlist circuit cycles sound text is of)
