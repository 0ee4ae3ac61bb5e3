use Rattle.std.proofs.Common.{ℕ, Result, Ok, Err}
use Rattle.std.specs.Prelude.{IfOk}
use Rattle.net_words.specs.Binding.{BoundNet}
use Rattle.job_words.specs.declared.stop.Stop.{Stop}
use Rattle.job_words.proofs.StepLemmas.{after, stops}
use Rattle.job_input.specs.CircuitOf.{UnrolledIn}
use Rattle.job_input.specs.Setting.{IsTakenFor}
use Rattle.job_input.specs.declared.setting.Setting.{Setting}
use Rattle.answer_core.specs.Simpler.{SimplerOf}
use Rattle.answer_core.proofs.simpler.unroll_simpler.Goals as goal

-- what is taken for a setting stays so
still : (netlist circuit : BoundNet) (result : Result BoundNet Stop) → IfOk result (λ simpler. (k : ℕ) (setting : Setting) → IsTakenFor k setting circuit → IsTakenFor k setting simpler)
    → ((k : ℕ) (setting : Setting) → IsTakenFor k setting netlist → IsTakenFor k setting circuit) → IfOk result (λ simpler. (k : ℕ) (setting : Setting) → IsTakenFor k setting netlist → IsTakenFor k setting simpler)
still netlist circuit (Ok simpler) keeps taken = λ k setting is. keeps k setting (taken k setting is)
still netlist circuit (Err stop) keeps taken = tt

pub returns-in-Ok : goal.returns-in-Ok
returns-in-Ok c = record {
  gives = after {X = BoundNet} (λ circuit. circuit) c.simpler.result (UnrolledIn c.args.file.now c.args.netlist c.args.cycles) (λ circuit. SimplerOf c.args.simple circuit) c.in-Ok.circuit
      ⊥ ⊥ ⊥ ⊥ c.in-Ok.ensures.gives (λ m. m) (λ f. f) c.simpler.ensures.gives;
  taken = still c.args.netlist c.in-Ok.circuit c.simpler.result c.simpler.ensures.taken c.in-Ok.ensures.taken;
}

pub returns-in-Err : goal.returns-in-Err
returns-in-Err c = record {
  gives = stops {X = BoundNet} {Y = BoundNet} (λ circuit. circuit) (λ circuit. circuit) c.in-Err.stop (UnrolledIn c.args.file.now c.args.netlist c.args.cycles) (λ circuit. SimplerOf c.args.simple circuit) ⊥ ⊥ ⊥ ⊥ (λ m. m) (λ f. f) c.in-Err.ensures.gives;
  taken = tt;
}
