-- What is known of a circuit that is taken for a setting.
use Rattle.std.proofs.Common.{◌≡◌, ◌∙◌, sym, ℕ, List, Result, Ok, Err}
use Rattle.std.specs.Prelude.{IfOk}
use Rattle.outcome.specs.Outcome.{Within}
use Rattle.net_words.specs.Bind.{bits_of}
use Rattle.net_words.specs.Binding.{BoundNet}
use Rattle.net_words.proofs.BoundLemmas.{first_long}
use Rattle.job_words.specs.declared.fault.Fault.TheVariants.{Netlist}
use Rattle.job_words.specs.declared.stop.Stop.{Stop}
use Rattle.job_words.specs.Operands.{Word}
use Rattle.job_words.specs.Stop.{GivesBy}
use Rattle.job_input.specs.NetlistOf.{BoundNetOf, by_ending}
use Rattle.job_input.specs.Setting.{IsReady, IsTakenFor}
use Rattle.job_input.specs.declared.setting.Setting.{Setting}
use Rattle.job_input.proofs.RoleLemmas.{netlist_roles, roles_long}

pub taken_for : (setting : Setting) (file : Word) (text : List ℕ) (result : Result BoundNet Stop) → GivesBy {X = BoundNet} (λ circuit. circuit) result (Within (Netlist file) (BoundNetOf setting.signature (by_ending file text))) ⊥ ⊥ → IfOk result (λ circuit. circuit.binding.k ≡ bits_of setting.signature.words)
    → IfOk result (λ circuit. (k : ℕ) (product : ℕ → ℕ → ℕ) → IsReady k product setting → IsTakenFor k setting circuit)
taken_for setting file text (Ok circuit) gives bits = λ k product ready.
    let words = setting.signature.words in
    let roles = netlist_roles setting.signature (by_ending file text) circuit gives in
    record { bits = bits ∙ first_long k words ready.words; roles = roles; long = ready.long ∙ sym (roles_long words circuit.binding.words roles) }
taken_for setting file text (Err stop) gives bits = tt
