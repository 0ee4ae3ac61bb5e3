-- At most one outcome comes of assignments and of instances.
use Rattle.std.proofs.Common.{ℕ, List, [], ◌∷◌, ◌++◌}
use Rattle.outcome.proofs.DeterminedLemmas.{determined_bind, determined_returns}
use Rattle.outcome.specs.Outcome.{Determined, ◌>>=◌}
use Rattle.net_core.specs.NetList.{NetList}
use Rattle.net_verilog.specs.Tokens.{TokenValue}
use Rattle.net_verilog.specs.Targets.{target_of}
use Rattle.net_verilog.specs.Made.{driven, mentioned, settled}
use Rattle.net_verilog.specs.Parts.{taken}
use Rattle.net_verilog.specs.Assigns.{Assigns, net_fault}
use Rattle.net_verilog.specs.Several.{Several}
use Rattle.net_verilog.specs.Instances.{ReadsInput, ReadsInstance, after_name, placed}
use Rattle.net_verilog.specs.Declarations.{Declarations}
use Rattle.net_verilog.specs.declared.gate_kind.GateKind.{GateKind}
use Rattle.net_verilog.specs.declared.sign.Sign.TheVariants as signs
use Rattle.net_verilog.proofs.ExpressionDetermined.{expression_determined}
use Rattle.net_verilog.proofs.SeveralLemmas.{exactly_same, several_determined}

pub assigns_determined : (declared : Declarations) (net : NetList) (tokens : List TokenValue) → Determined (Assigns declared net tokens)
assigns_determined declared net tokens =
    determined_bind _ _ (determined_returns (target_of declared tokens)) (λ target.
    determined_bind _ _ (determined_returns (net_fault (mentioned net target.0))) (λ out.
    determined_bind _ _ (determined_returns (taken signs.Equals target.1)) (λ sign.
    determined_bind _ _ (expression_determined declared out.0 sign.1) (λ read.
    determined_bind _ _ (determined_returns (net_fault (driven read.net out.1 read.driver))) (λ more.
    exactly_same (more, read.rest))))))

pub assignment_determined : (declared : Declarations) (net : NetList) (tokens : List TokenValue) → Determined (Several (Assigns declared) net tokens)
assignment_determined declared net tokens = several_determined (Assigns declared) (assigns_determined declared) net tokens

input_determined : (declared : Declarations) (so_far : NetList × List ℕ) (tokens : List TokenValue) → Determined (ReadsInput declared so_far tokens)
input_determined declared so_far tokens =
    determined_bind _ _ (expression_determined declared so_far.0 tokens) (λ read.
    determined_bind _ _ (determined_returns (net_fault (settled read.net read.driver))) (λ net.
    exactly_same ((net.0, so_far.1 ++ net.1 ∷ []), read.rest)))

pub instance_determined : (declared : Declarations) (kind : GateKind) (net : NetList) (tokens : List TokenValue) → Determined (ReadsInstance declared kind net tokens)
instance_determined declared kind net tokens =
    determined_bind _ _ (determined_returns (after_name tokens)) (λ named.
    determined_bind _ _ (determined_returns (taken signs.Open named)) (λ left.
    determined_bind _ _ (determined_returns (target_of declared left.1)) (λ target.
    determined_bind _ _ (determined_returns (net_fault (mentioned net target.0))) (λ out.
    determined_bind _ _ (determined_returns (taken signs.Comma target.1)) (λ first.
    determined_bind _ _ (several_determined (ReadsInput declared) (input_determined declared) (out.0, []) first.1) (λ inputs.
    determined_bind _ _ (determined_returns (taken signs.Close inputs.1)) (λ right.
    determined_bind _ _ (determined_returns (placed kind inputs.0.0 out.1 inputs.0.1 right.0)) (λ more.
    exactly_same (more, right.1)))))))))
