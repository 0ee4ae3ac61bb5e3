-- Of tokens there is an assignment, an instance of a gate, and a list with commas of parts, or a fault.
use Rattle.std.proofs.Common.{◌≡◌, sym, refl, ap, ℕ, zero, suc, ◌<◌, ◌≤◌, Bool, true, false, cond, List, [], ◌∷◌, ◌++◌, length, Result, Ok, Err, arith}
use Rattle.outcome.proofs.SomeLemmas.{some_bind, some_exactly, some_returns}
use Rattle.outcome.specs.Outcome.{Exactly}
use Rattle.outcome.specs.Steps.{on_value}
use Rattle.net_core.specs.NetList.{NetList}
use Rattle.net_verilog.specs.Tokens.{TokenValue}
use Rattle.net_verilog.specs.Targets.{Answer, target_of}
use Rattle.net_verilog.specs.Made.{driven, mentioned, settled}
use Rattle.net_verilog.specs.Expression.{Expression, Read}
use Rattle.net_verilog.specs.Parts.{identifier, taken}
use Rattle.net_verilog.specs.Assigns.{Assigns, Reads, net_fault}
use Rattle.net_verilog.specs.Several.{Either, Several, SeveralOf, after_first, comma_first}
use Rattle.net_verilog.specs.Instances.{ReadsInput, ReadsInstance, after_name, named_first, placed}
use Rattle.net_verilog.specs.Declarations.{Declarations}
use Rattle.net_verilog.specs.declared.gate_kind.GateKind.{GateKind}
use Rattle.net_verilog.specs.declared.sign.Sign.TheVariants as signs
use Rattle.net_verilog.specs.declared.fault.VerilogFault.{VerilogFault}
use Rattle.net_verilog.proofs.LeavesLemmas.{identifier_shorter, spells_shorter, taken_shorter, target_shorter}
use Rattle.net_verilog.proofs.SeveralLemmas.{several_fails, several_last, several_more}
use Rattle.net_verilog.proofs.SomeExpressionLemmas.{some_expression}

-- ---- lists with commas

comma_shorter : (rest : List TokenValue) → comma_first rest ≡ true → length (after_first rest) < length rest
comma_shorter [] is = absurd (cc)
comma_shorter (t ∷ ts) is = omega arith

rest_shorter : (rest : List TokenValue) → length (after_first rest) ≤ length rest
rest_shorter [] = omega arith
rest_shorter (t ∷ ts) = omega arith

-- a part leaves no more tokens than there were
abbrev pub LeavesNoMore : {S : Type 0} → (S → List TokenValue → Reads S) → Type 0
LeavesNoMore {S} one = (state : S) (tokens : List TokenValue) (found : S × List TokenValue) → one state tokens (Ok found) → length found.1 ≤ length tokens

module _ {S : Type 0} (one : S → List TokenValue → Reads S) (leaves : LeavesNoMore one) where
  abbrev SomeOf : S → List TokenValue → Type 0
  SomeOf state tokens = (outcome : Result (S × List TokenValue) VerilogFault) × Several one state tokens outcome

  -- after one of them
  with_first : (n : ℕ) → ((state : S) (tokens : List TokenValue) → length tokens < n → SomeOf state tokens) → (state : S) (tokens : List TokenValue) → length tokens < suc n → (first : Result (S × List TokenValue) VerilogFault) → one state tokens first → SomeOf state tokens
  with_first n goes state tokens low (Err fault) is = (Err fault, several_fails one state tokens fault is)
  with_first n goes state tokens low (Ok first) is = by (comma_first first.1) refl
    where
      by : (b : Bool) → comma_first first.1 ≡ b → SomeOf state tokens
      by true e =
          let most : length first.1 ≤ length tokens = leaves state tokens first is in
          let less : length (after_first first.1) < length first.1 = comma_shorter first.1 e in
          let rest = goes first.0 (after_first first.1) (omega (arith, most, less, low)) in
          (rest.0, several_more one state first.0 tokens first.1 rest.0 is e rest.1)
      by false e = (Ok first, several_last one state first.0 tokens first.1 is e)

  module _ (each : (state : S) (tokens : List TokenValue) → (outcome : Result (S × List TokenValue) VerilogFault) × one state tokens outcome) where
    below : (n : ℕ) (state : S) (tokens : List TokenValue) → length tokens < n → SomeOf state tokens
    below zero state tokens low = absurd (omega (arith, low))
    below (suc n) state tokens low = let first = each state tokens in with_first n (below n) state tokens low first.0 first.1

    pub some_several : (state : S) (tokens : List TokenValue) → SomeOf state tokens
    some_several state tokens = below (suc (length tokens)) state tokens (omega arith)

  either_leaves : (b : Bool) (n : ℕ) (first found : S × List TokenValue) → ((state : S) (tokens : List TokenValue) (last : S × List TokenValue) → SeveralOf n one state tokens (Ok last) → length last.1 ≤ length tokens)
      → Either b (SeveralOf n one first.0 (after_first first.1)) (Exactly first) (Ok found) → length found.1 ≤ length first.1
  either_leaves true n first found goes is =
      let most : length found.1 ≤ length (after_first first.1) = goes first.0 (after_first first.1) found is in
      omega (arith, most, rest_shorter first.1)
  either_leaves false n first found goes is = let same : length found.1 ≡ length first.1 = ap (λ (p : S × List TokenValue). length p.1) is in omega (arith, same)

  of_leaves : (n : ℕ) (state : S) (tokens : List TokenValue) (found : S × List TokenValue) → SeveralOf n one state tokens (Ok found) → length found.1 ≤ length tokens
  of_leaves zero state tokens found is = absurd is
  of_leaves (suc n) state tokens found is =
      let first : length is.0.1 ≤ length tokens = leaves state tokens is.0 is.1 in
      let rest : length found.1 ≤ length is.0.1 = either_leaves (comma_first is.0.1) n is.0 found (of_leaves n) is.2 in
      omega (arith, first, rest)

  pub several_leaves : (state : S) (tokens : List TokenValue) (found : S × List TokenValue) → Several one state tokens (Ok found) → length found.1 ≤ length tokens
  several_leaves state tokens found is = of_leaves is.0 state tokens found is.1

-- ---- expressions

expression_leaves : (declared : Declarations) (start : NetList) (tokens : List TokenValue) (read : Read) → Expression declared start tokens (Ok read) → length read.rest < length tokens
expression_leaves declared start tokens read is = spells_shorter declared is.0 tokens read.rest is.1

-- ---- assignments

module _ (declared : Declarations) where
  pub some_assigns : (net : NetList) (tokens : List TokenValue) → (outcome : Result (NetList × List TokenValue) VerilogFault) × Assigns declared net tokens outcome
  some_assigns net tokens =
      some_bind _ _ (some_returns (target_of declared tokens)) (λ target one.
      some_bind _ _ (some_returns (net_fault (mentioned net target.0))) (λ out two.
      some_bind _ _ (some_returns (taken signs.Equals target.1)) (λ sign three.
      some_bind _ _ (some_expression declared out.0 sign.1) (λ read four.
      some_bind _ _ (some_returns (net_fault (driven read.net out.1 read.driver))) (λ more five.
      some_exactly (more, read.rest))))))

  pub assigns_leaves : LeavesNoMore (Assigns declared)
  assigns_leaves net tokens found (target, one, (out, two, (sign, three, (read, four, (more, five, is))))) =
      let a : length target.1 < length tokens = target_shorter declared tokens target (sym one) in
      let b : length sign.1 < length target.1 = taken_shorter signs.Equals target.1 sign (sym three) in
      let c : length read.rest < length sign.1 = expression_leaves declared out.0 sign.1 read four in
      let same : length found.1 ≡ length read.rest = ap (λ (p : NetList × List TokenValue). length p.1) is in
      omega (arith, a, b, c, same)

  -- ---- instances

  some_input : (so_far : NetList × List ℕ) (tokens : List TokenValue) → (outcome : Result ((NetList × List ℕ) × List TokenValue) VerilogFault) × ReadsInput declared so_far tokens outcome
  some_input so_far tokens =
      some_bind _ _ (some_expression declared so_far.0 tokens) (λ read one.
      some_bind _ _ (some_returns (net_fault (settled read.net read.driver))) (λ net two.
      some_exactly ((net.0, so_far.1 ++ net.1 ∷ []), read.rest)))

  input_leaves : LeavesNoMore (ReadsInput declared)
  input_leaves so_far tokens found (read, one, (net, two, is)) =
      let less : length read.rest < length tokens = expression_leaves declared so_far.0 tokens read one in
      let same : length found.1 ≡ length read.rest = ap (λ (p : (NetList × List ℕ) × List TokenValue). length p.1) is in
      omega (arith, less, same)

  module _ (kind : GateKind) where
    pub some_instance : (net : NetList) (tokens : List TokenValue) → (outcome : Result (NetList × List TokenValue) VerilogFault) × ReadsInstance declared kind net tokens outcome
    some_instance net tokens =
        some_bind _ _ (some_returns (after_name tokens)) (λ named one.
        some_bind _ _ (some_returns (taken signs.Open named)) (λ left two.
        some_bind _ _ (some_returns (target_of declared left.1)) (λ target three.
        some_bind _ _ (some_returns (net_fault (mentioned net target.0))) (λ out four.
        some_bind _ _ (some_returns (taken signs.Comma target.1)) (λ first five.
        some_bind _ _ (some_several (ReadsInput declared) input_leaves some_input (out.0, []) first.1) (λ inputs six.
        some_bind _ _ (some_returns (taken signs.Close inputs.1)) (λ right seven.
        some_bind _ _ (some_returns (placed kind inputs.0.0 out.1 inputs.0.1 right.0)) (λ more eight.
        some_exactly (more, right.1)))))))))

    name_leaves : (tokens rest : List TokenValue) (b : Bool) → ◌≡◌ {A = Result (List TokenValue) VerilogFault} (Ok rest) (cond b (on_value (λ (p : (ℕ × List ℕ) × List TokenValue). Ok p.1) (identifier tokens)) (Ok tokens)) → length rest ≤ length tokens
    name_leaves tokens rest false is = let same : rest ≡ tokens = cc in let long : length rest ≡ length tokens = ap (λ (ts : List TokenValue). length ts) same in omega (arith, long)
    name_leaves tokens rest true is = by (identifier tokens) refl is
      where
        by : (answer : Answer (ℕ × List ℕ)) → identifier tokens ≡ answer → ◌≡◌ {A = Result (List TokenValue) VerilogFault} (Ok rest) (on_value (λ (p : (ℕ × List ℕ) × List TokenValue). Ok p.1) answer) → length rest ≤ length tokens
        by (Ok p) found h =
            let same : rest ≡ p.1 = cc in
            let long : length rest ≡ length p.1 = ap (λ (ts : List TokenValue). length ts) same in
            let less : length p.1 < length tokens = identifier_shorter tokens p found in
            omega (arith, long, less)
        by (Err fault) found h = absurd (cc)

    pub instance_leaves : LeavesNoMore (ReadsInstance declared kind)
    instance_leaves net tokens found (named, one, (left, two, (target, three, (out, four, (first, five, (inputs, six, (right, seven, (more, eight, is)))))))) =
        let a : length named ≤ length tokens = name_leaves tokens named (named_first tokens) one in
        let b : length left.1 < length named = taken_shorter signs.Open named left (sym two) in
        let c : length target.1 < length left.1 = target_shorter declared left.1 target (sym three) in
        let d : length first.1 < length target.1 = taken_shorter signs.Comma target.1 first (sym five) in
        let e : length inputs.1 ≤ length first.1 = several_leaves (ReadsInput declared) input_leaves (out.0, []) first.1 inputs six in
        let f : length right.1 < length inputs.1 = taken_shorter signs.Close inputs.1 right (sym seven) in
        let same : length found.1 ≡ length right.1 = ap (λ (p : NetList × List TokenValue). length p.1) is in
        omega (arith, a, b, c, d, e, f, same)
