-- Net lists that stay inside as they grow.
use Rattle.std.proofs.Common.{◌≡◌, sym, subst, ℕ, ◌<◌, ◌+◌, ◌^◌, List, [], ◌∷◌, ◌++◌, length, arith}
use Rattle.std.proofs.lemmas.List.Elements.{All-push}
use Rattle.lists.specs.laws.ListLaws.{length-push}
use Rattle.net_core.specs.GateValue.{GateValue}
use Rattle.net_core.specs.LatchValue.{LatchValue}
use Rattle.net_core.specs.NetList.{NetList, nets}
use Rattle.net_core.specs.Inside.{IsInside, GateIsInside, LatchIsInside}

-- one more gate, which stands on nets
pub inside_gate : (net : NetList) (new : List GateValue) (gate : GateValue) → new ≡ net.gates ++ gate ∷ [] → GateIsInside (nets net) gate → length net.gates + length net.latches < 2 ^ 20 → IsInside net → IsInside (record net { gates = new })
inside_gate net new gate is fits room inside =
    let P : List GateValue → Type 0 = λ gates. IsInside (record net { gates = gates }) in
    subst P (sym is) (record {
      few_nets = inside.few_nets;
      few_gates = omega (arith, length-push net.gates gate);
      inputs = inside.inputs;
      outputs = inside.outputs;
      gates = All-push (GateIsInside (nets net)) net.gates gate inside.gates fits;
      latches = inside.latches;
      names = inside.names;
    })

-- one more latch, which stands on nets
pub inside_latch : (net : NetList) (new : List LatchValue) (latch : LatchValue) → new ≡ net.latches ++ latch ∷ [] → LatchIsInside (nets net) latch → length net.gates + length net.latches < 2 ^ 20 → IsInside net → IsInside (record net { latches = new })
inside_latch net new latch is fits room inside =
    let P : List LatchValue → Type 0 = λ latches. IsInside (record net { latches = latches }) in
    subst P (sym is) (record {
      few_nets = inside.few_nets;
      few_gates = omega (arith, length-push net.latches latch);
      inputs = inside.inputs;
      outputs = inside.outputs;
      gates = inside.gates;
      latches = All-push (LatchIsInside (nets net)) net.latches latch inside.latches fits;
      names = inside.names;
    })

-- one more input
pub inside_input : (net : NetList) (new : List ℕ) (n : ℕ) → new ≡ net.inputs ++ n ∷ [] → n < nets net → IsInside net → IsInside (record net { inputs = new })
inside_input net new n is less inside =
    let P : List ℕ → Type 0 = λ list. IsInside (record net { inputs = list }) in
    subst P (sym is) (record {
      few_nets = inside.few_nets;
      few_gates = inside.few_gates;
      inputs = All-push (λ m. m < nets net) net.inputs n inside.inputs less;
      outputs = inside.outputs;
      gates = inside.gates;
      latches = inside.latches;
      names = inside.names;
    })

-- one more output
pub inside_output : (net : NetList) (new : List ℕ) (n : ℕ) → new ≡ net.outputs ++ n ∷ [] → n < nets net → IsInside net → IsInside (record net { outputs = new })
inside_output net new n is less inside =
    let P : List ℕ → Type 0 = λ list. IsInside (record net { outputs = list }) in
    subst P (sym is) (record {
      few_nets = inside.few_nets;
      few_gates = inside.few_gates;
      inputs = inside.inputs;
      outputs = All-push (λ m. m < nets net) net.outputs n inside.outputs less;
      gates = inside.gates;
      latches = inside.latches;
      names = inside.names;
    })
