-- Net lists stand on existing nets as they grow.
use Rattle.std.proofs.Common.{◌≡◌, refl, ℕ, ◌<◌, ◌+◌, ◌^◌, true, false, List, [], ◌∷◌, ◌++◌, length, None, arith}
use Rattle.std.proofs.lemmas.List.{length_push}
use Rattle.std.proofs.lemmas.List.Elements.{All-push}
use Rattle.net_core.specs.GateValue.{GateValue}
use Rattle.net_core.specs.LatchValue.{LatchValue}
use Rattle.net_core.specs.NetList.{NetList, empty, nets, number_of, with_gate, with_label, with_latch}
use Rattle.net_core.specs.Inside.{GateIsInside, IsInside, IsNetName, LatchIsInside}
use Rattle.net_core.proofs.NameLemmas.{inside_fresh, inside_named}

pub empty_inside : IsInside empty
empty_inside =
    record {
      few_nets = omega arith;
      few_gates = omega arith;
      inputs = λ k d less. absurd (omega (arith, less));
      outputs = λ k d less. absurd (omega (arith, less));
      gates = λ k d less. absurd (omega (arith, less));
      latches = λ k d less. absurd (omega (arith, less));
      names = λ n label got. absurd (cc);
    }

module _ (net : NetList) (inside : IsInside net) where
  pub with_named_inside : (name : List ℕ) → nets net < 2 ^ 20 → IsNetName name → number_of net name ≡ None → IsInside (with_label net name true)
  with_named_inside name room is none = inside_named net (net.labels ++ record { text = name; named = true } ∷ []) name refl room is none inside

  pub with_fresh_inside : (text : List ℕ) → nets net < 2 ^ 20 → IsInside (with_label net text false)
  with_fresh_inside text room = inside_fresh net (net.labels ++ record { text = text; named = false } ∷ []) text refl room inside

  pub with_input_inside : (n : ℕ) → n < nets net → IsInside (record net { inputs = net.inputs ++ n ∷ [] })
  with_input_inside n less =
      record {
        few_nets = inside.few_nets;
        few_gates = inside.few_gates;
        inputs = All-push (λ m. m < nets net) net.inputs n inside.inputs less;
        outputs = inside.outputs;
        gates = inside.gates;
        latches = inside.latches;
        names = inside.names;
      }

  pub with_output_inside : (n : ℕ) → n < nets net → IsInside (record net { outputs = net.outputs ++ n ∷ [] })
  with_output_inside n less =
      record {
        few_nets = inside.few_nets;
        few_gates = inside.few_gates;
        inputs = inside.inputs;
        outputs = All-push (λ m. m < nets net) net.outputs n inside.outputs less;
        gates = inside.gates;
        latches = inside.latches;
        names = inside.names;
      }

  pub with_gate_inside : (gate : GateValue) → length net.gates + length net.latches < 2 ^ 20 → GateIsInside (nets net) gate → IsInside (with_gate net gate)
  with_gate_inside gate room is =
      record {
        few_nets = inside.few_nets;
        few_gates = omega (arith, room, length_push net.gates gate);
        inputs = inside.inputs;
        outputs = inside.outputs;
        gates = All-push (GateIsInside (nets net)) net.gates gate inside.gates is;
        latches = inside.latches;
        names = inside.names;
      }

  pub with_latch_inside : (latch : LatchValue) → length net.gates + length net.latches < 2 ^ 20 → LatchIsInside (nets net) latch → IsInside (with_latch net latch)
  with_latch_inside latch room is =
      record {
        few_nets = inside.few_nets;
        few_gates = omega (arith, room, length_push net.latches latch);
        inputs = inside.inputs;
        outputs = inside.outputs;
        gates = inside.gates;
        latches = All-push (LatchIsInside (nets net)) net.latches latch inside.latches is;
        names = inside.names;
      }
