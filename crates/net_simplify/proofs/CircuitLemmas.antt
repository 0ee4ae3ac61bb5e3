-- The words stay on a simplified net list, and the output at each input.
use Rattle.std.proofs.Common.{◌≡◌, ◌≢◌, ◌⊎◌, ◌∙◌, ◌↔◌, ap, sym, refl, inl, inr, subst, ℕ, ◌<◌, Bool, List, [], ◌∷◌, map, Some, arith}
use Rattle.std.specs.Prelude.{slice_get}
use Rattle.lists.specs.Lists.{Has}
use Rattle.graph_core.specs.Walk.{IsChain}
use Rattle.net_core.specs.GateValue.{GateValue}
use Rattle.net_core.specs.LatchValue.{LatchValue}
use Rattle.net_core.specs.NetList.{NetList, nets}
use Rattle.net_core.specs.Sound.{IsSound, Needs}
use Rattle.net_core.specs.Value.{IsConsistent}
use Rattle.net_words.specs.Binding.{Binding, BoundNet}
use Rattle.net_words.specs.BoundTo.{output_bits}
use Rattle.net_words.specs.OneCycle.{IsFlat, IsOneCycle}
use Rattle.net_words.specs.Reach.{ReachesByGates}
use Rattle.circuit_model.specs.Circuit.{Circuit, IsFree}
use Rattle.circuit_model.specs.OfBinding.{circuit_with}
use Rattle.circuit_model.specs.Out.{IsOut}
use Rattle.circuit_model.specs.Run.{IsClockCycle, IsFirst, IsNext, IsOpenRun, IsRun}
use Rattle.net_simplify.specs.Uses.{uses}
use Rattle.net_simplify.specs.Simplified.{IsSimplified, IsSimplifiedTwice, simple_gate, with_forms}
use Rattle.net_simplify.specs.Circuit.{IsSimplifiedCircuit}
use Rattle.net_simplify.proofs.OneLemmas.{one_simple}
use Rattle.net_simplify.proofs.PlacedLemmas.{are_placed}
use Rattle.net_simplify.proofs.SomeLemmas.{HaveOrders, simplified_some}
use Rattle.net_simplify.proofs.SoundLemmas.{leads_used, simplified_consistent, simplified_sound}
use Rattle.net_simplify.proofs.UseLemmas.{used_leads}

-- ---- one simplification

cycle_with : (ends : List ℕ) (net simple : NetList) (binding : Binding) → ends ≡ output_bits binding.words → IsSound net → IsSimplified ends net simple → IsOneCycle net binding → IsOneCycle simple binding
cycle_with ends net simple binding same sound is one =
    let P : NetList → Type 0 = λ x. IsOneCycle x binding in
    subst P (sym is.made) (record {
      parts = one.parts;
      count = one.count;
      flat = record { latches = one.flat.latches; feeds = one.flat.feeds; named = one.flat.named };
      once = one.once;
      inputs = one.inputs;
      outputs = one.outputs;
      closed = λ n input free leads. one.closed n input free (back n leads);
    })
  where
    forth : (R : ℕ → ℕ → Type 0) (n : ℕ) (xs ys : List ℕ) → xs ≡ ys → Has xs n ⊎ ((m : ℕ) × (over : List ℕ) × Has xs m × IsChain R m over n) → Has ys n ⊎ ((m : ℕ) × (over : List ℕ) × Has ys m × IsChain R m over n)
    forth R n xs ys e leads = let Q : List ℕ → Type 0 = λ zs. Has zs n ⊎ ((m : ℕ) × (over : List ℕ) × Has zs m × IsChain R m over n) in subst Q e leads

    back : (n : ℕ) → ReachesByGates (with_forms net (uses ends is.gates) is.forms) n (output_bits binding.words) → ReachesByGates net n (output_bits binding.words)
    back n leads =
        let placed = are_placed net is.gates sound is.in_order in
        let used = leads_used net ends is.gates is.forms placed is.are n (forth (Needs (with_forms net (uses ends is.gates) is.forms)) n (output_bits binding.words) ends (sym same) leads) in
        forth (Needs net) n ends (output_bits binding.words) same (used_leads net ends is.gates placed.only n used)

-- ---- the output

-- the output where each list of bits that agrees with the one agrees with the other
out_moved : (k : ℕ) (product : ℕ → ℕ → ℕ) (net : NetList) (gates others : List GateValue) (binding : Binding) (bases : List (List ℕ)) (xs : List ℕ) (e : ℕ)
    → ((bits : List Bool) → IsConsistent (record net { gates = gates }) bits → IsConsistent (record net { gates = others }) bits)
    → IsOut (circuit_with k product (record { net = record net { gates = gates }; binding = binding }) bases) xs e
    → IsOut (circuit_with k product (record { net = record net { gates = others }; binding = binding }) bases) xs e
out_moved k product net gates others binding bases xs e agree out =
    let open_run = out.is_run.open_run in
    record {
      run = out.run;
      is_run = record {
        open_run = record {
          input = record { long = open_run.input.long; elements = open_run.input.elements };
          long = open_run.long;
          each = λ t bits got. let c = open_run.each t bits got in record { consistent = agree bits c.consistent; inputs = c.inputs; feeds = c.feeds };
          first = λ bits got. let f = open_run.first bits got in record { states = f.states; latches = f.latches };
          next = open_run.next;
        };
        zeros = λ t bits got n free. out.is_run.zeros t bits got n (record { input = free.input; unnamed = free.unnamed; unfed = free.unfed });
      };
      ends = record { last = out.ends.last; at = out.ends.at; element = out.ends.element };
    }

out_with : (k : ℕ) (product : ℕ → ℕ → ℕ) (ends : List ℕ) (net simple : NetList) (binding : Binding) (bases : List (List ℕ)) (xs : List ℕ) (e : ℕ) → IsSound net → IsSimplified ends net simple
    → IsOut (circuit_with k product (record { net = simple; binding = binding }) bases) xs e ↔ IsOut (circuit_with k product (record { net = net; binding = binding }) bases) xs e
out_with k product ends net simple binding bases xs e sound is =
    let gates : List GateValue = map (simple_gate (uses ends is.gates) is.forms) net.gates in
    let P : NetList → Type 0 = λ x. IsOut (circuit_with k product (record { net = x; binding = binding }) bases) xs e in
    let agree : (bits : List Bool) → IsConsistent (record net { gates = gates }) bits ↔ IsConsistent net bits = λ bits. let Q : NetList → Type 0 = λ x. IsConsistent x bits ↔ IsConsistent net bits in subst Q is.made (simplified_consistent ends net simple bits sound is) in (
      (λ out. out_moved k product net gates net.gates binding bases xs e (λ bits. (agree bits).0) (subst P is.made out)),
      (λ out. subst P (sym is.made) (out_moved k product net net.gates gates binding bases xs e (λ bits. (agree bits).1) out)),
    )

-- ---- both

pub circuit_sound : (circuit simple : BoundNet) → IsSound circuit.net → IsSimplifiedCircuit circuit simple → IsSound simple.net
circuit_sound circuit simple sound is =
    let ends : List ℕ = output_bits circuit.binding.words in
    simplified_sound ends is.net.between simple.net (simplified_sound ends circuit.net is.net.between sound is.net.first) is.net.second

pub circuit_cycle : (circuit simple : BoundNet) → IsSound circuit.net → IsOneCycle circuit.net circuit.binding → IsSimplifiedCircuit circuit simple → IsOneCycle simple.net simple.binding
circuit_cycle circuit simple sound one is =
    let ends : List ℕ = output_bits circuit.binding.words in
    let middle = cycle_with ends circuit.net is.net.between circuit.binding refl sound is.net.first one in
    let last = cycle_with ends is.net.between simple.net circuit.binding refl (simplified_sound ends circuit.net is.net.between sound is.net.first) is.net.second middle in
    let P : Binding → Type 0 = IsOneCycle simple.net in
    subst P (sym is.binding) last

pub circuit_out : (k : ℕ) (product : ℕ → ℕ → ℕ) (circuit simple : BoundNet) (bases : List (List ℕ)) (xs : List ℕ) (e : ℕ) → IsSound circuit.net → IsSimplifiedCircuit circuit simple → IsOut (circuit_with k product simple bases) xs e ↔ IsOut (circuit_with k product circuit bases) xs e
circuit_out k product circuit simple bases xs e sound is =
    let ends : List ℕ = output_bits circuit.binding.words in
    let first = out_with k product ends circuit.net is.net.between circuit.binding bases xs e sound is.net.first in
    let second = out_with k product ends is.net.between simple.net circuit.binding bases xs e (simplified_sound ends circuit.net is.net.between sound is.net.first) is.net.second in
    let P : Binding → Type 0 = λ b. IsOut (circuit_with k product (record { net = simple.net; binding = b }) bases) xs e in
    ((λ out. first.0 (second.0 (subst P is.binding out))), (λ out. subst P (sym is.binding) (second.1 (first.1 out))))

pub circuit_one : (circuit simple other : BoundNet) → IsSound circuit.net → IsSimplifiedCircuit circuit simple → IsSimplifiedCircuit circuit other → simple ≡ other
circuit_one circuit simple other sound is is' =
    let ends : List ℕ = output_bits circuit.binding.words in
    let middle : is.net.between ≡ is'.net.between = one_simple ends circuit.net is.net.between is'.net.between sound is.net.first is'.net.first in
    let P : NetList → Type 0 = λ x. IsSimplified ends x other.net in
    let net : simple.net ≡ other.net = one_simple ends is.net.between simple.net other.net (simplified_sound ends circuit.net is.net.between sound is.net.first) is.net.second (subst P (sym middle) is'.net.second) in
    let binding : simple.binding ≡ other.binding = is.binding ∙ sym is'.binding in
    ap (λ (n : NetList). record { net = n; binding = simple.binding }) net ∙ ap (λ (b : Binding). record { net = other.net; binding = b }) binding

-- ---- there is one

pub circuit_some : HaveOrders → (circuit : BoundNet) → IsSound circuit.net → (simple : BoundNet) × IsSimplifiedCircuit circuit simple
circuit_some orders circuit sound =
    let ends : List ℕ = output_bits circuit.binding.words in
    let first = simplified_some orders ends circuit.net sound in
    let second = simplified_some orders ends first.0 (simplified_sound ends circuit.net first.0 sound first.1) in
    (record { net = second.0; binding = circuit.binding }, record { net = record { between = first.0; first = first.1; second = second.1 }; binding = refl })
