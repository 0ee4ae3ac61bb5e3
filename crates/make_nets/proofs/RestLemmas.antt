-- What is left of a list comes after what stands on the nets.
use Rattle.std.proofs.Common.{◌≡◌, ◌∙◌, ap, sym, ℕ, ◌<◌, ◌+◌, List, [], ◌∷◌, ◌++◌, length, drop, get_or, append-nil, drop_of_length-le, ◌≤◌, arith}
use Rattle.std.proofs.lemmas.List.{append_assoc, drop_more, length_push}
use Rattle.lists.specs.laws.TakeLaws.{drop_read}
use Rattle.net_core.specs.GateValue.{GateValue}
use Rattle.net_core.specs.LatchValue.{LatchValue}
use Rattle.net_core.specs.NetList.{NetList, with_gate}

rest_more : {X : Type 0} (before xs : List X) (i : ℕ) (x : X) → drop i xs ≡ x ∷ drop (i + 1) xs → (before ++ x ∷ []) ++ drop (i + 1) xs ≡ before ++ drop i xs
rest_more before xs i x is = append_assoc before (x ∷ []) (drop (i + 1) xs) ∙ ap (λ (v : List _). before ++ v) (sym is)

rest_none : {X : Type 0} (before xs : List X) (i : ℕ) → length xs ≤ i → before ≡ before ++ drop i xs
rest_none before xs i past = sym (append-nil before) ∙ ap (λ (v : List _). before ++ v) (sym (drop_of_length-le xs past))

pub inputs_more : (old new : NetList) (xs : List ℕ) (i : ℕ) → i < length xs → new ≡ record old { inputs = old.inputs ++ get_or xs i 0 ∷ [] } → record new { inputs = new.inputs ++ drop (i + 1) xs } ≡ record old { inputs = old.inputs ++ drop i xs }
inputs_more old new xs i less is =
    ap (λ (net : NetList). record net { inputs = net.inputs ++ drop (i + 1) xs }) is
    ∙ ap (λ (v : List ℕ). record old { inputs = v }) (rest_more old.inputs xs i (get_or xs i 0) (drop_more xs i 0 less))

pub inputs_done : (net : NetList) (xs : List ℕ) (i : ℕ) → length xs ≤ i → net ≡ record net { inputs = net.inputs ++ drop i xs }
inputs_done net xs i past = ap (λ (v : List ℕ). record net { inputs = v }) (rest_none net.inputs xs i past)

pub outputs_more : (old new : NetList) (xs : List ℕ) (i : ℕ) → i < length xs → new ≡ record old { outputs = old.outputs ++ get_or xs i 0 ∷ [] } → record new { outputs = new.outputs ++ drop (i + 1) xs } ≡ record old { outputs = old.outputs ++ drop i xs }
outputs_more old new xs i less is =
    ap (λ (net : NetList). record net { outputs = net.outputs ++ drop (i + 1) xs }) is
    ∙ ap (λ (v : List ℕ). record old { outputs = v }) (rest_more old.outputs xs i (get_or xs i 0) (drop_more xs i 0 less))

pub outputs_done : (net : NetList) (xs : List ℕ) (i : ℕ) → length xs ≤ i → net ≡ record net { outputs = net.outputs ++ drop i xs }
outputs_done net xs i past = ap (λ (v : List ℕ). record net { outputs = v }) (rest_none net.outputs xs i past)

pub gates_more : (old new : NetList) (xs : List GateValue) (i : ℕ) (x : GateValue) → i < length xs → x ≡ get_or xs i x → new ≡ with_gate old x → record new { gates = new.gates ++ drop (i + 1) xs } ≡ record old { gates = old.gates ++ drop i xs }
gates_more old new xs i x less is made =
    ap (λ (net : NetList). record net { gates = net.gates ++ drop (i + 1) xs }) made
    ∙ ap (λ (v : List GateValue). record old { gates = v }) (rest_more old.gates xs i x (drop_read xs i x less is))

pub gates_done : (net : NetList) (xs : List GateValue) (i : ℕ) → length xs ≤ i → net ≡ record net { gates = net.gates ++ drop i xs }
gates_done net xs i past = ap (λ (v : List GateValue). record net { gates = v }) (rest_none net.gates xs i past)

pub latches_done : (net : NetList) (xs : List LatchValue) (i : ℕ) → length xs ≤ i → net ≡ record net { latches = net.latches ++ drop i xs }
latches_done net xs i past = ap (λ (v : List LatchValue). record net { latches = v }) (rest_none net.latches xs i past)

-- one gate more
pub gates_count : (old new : NetList) (x : GateValue) → new ≡ with_gate old x → length new.gates + length new.latches ≡ length old.gates + length old.latches + 1
gates_count old new x is = omega (arith, ap (λ (net : NetList). length net.gates) is, ap (λ (net : NetList). length net.latches) is, length_push old.gates x)
