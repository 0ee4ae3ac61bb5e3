-- A walk over what a net asks places what stands on the net.
use Rattle.std.proofs.Common.{◌≡◌, ◌∙◌, ap, sym, refl, subst, ℕ, ◌+◌, ◌^◌, ◌<◌, ◌≤◌, true, false, List, [], ◌∷◌, ◌++◌, length, map, arith, append-nil, append_assoc}
use Rattle.std.specs.Prelude.{flat_map, nat_le}
use Rattle.std.specs.List.{AllByRecursion, AllZip}
use Rattle.std.proofs.lemmas.List.{length-append, map-append}
use Rattle.std.proofs.lemmas.List.Elements.{AllZip-push}
use Rattle.lists.specs.Lists.{Has}
use Rattle.net_core.specs.GateValue.{GateValue}
use Rattle.net_core.specs.LatchValue.{LatchValue}
use Rattle.net_core.specs.Inside.{GateIsInside, LatchIsInside}
use Rattle.net_core.specs.NetList.{NetList, nets, text_of}
use Rattle.net_core.specs.Sound.{IsSound}
use Rattle.net_flat.specs.Flat.{Flat, gate_on, latch_on, nothing, number}
use Rattle.net_flat.specs.Paths.{Path}
use Rattle.net_flat.specs.Steps.{Gate, Input, Latch, Mention, Output, Step, along, input_steps, output_steps}
use Rattle.net_write.specs.Plain.{HasPlainNames}
use Rattle.net_write.specs.Written.{names_of}
use Rattle.net_write.proofs.MakeLemmas.{in_top}
use Rattle.net_write.proofs.MetLemmas.{GateAt, Goal, Grows, IsAt, LatchAt, Met, mention_walk, not_full, number_is, path_of}
use Rattle.net_write.proofs.SaidLemmas.{each_of, gate_walk, latch_walk, net_walk}
use Rattle.net_write.proofs.ZipLemmas.{zip_length}

-- the steps on the nets of the chosen model
abbrev pub tops : List (Step (List ℕ)) → List (Step Path)
tops steps = map (along in_top) steps

-- with more inputs, outputs, latches or gates
abbrev pub and_inputs : NetList → List ℕ → NetList
and_inputs done more = record done { inputs = done.inputs ++ more }

abbrev pub and_outputs : NetList → List ℕ → NetList
and_outputs done more = record done { outputs = done.outputs ++ more }

abbrev pub and_latches : NetList → List LatchValue → NetList
and_latches done more = record done { latches = done.latches ++ more }

abbrev pub and_gates : NetList → List GateValue → NetList
and_gates done more = record done { gates = done.gates ++ more }

module _ (net : NetList) (sound : IsSound net) (plain : HasPlainNames net) where
  inputs_walk : (ns : List ℕ) → AllByRecursion (λ n. n < nets net) ns → (order : List ℕ) (flat : Flat) (done : NetList) → Met net order flat done → (rest : List (Step Path)) (whole : NetList)
      → ((longer : List ℕ) (next : Flat) → Met net longer next (and_inputs done ns) → Goal net sound plain next rest whole) → Goal net sound plain flat (tops (flat_map (input_steps true) (names_of net ns)) ++ rest) whole
  inputs_walk [] inside order flat done met rest whole goes =
      let P : List ℕ → Type 0 = λ l. Met net order flat (record done { inputs = l }) in goes order flat (subst P (sym (append-nil done.inputs)) met)
  inputs_walk (n ∷ ns) inside order flat done met rest whole goes =
      mention_walk net sound plain n inside.0 order flat done met (Input (path_of net n) ∷ (tops (flat_map (input_steps true) (names_of net ns)) ++ rest)) whole
      (λ longer next grows has after.
      let m : ℕ = number next (path_of net n) in
      let more : Flat = record next { inputs = next.inputs ++ m ∷ [] } in
      let placed : Met net longer more (and_inputs done (n ∷ [])) = record {
        paths = after.paths;
        inputs = AllZip-push (IsAt longer) next.inputs done.inputs m n after.inputs (number_is net sound plain longer next done n inside.0 after has);
        outputs = after.outputs;
        gates = after.gates;
        latches = after.latches;
        below = after.below;
        once = after.once;
      } in
      inputs_walk ns inside.1 longer more (and_inputs done (n ∷ [])) placed rest whole
      (λ last end met. let P : List ℕ → Type 0 = λ l. Met net last end (record done { inputs = l }) in goes last end (subst P (append_assoc done.inputs (n ∷ []) ns) met)))

  outputs_walk : (ns : List ℕ) → AllByRecursion (λ n. n < nets net) ns → (order : List ℕ) (flat : Flat) (done : NetList) → Met net order flat done → (rest : List (Step Path)) (whole : NetList)
      → ((longer : List ℕ) (next : Flat) → Met net longer next (and_outputs done ns) → Goal net sound plain next rest whole) → Goal net sound plain flat (tops (flat_map (output_steps true) (names_of net ns)) ++ rest) whole
  outputs_walk [] inside order flat done met rest whole goes =
      let P : List ℕ → Type 0 = λ l. Met net order flat (record done { outputs = l }) in goes order flat (subst P (sym (append-nil done.outputs)) met)
  outputs_walk (n ∷ ns) inside order flat done met rest whole goes =
      mention_walk net sound plain n inside.0 order flat done met (Output (path_of net n) ∷ (tops (flat_map (output_steps true) (names_of net ns)) ++ rest)) whole
      (λ longer next grows has after.
      let m : ℕ = number next (path_of net n) in
      let more : Flat = record next { outputs = next.outputs ++ m ∷ [] } in
      let placed : Met net longer more (and_outputs done (n ∷ [])) = record {
        paths = after.paths;
        inputs = after.inputs;
        outputs = AllZip-push (IsAt longer) next.outputs done.outputs m n after.outputs (number_is net sound plain longer next done n inside.0 after has);
        gates = after.gates;
        latches = after.latches;
        below = after.below;
        once = after.once;
      } in
      outputs_walk ns inside.1 longer more (and_outputs done (n ∷ [])) placed rest whole
      (λ last end met. let P : List ℕ → Type 0 = λ l. Met net last end (record done { outputs = l }) in goes last end (subst P (append_assoc done.outputs (n ∷ []) ns) met)))

  -- nets are mentioned from left to right
  mentions_walk : (ns : List ℕ) → AllByRecursion (λ n. n < nets net) ns → (order : List ℕ) (flat : Flat) (done : NetList) → Met net order flat done → (rest : List (Step Path)) (whole : NetList)
      → ((longer : List ℕ) (next : Flat) → Grows order longer → AllByRecursion (Has longer) ns → Met net longer next done → Goal net sound plain next rest whole) → Goal net sound plain flat (tops (map Mention (names_of net ns)) ++ rest) whole
  mentions_walk [] inside order flat done met rest whole goes = goes order flat (λ m i at. at) tt met
  mentions_walk (n ∷ ns) inside order flat done met rest whole goes =
      mention_walk net sound plain n inside.0 order flat done met (tops (map Mention (names_of net ns)) ++ rest) whole
      (λ longer next grows has after. mentions_walk ns inside.1 longer next done after rest whole
      (λ last end further each met. goes last end (λ m i at. further m i (grows m i at)) ((has.0, further has.0 n has.1), each) met))

  -- the numbers of nets that were met
  numbers_are : (order : List ℕ) (flat : Flat) (done : NetList) (ns : List ℕ) → AllByRecursion (λ n. n < nets net) ns → Met net order flat done → AllByRecursion (Has order) ns → AllZip (IsAt order) (map (number flat) (map in_top (names_of net ns))) ns
  numbers_are order flat done [] inside met each = tt
  numbers_are order flat done (n ∷ ns) inside met each = (number_is net sound plain order flat done n inside.0 met each.0, numbers_are order flat done ns inside.1 met each.1)

  each_grows : (order longer : List ℕ) (ns : List ℕ) → Grows order longer → AllByRecursion (Has order) ns → AllByRecursion (Has longer) ns
  each_grows order longer [] grows each = tt
  each_grows order longer (n ∷ ns) grows each = ((each.0.0, grows each.0.0 n each.0.1), each_grows order longer ns grows each.1)

  -- fewer gates and latches than there may be were placed
  abbrev HasRoom : NetList → Type 0
  HasRoom done = length done.gates + length done.latches < 2 ^ 20

  room_left : (order : List ℕ) (flat : Flat) (done : NetList) → Met net order flat done → HasRoom done → nat_le (2 ^ 20) (length flat.gates + length flat.latches) ≡ false
  room_left order flat done met room =
      not_full (length flat.gates + length flat.latches) (omega (arith, room, zip_length (GateAt order) flat.gates done.gates met.gates, zip_length (LatchAt order) flat.latches done.latches met.latches))

  -- one latch
  latch_placed : (latch : LatchValue) → LatchIsInside (nets net) latch → (order : List ℕ) (flat : Flat) (done : NetList) → Met net order flat done → HasRoom done → Has order latch.next → Has order latch.out → (rest : List (Step Path)) (whole : NetList)
      → ((next : Flat) → Met net order next (and_latches done (latch ∷ [])) → Goal net sound plain next rest whole) → Goal net sound plain flat (Latch (path_of net latch.next) (path_of net latch.out) latch.start ∷ rest) whole
  latch_placed latch inside order flat done met room reads drives rest whole goes =
      let new : LatchValue = latch_on flat (path_of net latch.next) (path_of net latch.out) latch.start in
      let at : LatchAt order new latch = record { next = number_is net sound plain order flat done latch.next inside.0 met reads; out = number_is net sound plain order flat done latch.out inside.1 met drives; start = refl } in
      let more : Flat = record flat { latches = flat.latches ++ new ∷ [] } in
      let placed : Met net order more (and_latches done (latch ∷ [])) = record {
        paths = met.paths;
        inputs = met.inputs;
        outputs = met.outputs;
        gates = met.gates;
        latches = AllZip-push (LatchAt order) flat.latches done.latches new latch met.latches at;
        below = met.below;
        once = met.once;
      } in
      let then = goes more placed in
      (then.0, then.1, rw (room_left order flat done met room) then.2, then.3)

  -- one gate
  gate_placed : (gate : GateValue) → GateIsInside (nets net) gate → (order : List ℕ) (flat : Flat) (done : NetList) → Met net order flat done → HasRoom done → AllByRecursion (Has order) gate.inputs → Has order gate.out → (rest : List (Step Path)) (whole : NetList)
      → ((next : Flat) → Met net order next (and_gates done (gate ∷ [])) → Goal net sound plain next rest whole) → Goal net sound plain flat (Gate (map in_top (names_of net gate.inputs)) (path_of net gate.out) gate.table ∷ rest) whole
  gate_placed gate inside order flat done met room reads drives rest whole goes =
      let new : GateValue = gate_on flat (map in_top (names_of net gate.inputs)) (path_of net gate.out) gate.table in
      let at : GateAt order new gate = record { out = number_is net sound plain order flat done gate.out inside.0 met drives; inputs = numbers_are order flat done gate.inputs (each_of (λ n. n < nets net) gate.inputs inside.1) met reads; table = refl } in
      let more : Flat = record flat { gates = flat.gates ++ new ∷ [] } in
      let placed : Met net order more (and_gates done (gate ∷ [])) = record {
        paths = met.paths;
        inputs = met.inputs;
        outputs = met.outputs;
        gates = AllZip-push (GateAt order) flat.gates done.gates new gate met.gates at;
        latches = met.latches;
        below = met.below;
        once = met.once;
      } in
      let then = goes more placed in
      (then.0, then.1, rw (room_left order flat done met room) then.2, then.3)

  latches_walk : (latches : List LatchValue) → AllByRecursion (LatchIsInside (nets net)) latches → (order : List ℕ) (flat : Flat) (done : NetList) → Met net order flat done → length done.gates + length done.latches + length latches ≤ 2 ^ 20 → (rest : List (Step Path)) (whole : NetList)
      → ((longer : List ℕ) (next : Flat) → Met net longer next (and_latches done latches) → Goal net sound plain next rest whole) → Goal net sound plain flat (tops (flat_map (latch_walk net) latches) ++ rest) whole
  latches_walk [] inside order flat done met fits rest whole goes =
      let P : List LatchValue → Type 0 = λ l. Met net order flat (record done { latches = l }) in goes order flat (subst P (sym (append-nil done.latches)) met)
  latches_walk (latch ∷ latches) inside order flat done met fits rest whole goes =
      let after : List (Step Path) = tops (flat_map (latch_walk net) latches) ++ rest in
      let place : Step Path = Latch (path_of net latch.next) (path_of net latch.out) latch.start in
      let room : HasRoom done = omega (arith, fits) in
      let still : length done.gates + length (done.latches ++ latch ∷ []) + length latches ≤ 2 ^ 20 = omega (arith, fits, length-append done.latches (latch ∷ [])) in
      mention_walk net sound plain latch.next inside.0.0 order flat done met (Mention (path_of net latch.out) ∷ place ∷ after) whole
      (λ one first grows reads met. mention_walk net sound plain latch.out inside.0.1 one first done met (place ∷ after) whole
      (λ two second further drives met. latch_placed latch inside.0 two second done met room (reads.0, further reads.0 latch.next reads.1) drives after whole
      (λ third met. latches_walk latches inside.1 two third (and_latches done (latch ∷ [])) met still rest whole
      (λ last end met. let P : List LatchValue → Type 0 = λ l. Met net last end (record done { latches = l }) in goes last end (subst P (append_assoc done.latches (latch ∷ []) latches) met)))))

  -- the steps of a gate and of what follows it
  gate_steps_are : (gate : GateValue) (more : List (Step (List ℕ))) (rest : List (Step Path)) → tops (gate_walk net gate ++ more) ++ rest ≡ tops (map Mention (names_of net gate.inputs)) ++ Mention (path_of net gate.out) ∷ Gate (map in_top (names_of net gate.inputs)) (path_of net gate.out) gate.table ∷ (tops more ++ rest)
  gate_steps_are gate more rest =
      let mentions : List (Step (List ℕ)) = map Mention (names_of net gate.inputs) in
      let others : List (Step (List ℕ)) = Mention (text_of net gate.out) ∷ Gate (names_of net gate.inputs) (text_of net gate.out) gate.table ∷ [] in
      ap (λ (l : List (Step (List ℕ))). tops l ++ rest) (append_assoc mentions others more) ∙ ap (λ (l : List (Step Path)). l ++ rest) (map-append (along in_top) mentions (others ++ more)) ∙ append_assoc (tops mentions) (tops (others ++ more)) rest

  gates_walk : (gates : List GateValue) → AllByRecursion (GateIsInside (nets net)) gates → (order : List ℕ) (flat : Flat) (done : NetList) → Met net order flat done → length done.gates + length done.latches + length gates ≤ 2 ^ 20 → (rest : List (Step Path)) (whole : NetList)
      → ((longer : List ℕ) (next : Flat) → Met net longer next (and_gates done gates) → Goal net sound plain next rest whole) → Goal net sound plain flat (tops (flat_map (gate_walk net) gates) ++ rest) whole
  gates_walk [] inside order flat done met fits rest whole goes =
      let P : List GateValue → Type 0 = λ l. Met net order flat (record done { gates = l }) in goes order flat (subst P (sym (append-nil done.gates)) met)
  gates_walk (gate ∷ gates) inside order flat done met fits rest whole goes =
      let after : List (Step Path) = tops (flat_map (gate_walk net) gates) ++ rest in
      let place : Step Path = Gate (map in_top (names_of net gate.inputs)) (path_of net gate.out) gate.table in
      let room : HasRoom done = omega (arith, fits) in
      let still : length (done.gates ++ gate ∷ []) + length done.latches + length gates ≤ 2 ^ 20 = omega (arith, fits, length-append done.gates (gate ∷ [])) in
      let P : List (Step Path) → Type 0 = λ steps. Goal net sound plain flat steps whole in
      subst P (sym (gate_steps_are gate (flat_map (gate_walk net) gates) rest))
      (mentions_walk gate.inputs (each_of (λ n. n < nets net) gate.inputs inside.0.1) order flat done met (Mention (path_of net gate.out) ∷ place ∷ after) whole
      (λ one first grows reads met. mention_walk net sound plain gate.out inside.0.0 one first done met (place ∷ after) whole
      (λ two second further drives met. gate_placed gate inside.0 two second done met room (each_grows one two gate.inputs further reads) drives after whole
      (λ third met. gates_walk gates inside.1 two third (and_gates done (gate ∷ [])) met still rest whole
      (λ last end met. let Q : List GateValue → Type 0 = λ l. Met net last end (record done { gates = l }) in goes last end (subst Q (append_assoc done.gates (gate ∷ []) gates) met))))))

  all_steps : (a b d e : List (Step (List ℕ))) → tops (a ++ b ++ d ++ e) ≡ tops a ++ (tops b ++ (tops d ++ (tops e ++ [])))
  all_steps a b d e =
      map-append (along in_top) (a ++ b ++ d) e
      ∙ ap (λ (l : List (Step Path)). l ++ tops e) (map-append (along in_top) (a ++ b) d ∙ ap (λ (l : List (Step Path)). l ++ tops d) (map-append (along in_top) a b))
      ∙ append_assoc (tops a ++ tops b) (tops d) (tops e) ∙ append_assoc (tops a) (tops b) (tops d ++ tops e)
      ∙ ap (λ (l : List (Step Path)). tops a ++ (tops b ++ (tops d ++ l))) (sym (append-nil (tops e)))

  -- a walk over what the net asks ends, and has met the net
  pub walk_met : Goal net sound plain nothing (tops (net_walk net)) net
  walk_met =
      let none : NetList = record { labels = net.labels; inputs = []; outputs = []; gates = []; latches = [] } in
      let begins : Met net [] nothing none = record { paths = refl; inputs = tt; outputs = tt; gates = tt; latches = tt; below = λ m n at. absurd (nowhere m n at); once = λ n. omega arith } in
      let outs : List (Step (List ℕ)) = flat_map (output_steps true) (names_of net net.outputs) in
      let holds : List (Step (List ℕ)) = flat_map (latch_walk net) net.latches in
      let works : List (Step (List ℕ)) = flat_map (gate_walk net) net.gates in
      let P : List (Step Path) → Type 0 = λ steps. Goal net sound plain nothing steps net in
      let room = sound.inside.few_gates in
      subst P (sym (all_steps (flat_map (input_steps true) (names_of net net.inputs)) outs holds works))
      (inputs_walk net.inputs (each_of (λ n. n < nets net) net.inputs sound.inside.inputs) [] nothing none begins (tops outs ++ (tops holds ++ (tops works ++ []))) net
      (λ a one met. outputs_walk net.outputs (each_of (λ n. n < nets net) net.outputs sound.inside.outputs) a one (and_inputs none net.inputs) met (tops holds ++ (tops works ++ [])) net
      (λ b two met. latches_walk net.latches (each_of (LatchIsInside (nets net)) net.latches sound.inside.latches) b two (and_outputs (and_inputs none net.inputs) net.outputs) met (omega (arith, room)) (tops works ++ []) net
      (λ d three met. gates_walk net.gates (each_of (GateIsInside (nets net)) net.gates sound.inside.gates) d three (and_latches (and_outputs (and_inputs none net.inputs) net.outputs) net.latches) met (omega (arith, room)) [] net
      (λ e four met. (e, four, refl, met))))))
    where
      nowhere : (m n : ℕ) → IsAt [] m n → ⊥
      nowhere m n at = cc
