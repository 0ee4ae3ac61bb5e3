-- Net lists that are made again item by item.
use Rattle.std.proofs.Common.{◌≡◌, ◌∙◌, ap, sym, subst, ℕ, ◌<◌, ◌≤◌, ◌+◌, List, [], ◌∷◌, ◌++◌, length, take, map, get_or, Some, arith}
use Rattle.std.specs.Prelude.{All}
use Rattle.std.proofs.lemmas.List.{append_assoc, map-append, take_all, take_more}
use Rattle.std.proofs.lemmas.Option.{slice_get-get_or}
use Rattle.lists.specs.Lists.{Has}
use Rattle.net_core.specs.GateValue.{GateValue}
use Rattle.net_core.specs.Inside.{GateIsInside}
use Rattle.net_core.specs.NetList.{NetList, nets, with_gate}

front_more : {X : Type 0} (before xs : List X) (i : ℕ) (d : X) → i < length xs → (before ++ take i xs) ++ get_or xs i d ∷ [] ≡ before ++ take (i + 1) xs
front_more before xs i d less = append_assoc before (take i xs) (get_or xs i d ∷ []) ∙ ap (λ (zs : List _). before ++ zs) (sym (take_more xs i d less))

mapped_more : (f : GateValue → GateValue) (before gs : List GateValue) (i : ℕ) (g : GateValue) → i < length gs → g ≡ get_or gs i g → (before ++ map f (take i gs)) ++ f g ∷ [] ≡ before ++ map f (take (i + 1) gs)
mapped_more f before gs i g less is =
    append_assoc before (map f (take i gs)) (f g ∷ [])
    ∙ ap (λ (zs : List GateValue). before ++ zs) (sym (ap (map f) (take_more gs i g less ∙ ap (λ (x : GateValue). take i gs ++ x ∷ []) (sym is)) ∙ map-append f (take i gs) (g ∷ [])))

-- a number of a list whose numbers are all below the bound
pub item_exists : (count bound : ℕ) (xs own : List ℕ) (i : ℕ) → xs ≡ own → i < length xs → All (λ n. n < bound) own → count ≡ bound → get_or xs i 0 < count
item_exists count bound xs own i same less all counted =
    let P : List ℕ → Type 0 = All (λ n. n < bound) in
    omega (arith, subst P (sym same) all i 0 less, counted)

pub input_added : (old mid new : NetList) (xs own : List ℕ) (i : ℕ) → xs ≡ own → i < length xs → mid ≡ record old { inputs = old.inputs ++ take i own } → new ≡ record mid { inputs = mid.inputs ++ get_or xs i 0 ∷ [] } → new ≡ record old { inputs = old.inputs ++ take (i + 1) own }
input_added old mid new xs own i same less before made =
    let P : List ℕ → Type 0 = λ zs. mid ≡ record old { inputs = old.inputs ++ take i zs } → new ≡ record old { inputs = old.inputs ++ take (i + 1) zs } in
    subst P same (λ is. made ∙ ap (λ (net : NetList). record net { inputs = net.inputs ++ get_or xs i 0 ∷ [] }) is ∙ ap (λ (zs : List ℕ). record old { inputs = zs }) (front_more old.inputs xs i 0 less)) before

pub inputs_added : (old made : NetList) (xs own : List ℕ) (i : ℕ) → xs ≡ own → length xs ≤ i → made ≡ record old { inputs = old.inputs ++ take i own } → made ≡ record old { inputs = old.inputs ++ own }
inputs_added old made xs own i same past is =
    let P : List ℕ → Type 0 = λ zs. take i zs ≡ zs in
    is ∙ ap (λ (zs : List ℕ). record old { inputs = old.inputs ++ zs }) (subst P same (take_all i xs past))

pub output_added : (old mid new : NetList) (xs own : List ℕ) (i : ℕ) → xs ≡ own → i < length xs → mid ≡ record old { outputs = old.outputs ++ take i own } → new ≡ record mid { outputs = mid.outputs ++ get_or xs i 0 ∷ [] } → new ≡ record old { outputs = old.outputs ++ take (i + 1) own }
output_added old mid new xs own i same less before made =
    let P : List ℕ → Type 0 = λ zs. mid ≡ record old { outputs = old.outputs ++ take i zs } → new ≡ record old { outputs = old.outputs ++ take (i + 1) zs } in
    subst P same (λ is. made ∙ ap (λ (net : NetList). record net { outputs = net.outputs ++ get_or xs i 0 ∷ [] }) is ∙ ap (λ (zs : List ℕ). record old { outputs = zs }) (front_more old.outputs xs i 0 less)) before

pub outputs_added : (old made : NetList) (xs own : List ℕ) (i : ℕ) → xs ≡ own → length xs ≤ i → made ≡ record old { outputs = old.outputs ++ take i own } → made ≡ record old { outputs = old.outputs ++ own }
outputs_added old made xs own i same past is =
    let P : List ℕ → Type 0 = λ zs. take i zs ≡ zs in
    is ∙ ap (λ (zs : List ℕ). record old { outputs = old.outputs ++ zs }) (subst P same (take_all i xs past))

-- the new gate for a gate stands on nets that exist
pub gate_fits : (f : GateValue → GateValue) (bound count : ℕ) (gs own : List GateValue) (i : ℕ) (g : GateValue) → gs ≡ own → i < length gs → g ≡ get_or gs i g → ((x : GateValue) → Has own x → GateIsInside bound (f x)) → count ≡ bound → GateIsInside count (f g)
gate_fits f bound count gs own i g same less is each counted =
    let P : ℕ → Type 0 = λ n. GateIsInside n (f g) in
    let Q : List GateValue → Type 0 = λ xs. Has xs g in
    subst P (sym counted) (each g (subst Q same (i, slice_get-get_or gs i g less ∙ ap Some (sym is))))

pub gate_added : (f : GateValue → GateValue) (old mid new : NetList) (gs own : List GateValue) (i : ℕ) (g : GateValue) → gs ≡ own → i < length gs → g ≡ get_or gs i g → mid ≡ record old { gates = old.gates ++ map f (take i own) } → new ≡ with_gate mid (f g) → new ≡ record old { gates = old.gates ++ map f (take (i + 1) own) }
gate_added f old mid new gs own i g same less here before made =
    let P : List GateValue → Type 0 = λ zs. mid ≡ record old { gates = old.gates ++ map f (take i zs) } → new ≡ record old { gates = old.gates ++ map f (take (i + 1) zs) } in
    subst P same (λ is. made ∙ ap (λ (net : NetList). with_gate net (f g)) is ∙ ap (λ (zs : List GateValue). record old { gates = zs }) (mapped_more f old.gates gs i g less here)) before

pub gates_added : (f : GateValue → GateValue) (old made : NetList) (gs own : List GateValue) (i : ℕ) → gs ≡ own → length gs ≤ i → made ≡ record old { gates = old.gates ++ map f (take i own) } → made ≡ record old { gates = old.gates ++ map f own }
gates_added f old made gs own i same past is =
    let P : List GateValue → Type 0 = λ zs. take i zs ≡ zs in
    is ∙ ap (λ (zs : List GateValue). record old { gates = old.gates ++ map f zs }) (subst P same (take_all i gs past))
