-- Steps of the walk over tables.
use Rattle.std.proofs.Common.{◌≡◌, ◌⊎◌, ◌∙◌, inl, inr, ap, sym, refl, subst, ℕ, zero, suc, ◌<◌, ◌≤◌, ◌+◌, ◌^◌, Bool, true, false, cond, List, [], ◌∷◌, ◌++◌, map, length, take, drop, get_or, Option, None, Some, Result, Ok, Err, arith, drop-cons, add-one}
use Rattle.std.specs.Prelude.{All, is_some, flat_map, unwrap_or, nat_le}
use Rattle.std.specs.Str.{bytes_eq}
use Rattle.std.proofs.lemmas.Bool.{leb-true, le-leb}
use Rattle.std.proofs.lemmas.List.{length-append, map_push}
use Rattle.std.proofs.lemmas.List.Elements.{All-append, All-map}
use Rattle.std.proofs.lemmas.Slice.Eq.{bytes_eq-Decides}
use Rattle.std.proofs.Math.Seq.{take-suc}
use Rattle.outcome.specs.Steps.{on_value}
use Rattle.net_core.specs.NetList.{NetList, nets, number_of, with_gate, with_latch, with_label}
use Rattle.net_core.specs.Inside.{HasNoMoreGates, IsFull}
use Rattle.net_core.specs.declared.latch.Start.{Start}
use Rattle.net_core.specs.declared.fault.NetFault.{NetFault}
use Rattle.net_core.specs.declared.fault.NetFault.TheVariants as faults
use Rattle.net_core.proofs.NameLemmas.{number_kept, number_below}
use Rattle.net_blif.specs.Statement.{Token}
use Rattle.net_blif.specs.Table.{with_number, Numbers}
use Rattle.net_flat.specs.Steps.{gate_steps, latch_steps, Step, Mention, Gate, Latch}
use Rattle.net_flat.specs.private.LocalWalk.{found, found_by, local_gate, local_latch, local_step, local_walked, local_with, net_with, number_in, on_net, state_with, with_new, AreInside, HasEach, InTop, Inside, IsFaultOf, Local, State}
use Rattle.net_flat.specs.private.Stopping.{IsFaultBy, IsFaultOfNet}
use Rattle.net_flat.specs.declared.flat_fault.FlatFault.{FlatFault}
use Rattle.net_flat.specs.declared.flat_fault.FlatFault.TheVariants.{Net}
use Rattle.net_flat.proofs.SameLemmas.{walked_append}

-- a first part that was walked
pub walked_front : (s t : State) (xs ys : List (Step Token)) → local_walked s xs ≡ Ok t → local_walked s (xs ++ ys) ≡ local_walked t ys
walked_front s t xs ys is = walked_append local_step s xs ys ∙ ap (on_value (λ m. local_walked m ys)) is

-- a first part that was refused
pub refused_front : (s : State) (fault : FlatFault) (xs ys : List (Step Token)) → IsFaultOf (local_walked s xs) fault → IsFaultOf (local_walked s (xs ++ ys)) fault
refused_front s fault xs ys (inl e) = inl e
refused_front s fault xs ys (inr is) = inr (walked_append local_step s xs ys ∙ ap (on_value (λ m. local_walked m ys)) is)

pub made_step : (s t : State) (x : Step Token) (ys : List (Step Token)) → local_step s x ≡ Ok t → local_walked s (x ∷ ys) ≡ local_walked t ys
made_step s t x ys is = ap (on_value (λ m. local_walked m ys)) is

pub refused_step : (s : State) (fault : FlatFault) (x : Step Token) (ys : List (Step Token)) → IsFaultOf (local_step s x) fault → IsFaultOf (local_walked s (x ∷ ys)) fault
refused_step s fault x ys (inl e) = inl e
refused_step s fault x ys (inr is) = inr (ap (on_value (λ m. local_walked m ys)) is)

pub refused_same : (a b : Result State FlatFault) (fault : FlatFault) → a ≡ b → IsFaultOf b fault → IsFaultOf a fault
refused_same a b fault is h = let P : Result State FlatFault → Type 0 = λ r. IsFaultOf r fault in subst P (sym is) h

-- what refuses a first part refuses what follows on it
pub refused_on : (a : Result State FlatFault) (goes : State → Result State FlatFault) (fault : FlatFault) → IsFaultOf a fault → IsFaultOf (on_value goes a) fault
refused_on a goes fault (inl e) = inl e
refused_on a goes fault (inr is) = inr (ap (on_value goes) is)

-- a walk over what elements do, at the element at i
module _ {A : Type 0} (steps : A → List (Step Token)) where
  next_element : (xs : List A) (i : ℕ) (x d : A) (s : State) → i < length xs → x ≡ get_or xs i d → local_walked s (flat_map steps (drop i xs)) ≡ local_walked s (steps x ++ flat_map steps (drop (i + 1) xs))
  next_element xs i x d s below is = rw add-one (ap (λ (ys : List A). local_walked s (flat_map steps ys)) (drop-cons xs i d below ∙ ap (λ (y : A). y ∷ drop (suc i) xs) (sym is)))

  pub made_element : (xs : List A) (i : ℕ) (x d : A) (s t : State) (whole : Result State FlatFault) → i < length xs → x ≡ get_or xs i d → whole ≡ local_walked s (flat_map steps (drop i xs)) → local_walked s (steps x) ≡ Ok t → whole ≡ local_walked t (flat_map steps (drop (i + 1) xs))
  made_element xs i x d s t whole below is so_far made = so_far ∙ (next_element xs i x d s below is ∙ walked_front s t (steps x) (flat_map steps (drop (i + 1) xs)) made)

  pub refused_element : (xs : List A) (i : ℕ) (x d : A) (s : State) (whole : Result State FlatFault) (fault : FlatFault) → i < length xs → x ≡ get_or xs i d → whole ≡ local_walked s (flat_map steps (drop i xs)) → IsFaultOf (local_walked s (steps x)) fault → IsFaultOf whole fault
  refused_element xs i x d s whole fault below is so_far refused = refused_same whole _ fault (so_far ∙ next_element xs i x d s below is) (refused_front s fault (steps x) (flat_map steps (drop (i + 1) xs)) refused)

-- mentions one after another
module _ {A : Type 0} (name_of : A → Token) where
  next_mention : (xs : List A) (i : ℕ) (x d : A) (s : State) → i < length xs → x ≡ get_or xs i d → local_walked s (map (λ y. Mention (name_of y)) (drop i xs)) ≡ local_walked s (Mention (name_of x) ∷ map (λ y. Mention (name_of y)) (drop (i + 1) xs))
  next_mention xs i x d s below is = rw add-one (ap (λ (ys : List A). local_walked s (map (λ y. Mention (name_of y)) ys)) (drop-cons xs i d below ∙ ap (λ (y : A). y ∷ drop (suc i) xs) (sym is)))

  pub made_mention : (xs : List A) (i : ℕ) (x d : A) (s t : State) (whole : Result State FlatFault) → i < length xs → x ≡ get_or xs i d → whole ≡ local_walked s (map (λ y. Mention (name_of y)) (drop i xs)) → local_step s (Mention (name_of x)) ≡ Ok t → whole ≡ local_walked t (map (λ y. Mention (name_of y)) (drop (i + 1) xs))
  made_mention xs i x d s t whole below is so_far made = so_far ∙ (next_mention xs i x d s below is ∙ made_step s t (Mention (name_of x)) (map (λ y. Mention (name_of y)) (drop (i + 1) xs)) made)

  pub refused_mention : (xs : List A) (i : ℕ) (x d : A) (s : State) (whole : Result State FlatFault) (fault : FlatFault) → i < length xs → x ≡ get_or xs i d → whole ≡ local_walked s (map (λ y. Mention (name_of y)) (drop i xs)) → IsFaultOf (local_step s (Mention (name_of x))) fault → IsFaultOf whole fault
  refused_mention xs i x d s whole fault below is so_far refused = refused_same whole _ fault (so_far ∙ next_mention xs i x d s below is) (refused_step s fault (Mention (name_of x)) (map (λ y. Mention (name_of y)) (drop (i + 1) xs)) refused)

-- what is mentioned is found, and what was found stays
pub mention_cases : (s t : State) (name : Token) → local_step s (Mention name) ≡ Ok t → ((k : ℕ) × (found s name ≡ Some k) × (s ≡ t)) ⊎ ((found s name ≡ None) × (with_new s name ≡ t))
mention_cases s t name made = by (found s name) refl (nat_le (2 ^ 20) (nets s.net)) made
  where
    by : (o : Option ℕ) → found s name ≡ o → (b : Bool) → cond (is_some o) (Ok s) (cond b (Err (Net faults.TooManyNets)) (Ok (with_new s name))) ≡ Ok t → ((k : ℕ) × (found s name ≡ Some k) × (s ≡ t)) ⊎ ((found s name ≡ None) × (with_new s name ≡ t))
    by (Some k) at b e = inl (k, at, cc)
    by None at true e = absurd (cc)
    by None at false e = inr (at, cc)

new_kept : (s : State) (name x : Token) (k : ℕ) → found s name ≡ None → found s x ≡ Some k → found (with_new s name) x ≡ Some k
new_kept s name x k new at = by s.local new at
  where
    by : (l : Local) → found_by s.net l name ≡ None → found_by s.net l x ≡ Some k → found_by (net_with s.net l name) (local_with s.net l name) x ≡ Some k
    by InTop new at = number_kept 0 s.net.labels (record { text = name; named = true }) x k at
    by (Inside prefix numbers) new at = here (bytes_eq name x) refl
      where
        here : (b : Bool) → bytes_eq name x ≡ b → cond b (Some (nets s.net)) (numbers x) ≡ Some k
        here true e = let same : name ≡ x = (bytes_eq-Decides name x).0 e in let none : numbers x ≡ None = subst (λ (y : Token). numbers y ≡ None) same new in absurd (cc)
        here false e = at

pub kept : (s t : State) (name : Token) → local_step s (Mention name) ≡ Ok t → (x : Token) (k : ℕ) → found s x ≡ Some k → found t x ≡ Some k
kept s t name made x k at =
    elim (mention_cases s t name made) [
      | inl (j, there, same) ↦ let P : State → Type 0 = λ u. found u x ≡ Some k in subst P same at
      | inr (new, same) ↦ let P : State → Type 0 = λ u. found u x ≡ Some k in subst P same (new_kept s name x k new at)
    ]

pub each_kept : (s t : State) (names : List Token) → ((x : Token) (k : ℕ) → found s x ≡ Some k → found t x ≡ Some k) → HasEach s names → HasEach t names
each_kept s t names keeps each = λ i d less. let h = each i d less in (h.0, keeps (get_or names i d) h.0 h.1)

pub numbers_kept : (s t : State) (names : List Token) → ((x : Token) (k : ℕ) → found s x ≡ Some k → found t x ≡ Some k) → HasEach s names → map (number_in s) names ≡ map (number_in t) names
numbers_kept s t [] keeps each = refl
numbers_kept s t (name ∷ names) keeps each =
    let h = each zero [] (omega arith) in
    let same : number_in s name ≡ number_in t name = ap (λ (n : Option ℕ). unwrap_or n 0) (h.1 ∙ sym (keeps name h.0 h.1)) in
    ap (λ n. n ∷ map (number_in s) names) same ∙ ap (λ (ns : List ℕ). number_in t name ∷ ns) (numbers_kept s t names keeps (λ i d less. each (suc i) d (omega arith)))

each_push : (s : State) (names : List Token) (name : Token) (n : ℕ) → HasEach s names → found s name ≡ Some n → HasEach s (names ++ name ∷ [])
each_push s names name n each at = All-append (λ x. (k : ℕ) × (found s x ≡ Some k)) names (name ∷ []) each one
  where
    one : (i : ℕ) (d : Token) → i < 1 → (k : ℕ) × (found s (get_or (name ∷ []) i d) ≡ Some k)
    one zero d less = (n, at)
    one (suc i) d less = absurd (omega arith)

-- one more name has a net
module _ {A : Type 0} (name_of : A → Token) (xs : List A) (i : ℕ) (x d : A) (s t : State) (n : ℕ) (below : i < length xs) (is : x ≡ get_or xs i d) (made : local_step s (Mention (name_of x)) ≡ Ok t) (at : found t (name_of x) ≡ Some n) (each : HasEach s (map name_of (take i xs))) where
  whole : map name_of (take i xs) ++ name_of x ∷ [] ≡ map name_of (take (i + 1) xs)
  whole = rw add-one (sym (map_push name_of (take i xs) x) ∙ ap (λ (ys : List A). map name_of ys) (ap (λ (y : A). take i xs ++ y ∷ []) is ∙ sym (take-suc xs i d below)))

  pub each_more : HasEach t (map name_of (take (i + 1) xs))
  each_more =
      let P : List Token → Type 0 = HasEach t in
      subst P whole (each_push t (map name_of (take i xs)) (name_of x) n (each_kept s t (map name_of (take i xs)) (kept s t (name_of x) made) each) at)

  pub numbers_more : (old numbers : List ℕ) → old ≡ map (number_in s) (map name_of (take i xs)) → numbers ≡ old ++ n ∷ [] → numbers ≡ map (number_in t) (map name_of (take (i + 1) xs))
  numbers_more old numbers was pushed =
      let number : n ≡ number_in t (name_of x) = ap (λ (k : Option ℕ). unwrap_or k 0) (sym at) in
      pushed ∙ (ap (λ (o : List ℕ). o ++ n ∷ []) (was ∙ numbers_kept s t (map name_of (take i xs)) (kept s t (name_of x) made) each) ∙ (ap (λ k. map (number_in t) (map name_of (take i xs)) ++ k ∷ []) number ∙ (sym (map_push (number_in t) (map name_of (take i xs)) (name_of x)) ∙ ap (λ (ys : List Token). map (number_in t) ys) whole)))

-- numbers that are found are those of nets
pub number_inside : (net : NetList) (name : List ℕ) (k : ℕ) → number_of net name ≡ Some k → k < nets net
number_inside net name k at = let less = number_below 0 net.labels name k at in omega arith

pub top_inside : (net : NetList) (i : ℕ) → AreInside (state_with net i InTop)
top_inside net i name k at = number_inside net name k at

-- more nets, and the same names
pub inside_more : (old new : NetList) (i j : ℕ) (local : Local) → nets old ≤ nets new → AreInside (state_with old i local) → AreInside (state_with new j local)
inside_more old new i j InTop le is name k at = top_inside new j name k at
inside_more old new i j (Inside prefix numbers) le is name k at = let less = is name k at in omega (arith, less, le)

longer : (net : NetList) (text : Token) (named : Bool) → nets (with_label net text named) ≡ nets net + 1
longer net text named = length-append net.labels (record { text = text; named = named } ∷ [])

pub new_longer : (s : State) (name : Token) → nets (with_new s name).net ≡ nets s.net + 1
new_longer s name = by s.local
  where
    by : (l : Local) → nets (net_with s.net l name) ≡ nets s.net + 1
    by InTop = longer s.net name true
    by (Inside prefix numbers) = longer s.net (prefix ++ name) false

new_inside : (s : State) (name : Token) → AreInside s → AreInside (with_new s name)
new_inside s name is = by s.local is
  where
    by : (l : Local) → AreInside (state_with s.net s.instances l) → AreInside (state_with (net_with s.net l name) s.instances (local_with s.net l name))
    by InTop is x k at = top_inside (with_label s.net name true) s.instances x k at
    by (Inside prefix numbers) is x k at = here (bytes_eq name x) at
      where
        here : (b : Bool) → cond b (Some (nets s.net)) (numbers x) ≡ Some k → k < nets (with_label s.net (prefix ++ name) false)
        here true e = let same : nets s.net ≡ k = cc in omega (arith, same, longer s.net (prefix ++ name) false)
        here false e = let less = is x k e in omega (arith, less, longer s.net (prefix ++ name) false)

pub mention_inside : (s t : State) (name : Token) → AreInside s → local_step s (Mention name) ≡ Ok t → AreInside t
mention_inside s t name is made =
    let P : State → Type 0 = AreInside in
    elim (mention_cases s t name made) [
      | inl (j, there, same) ↦ subst P same is
      | inr (new, same) ↦ subst P same (new_inside s name is)
    ]

-- numbers of names that have nets are those of nets
pub found_inside : (s : State) (name : Token) (k : ℕ) → AreInside s → found s name ≡ Some k → k < nets s.net
found_inside s name k is at = is name k at

pub numbers_inside : (s : State) (names : List Token) → AreInside s → HasEach s names → All (λ n. n < nets s.net) (map (number_in s) names)
numbers_inside s names is each = All-map (λ n. n < nets s.net) (number_in s) names (λ i d less. let h = each i d less in let same : number_in s (get_or names i d) ≡ h.0 = ap (λ (n : Option ℕ). unwrap_or n 0) h.1 in rw same (is (get_or names i d) h.0 h.1))

-- a fault of the maker where it makes no net
pub net_refused : (net : NetList) (refusal : NetFault) (fault : FlatFault) → IsFaultBy refusal fault → (refusal ≡ faults.TooManyNets) ⊎ (refusal ≡ faults.OutOfMemory) → (refusal ≡ faults.TooManyNets → IsFull net) → IsFaultOfNet net fault
net_refused net refusal fault (inl (wanting, is)) only full = inl is
net_refused net refusal fault (inr (other, is)) (inr wanting) full = absurd (other wanting)
net_refused net refusal fault (inr (other, is)) (inl many) full = inr (full many, is ∙ ap Net many)

-- a new name in an instance, where no net is made for it
pub new_refused : (net : NetList) (i : ℕ) (prefix : List ℕ) (numbers : Numbers) (name : Token) (fault : FlatFault) → numbers name ≡ None → IsFaultOfNet net fault → IsFaultOf (local_step (state_with net i (Inside prefix numbers)) (Mention name)) fault
new_refused net i prefix numbers name fault new (inl is) = inl is
new_refused net i prefix numbers name fault new (inr (full, is)) =
    let many : nat_le (2 ^ 20) (nets net) ≡ true = le-leb (2 ^ 20) (nets net) full in
    let refused : local_step (state_with net i (Inside prefix numbers)) (Mention name) ≡ Err (Net faults.TooManyNets) = rw (new, many) refl in
    inr (refused ∙ ap Err (sym is))

-- what was inserted is found
pub inserted : (numbers more : Numbers) (name : Token) (n : ℕ) → more ≡ with_number numbers name n → more name ≡ Some n
inserted numbers more name n is = let hit : bytes_eq name name ≡ true = (bytes_eq-Decides name name).1 refl in ap (λ (f : Numbers). f name) is ∙ rw hit refl

-- the same names on a net list with as many nets
pub inside_placed : (t : State) (new : NetList) → nets t.net ≤ nets new → AreInside t → AreInside (on_net t new)
inside_placed t new le is = inside_more t.net new t.instances t.instances t.local le is

pub inside_as : (t : State) (new : NetList) → new.labels ≡ t.net.labels → AreInside t → AreInside (on_net t new)
inside_as t new same is = inside_placed t new (omega (arith, ap length same)) is

-- a gate on its nets
module _ (s mid t : State) (inputs : List Token) (out : Token) (table : ℕ) (first : local_walked s (map Mention inputs) ≡ Ok mid) where
  after_inputs : local_walked s (gate_steps inputs out table) ≡ local_walked mid (Mention out ∷ Gate inputs out table ∷ [])
  after_inputs = walked_front s mid (map Mention inputs) (Mention out ∷ Gate inputs out table ∷ []) first

  pub gate_out_refused : (fault : FlatFault) → IsFaultOf (local_step mid (Mention out)) fault → IsFaultOf (local_walked s (gate_steps inputs out table)) fault
  gate_out_refused fault refused = refused_same _ _ fault after_inputs (refused_step mid fault (Mention out) (Gate inputs out table ∷ []) refused)

  module _ (second : local_step mid (Mention out) ≡ Ok t) where
    to_gate : local_walked s (gate_steps inputs out table) ≡ local_walked t (Gate inputs out table ∷ [])
    to_gate = after_inputs ∙ made_step mid t (Mention out) (Gate inputs out table ∷ []) second

    pub gate_made : (numbers : List ℕ) (n : ℕ) (new : NetList) → numbers ≡ map (number_in t) inputs → found t out ≡ Some n → new ≡ with_gate t.net (record { out = n; inputs = numbers; table = table }) → (HasNoMoreGates t.net → ⊥) → local_walked s (gate_steps inputs out table) ≡ Ok (on_net t new)
    gate_made numbers n new are at made room = to_gate ∙ by (nat_le (2 ^ 20) (length t.net.gates + length t.net.latches)) refl
      where
        same : local_gate t inputs out table ≡ record { out = n; inputs = numbers; table = table }
        same = rw (at, are) refl

        by : (b : Bool) → nat_le (2 ^ 20) (length t.net.gates + length t.net.latches) ≡ b → on_value (λ more. Ok more) (cond b (Err (Net faults.TooManyGates)) (Ok (on_net t (with_gate t.net (local_gate t inputs out table))))) ≡ Ok (on_net t new)
        by true f = absurd (room (leb-true (2 ^ 20) (length t.net.gates + length t.net.latches) f))
        by false f = ap (λ (x : NetList). Ok (on_net t x)) (ap (with_gate t.net) same ∙ sym made)

    pub gate_refused : (refusal : NetFault) (fault : FlatFault) → IsFaultBy refusal fault → (refusal ≡ faults.TooManyGates) ⊎ (refusal ≡ faults.OutOfMemory) → (refusal ≡ faults.TooManyGates → HasNoMoreGates t.net) → IsFaultOf (local_walked s (gate_steps inputs out table)) fault
    gate_refused refusal fault (inl (wanting, is)) only full = inl is
    gate_refused refusal fault (inr (other, is)) (inr wanting) full = absurd (other wanting)
    gate_refused refusal fault (inr (other, is)) (inl gates) full =
        let b : nat_le (2 ^ 20) (length t.net.gates + length t.net.latches) ≡ true = le-leb (2 ^ 20) (length t.net.gates + length t.net.latches) (full gates) in
        inr (to_gate ∙ (rw b refl ∙ ap Err (sym (is ∙ ap Net gates))))

pub gate_numbers : (mid t : State) (inputs : List Token) (out : Token) (numbers : List ℕ) → local_step mid (Mention out) ≡ Ok t → AreInside t → HasEach mid inputs → numbers ≡ map (number_in mid) inputs → (numbers ≡ map (number_in t) inputs) × All (λ n. n < nets t.net) numbers
gate_numbers mid t inputs out numbers second inside each are =
    let keeps = kept mid t out second in
    let same : numbers ≡ map (number_in t) inputs = are ∙ numbers_kept mid t inputs keeps each in
    let P : List ℕ → Type 0 = All (λ n. n < nets t.net) in
    (same, subst P (sym same) (numbers_inside t inputs inside (each_kept mid t inputs keeps each)))

-- a latch on its nets
module _ (s mid t : State) (next out : Token) (start : Start) (first : local_step s (Mention next) ≡ Ok mid) where
  pub driven_refused : (fault : FlatFault) → IsFaultOf (local_step mid (Mention out)) fault → IsFaultOf (local_walked s (latch_steps next out start)) fault
  driven_refused fault refused = refused_same _ _ fault (made_step s mid (Mention next) (Mention out ∷ Latch next out start ∷ []) first) (refused_step mid fault (Mention out) (Latch next out start ∷ []) refused)

  module _ (second : local_step mid (Mention out) ≡ Ok t) where
    to_latch : local_walked s (latch_steps next out start) ≡ local_walked t (Latch next out start ∷ [])
    to_latch = made_step s mid (Mention next) (Mention out ∷ Latch next out start ∷ []) first ∙ made_step mid t (Mention out) (Latch next out start ∷ []) second

    pub latch_made : (read driven : ℕ) (new : NetList) → found mid next ≡ Some read → found t out ≡ Some driven → new ≡ with_latch t.net (record { next = read; out = driven; start = start }) → (HasNoMoreGates t.net → ⊥) → local_walked s (latch_steps next out start) ≡ Ok (on_net t new)
    latch_made read driven new reads drives made room = to_latch ∙ by (nat_le (2 ^ 20) (length t.net.gates + length t.net.latches)) refl
      where
        kept_next : found t next ≡ Some read
        kept_next = kept mid t out second next read reads

        same : local_latch t next out start ≡ record { next = read; out = driven; start = start }
        same = rw (kept_next, drives) refl

        by : (b : Bool) → nat_le (2 ^ 20) (length t.net.gates + length t.net.latches) ≡ b → on_value (λ more. Ok more) (cond b (Err (Net faults.TooManyGates)) (Ok (on_net t (with_latch t.net (local_latch t next out start))))) ≡ Ok (on_net t new)
        by true f = absurd (room (leb-true (2 ^ 20) (length t.net.gates + length t.net.latches) f))
        by false f = ap (λ (x : NetList). Ok (on_net t x)) (ap (with_latch t.net) same ∙ sym made)

    pub latch_refused : (refusal : NetFault) (fault : FlatFault) → IsFaultBy refusal fault → (refusal ≡ faults.TooManyGates) ⊎ (refusal ≡ faults.OutOfMemory) → (refusal ≡ faults.TooManyGates → HasNoMoreGates t.net) → IsFaultOf (local_walked s (latch_steps next out start)) fault
    latch_refused refusal fault (inl (wanting, is)) only full = inl is
    latch_refused refusal fault (inr (other, is)) (inr wanting) full = absurd (other wanting)
    latch_refused refusal fault (inr (other, is)) (inl gates) full =
        let b : nat_le (2 ^ 20) (length t.net.gates + length t.net.latches) ≡ true = le-leb (2 ^ 20) (length t.net.gates + length t.net.latches) (full gates) in
        inr (to_latch ∙ (rw b refl ∙ ap Err (sym (is ∙ ap Net gates))))

pub map_same : (names : List Token) → map (λ name. name) names ≡ names
map_same [] = refl
map_same (name ∷ names) = ap (λ (ns : List Token). name ∷ ns) (map_same names)
