-- What a walk over paths keeps: places, gates, and what was mentioned.
use Rattle.std.proofs.Common.{◌≡◌, ◌⊎◌, ◌∙◌, inl, inr, ap, sym, refl, subst, ℕ, zero, suc, ◌+◌, ◌^◌, Bool, true, false, cond, ◌&&◌, List, [], ◌∷◌, ◌++◌, length, Option, None, Some, Result, Ok, Err, arith}
use Rattle.std.specs.Prelude.{is_some, nat_le, slice_get}
use Rattle.std.proofs.lemmas.Slice.Eq.{bytes_eq-Decides}
use Rattle.std.specs.Str.{bytes_eq}
use Rattle.lists.specs.Lists.{Has}
use Rattle.lists.specs.laws.HasLaws.{Has_left}
use Rattle.outcome.specs.Steps.{on_value}
use Rattle.net_core.specs.GateValue.{GateValue}
use Rattle.net_core.specs.declared.latch.Start.{Start}
use Rattle.net_core.specs.declared.fault.NetFault.TheVariants as faults
use Rattle.net_flat.specs.Paths.{same_path, same_trail, At, Path}
use Rattle.net_flat.specs.Steps.{Step, Mention, Input, Output, Gate, Latch, Enter}
use Rattle.net_flat.specs.Flat.{after_step, gate_on, latch_on, number, place_from, walked, was_mentioned, Flat}
use Rattle.net_flat.specs.declared.flat_fault.FlatFault.{FlatFault}
use Rattle.net_flat.specs.declared.flat_fault.FlatFault.TheVariants.{Net, TooManyInstances}
use Rattle.net_flat.proofs.PathLemmas.{place_append, place_kept, or_place, path_same}
use Rattle.net_flat.proofs.TiedLemmas.{place, IsMentioned}

-- ---- what has grown keeps places and gates

pub record HasGrown (old new : Flat) : Type 0 where
  pub places : (path : Path) (k : ℕ) → place old path ≡ Some k → place new path ≡ Some k
  pub gates : (g : GateValue) → Has old.gates g → Has new.gates g

pub grown_same : (flat : Flat) → HasGrown flat flat
grown_same flat = record { places = λ path k at. at; gates = λ g has. has }

pub grown_more : (a b c : Flat) → HasGrown a b → HasGrown b c → HasGrown a c
grown_more a b c first second = record { places = λ path k at. second.places path k (first.places path k at); gates = λ g has. second.gates g (first.gates g has) }

own_place : (path : Path) (n : ℕ) → place_from n (path ∷ []) path ≡ Some n
own_place (At trail name) n = ap (λ b. cond b (Some n) None) (path_same trail name name ∙ (bytes_eq-Decides name name).1 refl)

abbrev pub with_net : Flat → Path → Flat
with_net flat path = record flat { paths = flat.paths ++ path ∷ [] }

module _ (flat next : Flat) where
  -- the flat with one more path
  longer : (path : Path) → HasGrown flat (with_net flat path)
  longer path = record { places = λ other k at. place_kept 0 flat.paths (path ∷ []) other k at; gates = λ g has. has }

  pub became : (made : Flat) → HasGrown flat made → ◌≡◌ {A = Result Flat FlatFault} (Ok made) (Ok next) → HasGrown flat next
  became made is e = let same : made ≡ next = cc in let P : Flat → Type 0 = HasGrown flat in subst P same is

  mention_grown : (path : Path) → after_step flat (Mention path) ≡ Ok next → HasGrown flat next
  mention_grown path made = by (was_mentioned flat path) (nat_le (2 ^ 20) (length flat.paths)) made
    where
      by : (b c : Bool) → cond b (Ok flat) (cond c (Err (Net faults.TooManyNets)) (Ok (with_net flat path))) ≡ Ok next → HasGrown flat next
      by true c e = became flat (grown_same flat) e
      by false true e = absurd (cc)
      by false false e = became (with_net flat path) (longer path) e

  abbrev pub with_one : GateValue → Flat
  with_one gate = record flat { gates = flat.gates ++ gate ∷ [] }

  -- a gate that was placed
  pub gate_made : (inputs : List Path) (out : Path) (table : ℕ) → after_step flat (Gate inputs out table) ≡ Ok next → with_one (gate_on flat inputs out table) ≡ next
  gate_made inputs out table made = by (nat_le (2 ^ 20) (length flat.gates + length flat.latches)) made
    where
      by : (b : Bool) → cond b (Err (Net faults.TooManyGates)) (Ok (with_one (gate_on flat inputs out table))) ≡ Ok next → with_one (gate_on flat inputs out table) ≡ next
      by true e = absurd (cc)
      by false e = cc

  gate_grown : (inputs : List Path) (out : Path) (table : ℕ) → after_step flat (Gate inputs out table) ≡ Ok next → HasGrown flat next
  gate_grown inputs out table made =
      let P : Flat → Type 0 = HasGrown flat in
      subst P (gate_made inputs out table made) (record { places = λ path k at. at; gates = λ g has. Has_left flat.gates (gate_on flat inputs out table ∷ []) g has })

  abbrev pub with_latch_on : Path → Path → Start → Flat
  with_latch_on first out start = record flat { latches = flat.latches ++ latch_on flat first out start ∷ [] }

  pub latch_made : (first out : Path) (start : Start) → after_step flat (Latch first out start) ≡ Ok next → with_latch_on first out start ≡ next
  latch_made first out start made = by (nat_le (2 ^ 20) (length flat.gates + length flat.latches)) made
    where
      by : (b : Bool) → cond b (Err (Net faults.TooManyGates)) (Ok (with_latch_on first out start)) ≡ Ok next → with_latch_on first out start ≡ next
      by true e = absurd (cc)
      by false e = cc

  abbrev pub entered : Flat
  entered = record flat { instances = flat.instances + 1 }

  pub enter_made : after_step flat Enter ≡ Ok next → entered ≡ next
  enter_made made = by (nat_le (2 ^ 20) flat.instances) made
    where
      by : (b : Bool) → cond b (Err TooManyInstances) (Ok entered) ≡ Ok next → entered ≡ next
      by true e = absurd (cc)
      by false e = cc

  pub step_grown : (step : Step Path) → after_step flat step ≡ Ok next → HasGrown flat next
  step_grown (Mention path) made = mention_grown path made
  step_grown (Input path) made = became (record flat { inputs = flat.inputs ++ number flat path ∷ [] }) (record { places = λ p k at. at; gates = λ g has. has }) made
  step_grown (Output path) made = became (record flat { outputs = flat.outputs ++ number flat path ∷ [] }) (record { places = λ p k at. at; gates = λ g has. has }) made
  step_grown (Gate inputs out table) made = gate_grown inputs out table made
  step_grown (Latch first out start) made = let P : Flat → Type 0 = HasGrown flat in subst P (latch_made first out start made) (record { places = λ p k at. at; gates = λ g has. has })
  step_grown Enter made = let P : Flat → Type 0 = HasGrown flat in subst P (enter_made made) (record { places = λ p k at. at; gates = λ g has. has })

-- the flat between a step and those after it
pub after_first : (flat last : Flat) (step : Step Path) (steps : List (Step Path)) → walked flat (step ∷ steps) ≡ Ok last → (next : Flat) × (after_step flat step ≡ Ok next) × (walked next steps ≡ Ok last)
after_first flat last step steps made = by (after_step flat step) refl made
  where
    by : (r : Result Flat FlatFault) → after_step flat step ≡ r → on_value (λ m. walked m steps) r ≡ Ok last → (next : Flat) × (after_step flat step ≡ Ok next) × (walked next steps ≡ Ok last)
    by (Ok next) is e = (next, is, e)
    by (Err fault) is e = absurd (cc)

pub walk_grown : (flat last : Flat) (steps : List (Step Path)) → walked flat steps ≡ Ok last → HasGrown flat last
walk_grown flat last [] made = became flat last flat (grown_same flat) made
walk_grown flat last (step ∷ steps) made =
    let m = after_first flat last step steps made in
    grown_more flat m.0 last (step_grown flat m.0 step m.1) (walk_grown m.0 last steps m.2)

-- the flat between steps and those after them
pub between : (flat last : Flat) (xs ys : List (Step Path)) → walked flat (xs ++ ys) ≡ Ok last → (mid : Flat) × (walked flat xs ≡ Ok mid) × (walked mid ys ≡ Ok last)
between flat last [] ys made = (flat, refl, made)
between flat last (x ∷ xs) ys made =
    let m = after_first flat last x (xs ++ ys) made in
    let rest = between m.0 last xs ys m.2 in
    (rest.0, ap (on_value (λ n. walked n xs)) m.1 ∙ rest.1, rest.2)

-- a path that was mentioned has a place
pub mentioned_step : (flat next : Flat) (path : Path) → after_step flat (Mention path) ≡ Ok next → IsMentioned next path
mentioned_step flat next path made = by (place flat path) refl (nat_le (2 ^ 20) (length flat.paths)) made
  where
    there : (k : ℕ) → place flat path ≡ Some k → ◌≡◌ {A = Result Flat FlatFault} (Ok flat) (Ok next) → IsMentioned next path
    there k at e = let same : flat ≡ next = cc in let P : Flat → Type 0 = λ f. IsMentioned f path in subst P same (k, at)

    new : place flat path ≡ None → ◌≡◌ {A = Result Flat FlatFault} (Ok (with_net flat path)) (Ok next) → IsMentioned next path
    new none e =
        let same : with_net flat path ≡ next = cc in
        let P : Flat → Type 0 = λ f. IsMentioned f path in
        subst P same (0 + length flat.paths, place_append 0 flat.paths (path ∷ []) path ∙ (λ j. or_place (none j) (own_place path (0 + length flat.paths) j)))

    by : (o : Option ℕ) → place flat path ≡ o → (c : Bool) → cond (is_some o) (Ok flat) (cond c (Err (Net faults.TooManyNets)) (Ok (with_net flat path))) ≡ Ok next → IsMentioned next path
    by (Some k) at c e = there k at e
    by None at true e = absurd (cc)
    by None at false e = new at e

pub same_paths : (p q : Path) → same_path p q ≡ true → p ≡ q
same_paths (At t a) (At u b) e = by (same_trail t u) refl (bytes_eq a b) refl e
  where
    by : (x : Bool) → same_trail t u ≡ x → (y : Bool) → bytes_eq a b ≡ y → (x && y) ≡ true → At t a ≡ At u b
    by true is true also e = let first : t ≡ u = (bytes_eq-Decides t u).0 is in let second : a ≡ b = (bytes_eq-Decides a b).0 also in λ j. At (first j) (second j)
    by true is false also e = absurd (cc)
    by false is y also e = absurd (cc)

-- the path at the place of a path is that path
pub place_path : (n : ℕ) (paths : List Path) (path : Path) (k : ℕ) → place_from n paths path ≡ Some k → (m : ℕ) × (k ≡ n + m) × (slice_get paths m ≡ Some path)
place_path n [] path k found = absurd (cc)
place_path n (p ∷ ps) path k found = by (place_path (n + 1) ps path k) (same_path path p) refl found
  where
    by : (place_from (n + 1) ps path ≡ Some k → (m : ℕ) × (k ≡ n + 1 + m) × (slice_get ps m ≡ Some path)) → (b : Bool) → same_path path p ≡ b → cond b (Some n) (place_from (n + 1) ps path) ≡ Some k → (m : ℕ) × (k ≡ n + m) × (slice_get (p ∷ ps) m ≡ Some path)
    by later true is e = let here : n ≡ k = cc in (0, omega (arith, here), ap Some (sym (same_paths path p is)))
    by later false is e = let rest = later e in (suc rest.0, omega (arith, rest.1), rest.2)

-- what was mentioned after a mention was so before, or is the path
pub mention_cases : (flat next : Flat) (path other : Path) → after_step flat (Mention path) ≡ Ok next → IsMentioned next other → IsMentioned flat other ⊎ (other ≡ path)
mention_cases flat next path other made found = by (was_mentioned flat path) (nat_le (2 ^ 20) (length flat.paths)) made
  where
    in_longer : (o : Option ℕ) → place flat other ≡ o → (k : ℕ) → or_place o (place_from (0 + length flat.paths) (path ∷ []) other) ≡ Some k → IsMentioned flat other ⊎ (other ≡ path)
    in_longer (Some j) at k e = inl (j, at)
    in_longer None at k e = let last = place_path (0 + length flat.paths) (path ∷ []) other k e in inr (only last.0 last.2)
      where
        only : (m : ℕ) → slice_get (path ∷ []) m ≡ Some other → other ≡ path
        only zero e = cc
        only (suc m) e = absurd (cc)

    by : (b c : Bool) → cond b (Ok flat) (cond c (Err (Net faults.TooManyNets)) (Ok (with_net flat path))) ≡ Ok next → IsMentioned flat other ⊎ (other ≡ path)
    by true c e = let same : next ≡ flat = cc in let P : Flat → Type 0 = λ f. IsMentioned f other in inl (subst P same found)
    by false true e = absurd (cc)
    by false false e =
        let same : next ≡ with_net flat path = cc in
        let P : Flat → Type 0 = λ f. IsMentioned f other in
        let there : IsMentioned (with_net flat path) other = subst P same found in
        in_longer (place flat other) refl there.0 (sym (place_append 0 flat.paths (path ∷ []) other) ∙ there.1)

pub mention_gates : (flat next : Flat) (path : Path) → after_step flat (Mention path) ≡ Ok next → next.gates ≡ flat.gates
mention_gates flat next path made = by (was_mentioned flat path) (nat_le (2 ^ 20) (length flat.paths)) made
  where
    by : (b c : Bool) → cond b (Ok flat) (cond c (Err (Net faults.TooManyNets)) (Ok (with_net flat path))) ≡ Ok next → next.gates ≡ flat.gates
    by true c e = let same : flat ≡ next = cc in ap (λ (f : Flat). f.gates) (sym same)
    by false true e = absurd (cc)
    by false false e = let same : with_net flat path ≡ next = cc in ap (λ (f : Flat). f.gates) (sym same)

-- what is so of the flat that was made
pub same_of : {A : Type 0} (f : Flat → A) (made next : Flat) → ◌≡◌ {A = Result Flat FlatFault} (Ok made) (Ok next) → f next ≡ f made
same_of f made next e = let same : next ≡ made = cc in ap f same
