-- Into an instance and through the lines of its model, by tables.
use Rattle.std.proofs.Common.{◌≡◌, ◌∙◌, ap, sym, subst, ℕ, zero, suc, ◌<◌, ◌≤◌, ◌+◌, ◌-◌, Bool, true, false, cond, List, [], ◌∷◌, map, length, drop, get_or, Option, Some, Result, Ok, arith, drop-cons, add-one}
use Rattle.std.specs.Prelude.{slice_get, unwrap_or, IfSome}
use Rattle.std.specs.Option.{option_map_or}
use Rattle.std.specs.Str.{bytes_eq}
use Rattle.std.proofs.lemmas.Option.{get_or_from_slice_get, slice_get_past, slice_get_within}
use Rattle.std.proofs.lemmas.List.{get_or-map, length-map}
use Rattle.outcome.specs.Steps.{on_value}
use Rattle.net_core.specs.NetList.{nets}
use Rattle.net_blif.specs.Statement.{Token}
use Rattle.net_blif.specs.Connection.{actual_of, formal_of}
use Rattle.net_blif.specs.Table.{with_number, Numbers}
use Rattle.net_blif.specs.Design.{ModelValue, items_of, model_named}
use Rattle.net_blif.specs.declared.item.Item.{Item}
use Rattle.net_blif.specs.declared.item.Item.TheVariants as items
use Rattle.net_flat.specs.Steps.{actual_steps, Enter}
use Rattle.net_flat.specs.Walk.{next_number}
use Rattle.net_flat.specs.declared.flat_fault.FlatFault.{FlatFault}
use Rattle.net_flat.specs.declared.scope.Scope.{Scope}
use Rattle.net_flat.specs.private.Entering.{HasEntered}
use Rattle.net_flat.specs.private.LocalScope.{local_in}
use Rattle.net_flat.specs.private.LocalWalk.{back_to, entered, local_body, local_line, local_lines, local_walked, local_within, number_in, numbers_of, state_with, AreInside, HasEach, IsFaultOf, Local, State}
use Rattle.net_flat.proofs.SameLemmas.{local_walk_none, local_walk_step}
use Rattle.net_flat.proofs.KeepLemmas.{keeps_within}
use Rattle.net_flat.proofs.StateLemmas.{inside_more, refused_on, refused_same}

-- the table of the connections from one place on, from that of the connections after it
module _ (s : State) (cs : List Token) (place : ℕ) (some : 0 < place) (below : place ≤ length cs) where
  less : place - 1 < length cs
  less = omega (arith, some, below)

  left : (d : Token) → drop (place - 1) cs ≡ get_or cs (place - 1) d ∷ drop place cs
  left d = let same : suc (place - 1) ≡ place = omega (arith, some) in drop-cons cs (place - 1) d less ∙ ap (λ p. get_or cs (place - 1) d ∷ drop p cs) same

  actual_number : (d : Token) (numbers : List ℕ) (n e : ℕ) → numbers ≡ map (number_in s) (map actual_of cs) → n ≡ get_or numbers (place - 1) e → n ≡ number_in s (actual_of (get_or cs (place - 1) d))
  actual_number d numbers n e are at =
      at ∙ (ap (λ (ns : List ℕ). get_or ns (place - 1) e) are ∙ (get_or-map (number_in s) (map actual_of cs) (place - 1) (actual_of d) e (rw (length-map cs actual_of) less) ∙ ap (number_in s) (get_or-map actual_of cs (place - 1) d (actual_of d) less)))

  pub numbers_before : (c d formal : Token) (numbers : List ℕ) (n e : ℕ) (old new : Numbers) → c ≡ get_or cs (place - 1) d → formal ≡ formal_of c → numbers ≡ map (number_in s) (map actual_of cs) → n ≡ get_or numbers (place - 1) e → old ≡ numbers_of s (drop place cs) → new ≡ with_number old formal n → new ≡ numbers_of s (drop (place - 1) cs)
  numbers_before c d formal numbers n e old new is named are at rest made =
      made
      ∙ (ap (λ (o : Numbers). with_number o formal n) rest
      ∙ (ap (λ (f : Token). with_number (numbers_of s (drop place cs)) f n) (named ∙ ap formal_of is)
      ∙ (ap (λ k. with_number (numbers_of s (drop place cs)) (formal_of (get_or cs (place - 1) d)) k) (actual_number d numbers n e are at)
      ∙ sym (ap (numbers_of s) (left d)))))

-- numbers of formals are those of nets
pub entered_inside : (s : State) (cs : List Token) → AreInside s → HasEach s (map actual_of cs) → (name : Token) (n : ℕ) → numbers_of s cs name ≡ Some n → n < nets s.net
entered_inside s [] is each name n at = absurd (cc)
entered_inside s (c ∷ cs) is each name n at = by (entered_inside s cs is (λ i d less. each (suc i) d (omega (arith, less))) name n) (bytes_eq (formal_of c) name) at
  where
    by : (numbers_of s cs name ≡ Some n → n < nets s.net) → (b : Bool) → cond b (Some (number_in s (actual_of c))) (numbers_of s cs name) ≡ Some n → n < nets s.net
    by rest true e =
        let h = each zero [] (omega arith) in
        let same : number_in s (actual_of c) ≡ h.0 = ap (λ (o : Option ℕ). unwrap_or o 0) h.1 in
        let hit : number_in s (actual_of c) ≡ n = cc in
        is (actual_of c) n (h.1 ∙ ap Some (sym same ∙ hit))
    by rest false e = rest e

-- the body of an instance that was entered
module _ (goes : State → ℕ → Result State FlatFault) (design : List ModelValue) (old new : State) (number line m : ℕ) (model : Token) (connections : List Token) (outer : Scope) (item : Item) (is : item ≡ items.Instance line model connections) (named : model_named design model ≡ Some m) (went : HasEntered old number connections outer new) where
  at_body : local_line goes design old number item ≡ on_value (λ (t : State). Ok (state_with t.net t.instances (local_in outer))) (goes new m)
  at_body =
      ap (λ (i : Item). local_line goes design old number i) is
      ∙ (ap (on_value (λ (s : State). local_body goes design s number (items.Instance line model connections))) went.mentioned
      ∙ (ap (λ (o : Option ℕ). option_map_or (λ k. on_value (back_to (state_with new.net new.instances (local_in outer))) (goes (entered (state_with new.net new.instances (local_in outer)) number connections) k)) o (Ok (state_with new.net new.instances (local_in outer)))) named
      ∙ ap (λ (s : State). on_value (λ (t : State). Ok (state_with t.net t.instances (local_in outer))) (goes s m)) (sym went.went)))

  pub line_made : (t : State) → goes new m ≡ Ok t → local_line goes design old number item ≡ Ok (state_with t.net t.instances (local_in outer))
  line_made t made = at_body ∙ ap (on_value (λ (u : State). Ok (state_with u.net u.instances (local_in outer)))) made

  pub line_refused : (fault : FlatFault) → IsFaultOf (goes new m) fault → IsFaultOf (local_line goes design old number item) fault
  line_refused fault refused = refused_same _ _ fault at_body (refused_on (goes new m) (λ (t : State). Ok (state_with t.net t.instances (local_in outer))) fault refused)

-- back from an instance, the names before it still have nets
pub back_inside : (depth : ℕ) (design : List ModelValue) (m number : ℕ) (connections : List Token) (outer : Scope) (old new t : State) → HasEntered old number connections outer new → local_within depth design new m ≡ Ok t → AreInside (state_with t.net t.instances (local_in outer))
back_inside depth design m number connections outer old new t went made = inside_more new.net t.net new.instances t.instances (local_in outer) (keeps_within depth design m new t made) went.inside

-- a walk that goes nowhere
pub walk_none : (depth : ℕ) (design : List ModelValue) (s : State) (model : ℕ) → depth ≡ 0 → local_within depth design s model ≡ Ok s
walk_none depth design s model none = ap (λ d. local_within d design s model) none ∙ local_walk_none design s model

pub walk_past : (depth : ℕ) (design : List ModelValue) (s : State) (model : ℕ) → length design ≤ model → local_within depth design s model ≡ Ok s
walk_past zero design s model past = local_walk_none design s model
walk_past (suc depth) design s model past = local_walk_step depth design s model ∙ ap (local_lines (local_within depth design) design s 1) nothing
  where
    nothing : items_of design model ≡ []
    nothing = ap (λ (o : Option ModelValue). option_map_or (λ (m : ModelValue). m.items) o []) (slice_get_past design model past)

-- line by line
module _ (goes : State → ℕ → Result State FlatFault) (design : List ModelValue) (lines : List Item) (place : ℕ) (item : Item) (at : Some item ≡ slice_get lines place) (s : State) (n : ℕ) where
  next_line : local_lines goes design s n (drop place lines) ≡ on_value (λ more. local_lines goes design more (next_number n item) (drop (place + 1) lines)) (local_line goes design s n item)
  next_line =
      rw add-one
      (ap (local_lines goes design s n) (drop-cons lines place item (slice_get_within lines place item (sym at)) ∙ ap (λ (x : Item). x ∷ drop (suc place) lines) (get_or_from_slice_get lines place item item (sym at))))

  module _ (whole : Result State FlatFault) (so_far : whole ≡ local_lines goes design s n (drop place lines)) where
    pub more_lines : (t : State) (next : ℕ) → next ≡ next_number n item → local_line goes design s n item ≡ Ok t → whole ≡ local_lines goes design t next (drop (place + 1) lines)
    more_lines t next is made = so_far ∙ (next_line ∙ (ap (on_value (λ more. local_lines goes design more (next_number n item) (drop (place + 1) lines))) made ∙ ap (λ k. local_lines goes design t k (drop (place + 1) lines)) (sym is)))

    pub lines_refused : (fault : FlatFault) → IsFaultOf (local_line goes design s n item) fault → IsFaultOf whole fault
    lines_refused fault refused = refused_same whole _ fault (so_far ∙ next_line) (refused_on (local_line goes design s n item) (λ more. local_lines goes design more (next_number n item) (drop (place + 1) lines)) fault refused)

-- the walk over a model is that over its lines
pub walk_lines : (depth : ℕ) (design : List ModelValue) (s : State) (model : ℕ) (lines : List Item) → ¬ (depth ≡ 0) → lines ≡ items_of design model → local_within depth design s model ≡ local_lines (local_within (depth - 1) design) design s 1 lines
walk_lines depth design s model lines some are =
    let same : suc (depth - 1) ≡ depth = omega (arith, some) in
    ap (λ d. local_within d design s model) (sym same) ∙ (local_walk_step (depth - 1) design s model ∙ ap (local_lines (local_within (depth - 1) design) design s 1) (sym are))

-- at most one instance a line
pub few_met : (met more place : ℕ) (item : Item) → met ≤ place → more + 1 ≡ next_number (met + 1) item → more ≤ place + 1
few_met met more place (items.Inputs list) few is = omega (arith, few, is)
few_met met more place (items.Outputs list) few is = omega (arith, few, is)
few_met met more place (items.Gate line inputs out table) few is = omega (arith, few, is)
few_met met more place (items.Latch line next out start) few is = omega (arith, few, is)
few_met met more place (items.Instance line model connections) few is = omega (arith, few, is)

-- a walker that put the scope of an instance in the place of its own
pub has_entered : (old at : State) (number : ℕ) (connections : List Token) (scope outer dest inner : Scope) → at.local ≡ local_in scope → local_walked old (Enter ∷ actual_steps connections) ≡ Ok at → AreInside at → outer ≡ scope → dest ≡ inner → local_in inner ≡ (entered at number connections).local → HasEntered old number connections outer (state_with at.net at.instances (local_in dest))
has_entered old at number connections scope outer dest inner is mentioned inside from to entering =
    let P : State → Type 0 = AreInside in
    let same : at ≡ state_with at.net at.instances (local_in outer) = ap (λ (l : Local). state_with at.net at.instances l) (is ∙ ap (λ (s : Scope). local_in s) (sym from)) in
    record {
      mentioned = mentioned ∙ ap Ok same;
      inside = subst P same inside;
      went = ap (λ (l : Local). state_with at.net at.instances l) (ap (λ (s : Scope). local_in s) to ∙ entering) ∙ ap (λ (s : State). entered s number connections) same;
    }

-- what is known of an instance that was entered
pub entered_some : (design : List ModelValue) (called model : Token) (old new : State) (number m : ℕ) (connections : List Token) (outer : Scope) (o : Option (ℕ × Scope)) → called ≡ model → o ≡ Some (m, outer) → IfSome o (λ e. (model_named design called ≡ Some e.0) × HasEntered old number connections e.1 new) → (model_named design model ≡ Some m) × HasEntered old number connections outer new
entered_some design called model old new number m connections outer o same is known =
    let P : Option (ℕ × Scope) → Type 0 = λ p. IfSome p (λ e. (model_named design called ≡ Some e.0) × HasEntered old number connections e.1 new) in
    let h : (model_named design called ≡ Some m) × HasEntered old number connections outer new = subst P is known in
    (sym (ap (model_named design) same) ∙ h.0, h.1)
