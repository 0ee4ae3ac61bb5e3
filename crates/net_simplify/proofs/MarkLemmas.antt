-- Uses of nets, counted up to 2, and the gates in their order.
use Rattle.std.proofs.Common.{◌≡◌, ◌≢◌, ◌⊎◌, ◌∙◌, ap, ap₂, sym, refl, inl, inr, subst, ℕ, zero, suc, ◌<◌, ◌≤◌, ◌+◌, ◌-◌, ◌*◌, Bool, true, false, cond, List, [], ◌∷◌, ◌++◌, length, take, drop, map, replicate, set, get_or, min, Some, None, arith, eq-eqb}
use Rattle.std.specs.Prelude.{All, slice_get, slice_index_or, slice_set, unwrap_or, ◌==◌, ◌&&◌}
use Rattle.std.proofs.lemmas.Bool.{ne_eqb}
use Rattle.lists.specs.Lists.{Has, times}
use Rattle.lists.specs.laws.HasLaws.{All_has, times_append, times_more, times_none, times_some}
use Rattle.lists.specs.laws.ListLaws.{length_map}
use Rattle.lists.specs.laws.NumberLaws.{nat_eq_or}
use Rattle.lists.specs.laws.ReadLaws.{get_below, mapped_at}
use Rattle.net_core.specs.GateValue.{GateValue}
use Rattle.net_core.specs.LatchValue.{LatchValue}
use Rattle.net_core.specs.NetList.{NetList, nets}
use Rattle.net_core.specs.Order.{IsLevelOrder}
use Rattle.net_core.specs.Sound.{IsSound, sources}
use Rattle.net_core.proofs.DriverLemmas.{gate_inside, source_no_gate}
use Rattle.net_simplify.specs.Uses.{AreInOrder, is_single, uses}
use Rattle.net_simplify.specs.private.Marks.{AreCounts, count_at, gates_by}
use Rattle.net_simplify.specs.private.Underway.{AreMarks, ArePlaced}
use Rattle.net_simplify.proofs.UseLemmas.{dropped}

-- ---- one more use

mark_same : (xs : List ℕ) (i v : ℕ) → i < length xs → count_at (slice_set xs i v) i ≡ v
mark_same [] i v less = absurd (omega arith)
mark_same (x ∷ xs) zero v less = refl
mark_same (x ∷ xs) (suc i) v less = mark_same xs i v (omega arith)

mark_other : (xs : List ℕ) (i v n : ℕ) → n ≢ i → count_at (slice_set xs i v) n ≡ count_at xs n
mark_other [] zero v n apart = refl
mark_other [] (suc i) v n apart = refl
mark_other (x ∷ xs) zero v zero apart = absurd (apart refl)
mark_other (x ∷ xs) zero v (suc n) apart = refl
mark_other (x ∷ xs) (suc i) v zero apart = refl
mark_other (x ∷ xs) (suc i) v (suc n) apart = mark_other xs i v n (λ e. apart (ap suc e))

length_set : (xs : List ℕ) (i v : ℕ) → length (slice_set xs i v) ≡ length xs
length_set [] zero v = refl
length_set [] (suc i) v = refl
length_set (x ∷ xs) zero v = refl
length_set (x ∷ xs) (suc i) v = ap suc (length_set xs i v)

counts_same : (marks : List ℕ) (f g : ℕ → ℕ) → ((n : ℕ) → f n ≡ g n) → AreCounts marks f → AreCounts marks g
counts_same marks f g same are = λ n. are n ∙ ap (min 2) (same n)

counts_one : (marks : List ℕ) (m : ℕ) (f : ℕ → ℕ) → m < length marks → AreCounts marks f → AreCounts (slice_set marks m (min 2 (count_at marks m + 1))) (λ n. f n + cond (m == n) 1 0)
counts_one marks m f less are = λ n. elim (nat_eq_or m n) [
  | inl same ↦
      let P : ℕ → Type 0 = λ k. count_at (slice_set marks m (min 2 (count_at marks m + 1))) k ≡ min 2 (f k + 1) in
      subst P same (mark_same marks m (min 2 (count_at marks m + 1)) less ∙ (omega (arith, are m)))
      ∙ ap (λ b. min 2 (f n + cond b 1 0)) (sym (eq-eqb m n same))
  | inr other ↦
      mark_other marks m (min 2 (count_at marks m + 1)) n (λ e. other (sym e))
      ∙ are n
      ∙ ap (min 2) (omega arith)
      ∙ ap (λ b. min 2 (f n + cond b 1 0)) (sym (ne_eqb m n other))
]

-- what is kept in the loop over nets
pub record HaveAdded (marks start nets : List ℕ) (done : ℕ) : Type 0 where
  pub long : length marks ≡ length start
  pub each : (f : ℕ → ℕ) → AreCounts start f → AreCounts marks (λ n. f n + times n (take done nets))

pub added_start : (marks nets : List ℕ) → HaveAdded marks marks nets 0
added_start marks nets = record { long = refl; each = λ f are. counts_same marks f (λ n. f n + times n (take 0 nets)) (λ n. omega arith) are }

-- what holds of the members of a list holds of that at a place
pub item_within : (xs : List ℕ) (k bound : ℕ) → k < length xs → ((n : ℕ) → Has xs n → n < bound) → get_or xs k 0 < bound
item_within [] k bound less each = absurd (omega arith)
item_within (x ∷ xs) zero bound less each = each x (0, refl)
item_within (x ∷ xs) (suc k) bound less each = item_within xs k bound (omega arith) (λ n has. each n (suc has.0, has.1))

pub added_more : (marks start nets new : List ℕ) (done m : ℕ) → done < length nets → m ≡ get_or nets done 0 → ((n : ℕ) → Has nets n → n < length start) → HaveAdded marks start nets done → new ≡ slice_set marks m (min 2 (count_at marks m + 1)) → HaveAdded new start nets (done + 1)
added_more marks start nets new done m less is within have made =
    let P : List ℕ → Type 0 = λ xs. HaveAdded xs start nets (done + 1) in
    subst P (sym made) (record {
      long = length_set marks m (min 2 (count_at marks m + 1)) ∙ have.long;
      each = λ f are. counts_same (slice_set marks m (min 2 (count_at marks m + 1))) (λ n. f n + times n (take done nets) + cond (m == n) 1 0) (λ n. f n + times n (take (done + 1) nets)) (λ n. omega (arith, times_more n nets done less, ap {B = ℕ} (λ (k : ℕ). cond (k == n) 1 0) is)) (counts_one marks m (λ n. f n + times n (take done nets)) (omega (arith, have.long, here)) (have.each f are));
    })
  where
    here : m < length start
    here = omega (arith, is, item_within nets done (length start) less within)

take_all : (xs : List ℕ) (k : ℕ) → length xs ≤ k → take k xs ≡ xs
take_all [] zero less = refl
take_all [] (suc k) less = refl
take_all (x ∷ xs) zero less = absurd (omega arith)
take_all (x ∷ xs) (suc k) less = ap (λ ys. x ∷ ys) (take_all xs k (omega arith))

pub added_all : (marks start nets : List ℕ) (done : ℕ) → length nets ≤ done → HaveAdded marks start nets done → (f : ℕ → ℕ) → AreCounts start f → AreCounts marks (λ n. f n + times n nets)
added_all marks start nets done all have f are = counts_same marks (λ n. f n + times n (take done nets)) (λ n. f n + times n nets) (λ n. ap (λ xs. f n + times n xs) (take_all nets done all)) (have.each f are)

-- ---- the uses of a gate

pub gate_idle : (marks ends : List ℕ) (gates : List GateValue) (gate : GateValue) (out mark : ℕ) → out ≡ gate.out → mark ≡ count_at marks out → mark ≡ 0 → AreCounts marks (uses ends gates) → AreCounts marks (uses ends (gate ∷ gates))
gate_idle marks ends gates gate out mark same is none are =
    let zero_uses : uses ends gates gate.out ≡ 0 = min_none (uses ends gates gate.out) (omega (arith, sym (are gate.out), ap (count_at marks) same, is, none)) in
    counts_same marks (uses ends gates) (uses ends (gate ∷ gates)) (λ n. (omega arith) ∙ sym (ap (λ b. cond b 0 (times n gate.inputs) + uses ends gates n) (eq-eqb (uses ends gates gate.out) 0 zero_uses))) are
  where
    min_none : (k : ℕ) → min 2 k ≡ 0 → k ≡ 0
    min_none k e = omega arith

pub gate_used : (marks new ends : List ℕ) (gates : List GateValue) (gate : GateValue) (out mark : ℕ) → out ≡ gate.out → mark ≡ count_at marks out → mark ≢ 0 → ((f : ℕ → ℕ) → AreCounts marks f → AreCounts new (λ n. f n + times n gate.inputs)) → AreCounts marks (uses ends gates) → AreCounts new (uses ends (gate ∷ gates))
gate_used marks new ends gates gate out mark same is some more are =
    let some_uses : uses ends gates gate.out ≢ 0 = λ none. some (omega (arith, are gate.out, ap (count_at marks) same, is, none)) in
    counts_same new (λ n. uses ends gates n + times n gate.inputs) (uses ends (gate ∷ gates)) (λ n.
    (omega arith) ∙ sym (ap (λ b. cond b 0 (times n gate.inputs) + uses ends gates n) (ne_eqb (uses ends gates gate.out) 0 some_uses))) (more (uses ends gates) are)

-- ---- the gates in their order

-- the gate at a position of the net list
abbrev pub gate_of : List GateValue → ℕ → GateValue
gate_of gates p = unwrap_or (slice_get gates p) (record { out = 0; inputs = []; table = 0 })

gate_is : (gates : List GateValue) (p : ℕ) (g : GateValue) → slice_get gates p ≡ Some g → gate_of gates p ≡ g
gate_is gates p g got = ap (λ o. unwrap_or o (record { out = 0; inputs = []; table = 0 })) got

pub in_order_by : (net : NetList) (order : List ℕ) → IsLevelOrder net order → AreInOrder net (gates_by net.gates order)
in_order_by net order is = record {
  order = order;
  is = is;
  long = length_map (gate_of net.gates) order;
  each = λ i p at. let g = is.2.within p (i, at) in mapped_at (gate_of net.gates) order i p at ∙ ap Some (gate_is net.gates p g.0 g.1) ∙ sym g.1;
}

-- the gate at a place of the order
pub gate_at : (net : NetList) (order : List ℕ) (i p : ℕ) (g : GateValue) → slice_get order i ≡ Some p → slice_get net.gates p ≡ Some g → slice_get (gates_by net.gates order) i ≡ Some g
gate_at net order i p g at got = mapped_at (gate_of net.gates) order i p at ∙ ap Some (gate_is net.gates p g got)

-- the positions of the order exist
pub order_within : (net : NetList) (order : List ℕ) (i p : ℕ) → IsLevelOrder net order → slice_get order i ≡ Some p → p < length net.gates
order_within net order i p is at = let g = is.2.within p (i, at) in inside net.gates p g.0 g.1
  where
    inside : (xs : List GateValue) (k : ℕ) (x : GateValue) → slice_get xs k ≡ Some x → k < length xs
    inside [] k x got = absurd (cc)
    inside (y ∷ ys) zero x got = omega arith
    inside (y ∷ ys) (suc k) x got = omega (arith, inside ys k x got)

drop_all : (xs : List GateValue) (k : ℕ) → length xs ≤ k → drop k xs ≡ []
drop_all [] zero less = refl
drop_all [] (suc k) less = refl
drop_all (x ∷ xs) zero less = absurd (omega arith)
drop_all (x ∷ xs) (suc k) less = drop_all xs k (omega arith)

-- what is kept in the loop over the gates, from the last one on
pub record HaveUses (net : NetList) (ends order marks start : List ℕ) (place : ℕ) : Type 0 where
  pub within : place ≤ length order
  pub long : length marks ≡ length start
  pub each : AreCounts start (λ n. 0) → AreCounts marks (uses ends (drop place (gates_by net.gates order)))

pub uses_start : (net : NetList) (ends order marks start : List ℕ) (place : ℕ) → place ≡ length order → length marks ≡ length start → ((f : ℕ → ℕ) → AreCounts start f → AreCounts marks (λ n. f n + times n ends)) → HaveUses net ends order marks start place
uses_start net ends order marks start place all long more = record {
  within = omega (arith, all);
  long = long;
  each = λ none.
      let past : drop place (gates_by net.gates order) ≡ [] = drop_all (gates_by net.gates order) place (omega (arith, length_map (gate_of net.gates) order, all)) in
      let P : List GateValue → Type 0 = λ gs. AreCounts marks (uses ends gs) in
      subst P (sym past) (counts_same marks (λ n. 0 + times n ends) (λ n. times n ends) (λ n. omega arith) (more (λ n. 0) none));
}

pub uses_more : (net : NetList) (ends order marks start new : List ℕ) (place before p : ℕ) (g : GateValue) → before ≡ place - 1 → place ≢ 0 → slice_get order before ≡ Some p → slice_get net.gates p ≡ Some g → HaveUses net ends order marks start place → length new ≡ length marks
    → ((es : List ℕ) (gates : List GateValue) → AreCounts marks (uses es gates) → AreCounts new (uses es (g ∷ gates))) → HaveUses net ends order new start before
uses_more net ends order marks start new place before p g is some at got have long more = record {
  within = omega (arith, is, have.within);
  long = long ∙ have.long;
  each = λ none.
      let next : suc before ≡ place = omega (arith, is, some) in
      let P : ℕ → Type 0 = λ k. AreCounts marks (uses ends (drop k (gates_by net.gates order))) in
      let Q : List GateValue → Type 0 = λ gs. AreCounts new (uses ends gs) in
      subst Q (sym (dropped (gates_by net.gates order) before g (gate_at net order before p g at got))) (more ends (drop (suc before) (gates_by net.gates order)) (subst P (sym next) (have.each none)));
}

pub zero_counts : (k : ℕ) → AreCounts (replicate k 0) (λ n. 0)
zero_counts zero n = refl
zero_counts (suc k) zero = refl
zero_counts (suc k) (suc n) = zero_counts k n

-- ---- what the marks tell

pub marks_are : (net : NetList) (ends marks : List ℕ) (gates : List GateValue) → IsSound net → net.latches ≡ [] → ArePlaced net gates → AreCounts marks (λ n. uses ends gates n + times n net.inputs + times n net.inputs) → AreMarks net ends gates marks
marks_are net ends marks gates sound flat placed are = record {
  singles = λ n. single n;
  idle = λ g has none. omega (arith, are g.out, none, no_input g has);
  used = λ g has some none. some (omega (arith, are g.out, none, no_input g has));
}
  where
    source_times : (n : ℕ) → times n (sources net) ≡ times n net.inputs
    source_times n =
        times_append n net.inputs (map (λ (l : LatchValue). l.out) net.latches)
        ∙ ap (λ (ls : List LatchValue). times n net.inputs + times n (map (λ (l : LatchValue). l.out) ls)) flat
        ∙ omega arith

    no_input : (g : GateValue) → Has gates g → times g.out net.inputs ≡ 0
    no_input g has = sym (source_times g.out) ∙ times_none g.out (sources net) (placed.driven g has)

    tests : (u t : ℕ) → (min 2 (u + t + t) == 1) ≡ (t == 0 && u == 1)
    tests u t = elim (nat_eq_or t 0) [
      | inr some ↦ ne_eqb (min 2 (u + t + t)) 1 (λ e. omega (arith, e, some)) ∙ sym (ap (λ b. b && u == 1) (ne_eqb t 0 some))
      | inl none ↦ elim (nat_eq_or u 1) [
        | inl one ↦ eq-eqb (min 2 (u + t + t)) 1 (omega (arith, none, one)) ∙ sym (ap₂ (λ a b. a && b) (eq-eqb t 0 none) (eq-eqb u 1 one))
        | inr other ↦ ne_eqb (min 2 (u + t + t)) 1 (λ e. omega (arith, e, none, other)) ∙ sym (ap₂ (λ a b. a && b) (eq-eqb t 0 none) (ne_eqb u 1 other))
      ]
    ]

    single : (n : ℕ) → (count_at marks n == 1) ≡ is_single net ends gates n
    single n =
        ap (λ k. k == 1) (are n)
        ∙ tests (uses ends gates n) (times n net.inputs)
        ∙ ap (λ t. t == 0 && uses ends gates n == 1) (sym (source_times n))

-- ---- reading

pub item_got : (xs : List ℕ) (k : ℕ) → k < length xs → slice_get xs k ≡ Some (slice_index_or xs k 0)
item_got [] k less = absurd (omega arith)
item_got (x ∷ xs) zero less = refl
item_got (x ∷ xs) (suc k) less = item_got xs k (omega arith)

pub gate_got : (net : NetList) (gates : List GateValue) (p : ℕ) (g : GateValue) → gates ≡ net.gates → slice_get gates p ≡ Some g → slice_get net.gates p ≡ Some g
gate_got net gates p g same got = let P : List GateValue → Type 0 = λ gs. slice_get gs p ≡ Some g in subst P same got

-- a gate's nets exist
pub gate_inputs : (net : NetList) (p : ℕ) (g : GateValue) → IsSound net → slice_get net.gates p ≡ Some g → (n : ℕ) → Has g.inputs n → n < nets net
gate_inputs net p g sound got n has = All_has (λ m. m < nets net) g.inputs n (gate_inside net g sound.inside (p, got)).1 has

pub gate_out : (net : NetList) (p : ℕ) (g : GateValue) → IsSound net → slice_get net.gates p ≡ Some g → g.out < nets net
gate_out net p g sound got = (gate_inside net g sound.inside (p, got)).0

pub order_long : (net : NetList) (order : List ℕ) → length (gates_by net.gates order) ≡ length order
order_long net order = length_map (gate_of net.gates) order

-- marks by the uses, in one list
pub all_marks : (net : NetList) (ends order start first second third : List ℕ) → IsSound net → IsLevelOrder net order → ArePlaced net (gates_by net.gates order) → net.latches ≡ [] → AreCounts start (λ n. 0)
    → (AreCounts start (λ n. 0) → AreCounts first (uses ends (gates_by net.gates order)))
    → ((f : ℕ → ℕ) → AreCounts first f → AreCounts second (λ n. f n + times n net.inputs))
    → ((f : ℕ → ℕ) → AreCounts second f → AreCounts third (λ n. f n + times n net.inputs))
    → AreMarks net ends (gates_by net.gates order) third
all_marks net ends order start first second third sound is placed flat zero_start gates once twice =
    marks_are net ends third (gates_by net.gates order) sound flat placed (twice (λ n. uses ends (gates_by net.gates order) n + times n net.inputs) (once (uses ends (gates_by net.gates order)) (gates zero_start)))
