-- The steps of a walk in depth.
use Rattle.std.proofs.Common.{◌≡◌, ◌∙◌, ap, sym, refl, inl, inr, subst, ℕ, zero, suc, ◌<◌, ◌≤◌, ◌+◌, ◌^◌, List, [], ◌∷◌, ◌++◌, length, replicate, None, Some, arith, below_more, ◌-◌, length-set}
use Rattle.std.proofs.lemmas.Option.{slice_get_within}
use Rattle.std.specs.Prelude.{slice_get}
use Rattle.std.proofs.Math.ListN.{set}
use Rattle.lists.specs.laws.ListLaws.{length-push}
use Rattle.lists.specs.laws.NumberLaws.{nat_eq_or}
use Rattle.lists.specs.laws.ReadLaws.{got_push, get_front, get_here, got_set, get_set_other, get_set_same, get_none}
use Rattle.lists.specs.laws.SumLaws.{sum_by-set_at, sum_by-push}
use Rattle.graph_core.specs.Graph.{Graph, edges, HasEdge, IsReached}
use Rattle.graph_core.specs.Walking.{IsWalking, AreDone, AreUnseen, IsDone, IsMet, IsStep, IsVisit, KeepsMet, MetAreReached, StartsAt, LeadsBelow, weight, unseen, work}
use Rattle.graph_core.specs.declared.walk.Mark.{Mark}
use Rattle.graph_core.specs.declared.walk.Mark.TheVariants.{Unseen, Open, Done}
use Rattle.graph_core.specs.declared.walk.Frame.{Frame}
use Rattle.graph_core.proofs.GroundLemmas.{path_more}

pub leads_kept : (graph : Graph) (marks marks' : List Mark) (point next rank rank' : ℕ) → ((t r : ℕ) → slice_get marks t ≡ Some (Done r) → slice_get marks' t ≡ Some (Done r)) → rank ≤ rank' → LeadsBelow graph marks point next rank → LeadsBelow graph marks' point next rank'
leads_kept graph marks marks' point next rank rank' kept more leads = λ k t below got.
    let old = leads k t below got in (old.0, kept t old.0 old.1, omega (arith, old.2))

-- a further edge that leads to a rank
leads_more : (graph : Graph) (marks : List Mark) (point next rank to r : ℕ) → LeadsBelow graph marks point next rank → slice_get (edges graph point) next ≡ Some to → slice_get marks to ≡ Some (Done r) → r < rank → LeadsBelow graph marks point (next + 1) rank
leads_more graph marks point next rank to r leads edge done less = λ k t below got.
    below_more (λ k. (t : ℕ) → slice_get (edges graph point) k ≡ Some t → (r : ℕ) × (slice_get marks t ≡ Some (Done r)) × (r < rank)) next
    (λ k less t got. leads k t less got)
    (λ t got. let same : to ≡ t = cc in (r, rw (← same) done, less))
    k below t got

-- an edge to a point that is done was followed
pub advanced : (graph : Graph) (marks : List Mark) (front : List Frame) (f : Frame) (order : List ℕ) (to r : ℕ) → IsWalking graph marks (front ++ f ∷ []) order → slice_get (edges graph f.point) f.next ≡ Some to → slice_get marks to ≡ Some (Done r) → IsWalking graph marks (front ++ record { point = f.point; next = f.next + 1 } ∷ []) order
advanced graph marks front f order to r walk edge done =
    let f' : Frame = record { point = f.point; next = f.next + 1 } in
    let at = walk.frames (length front) f (get_here front f []) in
    record {
      long = walk.long;
      done = walk.done;
      ordered = walk.ordered;
      frames = λ j g got. elim (got_push front f' j g got) [
        | inl w ↦ walk.frames j g (get_front front (f ∷ []) j g w.0)
        | inr w ↦ rw (w.1, w.0) (at.0, leads_more graph marks f.point f.next (length order) to r at.1 edge done (slice_get_within order r to (walk.done to r done).0))
      ];
      open_at = λ point j is. let old = walk.open_at point j is in elim (got_push front f j old.0 old.1) [
        | inl w ↦ (old.0, get_front front (f' ∷ []) j old.0 w.0, old.2)
        | inr w ↦ (f', rw w.0 (get_here front f' []), ap (λ (h : Frame). h.point) (sym w.1) ∙ old.2)
      ];
      links = λ j g h first second. elim (got_push front f' (j + 1) h second) [
        | inl w ↦ elim (got_push front f' j g first) [
          | inl v ↦ walk.links j g h (get_front front (f ∷ []) j g v.0) (get_front front (f ∷ []) (j + 1) h w.0)
          | inr v ↦ absurd (omega arith)
        ]
        | inr w ↦ elim (got_push front f' j g first) [
          | inl v ↦ rw w.1 (walk.links j g f (get_front front (f ∷ []) j g v.0) (rw w.0 (get_here front f [])))
          | inr v ↦ absurd (omega arith)
        ]
      ];
    }

starts_advanced : (root : ℕ) (front : List Frame) (f g : Frame) → f.point ≡ g.point → StartsAt root (front ++ f ∷ []) → StartsAt root (front ++ g ∷ [])
starts_advanced root [] f g same starts h got = let is : g ≡ h = cc in ap (λ (x : Frame). x.point) (sym is) ∙ sym same ∙ starts f refl
starts_advanced root (x ∷ xs) f g same starts h got = starts h got

-- a point that was not met became open
pub descended : (graph : Graph) (marks : List Mark) (front : List Frame) (f : Frame) (order : List ℕ) (to : ℕ) → IsWalking graph marks (front ++ f ∷ []) order → slice_get (edges graph f.point) f.next ≡ Some to → slice_get marks to ≡ Some Unseen → IsWalking graph (set marks to (Open (length (front ++ f ∷ [])))) ((front ++ f ∷ []) ++ record { point = to; next = 0 } ∷ []) order
descended graph marks front f order to walk edge unseen =
    let stack : List Frame = front ++ f ∷ [] in
    let last : ℕ = length front in
    let length_is : last + 1 ≡ length stack = omega (arith, length-push front f) in
    let top : slice_get stack last ≡ Some f = get_here front f [] in
    let f' : Frame = record { point = to; next = 0 } in
    let kept : (t r : ℕ) → slice_get marks t ≡ Some (Done r) → slice_get (set marks to (Open (length stack))) t ≡ Some (Done r) = λ t r done. get_set_other marks to (Open (length stack)) t (Done r) (λ same. let e : slice_get marks to ≡ Some (Done r) = rw (← same) done in cc) done in
    record {
      long = length-set marks to (Open (length stack)) ∙ walk.long;
      done = λ point rank got. elim (got_set marks to (Open (length stack)) point (Done rank) got) [
        | inl w ↦ absurd (cc w.1)
        | inr w ↦ let old = walk.done point rank w.1 in (old.0, leads_kept graph marks _ point _ rank rank kept (omega arith) old.1)
      ];
      ordered = λ place point got. kept point place (walk.ordered place point got);
      frames = λ j g got. elim (got_push stack f' j g got) [
        | inl w ↦ let old = walk.frames j g w.0 in
            (get_set_other marks to (Open (length stack)) g.point (Open j) (λ same. let e : slice_get marks to ≡ Some (Open j) = rw (← same) old.0 in cc) old.0, leads_kept graph marks _ g.point g.next (length order) (length order) kept (omega arith) old.1)
        | inr w ↦ rw (w.1, w.0) (get_set_same marks to Unseen (Open (length stack)) unseen, λ k t below got'. absurd (omega arith))
      ];
      open_at = λ point j is. elim (got_set marks to (Open (length stack)) point (Open j) is) [
        | inl w ↦ let here : j ≡ length stack = cc w.1 in (f', rw here (get_here stack f' []), sym w.0)
        | inr w ↦ let old = walk.open_at point j w.1 in (old.0, get_front stack (f' ∷ []) j old.0 old.1, old.2)
      ];
      links = λ j g h first second. elim (got_push stack f' (j + 1) h second) [
        | inl w ↦ elim (got_push stack f' j g first) [
          | inl v ↦ walk.links j g h v.0 w.0
          | inr v ↦ absurd (omega arith)
        ]
        | inr w ↦ elim (got_push stack f' j g first) [
          | inl v ↦ let place : j ≡ last = omega arith in let here : slice_get stack last ≡ Some g = rw (← place) v.0 in let same : f ≡ g = cc in rw (w.1, ← same) edge
          | inr v ↦ absurd (omega arith)
        ]
      ];
    }

-- the walk's last point is done
pub left : (graph : Graph) (marks : List Mark) (front : List Frame) (f : Frame) (order : List ℕ) → IsWalking graph marks (front ++ f ∷ []) order → slice_get (edges graph f.point) f.next ≡ None → IsWalking graph (set marks f.point (Done (length order))) front (order ++ f.point ∷ [])
left graph marks front f order walk past =
    let count : ℕ = length order in
    let at = walk.frames (length front) f (get_here front f []) in
    let kept : (t r : ℕ) → slice_get marks t ≡ Some (Done r) → slice_get (set marks f.point (Done count)) t ≡ Some (Done r) = λ t r done. get_set_other marks f.point (Done count) t (Done r) (λ same. let e : slice_get marks f.point ≡ Some (Done r) = rw (← same) done in let e' = at.0 in cc) done in
    record {
      long = length-set marks f.point (Done count) ∙ walk.long;
      done = λ point rank got. elim (got_set marks f.point (Done count) point (Done rank) got) [
        | inl w ↦ let here : rank ≡ count = cc w.1 in rw (w.0, here) (get_here order f.point [], λ k t below got'. let old = at.1 k t (omega (arith, get_none (edges graph f.point) f.next past)) got' in (old.0, kept t old.0 old.1, old.2))
        | inr w ↦ let old = walk.done point rank w.1 in (get_front order (f.point ∷ []) rank point old.0, leads_kept graph marks _ point _ rank rank kept (omega arith) old.1)
      ];
      ordered = λ place point got. elim (got_push order f.point place point got) [
        | inl w ↦ kept point place (walk.ordered place point w.0)
        | inr w ↦ rw (w.1, w.0) (get_set_same marks f.point (Open (length front)) (Done count) at.0)
      ];
      frames = λ j g got. let old = walk.frames j g (get_front front (f ∷ []) j g got) in
          (get_set_other marks f.point (Done count) g.point (Open j) (λ same. let e : slice_get marks f.point ≡ Some (Open j) = rw (← same) old.0 in let e' = at.0 in let place : j ≡ length front = cc in let below = slice_get_within front j g got in omega arith) old.0, leads_kept graph marks _ g.point g.next count (length (order ++ f.point ∷ [])) kept (omega (arith, length-push order f.point)) old.1);
      open_at = λ point j is. elim (got_set marks f.point (Done count) point (Open j) is) [
        | inl w ↦ absurd (cc w.1)
        | inr w ↦ let old = walk.open_at point j w.1 in elim (got_push front f j old.0 old.1) [
          | inl v ↦ (old.0, v.0, old.2)
          | inr v ↦ absurd (w.0 (sym old.2 ∙ ap (λ (h : Frame). h.point) v.1))
        ]
      ];
      links = λ j g h first second. walk.links j g h (get_front front (f ∷ []) j g first) (get_front front (f ∷ []) (j + 1) h second);
    }

-- a point that was not met, and that leads to points that are done, is done
pub finished : (graph : Graph) (marks : List Mark) (order : List ℕ) (point : ℕ) → IsWalking graph marks [] order → slice_get marks point ≡ Some Unseen → AreDone marks (edges graph point) → IsWalking graph (set marks point (Done (length order))) [] (order ++ point ∷ [])
finished graph marks order point walk unseen are =
    let count : ℕ = length order in
    let kept : (t r : ℕ) → slice_get marks t ≡ Some (Done r) → slice_get (set marks point (Done count)) t ≡ Some (Done r) = λ t r done. get_set_other marks point (Done count) t (Done r) (λ same. let e : slice_get marks point ≡ Some (Done r) = rw (← same) done in cc) done in
    record {
      long = length-set marks point (Done count) ∙ walk.long;
      done = λ p rank got. elim (got_set marks point (Done count) p (Done rank) got) [
        | inl w ↦ let here : rank ≡ count = cc w.1 in rw (w.0, here) (get_here order point [], λ k t below got'. let old = are k t got' in (old.0, kept t old.0 old.1, slice_get_within order old.0 t (walk.done t old.0 old.1).0))
        | inr w ↦ let old = walk.done p rank w.1 in (get_front order (point ∷ []) rank p old.0, leads_kept graph marks _ p _ rank rank kept (omega arith) old.1)
      ];
      ordered = λ place p got. elim (got_push order point place p got) [
        | inl w ↦ kept p place (walk.ordered place p w.0)
        | inr w ↦ rw (w.1, w.0) (get_set_same marks point Unseen (Done count) unseen)
      ];
      frames = λ j g got. absurd (cc);
      open_at = λ p j is. elim (got_set marks point (Done count) p (Open j) is) [
        | inl w ↦ absurd (cc w.1)
        | inr w ↦ let old = walk.open_at p j w.1 in let e = old.1 in absurd (cc)
      ];
      links = λ j g h first second. absurd (cc);
    }

-- a walk begins at a root that was not met
pub begun : (graph : Graph) (marks : List Mark) (order : List ℕ) (root : ℕ) → IsWalking graph marks [] order → slice_get marks root ≡ Some Unseen → IsWalking graph (set marks root (Open 0)) (record { point = root; next = 0 } ∷ []) order
begun graph marks order root walk unseen =
    let f' : Frame = record { point = root; next = 0 } in
    let kept : (t r : ℕ) → slice_get marks t ≡ Some (Done r) → slice_get (set marks root (Open 0)) t ≡ Some (Done r) = λ t r done. get_set_other marks root (Open 0) t (Done r) (λ same. let e : slice_get marks root ≡ Some (Done r) = rw (← same) done in cc) done in
    record {
      long = length-set marks root (Open 0) ∙ walk.long;
      done = λ point rank got. elim (got_set marks root (Open 0) point (Done rank) got) [
        | inl w ↦ absurd (cc w.1)
        | inr w ↦ let old = walk.done point rank w.1 in (old.0, leads_kept graph marks _ point _ rank rank kept (omega arith) old.1)
      ];
      ordered = λ place point got. kept point place (walk.ordered place point got);
      frames = λ j g got. elim (got_push [] f' j g got) [
        | inl w ↦ absurd (omega arith)
        | inr w ↦ rw (w.1, w.0) (get_set_same marks root Unseen (Open 0) unseen, λ k t below got'. absurd (omega arith))
      ];
      open_at = λ point j is. elim (got_set marks root (Open 0) point (Open j) is) [
        | inl w ↦ let here : j ≡ 0 = cc w.1 in (f', rw here refl, sym w.0)
        | inr w ↦ let old = walk.open_at point j w.1 in let e = old.1 in absurd (cc)
      ];
      links = λ j g h first second. elim (got_push [] f' (j + 1) h second) [ inl w ↦ absurd (omega arith) | inr w ↦ absurd (omega arith) ];
    }

-- the last point of a walk is one of the graph's
pub top_inside : (graph : Graph) (marks : List Mark) (front : List Frame) (f : Frame) (order : List ℕ) → IsWalking graph marks (front ++ f ∷ []) order → f.point < length graph
top_inside graph marks front f order walk =
    omega (arith, slice_get_within marks f.point (Open (length front)) (walk.frames (length front) f (get_here front f [])).0, walk.long)

pub starts_left : (root : ℕ) (front : List Frame) (f : Frame) → StartsAt root (front ++ f ∷ []) → StartsAt root front
starts_left root front f starts g got = starts g (get_front front (f ∷ []) 0 g got)

pub starts_more : (root : ℕ) (front : List Frame) (f g : Frame) → StartsAt root (front ++ f ∷ []) → StartsAt root ((front ++ f ∷ []) ++ g ∷ [])
starts_more root [] f g starts h got = starts h got
starts_more root (x ∷ xs) f g starts h got = starts h got

pub starts_next : (root : ℕ) (front : List Frame) (f : Frame) → StartsAt root (front ++ f ∷ []) → StartsAt root (front ++ record { point = f.point; next = f.next + 1 } ∷ [])
starts_next root front f starts = starts_advanced root front f (record { point = f.point; next = f.next + 1 }) refl starts

pub met_set : (marks : List Mark) (i : ℕ) (was mark : Mark) → slice_get marks i ≡ Some was → (mark ≡ Unseen → ⊥) → KeepsMet marks (set marks i mark)
met_set marks i was mark here not point met = elim (nat_eq_or point i) [
  | inl same ↦ (mark, rw same (get_set_same marks i was mark here), not)
  | inr other ↦ (met.0, get_set_other marks i mark point met.0 other met.1, met.2)
]

pub met_here : (marks : List Mark) (i : ℕ) (was mark : Mark) → slice_get marks i ≡ Some was → (mark ≡ Unseen → ⊥) → IsMet (set marks i mark) i
met_here marks i was mark here not = (mark, get_set_same marks i was mark here, not)

abbrev pub steps_left : Frame → ℕ
steps_left f = 1 + (2 ^ 64 - f.next)

pub work_left : (graph : Graph) (marks : List Mark) (front : List Frame) (f : Frame) (order : List ℕ) (place : ℕ) → IsWalking graph marks (front ++ f ∷ []) order → work (set marks f.point (Done place)) front < work marks (front ++ f ∷ [])
work_left graph marks front f order place walk =
    omega (arith, sum_by-set_at weight marks f.point (Open (length front)) (Done place) (walk.frames (length front) f (get_here front f [])).0, sum_by-push steps_left front f)

pub work_next : (marks : List Mark) (front : List Frame) (f : Frame) → f.next < 2 ^ 64 → work marks (front ++ record { point = f.point; next = f.next + 1 } ∷ []) < work marks (front ++ f ∷ [])
work_next marks front f small = omega (arith, sum_by-push steps_left front f, sum_by-push steps_left front (record { point = f.point; next = f.next + 1 }))

pub work_down : (marks : List Mark) (front : List Frame) (f : Frame) (to n : ℕ) → slice_get marks to ≡ Some Unseen → work (set marks to (Open n)) ((front ++ f ∷ []) ++ record { point = to; next = 0 } ∷ []) < work marks (front ++ f ∷ [])
work_down marks front f to n is = omega (arith, sum_by-set_at weight marks to Unseen (Open n) is, sum_by-push steps_left (front ++ f ∷ []) (record { point = to; next = 0 }))

-- marks that are all the same
pub all_unseen : (n : ℕ) → AreUnseen (replicate n Unseen)
all_unseen zero point mark got = absurd (cc)
all_unseen (suc n) zero mark got = cc
all_unseen (suc n) (suc point) mark got = all_unseen n point mark got

-- one more point is done
pub done_more : (marks : List Mark) (points : List ℕ) (i point : ℕ) → slice_get points i ≡ Some point → IsDone marks point → ((k to : ℕ) → k < i → slice_get points k ≡ Some to → IsDone marks to) → (k to : ℕ) → k < i + 1 → slice_get points k ≡ Some to → IsDone marks to
done_more marks points i point here is so_far k to less got =
    below_more (λ k. (to : ℕ) → slice_get points k ≡ Some to → IsDone marks to) i
    (λ k less to got. so_far k to less got)
    (λ to got. let same : point ≡ to = cc in rw (← same) is)
    k less to got

pub starts_alone : (root : ℕ) → StartsAt root (record { point = root; next = 0 } ∷ [])
starts_alone root f got = let f' : Frame = record { point = root; next = 0 } in let same : f' ≡ f = cc in sym (ap (λ (x : Frame). x.point) same)

-- an edge leads from a point to which the roots lead
pub reached_next : (graph : Graph) (roots : List ℕ) (a b : ℕ) → IsReached graph roots a → HasEdge graph a b → IsReached graph roots b
reached_next graph roots a b reached edge = elim reached [
  | inl w ↦ inr (a, [], w, edge)
  | inr w ↦ inr (w.0, w.1 ++ a ∷ [], w.2, path_more graph w.0 w.1 a b w.3 edge)
]

-- a further point was met, to which the roots lead
pub reached_set : (graph : Graph) (roots : List ℕ) (marks : List Mark) (i : ℕ) (mark : Mark) → IsReached graph roots i → MetAreReached graph roots marks → MetAreReached graph roots (set marks i mark)
reached_set graph roots marks i mark here reached point met = elim (got_set marks i mark point met.0 met.1) [
  | inl w ↦ rw w.0 here
  | inr w ↦ reached point (met.0, w.1, met.2)
]

-- an open point was left, which was met before
pub reached_left : (graph : Graph) (roots : List ℕ) (marks : List Mark) (i : ℕ) (was mark : Mark) → slice_get marks i ≡ Some was → (was ≡ Unseen → ⊥) → MetAreReached graph roots marks → MetAreReached graph roots (set marks i mark)
reached_left graph roots marks i was mark here not reached = reached_set graph roots marks i mark (reached i (was, here, not)) reached

-- an edge from an open point was followed
pub reached_down : (graph : Graph) (roots : List ℕ) (marks : List Mark) (from : ℕ) (was : Mark) (k to : ℕ) (mark : Mark) → slice_get marks from ≡ Some was → (was ≡ Unseen → ⊥) → slice_get (edges graph from) k ≡ Some to → MetAreReached graph roots marks → MetAreReached graph roots (set marks to mark)
reached_down graph roots marks from was k to mark here not edge reached =
    reached_set graph roots marks to mark (reached_next graph roots from to (reached from (was, here, not)) (k, edge)) reached

-- the point of the frame was left
pub step_left : (graph : Graph) (marks : List Mark) (front : List Frame) (f : Frame) (order : List ℕ) → IsWalking graph marks (front ++ f ∷ []) order → slice_get (edges graph f.point) f.next ≡ None → IsStep graph marks (front ++ f ∷ []) (set marks f.point (Done (length order))) front (order ++ f.point ∷ [])
step_left graph marks front f order walk past =
    let at = (walk.frames (length front) f (get_here front f [])).0 in
    record {
      walk = left graph marks front f order walk past;
      first = λ root starts. starts_left root front f starts;
      met = met_set marks f.point (Open (length front)) (Done (length order)) at (λ e. cc);
      only = λ roots. reached_left graph roots marks f.point (Open (length front)) (Done (length order)) at (λ e. cc);
      falls = work_left graph marks front f order (length order) walk;
    }

-- an edge to a point that is done was passed by
pub step_next : (graph : Graph) (marks : List Mark) (front : List Frame) (f : Frame) (order : List ℕ) (to rank : ℕ) → f.next < 2 ^ 63 → IsWalking graph marks (front ++ f ∷ []) order → slice_get (edges graph f.point) f.next ≡ Some to → slice_get marks to ≡ Some (Done rank) → IsStep graph marks (front ++ f ∷ []) marks (front ++ record { point = f.point; next = f.next + 1 } ∷ []) order
step_next graph marks front f order to rank small walk edge done =
    record {
      walk = advanced graph marks front f order to rank walk edge done;
      first = λ root starts. starts_next root front f starts;
      met = λ point met. met;
      only = λ roots reached. reached;
      falls = work_next marks front f (omega arith);
    }

-- an edge to a point that was not met was followed
pub step_down : (graph : Graph) (marks : List Mark) (front : List Frame) (f : Frame) (order : List ℕ) (to place : ℕ) → place ≡ length (front ++ f ∷ []) → IsWalking graph marks (front ++ f ∷ []) order → slice_get (edges graph f.point) f.next ≡ Some to → slice_get marks to ≡ Some Unseen → IsStep graph marks (front ++ f ∷ []) (set marks to (Open place)) ((front ++ f ∷ []) ++ record { point = to; next = 0 } ∷ []) order
step_down graph marks front f order to place is walk edge unseen =
    let at = (walk.frames (length front) f (get_here front f [])).0 in
    record {
      walk = let P : ℕ → Type 0 = λ p. IsWalking graph (set marks to (Open p)) ((front ++ f ∷ []) ++ record { point = to; next = 0 } ∷ []) order in subst P (sym is) (descended graph marks front f order to walk edge unseen);
      first = λ root starts. starts_more root front f (record { point = to; next = 0 }) starts;
      met = met_set marks to Unseen (Open place) unseen (λ e. cc);
      only = λ roots. reached_down graph roots marks f.point (Open (length front)) f.next to (Open place) at (λ e. cc) edge;
      falls = work_down marks front f to place unseen;
    }

-- a root that leads to points that are done is done at once
pub visit_done : (graph : Graph) (marks : List Mark) (stack : List Frame) (order : List ℕ) (root : ℕ) → IsWalking graph marks [] order → stack ≡ [] → slice_get marks root ≡ Some Unseen → AreDone marks (edges graph root) → IsVisit graph root marks (set marks root (Done (length order))) stack (order ++ root ∷ [])
visit_done graph marks stack order root walk empty unseen are =
    record {
      walk = finished graph marks order root walk unseen are;
      empty = empty;
      met = met_set marks root Unseen (Done (length order)) unseen (λ e. cc);
      here = met_here marks root Unseen (Done (length order)) unseen (λ e. cc);
      only = λ roots has reached. reached_set graph roots marks root (Done (length order)) (inl has) reached;
    }

-- a root that was met needs no walk
pub visit_met : (graph : Graph) (marks : List Mark) (stack : List Frame) (order : List ℕ) (root : ℕ) (mark : Mark) → IsWalking graph marks [] order → stack ≡ [] → slice_get marks root ≡ Some mark → (mark ≡ Unseen → ⊥) → IsVisit graph root marks marks stack order
visit_met graph marks stack order root mark walk empty at not =
    record { walk = walk; empty = empty; met = λ point met. met; here = (mark, at, not); only = λ roots has reached. reached }
