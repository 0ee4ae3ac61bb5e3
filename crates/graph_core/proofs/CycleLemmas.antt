-- An edge to an open point closes a cycle; what is done is grounded.
use Rattle.std.proofs.Common.{◌≡◌, ◌∙◌, ap, sym, refl, inl, inr, subst, ℕ, zero, suc, ◌<◌, ◌≤◌, ◌+◌, ◌-◌, List, [], ◌∷◌, ◌++◌, length, drop, map, Some, arith, add-zero}
use Rattle.std.proofs.lemmas.Option.{slice_get_within}
use Rattle.std.specs.Prelude.{slice_get}
use Rattle.lists.specs.laws.ListLaws.{length_map}
use Rattle.lists.specs.laws.ReadLaws.{got_push, get_here, get_below, from_map}
use Rattle.lists.specs.laws.TakeLaws.{drop_map_push}
use Rattle.graph_core.specs.Graph.{Graph, edges, IsPath}
use Rattle.graph_core.specs.Walk.{IsWalkBy}
use Rattle.graph_core.specs.Cycle.{IsGrounded, grounded, IsEndless, IsFirstEndless, IsCycleOf}
use Rattle.graph_core.specs.Arranged.{IsArranged}
use Rattle.graph_core.specs.Walking.{IsWalking, IsMet, MetAreReached, StartsAt, EarlierAreGrounded}
use Rattle.graph_core.specs.declared.walk.Mark.{Mark}
use Rattle.graph_core.specs.declared.walk.Mark.TheVariants.{Unseen, Open, Done}
use Rattle.graph_core.specs.declared.walk.Frame.{Frame}
use Rattle.graph_core.proofs.GroundLemmas.{grounded_no_cycle, endless_path}

done_below : (graph : Graph) (marks : List Mark) (stack : List Frame) (order : List ℕ) → IsWalking graph marks stack order → (bound place point : ℕ) → place < bound → slice_get marks point ≡ Some (Done place) → IsGrounded graph point
done_below graph marks stack order walk zero place point less is = absurd (omega arith)
done_below graph marks stack order walk (suc bound) place point less is =
    grounded point (λ b edge.
    let low = (walk.done point place is).1 edge.0 b (slice_get_within (edges graph point) edge.0 b edge.1) edge.1 in
    done_below graph marks stack order walk bound low.0 b (omega (arith, low.2)) low.1)

-- what is done is grounded
pub done_grounded : (graph : Graph) (marks : List Mark) (stack : List Frame) (order : List ℕ) (place point : ℕ) → IsWalking graph marks stack order → slice_get marks point ≡ Some (Done place) → IsGrounded graph point
done_grounded graph marks stack order place point walk is = done_below graph marks stack order walk (suc place) place point (omega arith) is

-- from each point of the walk a path leads to where its last edge leads
path_up : (graph : Graph) (marks : List Mark) (stack : List Frame) (order : List ℕ) → IsWalking graph marks stack order → (n p to : ℕ) (h g : Frame) → slice_get stack p ≡ Some h → slice_get stack (p + n) ≡ Some g → slice_get (edges graph g.point) g.next ≡ Some to → (rest : List ℕ) × IsPath graph h.point rest to
path_up graph marks stack order walk zero p to h g from top edge =
    let top' : slice_get stack p ≡ Some g = rw add-zero at top in
    let same : h ≡ g = cc in ([], rw same (g.next, edge))
path_up graph marks stack order walk (suc n) p to h g from top edge =
    let top' : slice_get stack ((p + 1) + n) ≡ Some g = let e : p + suc n ≡ (p + 1) + n = omega arith in rw e at top in
    let second = get_below stack (p + 1) (omega (arith, slice_get_within stack (p + 1 + n) g top')) in
    let up = path_up graph marks stack order walk n (p + 1) to second.0 g second.1 top' edge in
    (second.0.point ∷ up.0, ((h.next, walk.links p h second.0 from second.1), up.1))

-- the place of an open point is on the stack
pub open_within : (graph : Graph) (marks : List Mark) (front : List Frame) (f : Frame) (order : List ℕ) (to p : ℕ) → IsWalking graph marks (front ++ f ∷ []) order → slice_get marks to ≡ Some (Open p) → p ≤ length front
open_within graph marks front f order to p walk is =
    let found = walk.open_at to p is in
    elim (got_push front f p found.0 found.1) [ inl w ↦ omega arith | inr w ↦ omega arith ]

module _ (graph : Graph) (marks : List Mark) (front : List Frame) (f : Frame) (order : List ℕ) (to p : ℕ) (walk : IsWalking graph marks (front ++ f ∷ []) order) (edge : slice_get (edges graph f.point) f.next ≡ Some to) (is : slice_get marks to ≡ Some (Open p)) where
  -- each point of the walk leads to where its last edge leads
  up : (k : ℕ) (h : Frame) → slice_get (front ++ f ∷ []) k ≡ Some h → (rest : List ℕ) × IsPath graph h.point rest to
  up k h got =
      let within : k ≤ length front = elim (got_push front f k h got) [ inl w ↦ omega arith | inr w ↦ omega arith ] in
      let top : slice_get (front ++ f ∷ []) (k + (length front - k)) ≡ Some f = let e : k + (length front - k) ≡ length front = omega arith in rw e (get_here front f []) in
      path_up graph marks (front ++ f ∷ []) order walk (length front - k) k to h f got top edge

  to_endless : IsEndless graph to
  to_endless ground =
      let found = walk.open_at to p is in
      let path = up p found.0 found.1 in
      let P : ℕ → Type 0 = λ a. IsPath graph a path.0 to in
      let closed : IsPath graph to path.0 to = subst P found.2 path.1 in
      grounded_no_cycle graph to ground path.0 closed

  frame_endless : (k : ℕ) (h : Frame) → slice_get (front ++ f ∷ []) k ≡ Some h → IsEndless graph h.point
  frame_endless k h got = let path = up k h got in endless_path graph h.point path.0 to path.1 to_endless

  -- the edges before are to grounded points
  first_endless : (k : ℕ) (h : Frame) (b : ℕ) → slice_get (front ++ f ∷ []) k ≡ Some h → slice_get (edges graph h.point) h.next ≡ Some b → IsEndless graph b → IsFirstEndless graph (edges graph h.point) b
  first_endless k h b got next endless =
      (h.next, next, endless, λ j c less at. let low = (walk.frames k h got).1 j c less at in done_grounded graph marks (front ++ f ∷ []) order low.0 c walk low.1)

  -- the walk from the root to the edge that closes the cycle
  closing_walk : (root i : ℕ) (roots : List ℕ) → StartsAt root (front ++ f ∷ []) → EarlierAreGrounded graph roots root i → IsWalkBy (IsFirstEndless graph roots) (λ a b. IsFirstEndless graph (edges graph a) b) (map (λ (h : Frame). h.point) (front ++ f ∷ []))
  closing_walk root i roots starts earlier =
      record {
        begins = λ a got. let at = from_map (λ (h : Frame). h.point) (front ++ f ∷ []) 0 a got in
            let same : root ≡ a = sym (starts at.0 at.1) ∙ at.2 in
            let P : ℕ → Type 0 = λ b. IsFirstEndless graph roots b in
            let endless : IsEndless graph root = subst (λ (b : ℕ). IsEndless graph b) (starts at.0 at.1) (frame_endless 0 at.0 at.1) in
            subst P same (i, earlier.0, endless, earlier.1);
        leads = λ k a b first second.
            let g = from_map (λ (h : Frame). h.point) (front ++ f ∷ []) k a first in
            let h = from_map (λ (h : Frame). h.point) (front ++ f ∷ []) (k + 1) b second in
            let link = first_endless k g.0 h.0.point g.1 (walk.links k g.0 h.0 g.1 h.1) (frame_endless (k + 1) h.0 h.1) in
            rw (← g.2, ← h.2) link;
        apart = λ i j a first second.
            let g = from_map (λ (h : Frame). h.point) (front ++ f ∷ []) i a first in
            let h = from_map (λ (h : Frame). h.point) (front ++ f ∷ []) j a second in
            let at : slice_get marks a ≡ Some (Open i) = rw (← g.2) (walk.frames i g.0 g.1).0 in
            let at' : slice_get marks a ≡ Some (Open j) = rw (← h.2) (walk.frames j h.0 h.1).0 in
            cc;
      }

  pub closing_cycle : (root i : ℕ) (roots cycle : List ℕ) → StartsAt root (front ++ f ∷ []) → EarlierAreGrounded graph roots root i → cycle ≡ map (λ (h : Frame). h.point) (drop p front) ++ f.point ∷ [] → IsCycleOf graph roots cycle
  closing_cycle root i roots cycle starts earlier cycle_is =
      let within : p ≤ length front = open_within graph marks front f order to p walk is in
      let long : length (map (λ (h : Frame). h.point) (front ++ f ∷ [])) ≡ length front + 1 = omega (arith, length_map (λ (h : Frame). h.point) (front ++ f ∷ []), length_more front f) in
      record {
        walk = map (λ (h : Frame). h.point) (front ++ f ∷ []);
        from = p;
        is_walk = closing_walk root i roots starts earlier;
        within = omega arith;
        back = λ k a b last first second.
            let g = from_map (λ (h : Frame). h.point) (front ++ f ∷ []) k a first in
            let place : k ≡ length front = omega arith in
            let at : slice_get (front ++ f ∷ []) (length front) ≡ Some g.0 = rw (← place) g.1 in
            let here : slice_get (front ++ f ∷ []) (length front) ≡ Some f = get_here front f [] in
            let same : f ≡ g.0 = cc in
            let h = from_map (λ (h : Frame). h.point) (front ++ f ∷ []) p b second in
            let found = walk.open_at to p is in
            let top : found.0 ≡ h.0 = cc in
            let goal : b ≡ to = sym h.2 ∙ sym (ap (λ (x : Frame). x.point) top) ∙ found.2 in
            let own : a ≡ f.point = sym g.2 ∙ sym (ap (λ (x : Frame). x.point) same) in
            rw (own, goal) (first_endless (length front) f to here edge to_endless);
        loop_is = cycle_is ∙ drop_map_push (λ (h : Frame). h.point) p front f within;
      }
    where
      length_more : (xs : List Frame) (x : Frame) → length (xs ++ x ∷ []) ≡ length xs + 1
      length_more [] x = refl
      length_more (y ∷ ys) x = omega (arith, length_more ys x)

by_mark : (graph : Graph) (marks : List Mark) (order : List ℕ) (point : ℕ) → IsWalking graph marks [] order → (mark : Mark) → slice_get marks point ≡ Some mark → (mark ≡ Unseen → ⊥) → (r : ℕ) × (slice_get marks point ≡ Some (Done r))
by_mark graph marks order point walk Unseen is not = absurd (not refl)
by_mark graph marks order point walk (Open j) is not = let at = walk.open_at point j is in let e = at.1 in absurd (cc)
by_mark graph marks order point walk (Done r) is not = (r, is)

-- once the stack is empty, what was met is done
pub met_done : (graph : Graph) (marks : List Mark) (order : List ℕ) (point : ℕ) → IsWalking graph marks [] order → IsMet marks point → (r : ℕ) × (slice_get marks point ≡ Some (Done r))
met_done graph marks order point walk met = by_mark graph marks order point walk met.0 met.1 met.2

pub arranged : (graph : Graph) (marks : List Mark) (roots order : List ℕ) → IsWalking graph marks [] order → ((k a : ℕ) → slice_get roots k ≡ Some a → IsMet marks a) → MetAreReached graph roots marks → IsArranged graph roots order
arranged graph marks roots order walk met reached =
    record {
      has_roots = λ a has. let r = met_done graph marks order a walk (met has.0 a has.1) in (r.0, (walk.done a r.0 r.1).0);
      only = λ a has. reached a (Done has.0, walk.ordered has.0 a has.1, λ e. cc);
      inside = λ a has. omega (arith, slice_get_within marks a (Done has.0) (walk.ordered has.0 a has.1), walk.long);
      once = λ i j a first second. let e = walk.ordered i a first in let e' = walk.ordered j a second in cc;
      after = λ i a b at edge.
          let low = (walk.done a i (walk.ordered i a at)).1 edge.0 b (slice_get_within (edges graph a) edge.0 b edge.1) edge.1 in
          (low.0, low.2, (walk.done b low.0 low.1).0);
    }

-- roots that were met are grounded
pub earlier_grounded : (graph : Graph) (marks : List Mark) (roots order : List ℕ) (root i : ℕ) → IsWalking graph marks [] order → slice_get roots i ≡ Some root → ((k a : ℕ) → k < i → slice_get roots k ≡ Some a → IsMet marks a) → EarlierAreGrounded graph roots root i
earlier_grounded graph marks roots order root i walk at met =
    (at, λ j c less got. let r = met_done graph marks order c walk (met j c less got) in done_grounded graph marks [] order r.0 c walk r.1)
