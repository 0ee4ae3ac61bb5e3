-- From each root a walk ends, or it finds a cycle.
use Rattle.std.proofs.Common.{◌≡◌, ◌⊎◌, ◌∙◌, ap, sym, refl, inl, inr, subst, ℕ, zero, suc, ◌<◌, ◌≤◌, ◌+◌, Bool, true, false, List, [], ◌∷◌, ◌++◌, length, drop, replicate, Option, None, Some, arith, length-set}
use Rattle.std.specs.Prelude.{slice_get}
use Rattle.std.proofs.Math.ListN.{set}
use Rattle.std.proofs.lemmas.List.{length-replicate}
use Rattle.std.proofs.lemmas.Option.{slice_get_within}
use Rattle.lists.specs.Lists.{Has}
use Rattle.lists.specs.laws.HasLaws.{Has_left}
use Rattle.lists.specs.laws.ListLaws.{length-push}
use Rattle.lists.specs.laws.NumberLaws.{nat_eq_or}
use Rattle.lists.specs.laws.ReadLaws.{get_here, get_none, get_set_other, get_set_same, got_push, got_set}
use Rattle.graph_core.specs.Graph.{Graph, edges, HasEdge, IsPath}
use Rattle.graph_core.specs.Walk.{IsLoopBy, IsWalkBy}
use Rattle.graph_core.specs.Cycle.{IsGrounded, grounded, IsEndless, IsFirstEndless, IsCycleOf}
use Rattle.graph_core.proofs.GraphLemmas.{edges_within}
use Rattle.graph_core.proofs.GroundLemmas.{grounded_edge, grounded_no_cycle, path_more}
use Rattle.graph_core.proofs.LawLemmas.{is_cycle}
use Rattle.net_core.proofs.ExistLemmas.{count_unmet, none_met, unmet_set}

-- ---- each point is grounded, or it leads into a cycle

abbrev IsEither : Graph → ℕ → Type 0
IsEither graph a = IsGrounded graph a ⊎ IsEndless graph a

abbrev AllGrounded : Graph → List ℕ → Type 0
AllGrounded graph list = (b : ℕ) → Has list b → IsGrounded graph b

-- from each point that was met a path leads to this one
abbrev Paths : Graph → List Bool → ℕ → Type 0
Paths graph seen at = (n : ℕ) → slice_get seen n ≡ Some true → (rest : List ℕ) × IsPath graph n rest at

module _ (graph : Graph) where
  all_more : (x : ℕ) (xs : List ℕ) → IsGrounded graph x → AllGrounded graph xs → AllGrounded graph (x ∷ xs)
  all_more x xs here rest b (zero, got) = let same : x ≡ b = cc in subst (λ (n : ℕ). IsGrounded graph n) same here
  all_more x xs here rest b (suc k, got) = rest b (k, got)

  before_more : (x : ℕ) (xs : List ℕ) (i : ℕ) → IsGrounded graph x → ((j c : ℕ) → j < i → slice_get xs j ≡ Some c → IsGrounded graph c) → (j c : ℕ) → j < suc i → slice_get (x ∷ xs) j ≡ Some c → IsGrounded graph c
  before_more x xs i here before zero c less got = let same : x ≡ c = cc in subst (λ (n : ℕ). IsGrounded graph n) same here
  before_more x xs i here before (suc j) c less got = before j c (omega (arith, less)) got

  -- all points of a list are grounded, or one is the first that is not
  first_or : (list : List ℕ) → ((b : ℕ) → Has list b → IsEither graph b) → AllGrounded graph list ⊎ ((b : ℕ) × IsFirstEndless graph list b)
  first_or [] each = inl (λ b has. let got = has.1 in absurd (cc))
  first_or (x ∷ xs) each =
      elim (each x (0, refl)) [
        | inr endless ↦ inr (x, (0, refl, endless, λ j c less got. absurd (omega (arith, less))))
        | inl here ↦ elim (first_or xs (λ b has. each b (suc has.0, has.1))) [
          | inl rest ↦ inl (all_more x xs here rest)
          | inr found ↦ inr (found.0, (suc found.1.0, found.1.1, found.1.2, before_more x xs found.1.0 here found.1.3))
        ]
      ]

  paths_more : (seen : List Bool) (at next : ℕ) → HasEdge graph at next → Paths graph seen at → Paths graph (set seen at true) next
  paths_more seen at next edge paths n got =
      elim (got_set seen at true n true got) [
        | inl w ↦ let P : ℕ → Type 0 = λ m. IsPath graph m [] next in ([], subst P (sym w.0) edge)
        | inr w ↦ let old = paths n w.1 in (old.0 ++ at ∷ [], path_more graph n old.0 at next old.1 edge)
      ]

  -- a point that is none of the graph's leads nowhere
  past_grounded : (at : ℕ) → length graph ≤ at → IsGrounded graph at
  past_grounded at past = grounded at (λ b edge. absurd (omega (arith, past, edges_within graph at edge.0 b edge.1)))

  by_edges : (at : ℕ) → AllGrounded graph (edges graph at) ⊎ ((b : ℕ) × IsFirstEndless graph (edges graph at) b) → IsEither graph at
  by_edges at (inl all) = inl (grounded at all)
  by_edges at (inr found) = inr (λ ground. found.1.2 (grounded_edge graph at found.0 ground (found.1.0, found.1.1)))

  by_mark : (seen : List Bool) (at : ℕ) → length seen ≡ length graph → Paths graph seen at → ((b : ℕ) → HasEdge graph at b → slice_get seen at ≡ Some false → IsEither graph b) → (mark : Option Bool) → slice_get seen at ≡ mark → IsEither graph at
  by_mark seen at long paths further None is = inl (past_grounded at (omega (arith, long, get_none seen at is)))
  by_mark seen at long paths further (Some true) is = let path = paths at is in inr (λ ground. grounded_no_cycle graph at ground path.0 path.1)
  by_mark seen at long paths further (Some false) is = by_edges at (first_or (edges graph at) (λ b edge. further b edge is))

  either_from : (fuel : ℕ) (seen : List Bool) (at : ℕ) → count_unmet seen ≤ fuel → length seen ≡ length graph → Paths graph seen at → IsEither graph at
  either_from zero seen at few long paths =
      by_mark seen at long paths (λ b edge new. absurd (omega (arith, few, unmet_set seen at new))) (slice_get seen at) refl
  either_from (suc fuel) seen at few long paths =
      by_mark seen at long paths
      (λ b edge new. either_from fuel (set seen at true) b (omega (arith, few, unmet_set seen at new)) (length-set seen at true ∙ long) (paths_more seen at b edge paths))
      (slice_get seen at) refl

  pub grounded_or_endless : (a : ℕ) → IsGrounded graph a ⊎ IsEndless graph a
  grounded_or_endless a =
      either_from (count_unmet (replicate (length graph) false)) (replicate (length graph) false) a (omega arith) (length-replicate {A = Bool} (length graph) false)
      (λ n got. absurd (none_met (length graph) n got))

  -- an endless point leads to a first endless one
  next_of : (a : ℕ) → IsEndless graph a → (b : ℕ) × IsFirstEndless graph (edges graph a) b
  next_of a endless =
      elim (first_or (edges graph a) (λ b edge. grounded_or_endless b)) [
        | inl all ↦ absurd (endless (grounded a all))
        | inr found ↦ found
      ]

-- ---- a walk over endless points meets one again

abbrev Begins : Graph → List ℕ → ℕ → Type 0
Begins graph roots a = IsFirstEndless graph roots a

abbrev Leads : Graph → ℕ → ℕ → Type 0
Leads graph a b = IsFirstEndless graph (edges graph a) b

-- a point that comes after a walk, or begins it
record Follows (graph : Graph) (roots walk : List ℕ) (b : ℕ) : Type 0 where
  first : length walk ≡ 0 → Begins graph roots b
  next : (k a : ℕ) → k + 1 ≡ length walk → slice_get walk k ≡ Some a → Leads graph a b
  endless : IsEndless graph b

-- which points a walk went over
record AreMet (seen : List Bool) (walk : List ℕ) : Type 0 where
  stands : (n : ℕ) → slice_get seen n ≡ Some true → Has walk n
  met : (n : ℕ) → Has walk n → slice_get seen n ≡ Some true

module _ (graph : Graph) (roots walk : List ℕ) (is : IsWalkBy (Begins graph roots) (Leads graph) walk) (b : ℕ) (follows : Follows graph roots walk b) where
  -- a point that was met closes the loop
  loop_from : (from : ℕ) → slice_get walk from ≡ Some b → IsLoopBy (Begins graph roots) (Leads graph) (drop from walk)
  loop_from from at =
      record {
        walk = walk;
        from = from;
        is_walk = is;
        within = slice_get_within walk from b at;
        back = λ k a c last first second.
            let same : b ≡ c = cc in
            let P : ℕ → Type 0 = λ n. Leads graph a n in
            subst P same (follows.next k a last first);
        loop_is = refl;
      }

  module _ (seen : List Bool) (are : AreMet seen walk) (new : slice_get seen b ≡ Some false) where
    not_met : (k a : ℕ) → slice_get walk k ≡ Some a → a ≡ b → ⊥
    not_met k a got same =
        let there : slice_get seen b ≡ Some true = ap (slice_get seen) (sym same) ∙ are.met a (k, got) in cc

    begins_more : (a : ℕ) → slice_get (walk ++ b ∷ []) 0 ≡ Some a → Begins graph roots a
    begins_more a got =
        elim (got_push walk b 0 a got) [
          | inl w ↦ is.begins a w.0
          | inr w ↦ let P : ℕ → Type 0 = λ n. Begins graph roots n in subst P (sym w.1) (follows.first (sym w.0))
        ]

    leads_more : (k a c : ℕ) → slice_get (walk ++ b ∷ []) k ≡ Some a → slice_get (walk ++ b ∷ []) (k + 1) ≡ Some c → Leads graph a c
    leads_more k a c first second =
        elim (got_push walk b k a first) [
          | inr v ↦ absurd (omega (arith, v.0, slice_get_within (walk ++ b ∷ []) (k + 1) c second, length-push walk b))
          | inl v ↦ elim (got_push walk b (k + 1) c second) [
            | inl w ↦ is.leads k a c v.0 w.0
            | inr w ↦ let P : ℕ → Type 0 = λ n. Leads graph a n in subst P (sym w.1) (follows.next k a w.0 v.0)
          ]
        ]

    apart_more : (i j a : ℕ) → slice_get (walk ++ b ∷ []) i ≡ Some a → slice_get (walk ++ b ∷ []) j ≡ Some a → i ≡ j
    apart_more i j a first second =
        elim (got_push walk b i a first) [
          | inl v ↦ elim (got_push walk b j a second) [ inl w ↦ is.apart i j a v.0 w.0 | inr w ↦ absurd (not_met i a v.0 w.1) ]
          | inr v ↦ elim (got_push walk b j a second) [ inl w ↦ absurd (not_met j a w.0 v.1) | inr w ↦ v.0 ∙ sym w.0 ]
        ]

    longer : IsWalkBy (Begins graph roots) (Leads graph) (walk ++ b ∷ [])
    longer = record { begins = begins_more; leads = leads_more; apart = apart_more }

    stands_more : (n : ℕ) → slice_get (set seen b true) n ≡ Some true → Has (walk ++ b ∷ []) n
    stands_more n got =
        elim (got_set seen b true n true got) [
          | inl w ↦ let P : ℕ → Type 0 = λ m. Has (walk ++ b ∷ []) m in subst P (sym w.0) (length walk, get_here walk b [])
          | inr w ↦ Has_left walk (b ∷ []) n (are.stands n w.1)
        ]

    met_more : (n : ℕ) → Has (walk ++ b ∷ []) n → slice_get (set seen b true) n ≡ Some true
    met_more n has =
        elim (nat_eq_or n b) [
          | inl same ↦ ap (slice_get (set seen b true)) same ∙ get_set_same seen b false true new
          | inr other ↦ elim (got_push walk b has.0 n has.1) [
            | inl w ↦ get_set_other seen b true n true other (are.met n (has.0, w.0))
            | inr w ↦ absurd (other w.1)
          ]
        ]

    met_also : AreMet (set seen b true) (walk ++ b ∷ [])
    met_also = record { stands = stands_more; met = met_more }

    follows_more : (c : ℕ) → Leads graph b c → Follows graph roots (walk ++ b ∷ []) c
    follows_more c leads =
        record {
          first = λ none. absurd (omega (arith, none, length-push walk b));
          next = λ k a last got. elim (got_push walk b k a got) [
            | inl w ↦ absurd (omega (arith, w.1, last, length-push walk b))
            | inr w ↦ let P : ℕ → Type 0 = λ n. Leads graph n c in subst P (sym w.1) leads
          ];
          endless = leads.2;
        }

abbrev SomeLoop : Graph → List ℕ → Type 0
SomeLoop graph roots = (loop : List ℕ) × IsCycleOf graph roots loop

module _ (graph : Graph) (roots : List ℕ) where
  meets : (seen : List Bool) (walk : List ℕ) (b : ℕ) → length seen ≡ length graph → IsWalkBy (Begins graph roots) (Leads graph) walk → AreMet seen walk → Follows graph roots walk b → (slice_get seen b ≡ Some false → SomeLoop graph roots) → (mark : Option Bool) → slice_get seen b ≡ mark → SomeLoop graph roots
  meets seen walk b long is are follows further None at = absurd (follows.endless (past_grounded graph b (omega (arith, long, get_none seen b at))))
  meets seen walk b long is are follows further (Some true) at =
      let has = are.stands b at in (drop has.0 walk, loop_from graph roots walk is b follows has.0 has.1)
  meets seen walk b long is are follows further (Some false) at = further at

  loop_after : (fuel : ℕ) (seen : List Bool) (walk : List ℕ) (b : ℕ) → count_unmet seen ≤ fuel → length seen ≡ length graph → IsWalkBy (Begins graph roots) (Leads graph) walk → AreMet seen walk → Follows graph roots walk b → SomeLoop graph roots
  loop_after zero seen walk b few long is are follows =
      meets seen walk b long is are follows (λ new. absurd (omega (arith, few, unmet_set seen b new))) (slice_get seen b) refl
  loop_after (suc fuel) seen walk b few long is are follows =
      meets seen walk b long is are follows
      (λ new.
      let c = next_of graph b follows.endless in
      loop_after fuel (set seen b true) (walk ++ b ∷ []) c.0 (omega (arith, few, unmet_set seen b new)) (length-set seen b true ∙ long)
      (longer graph roots walk is b follows seen are new) (met_also graph roots walk is b follows seen are new) (follows_more graph roots walk is b follows seen are new c.0 c.1))
      (slice_get seen b) refl

  no_walk : IsWalkBy (Begins graph roots) (Leads graph) []
  no_walk = record { begins = λ a got. absurd (cc); leads = λ k a b first second. absurd (cc); apart = λ i j a first second. absurd (cc) }

  loop_at : (b : ℕ) → Begins graph roots b → SomeLoop graph roots
  loop_at b begins =
      loop_after (count_unmet (replicate (length graph) false)) (replicate (length graph) false) [] b (omega arith) (length-replicate {A = Bool} (length graph) false) no_walk
      (record { stands = λ n got. absurd (none_met (length graph) n got); met = λ n has. let got = has.1 in absurd (cc) })
      (record { first = λ none. begins; next = λ k a last got. absurd (cc); endless = begins.2 })

  -- all roots are grounded, or there is the cycle that a walk from them finds
  pub some_cycle : ((a : ℕ) → Has roots a → IsGrounded graph a) ⊎ ((cycle : List ℕ) × IsCycleOf graph roots cycle)
  some_cycle =
      elim (first_or graph roots (λ b has. grounded_or_endless graph b)) [
        | inl all ↦ inl all
        | inr found ↦ inr (loop_at found.0 found.1)
      ]

  -- a cycle has a first point
  pub first_of_cycle : (cycle : List ℕ) → IsCycleOf graph roots cycle → (a : ℕ) × (slice_get cycle 0 ≡ Some a)
  first_of_cycle [] is = absurd (is_cycle graph roots [] is)
  first_of_cycle (a ∷ rest) is = (a, refl)
