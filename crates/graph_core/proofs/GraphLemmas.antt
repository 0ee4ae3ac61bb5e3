-- Edges of a graph that was changed.
use Rattle.std.proofs.Common.{◌≡◌, ◌≢◌, ap, sym, refl, inl, inr, subst, ℕ, zero, suc, ◌<◌, List, [], ◌∷◌, length, length-set, replicate, Option, None, Some, arith}
use Rattle.std.specs.Prelude.{slice_get, All, IfSome}
use Rattle.std.proofs.Math.ListN.{set}
use Rattle.lists.specs.laws.HasLaws.{All_has}
use Rattle.lists.specs.laws.NumberLaws.{nat_eq_or}
use Rattle.graph_core.specs.Graph.{Graph, edges, IsInside}

pub edges_within : (graph : Graph) (a k b : ℕ) → slice_get (edges graph a) k ≡ Some b → a < length graph
edges_within [] a k b got = absurd (cc)
edges_within (row ∷ rows) zero k b got = omega arith
edges_within (row ∷ rows) (suc a) k b got = omega (arith, edges_within rows a k b got)

pub edges_set_same : (graph : Graph) (a : ℕ) (to : List ℕ) → a < length graph → edges (set graph a to) a ≡ to
edges_set_same [] a to less = absurd (omega arith)
edges_set_same (row ∷ rows) zero to less = refl
edges_set_same (row ∷ rows) (suc a) to less = edges_set_same rows a to (omega arith)

pub edges_set_other : (graph : Graph) (a : ℕ) (to : List ℕ) (b : ℕ) → b ≢ a → edges (set graph a to) b ≡ edges graph b
edges_set_other [] a to b other = refl
edges_set_other (row ∷ rows) zero to zero other = absurd (other refl)
edges_set_other (row ∷ rows) zero to (suc b) other = refl
edges_set_other (row ∷ rows) (suc a) to zero other = refl
edges_set_other (row ∷ rows) (suc a) to (suc b) other = edges_set_other rows a to b (λ e. other (ap suc e))

pub edges_none : (n a : ℕ) → edges (replicate n []) a ≡ []
edges_none zero a = refl
edges_none (suc n) zero = refl
edges_none (suc n) (suc a) = edges_none n a

pub inside_none : (n : ℕ) → IsInside (replicate n [])
inside_none n a b (k, got) =
    let P : List ℕ → Type 0 = λ ns. slice_get ns k ≡ Some b in
    let got' : P [] = subst P (edges_none n a) got in absurd (cc)

pub inside_set : (graph : Graph) (from : ℕ) (to : List ℕ) → from < length graph → All (λ a. a < length graph) to → IsInside graph → IsInside (set graph from to)
inside_set graph from to less all inside a b (k, got) =
    let P : List ℕ → Type 0 = λ ns. slice_get ns k ≡ Some b in
    let less' : b < length graph = elim (nat_eq_or a from) [
      | inl same ↦
          let Q : ℕ → Type 0 = λ c. slice_get (edges (set graph from to) c) k ≡ Some b in
          let got' : P to = subst P (edges_set_same graph from to less) (subst Q same got) in
          All_has (λ c. c < length graph) to b all (k, got')
      | inr other ↦ inside a b (k, subst P (edges_set_other graph from to a other) got)
    ] in
    omega (arith, length-set graph from to)

pub some_inside : (graph : Graph) (a k : ℕ) (r : Option ℕ) → IsInside graph → r ≡ slice_get (edges graph a) k → IfSome r (λ to. to < length graph)
some_inside graph a k None inside is = tt
some_inside graph a k (Some to) inside is = inside a to (k, sym is)
