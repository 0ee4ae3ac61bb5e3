-- Worked examples, which the check computes: refusals of compositions in their order, and instances that feed each other in a cycle or in none.
use Rattle.std.proofs.Common.{◌≡◌, refl, subst, sym, inl, inr, ℕ, zero, suc, ◌+◌, List, [], ◌∷◌, length, Some, Err, arith}
use Rattle.std.specs.Prelude.{slice_get}
use Rattle.graph_core.specs.Cycle.{grounded, IsCycleOf, IsEndless, IsFirstEndless, IsGrounded}
use Rattle.graph_core.specs.Graph.{edges, Graph, HasEdge}
use Rattle.graph_core.proofs.GroundLemmas.{grounded_no_cycle}
use Rattle.net_words.specs.declared.word.BasisText.TheVariants.{Poly}
use Rattle.net_words.specs.declared.word.Role.{Role}
use Rattle.net_words.specs.declared.word.Role.TheVariants.{Fed, Input, Output}
use Rattle.net_words.specs.declared.word.WordText.{WordText}
use Rattle.net_signature.specs.Signature.{SignatureValue}
use Rattle.net_blif.specs.Design.{ModelValue}
use Rattle.net_blif.specs.Statement.{Token}
use Rattle.net_blif.specs.declared.item.Item.{Item}
use Rattle.net_blif.specs.declared.item.Item.TheVariants.{Gate, Instance}
use Rattle.gf_basis.specs.declared.bases.Basis.{Basis}
use Rattle.compose_polys.specs.LevelOrder.{first_numbers}
use Rattle.compose_model.specs.Wiring.{feeding_graph, IsWithoutCycle}
use Rattle.compose_model.specs.declared.feeder.Feeder.{Feeder}
use Rattle.compose_model.specs.declared.feeder.Feeder.TheVariants.{InputWord, OutputOf}
use Rattle.compose_blocks.specs.declared.plan_fault.PlanFault.TheVariants as plans
use Rattle.block_compose.specs.Composed.{Composes, HasNoCycle}
use Rattle.block_compose.specs.declared.fault.ComposeFault.TheVariants.{FedInTop, GateInTop, InstanceLoop, NoBlock}

-- ---- refusals, in their order

-- names of one byte
abbrev a : Token
a = 97 ∷ []

abbrev m : Token
m = 109 ∷ []

abbrev z : Token
z = 122 ∷ []

-- a gate in line 5, and an instance of a model without a block
abbrev gate : Item
gate = Gate 5 (a ∷ []) z 2

abbrev instance : Item
instance = Instance 4 m []

abbrev design : List Item → List ModelValue
design items = record { name = z; items = items } ∷ []

-- one word of this role, and an output word
abbrev text : Role → Token → WordText
text role net = record { line = 3; name = net; role = role; basis = Poly; nets = net ∷ [] }

abbrev signature : Role → SignatureValue
signature role = record { modulus = 3; tower = []; upper = []; words = text role a ∷ text Output z ∷ []; feeds = []; blocks = [] }

module _ (k : ℕ) (mul : ℕ → ℕ → ℕ) (bases : List (List Basis)) (bound : ℕ) where
  -- a fed word is refused before a gate
  fed_before_gate : Composes k mul (design (gate ∷ [])) (signature Fed) bases bound (Err FedInTop)
  fed_before_gate = inl (plans.FedInTop, inl refl, refl)

  -- a gate is refused before an instance without a block, also where it stands behind it
  gate_before_block : Composes k mul (design (instance ∷ gate ∷ [])) (signature Input) bases bound (Err (GateInTop 5))
  gate_before_block = inl (plans.GateInTop 5, inr (tt, refl, inl refl), refl)

  -- an instance without a block
  no_block : Composes k mul (design (instance ∷ [])) (signature Input) bases bound (Err (NoBlock m))
  no_block = inl (plans.NoBlock m, inr (tt, refl, inr (tt, refl, inl (record { place = 0; element = instance; at = refl; is = refl; before = λ i x less got. absurd (omega (arith, less)) }))), refl)

-- ---- cycles

-- an instance that feeds itself
abbrev cyclic : List (List Feeder)
cyclic = (OutputOf 0 ∷ []) ∷ []

abbrev cyclic_graph : Graph
cyclic_graph = feeding_graph cyclic

endless : IsEndless cyclic_graph 0
endless ground = grounded_no_cycle cyclic_graph 0 ground [] (0, refl)

first_endless : (a : ℕ) → a ≡ 0 → IsFirstEndless cyclic_graph (0 ∷ []) a
first_endless a is =
    let P : ℕ → Type 0 = IsFirstEndless cyclic_graph (0 ∷ []) in
    subst P (sym is) (0, refl, endless, λ j c less got. absurd (omega (arith, less)))

only : (i a : ℕ) → slice_get (0 ∷ []) i ≡ Some a → (i ≡ 0) × (a ≡ 0)
only zero a got = let same : 0 ≡ a = cc in (refl, sym same)
only (suc i) a got = absurd (cc)

cycle_is : IsCycleOf cyclic_graph (first_numbers (length cyclic)) (0 ∷ [])
cycle_is = record {
  walk = 0 ∷ [];
  from = 0;
  is_walk = record {
    begins = λ a got. first_endless a (only 0 a got).1;
    leads = λ i a b at there. absurd (omega (arith, (only (i + 1) b there).0));
    apart = λ i j a at there. omega (arith, (only i a at).0, (only j a there).0);
  };
  within = omega arith;
  back = λ i a b last at there. let P : ℕ → Type 0 = λ n. IsFirstEndless cyclic_graph (edges cyclic_graph n) b in subst P (sym (only i a at).1) (first_endless b (only 0 b there).1);
  loop_is = refl;
}

-- it is refused by its number from 1
cycle_is_refused : HasNoCycle cyclic (Err (InstanceLoop 1))
cycle_is_refused = record { cycle = 0 ∷ []; is = cycle_is; instance = 0; first = refl; number_is = refl }

-- an instance that a word feeds, and one that the first feeds
abbrev chain : List (List Feeder)
chain = (InputWord 0 ∷ []) ∷ (OutputOf 0 ∷ []) ∷ []

no_edges : (b : ℕ) → HasEdge (feeding_graph chain) 0 b → IsGrounded (feeding_graph chain) b
no_edges b edge = let got = edge.1 in absurd (cc)

first_grounded : IsGrounded (feeding_graph chain) 0
first_grounded = grounded 0 no_edges

-- they are in no cycle
chain_is_free : IsWithoutCycle chain
chain_is_free zero less = first_grounded
chain_is_free (suc zero) less = grounded 1 (λ b edge. let P : ℕ → Type 0 = IsGrounded (feeding_graph chain) in subst P (sym (only edge.0 b edge.1).1) first_grounded)
chain_is_free (suc (suc i)) less = absurd (omega (arith, less))
