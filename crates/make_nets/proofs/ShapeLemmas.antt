-- Gates of a plan drive each net once, and read no net that is driven later.
use Rattle.std.proofs.Common.{◌≡◌, ◌∙◌, ap, refl, subst, inl, inr, ℕ, zero, suc, ◌<◌, ◌≤◌, ◌+◌, ◌^◌, cond, List, [], ◌∷◌, ◌++◌, length, map, Option, None, Some, arith}
use Rattle.std.specs.Prelude.{◌==◌}
use Rattle.lists.specs.Lists.{Has, times}
use Rattle.lists.specs.laws.HasLaws.{Has_cases, times_append, only_one}
use Rattle.lists.specs.laws.ListLaws.{length_more}
use Rattle.lists.specs.laws.NumberLaws.{nat_eq_or}
use Rattle.lists.specs.laws.TestLaws.{none_here, one_here}
use Rattle.net_core.specs.GateValue.{GateValue}
use Rattle.make_nets.specs.Plan.{Plan, begun, driven_by, next_after, with_gate, with_zero, with_buffer, with_and, with_xor, with_links, with_chain, between, chain_net}
use Rattle.make_nets.specs.PlanShape.{outs, ReadsBefore, IsWellMade}
use Rattle.make_nets.proofs.OuterNets.{CanRead, targets_with, IsTarget}

-- nothing is driven yet
pub begun_made : (outer : ℕ) (sources : List ℕ) → IsWellMade outer sources [] (begun outer)
begun_made outer sources = record {
  from = omega arith;
  inner = λ n low high. absurd (omega (arith, low, high));
  later = λ n low. refl;
  outside = λ n less. refl;
  reads = λ g has. let got : None ≡ Some g = has.1 in absurd (cc);
  fits = λ g has. let got : None ≡ Some g = has.1 in absurd (cc);
  count = omega arith;
}

outs_more : (gates : List GateValue) (g : GateValue) (n : ℕ) → times n (map (λ (h : GateValue). h.out) (gates ++ g ∷ [])) ≡ times n (map (λ (h : GateValue). h.out) gates) + cond (g.out == n) 1 0
outs_more [] g n = omega arith
outs_more (h ∷ gates) g n = omega (arith, outs_more gates g n)

times_more : (ns : List ℕ) (m n : ℕ) → times n (ns ++ m ∷ []) ≡ times n ns + cond (m == n) 1 0
times_more ns m n = omega (arith, times_append n ns (m ∷ []))

-- what may be read stays so
pub can_read_more : (outer : ℕ) (sources : List ℕ) (old new : Plan) (n : ℕ) → old.next ≤ new.next → CanRead outer sources old n → CanRead outer sources new n
can_read_more outer sources old new n less (inl source) = inl source
can_read_more outer sources old new n less (inr inner) = inr (inner.0, omega (arith, inner.1, less))

pub gate_next : (target : Option ℕ) (plan : Plan) → plan.next ≤ next_after target plan
gate_next None plan = omega arith
gate_next (Some n) plan = omega arith

module _ (outer : ℕ) (sources targets : List ℕ) (plan : Plan) (inputs : List ℕ) (table : ℕ) (made : IsWellMade outer sources targets plan) (reads : (n : ℕ) → Has inputs n → CanRead outer sources plan n) (few : length inputs ≤ 6) (low : table < 2 ^ (2 ^ length inputs)) where
  abbrev gate_for : Option ℕ → GateValue
  gate_for target = record { out = driven_by target plan; inputs = inputs; table = table }

  fits_with : (target : Option ℕ) (g : GateValue) → Has (with_gate target inputs table plan).gates g → (length g.inputs ≤ 6) × (g.table < 2 ^ (2 ^ length g.inputs))
  fits_with target g has =
      elim (Has_cases plan.gates (gate_for target ∷ []) g has) [
        | inl before ↦ made.fits g before
        | inr here ↦ let P : GateValue → Type 0 = λ h. (length h.inputs ≤ 6) × (h.table < 2 ^ (2 ^ length h.inputs)) in subst P (only_one (gate_for target) g here) (few, low)
      ]

  reads_old : (new : Plan) (g : GateValue) → plan.next ≤ new.next → Has plan.gates g → ReadsBefore outer sources new g
  reads_old new g less has n input =
      elim (made.reads g has n input) [
        | inl source ↦ inl source
        | inr inner ↦ inr (inner.0, omega (arith, inner.1, less), inner.2)
      ]

  reads_new : (target : Option ℕ) → IsTarget outer target → ReadsBefore outer sources (with_gate target inputs table plan) (gate_for target)
  reads_new None is n input =
      elim (reads n input) [
        | inl source ↦ inl source
        | inr inner ↦ inr (inner.0, omega (arith, inner.1), λ o. inner.1)
      ]
  reads_new (Some t) is n input =
      elim (reads n input) [
        | inl source ↦ inl source
        | inr inner ↦ inr (inner.0, inner.1, λ o. absurd (omega (arith, is, o)))
      ]

  reads_with : (target : Option ℕ) → IsTarget outer target → (g : GateValue) → Has (with_gate target inputs table plan).gates g → ReadsBefore outer sources (with_gate target inputs table plan) g
  reads_with target is g has =
      elim (Has_cases plan.gates (gate_for target ∷ []) g has) [
        | inl before ↦ reads_old (with_gate target inputs table plan) g (gate_next target plan) before
        | inr here ↦ let P : GateValue → Type 0 = λ h. ReadsBefore outer sources (with_gate target inputs table plan) h in subst P (only_one (gate_for target) g here) (reads_new target is)
      ]

  outs_inner : (n : ℕ) → times n (outs (with_gate None inputs table plan)) ≡ times n (outs plan) + cond (plan.next == n) 1 0
  outs_inner n = outs_more plan.gates (gate_for None) n

  outs_outer : (t n : ℕ) → times n (outs (with_gate (Some t) inputs table plan)) ≡ times n (outs plan) + cond (t == n) 1 0
  outs_outer t n = outs_more plan.gates (gate_for (Some t)) n

  gates_more : (target : Option ℕ) → length (with_gate target inputs table plan).gates ≡ suc (length plan.gates)
  gates_more target = length_more plan.gates (gate_for target)

  inner_made : IsWellMade outer sources targets (with_gate None inputs table plan)
  inner_made = record {
    from = omega (arith, made.from);
    inner = λ n from less. elim (nat_eq_or plan.next n) [
      | inl same ↦ omega (arith, outs_inner n, one_here n plan.next same, made.later n (omega (arith, same)))
      | inr other ↦ omega (arith, outs_inner n, none_here n plan.next other, made.inner n from (omega (arith, less, other)))
    ];
    later = λ n from. omega (arith, outs_inner n, none_here n plan.next (λ e. omega (arith, e, from)), made.later n (omega (arith, from)));
    outside = λ n less. omega (arith, outs_inner n, none_here n plan.next (λ e. omega (arith, e, less, made.from)), made.outside n less);
    reads = reads_with None tt;
    fits = fits_with None;
    count = omega (arith, gates_more None, made.count);
  }

  outer_made : (t : ℕ) → t < outer → IsWellMade outer sources (targets ++ t ∷ []) (with_gate (Some t) inputs table plan)
  outer_made t within = record {
    from = made.from;
    inner = λ n from less. omega (arith, outs_outer t n, none_here n t (λ e. omega (arith, e, from, within)), made.inner n from less);
    later = λ n from. omega (arith, outs_outer t n, none_here n t (λ e. omega (arith, e, from, within, made.from)), made.later n from);
    outside = λ n less. omega (arith, outs_outer t n, times_more targets t n, made.outside n less);
    reads = reads_with (Some t) within;
    fits = fits_with (Some t);
    count = let same : (with_gate (Some t) inputs table plan).next ≡ plan.next = refl in omega (arith, gates_more (Some t), length_more targets t, made.count, same);
  }

  pub gate_made : (target : Option ℕ) → IsTarget outer target → IsWellMade outer sources (targets_with targets target) (with_gate target inputs table plan)
  gate_made None is = inner_made
  gate_made (Some t) is = outer_made t is

two_reads : (outer : ℕ) (sources : List ℕ) (plan : Plan) (a b : ℕ) → CanRead outer sources plan a → CanRead outer sources plan b → (n : ℕ) → Has (a ∷ b ∷ []) n → CanRead outer sources plan n
two_reads outer sources plan a b first second n (zero, got) = let same : Some a ≡ Some n = got in let P : ℕ → Type 0 = λ m. CanRead outer sources plan m in let e : a ≡ n = cc in subst P e first
two_reads outer sources plan a b first second n (suc k, got) = let P : ℕ → Type 0 = λ m. CanRead outer sources plan m in subst P (only_one b n (k, got)) second

one_reads : (outer : ℕ) (sources : List ℕ) (plan : Plan) (a : ℕ) → CanRead outer sources plan a → (n : ℕ) → Has (a ∷ []) n → CanRead outer sources plan n
one_reads outer sources plan a first n has = let P : ℕ → Type 0 = λ m. CanRead outer sources plan m in subst P (only_one a n has) first

pub and_made : (outer : ℕ) (sources targets : List ℕ) (target : Option ℕ) (a b : ℕ) (plan : Plan) → IsWellMade outer sources targets plan → IsTarget outer target → CanRead outer sources plan a → CanRead outer sources plan b → IsWellMade outer sources (targets_with targets target) (with_and target a b plan)
and_made outer sources targets target a b plan made is first second = gate_made outer sources targets plan (a ∷ b ∷ []) 8 made (two_reads outer sources plan a b first second) (omega arith) (omega arith) target is

pub xor_made : (outer : ℕ) (sources targets : List ℕ) (target : Option ℕ) (a b : ℕ) (plan : Plan) → IsWellMade outer sources targets plan → IsTarget outer target → CanRead outer sources plan a → CanRead outer sources plan b → IsWellMade outer sources (targets_with targets target) (with_xor target a b plan)
xor_made outer sources targets target a b plan made is first second = gate_made outer sources targets plan (a ∷ b ∷ []) 6 made (two_reads outer sources plan a b first second) (omega arith) (omega arith) target is

pub buffer_made : (outer : ℕ) (sources targets : List ℕ) (target : Option ℕ) (a : ℕ) (plan : Plan) → IsWellMade outer sources targets plan → IsTarget outer target → CanRead outer sources plan a → IsWellMade outer sources (targets_with targets target) (with_buffer target a plan)
buffer_made outer sources targets target a plan made is first = gate_made outer sources targets plan (a ∷ []) 2 made (one_reads outer sources plan a first) (omega arith) (omega arith) target is

pub zero_made : (outer : ℕ) (sources targets : List ℕ) (target : Option ℕ) (plan : Plan) → IsWellMade outer sources targets plan → IsTarget outer target → IsWellMade outer sources (targets_with targets target) (with_zero target plan)
zero_made outer sources targets target plan made is = gate_made outer sources targets plan [] 0 made (λ n has. let none : None ≡ Some n = has.1 in absurd (cc)) (omega arith) (omega arith) target is

links_made : (outer : ℕ) (sources targets : List ℕ) (target : Option ℕ) (a b : ℕ) (rest : List ℕ) (plan : Plan) → IsWellMade outer sources targets plan → IsTarget outer target → CanRead outer sources plan a → CanRead outer sources plan b → ((n : ℕ) → Has rest n → CanRead outer sources plan n) → IsWellMade outer sources (targets_with targets target) (with_links target a b rest plan)
links_made outer sources targets target a b [] plan made is first second others = xor_made outer sources targets target a b plan made is first second
links_made outer sources targets target a b (c ∷ rest) plan made is first second others =
    let more : Plan = with_xor None a b plan in
    let grown : (n : ℕ) → Has (c ∷ rest) n → CanRead outer sources more n = λ n has. can_read_more outer sources plan more n (omega arith) (others n has) in
    links_made outer sources targets target plan.next c rest more (xor_made outer sources targets None a b plan made tt first second) is (inr (made.from, omega arith)) (grown c (0, refl)) (λ n has. grown n (suc has.0, has.1))

-- a chain keeps it
pub chain_made : (outer : ℕ) (sources targets : List ℕ) (target : Option ℕ) (list : List ℕ) (plan : Plan) → IsWellMade outer sources targets plan → IsTarget outer target → ((n : ℕ) → Has list n → CanRead outer sources plan n) → IsWellMade outer sources (targets_with targets target) (with_chain target list plan)
chain_made outer sources targets target [] plan made is reads = zero_made outer sources targets target plan made is
chain_made outer sources targets target (a ∷ []) plan made is reads = buffer_made outer sources targets target a plan made is (reads a (0, refl))
chain_made outer sources targets target (a ∷ b ∷ rest) plan made is reads = links_made outer sources targets target a b rest plan made is (reads a (0, refl)) (reads b (1, refl)) (λ n has. reads n (suc (suc has.0), has.1))

next_same : (target : Option ℕ) (n m : ℕ) → n ≡ m → next_after target (begun n) ≡ next_after target (begun m)
next_same target n m same = ap (λ x. next_after target (begun x)) same

gate_next_is : (target : Option ℕ) (plan : Plan) → next_after target plan ≡ next_after target (begun (plan.next + 0))
gate_next_is None plan = omega arith
gate_next_is (Some n) plan = omega arith

links_next : (target : Option ℕ) (a b : ℕ) (rest : List ℕ) (plan : Plan) → (with_links target a b rest plan).next ≡ next_after target (begun (plan.next + length rest))
links_next target a b [] plan = gate_next_is target plan
links_next target a b (c ∷ rest) plan = links_next target plan.next c rest (with_xor None a b plan) ∙ next_same target (suc plan.next + length rest) (plan.next + suc (length rest)) (omega arith)

-- the next inner net after a chain
pub chain_next : (target : Option ℕ) (list : List ℕ) (plan : Plan) → (with_chain target list plan).next ≡ next_after target (begun (plan.next + between list))
chain_next target [] plan = gate_next_is target plan
chain_next target (a ∷ []) plan = gate_next_is target plan
chain_next target (a ∷ b ∷ rest) plan = links_next target a b rest plan

pub between_few : (list : List ℕ) → between list ≤ length list
between_few [] = omega arith
between_few (a ∷ []) = omega arith
between_few (a ∷ b ∷ rest) = omega arith

-- a chain makes no more inner nets than its list has nets, and one
pub chain_grows : (target : Option ℕ) (list : List ℕ) (plan : Plan) → (plan.next ≤ (with_chain target list plan).next) × ((with_chain target list plan).next ≤ suc (plan.next + length list))
chain_grows None list plan = (omega (arith, chain_next None list plan), omega (arith, chain_next None list plan, between_few list))
chain_grows (Some n) list plan = (omega (arith, chain_next (Some n) list plan), omega (arith, chain_next (Some n) list plan, between_few list))

-- the inner net that a chain drives may be read after it
pub chain_read : (outer : ℕ) (sources targets : List ℕ) (list : List ℕ) (plan : Plan) → IsWellMade outer sources targets plan → CanRead outer sources (with_chain None list plan) (chain_net None list plan)
chain_read outer sources targets list plan made = inr (omega (arith, made.from), omega (arith, chain_next None list plan))
