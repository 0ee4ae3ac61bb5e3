-- What stands on the nets of a plan stands on nets that there are.
use Rattle.std.proofs.Common.{◌≡◌, ◌∙◌, ap, sym, subst, ℕ, ◌<◌, ◌≤◌, ◌-◌, List, length, arith}
use Rattle.std.specs.Prelude.{All}
use Rattle.lists.specs.laws.ListLaws.{length_map as map_long}
use Rattle.net_core.specs.LatchValue.{LatchValue}
use Rattle.net_core.specs.NetList.{LabelValue, NetList, nets}
use Rattle.net_core.specs.Inside.{GateIsInside, LatchIsInside}
use Rattle.make_nets.specs.Plan.{Plan}
use Rattle.make_nets.specs.MadeNet.{made_net, names_in, with_inner}
use Rattle.make_nets.specs.Makeable.{IsMakeable}
use Rattle.make_nets.proofs.InnerLemmas.{inner_nets}
use Rattle.make_nets.proofs.SoundLemmas.{inside, nets_are}

-- how many nets there are when the inner ones are named
pub all_nets : (maker : NetList) (prefix : List ℕ) (outer next : ℕ) → outer ≡ length (names_in maker) → outer ≤ next → nets (with_inner maker prefix (next - outer)) ≡ next
all_nets maker prefix outer next is less = omega (arith, inner_nets maker prefix (next - outer), map_long (λ (l : LabelValue). l.text) maker.labels, is, less)

pub nets_after : (maker new : NetList) (prefix : List ℕ) (outer next counted : ℕ) → new ≡ with_inner maker prefix (counted - outer) → counted ≡ next → outer ≡ length (names_in maker) → outer ≤ next → nets new ≡ next
nets_after maker new prefix outer next counted is same long less = ap nets is ∙ (ap (λ n. nets (with_inner maker prefix (n - outer))) same ∙ all_nets maker prefix outer next long less)

module _ (names : List (List ℕ)) (prefix : List ℕ) (inputs outputs : List ℕ) (latches : List LatchValue) (targets : List ℕ) (plan : Plan) (fits : IsMakeable names prefix inputs outputs latches targets plan) (m : ℕ) (is : m ≡ plan.next) where
  there : nets (made_net names prefix inputs outputs latches plan) ≡ m
  there = nets_are names prefix inputs outputs latches targets plan fits ∙ sym is

  pub inputs_inside : All (λ n. n < m) inputs
  inputs_inside = let P : ℕ → Type 0 = λ x. All (λ n. n < x) inputs in subst P there (inside names prefix inputs outputs latches targets plan fits).inputs

  pub outputs_inside : All (λ n. n < m) outputs
  outputs_inside = let P : ℕ → Type 0 = λ x. All (λ n. n < x) outputs in subst P there (inside names prefix inputs outputs latches targets plan fits).outputs

  pub gates_inside : All (GateIsInside m) plan.gates
  gates_inside = let P : ℕ → Type 0 = λ x. All (GateIsInside x) plan.gates in subst P there (inside names prefix inputs outputs latches targets plan fits).gates

  pub latches_inside : All (LatchIsInside m) latches
  latches_inside = let P : ℕ → Type 0 = λ x. All (LatchIsInside x) latches in subst P there (inside names prefix inputs outputs latches targets plan fits).latches
