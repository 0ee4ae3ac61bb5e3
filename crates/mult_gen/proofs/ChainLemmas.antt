-- Chains into the bits of a word.
use Rattle.std.proofs.Common.{◌≡◌, ◌∙◌, ap, sym, refl, ℕ, zero, suc, ◌<◌, ◌≤◌, ◌+◌, ◌*◌, Bool, true, false, List, [], ◌∷◌, ◌++◌, length, take, None, Some, arith}
use Rattle.std.specs.Prelude.{slice_index}
use Rattle.std.proofs.Math.Nat.{suc-mul}
use Rattle.lists.specs.Lists.{Has}
use Rattle.make_nets.specs.Plan.{Plan, each, gathered, where_so, with_chain}
use Rattle.make_nets.specs.PlanShape.{IsWellMade}
use Rattle.make_nets.specs.PlanValue.{Agrees, bit_at_net, parity}
use Rattle.make_nets.proofs.OuterNets.{CanRead}
use Rattle.make_nets.proofs.EachLemmas.{agrees_each}
use Rattle.make_nets.proofs.LabelLemmas.{append_long}
use Rattle.make_nets.proofs.ShapeLemmas.{chain_made, chain_grows, can_read_more}
use Rattle.make_nets.proofs.ValueLemmas.{chain_before, chain_value}
use Rattle.make_nets.proofs.FrontLemmas.{take_past}
use Rattle.mult_gen.specs.Chains.{chains}

module _ (k : ℕ) (z : List ℕ) (lists : ℕ → List ℕ) (plan : Plan) where
  pub chains_before : (bits : List Bool) → Agrees bits (chains k z lists plan) → Agrees bits plan
  chains_before bits = agrees_each bits (λ l. with_chain (Some (slice_index z l)) (lists l)) plan 0 k (λ l p. chain_before bits (Some (slice_index z l)) (lists l) p) (omega arith)

  -- each bit of z is the exclusive or of its list
  pub chains_value : (bits : List Bool) (l : ℕ) → Agrees bits (chains k z lists plan) → l < k → bit_at_net bits (slice_index z l) ≡ parity bits (lists l)
  chains_value bits l agrees less =
      chain_value bits (Some (slice_index z l)) (lists l) (each l (λ l. with_chain (Some (slice_index z l)) (lists l)) plan)
      (agrees_each bits (λ l. with_chain (Some (slice_index z l)) (lists l)) plan (suc l) k (λ l p. chain_before bits (Some (slice_index z l)) (lists l) p) less agrees)

  more_next : (n : ℕ) → plan.next ≤ (each n (λ l. with_chain (Some (slice_index z l)) (lists l)) plan).next
  more_next zero = omega arith
  more_next (suc n) = omega (arith, more_next n, (chain_grows (Some (slice_index z n)) (lists n) (each n (λ l. with_chain (Some (slice_index z l)) (lists l)) plan)).0)

  -- each bit of z is driven once, from nets that were there
  pub chains_made : (outer : ℕ) (sources : List ℕ) → IsWellMade outer sources [] plan → ((l : ℕ) → l < k → slice_index z l < outer) → ((l n : ℕ) → l < k → Has (lists l) n → CanRead outer sources plan n) → IsWellMade outer sources (gathered k (λ l. slice_index z l ∷ [])) (chains k z lists plan)
  chains_made outer sources made low reads = by k (omega arith)
    where
      by : (n : ℕ) → n ≤ k → IsWellMade outer sources (gathered n (λ l. slice_index z l ∷ [])) (each n (λ l. with_chain (Some (slice_index z l)) (lists l)) plan)
      by zero less = made
      by (suc n) less =
          chain_made outer sources (gathered n (λ l. slice_index z l ∷ [])) (Some (slice_index z n)) (lists n) (each n (λ l. with_chain (Some (slice_index z l)) (lists l)) plan) (by n (omega (arith, less))) (low n (omega (arith, less)))
          (λ m has. can_read_more outer sources plan (each n (λ l. with_chain (Some (slice_index z l)) (lists l)) plan) m (more_next n) (reads n m (omega (arith, less)) has))

  -- a chain has fewer gates than its list has nets, and one
  pub chains_next : (n m : ℕ) → ((l : ℕ) → l < n → length (lists l) < m) → (each n (λ l. with_chain (Some (slice_index z l)) (lists l)) plan).next ≤ plan.next + n * m
  chains_next zero m few = omega arith
  chains_next (suc n) m few =
      omega (arith, chains_next n m (λ l less. few l (omega (arith, less))), few n (omega arith), (chain_grows (Some (slice_index z n)) (lists n) (each n (λ l. with_chain (Some (slice_index z l)) (lists l)) plan)).1, suc-mul n m)

-- lists that are no longer than m each
pub gathered_few : (f : ℕ → List ℕ) (n m : ℕ) → ((i : ℕ) → i < n → length (f i) ≤ m) → length (gathered n f) ≤ n * m
gathered_few f zero m few = omega arith
gathered_few f (suc n) m few = omega (arith, append_long (gathered n f) (f n), gathered_few f n m (λ i less. few i (omega (arith, less))), few n (omega arith), suc-mul n m)

pub where_few : (so : Bool) (n : ℕ) → length (where_so so n) ≤ 1
where_few true n = omega arith
where_few false n = omega arith

pub where_has : (so : Bool) (n m : ℕ) → Has (where_so so n) m → n ≡ m
where_has true n m (zero, got) = let same : Some n ≡ Some m = got in cc
where_has true n m (suc i, got) = let none : None ≡ Some m = got in absurd (cc)
where_has false n m (i, got) = let none : None ≡ Some m = got in absurd (cc)

take_index : (z : List ℕ) (i : ℕ) → i < length z → take (suc i) z ≡ take i z ++ slice_index z i ∷ []
take_index [] i less = absurd (omega arith)
take_index (x ∷ z) zero less = refl
take_index (x ∷ z) (suc i) less = ap (λ (v : List ℕ). x ∷ v) (take_index z i (omega (arith, less)))

gathered_take : (z : List ℕ) (n : ℕ) → n ≤ length z → gathered n (λ l. slice_index z l ∷ []) ≡ take n z
gathered_take [] zero less = refl
gathered_take (x ∷ z) zero less = refl
gathered_take z (suc n) less = ap (λ (v : List ℕ). v ++ slice_index z n ∷ []) (gathered_take z n (omega (arith, less))) ∙ sym (take_index z n less)

-- the nets of a list, one by one
pub gathered_all : (z : List ℕ) (k : ℕ) → length z ≡ k → gathered k (λ l. slice_index z l ∷ []) ≡ z
gathered_all z k long = gathered_take z k (omega (arith, long)) ∙ take_past z k (omega (arith, long))

-- an element of a list
pub index_has : (xs : List ℕ) (i : ℕ) → i < length xs → Has xs (slice_index xs i)
index_has [] i less = absurd (omega arith)
index_has (x ∷ xs) zero less = (0, refl)
index_has (x ∷ xs) (suc i) less = let rest = index_has xs i (omega (arith, less)) in (suc rest.0, rest.1)
