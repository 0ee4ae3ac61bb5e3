-- Steps one after another, and lists one after another.
use Rattle.std.proofs.Common.{◌≡◌, inl, inr, ℕ, zero, suc, ◌<◌, ◌≤◌, Bool, List, None, Some, arith}
use Rattle.lists.specs.Lists.{Has}
use Rattle.lists.specs.laws.HasLaws.{Has_cases}
use Rattle.lists.specs.laws.NumberLaws.{nat_eq_or}
use Rattle.make_nets.specs.Plan.{Plan, each, gathered}
use Rattle.make_nets.specs.PlanValue.{Agrees}

-- what holds at first and is kept by each step holds after all
pub each_keeps : {S : Type 0} (P : ℕ → S → Type 0) (step : ℕ → S → S) (start : S) (n : ℕ) → P 0 start → ((i : ℕ) (s : S) → i < n → P i s → P (suc i) (step i s)) → P n (each n step start)
each_keeps P step start zero first kept = first
each_keeps P step start (suc n) first kept = kept n (each n step start) (omega arith) (each_keeps P step start n first (λ i s less. kept i s (omega arith)))

-- where each step leads on, what comes after some steps leads to what comes after all
pub each_leads : {S : Type 0} (R : S → S → Type 0) (step : ℕ → S → S) (start : S) (i n : ℕ) → ((s : S) → R s s) → ((r s t : S) → R r s → R s t → R r t) → ((j : ℕ) (s : S) → R s (step j s)) → i ≤ n → R (each i step start) (each n step start)
each_leads R step start i zero self then leads less = let none : i ≡ 0 = omega arith in rw none (self start)
each_leads R step start i (suc n) self then leads less =
    elim (nat_eq_or i (suc n)) [
      | inl here ↦ rw here (self (each (suc n) step start))
      | inr low ↦ then (each i step start) (each n step start) (step n (each n step start)) (each_leads R step start i n self then leads (omega (arith, low, less))) (leads n (each n step start))
    ]

-- an element of lists one after the other is one of a list
pub gathered_has : {A : Type 0} (f : ℕ → List A) (n : ℕ) (x : A) → Has (gathered n f) x → (i : ℕ) × (i < n) × Has (f i) x
gathered_has f zero x (k, got) = let none : None ≡ Some x = got in absurd (cc)
gathered_has f (suc n) x has =
    elim (Has_cases (gathered n f) (f n) x has) [
      | inl before ↦ let found = gathered_has f n x before in (found.0, omega (arith, found.1), found.2)
      | inr here ↦ (n, omega arith, here)
    ]

-- what agrees with all gates agrees with those of the first steps
pub agrees_each : (bits : List Bool) (step : ℕ → Plan → Plan) (start : Plan) (i n : ℕ) → ((j : ℕ) (plan : Plan) → Agrees bits (step j plan) → Agrees bits plan) → i ≤ n → Agrees bits (each n step start) → Agrees bits (each i step start)
agrees_each bits step start i n before less = each_leads (λ p q. Agrees bits q → Agrees bits p) step start i n (λ p agrees. agrees) (λ p q r first second agrees. first (second agrees)) before less
