-- Runs of jobs, cycle by cycle.
use Rattle.std.proofs.Common.{◌≡◌, ◌∙◌, ap, sym, refl, subst, ℕ, zero, suc, ◌<◌, ◌≤◌, ◌+◌, ◌^◌, Bool, List, [], ◌∷◌, length, get_or, Some, arith}
use Rattle.std.specs.Prelude.{slice_get}
use Rattle.lists.specs.Lists.{Has}
use Rattle.net_core.specs.Value.{bit_of}
use Rattle.circuit_model.specs.Circuit.{Circuit, IsInput}
use Rattle.circuit_model.specs.Run.{IsClockCycle, IsFirst, IsNext, IsOpenRun}
use Rattle.circuit_model.specs.Out.{Ends}
use Rattle.make_laws.specs.Held.{IsHeld}

-- the bits of a cycle
pub row : List (List Bool) → ℕ → List Bool
row run t = get_or run t []

pub row_is : (run : List (List Bool)) (t : ℕ) → row run t ≡ get_or run t []
unfolding row
row_is run t = refl

row_here : (run : List (List Bool)) (t : ℕ) → t < length run → slice_get run t ≡ Some (row run t)
unfolding row
row_here [] t h = absurd (omega arith)
row_here (bits ∷ run) zero h = refl
row_here (bits ∷ run) (suc t) h = row_here run t (omega arith)

module _ (c : Circuit) (xs : List ℕ) (run : List (List Bool)) (is : IsOpenRun c xs run) where
  pub row_at : (t : ℕ) → t ≤ c.cycles → slice_get run t ≡ Some (row run t)
  row_at t h = row_here run t (let e = is.long in omega (arith, e))

  pub cycle_at : (t : ℕ) → t ≤ c.cycles → IsClockCycle c xs t (row run t)
  cycle_at t h = is.each t (row run t) (row_at t h)

  pub first_row : IsFirst c xs (row run 0)
  first_row = is.first (row run 0) (row_at 0 (omega arith))

  pub next_row : (t : ℕ) → t < c.cycles → IsNext c (row run t) (row run (suc t))
  next_row t h =
      let e : t + 1 ≡ suc t = omega arith in
      let P : ℕ → Type 0 = λ s. slice_get run s ≡ Some (row run (suc t)) in
      is.next t (row run t) (row run (suc t)) (row_at t (omega arith)) (subst P (sym e) (row_at (suc t) (omega arith)))

  -- what a latch holds
  pub held : (t next out : ℕ) → t < c.cycles → IsHeld c.net next out → bit_of (row run (suc t)) out ≡ bit_of (row run t) next
  held t next out h latch =
      ap (bit_of (row run (suc t))) (sym latch.out_is)
      ∙ next_row t h latch.latch latch.has
      ∙ ap (bit_of (row run t)) latch.next_is

  -- the bits at the end
  pub last_row : (e : ℕ) (ends : Ends c run e) → ends.last ≡ row run c.cycles
  last_row e ends = same ends.last (row run c.cycles) ends.at (row_at c.cycles (omega arith))
    where
      same : (u v : List Bool) → slice_get run c.cycles ≡ Some u → slice_get run c.cycles ≡ Some v → u ≡ v
      same u v at_u at_v = cc

-- two elements are an input of a job of two words
pub two_elements : (c : Circuit) (a b : ℕ) → length c.words ≡ 2 → a < 2 ^ c.k → b < 2 ^ c.k → IsInput c (a ∷ b ∷ [])
two_elements c a b long below_a below_b = record { long = sym long; elements = each }
  where
    each : (x : ℕ) → Has (a ∷ b ∷ []) x → x < 2 ^ c.k
    each x (zero, got) = let same : a ≡ x = cc in subst (λ (y : ℕ). y < 2 ^ c.k) same below_a
    each x (suc zero, got) = let same : b ≡ x = cc in subst (λ (y : ℕ). y < 2 ^ c.k) same below_b
    each x (suc (suc i), got) = absurd (cc)
