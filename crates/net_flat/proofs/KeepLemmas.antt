-- A walk loses no net.
use Rattle.std.proofs.Common.{◌≡◌, inl, inr, ap, refl, ℕ, zero, suc, ◌≤◌, ◌+◌, ◌^◌, Bool, true, false, cond, List, [], ◌∷◌, ◌++◌, length, Option, None, Some, Result, Ok, Err, arith}
use Rattle.std.specs.Prelude.{nat_le}
use Rattle.std.specs.Option.{option_map_or}
use Rattle.outcome.specs.Steps.{on_value}
use Rattle.net_core.specs.NetList.{nets, with_gate, with_latch}
use Rattle.net_core.specs.declared.fault.NetFault.TheVariants as faults
use Rattle.net_blif.specs.Design.{ModelValue, items_of, model_named}
use Rattle.net_blif.specs.Statement.{Token}
use Rattle.net_blif.specs.declared.item.Item.{Item}
use Rattle.net_blif.specs.declared.item.Item.TheVariants as items
use Rattle.net_flat.specs.Steps.{steps_of, Step, Mention, Input, Output, Gate, Latch, Enter}
use Rattle.net_flat.specs.Walk.{next_number}
use Rattle.net_flat.specs.private.LocalWalk.{back_to, entered, is_in_top, local_body, local_gate, local_latch, local_line, local_lines, local_step, local_walked, local_within, number_in, on_net, state_with, State}
use Rattle.net_flat.specs.declared.flat_fault.FlatFault.{FlatFault}
use Rattle.net_flat.specs.declared.flat_fault.FlatFault.TheVariants.{Net, TooManyInstances}
use Rattle.net_flat.proofs.StateLemmas.{mention_cases, new_longer}

-- no net is lost
grows_step : (s t : State) (step : Step Token) → local_step s step ≡ Ok t → nets s.net ≤ nets t.net
grows_step s t (Mention name) made =
    elim (mention_cases s t name made) [
      | inl (j, there, same) ↦ omega (arith, ap (λ (u : State). nets u.net) same)
      | inr (new, same) ↦ omega (arith, ap (λ (u : State). nets u.net) same, new_longer s name)
    ]
grows_step s t (Input name) made = let same : on_net s (record s.net { inputs = s.net.inputs ++ number_in s name ∷ [] }) ≡ t = cc in omega (arith, ap (λ (u : State). nets u.net) same)
grows_step s t (Output name) made = let same : on_net s (record s.net { outputs = s.net.outputs ++ number_in s name ∷ [] }) ≡ t = cc in omega (arith, ap (λ (u : State). nets u.net) same)
grows_step s t (Gate inputs out table) made = by (nat_le (2 ^ 20) (length s.net.gates + length s.net.latches)) made
  where
    by : (b : Bool) → cond b (Err (Net faults.TooManyGates)) (Ok (on_net s (with_gate s.net (local_gate s inputs out table)))) ≡ Ok t → nets s.net ≤ nets t.net
    by true e = absurd (cc)
    by false e = let same : on_net s (with_gate s.net (local_gate s inputs out table)) ≡ t = cc in omega (arith, ap (λ (u : State). nets u.net) same)
grows_step s t (Latch next out start) made = by (nat_le (2 ^ 20) (length s.net.gates + length s.net.latches)) made
  where
    by : (b : Bool) → cond b (Err (Net faults.TooManyGates)) (Ok (on_net s (with_latch s.net (local_latch s next out start)))) ≡ Ok t → nets s.net ≤ nets t.net
    by true e = absurd (cc)
    by false e = let same : on_net s (with_latch s.net (local_latch s next out start)) ≡ t = cc in omega (arith, ap (λ (u : State). nets u.net) same)
grows_step s t Enter made = by (nat_le (2 ^ 20) s.instances) made
  where
    by : (b : Bool) → cond b (Err TooManyInstances) (Ok (state_with s.net (s.instances + 1) s.local)) ≡ Ok t → nets s.net ≤ nets t.net
    by true e = absurd (cc)
    by false e = let same : state_with s.net (s.instances + 1) s.local ≡ t = cc in omega (arith, ap (λ (u : State). nets u.net) same)

-- what goes on keeps the nets
abbrev Keeps : (State → Result State FlatFault) → Type 0
Keeps goes = (s t : State) → goes s ≡ Ok t → nets s.net ≤ nets t.net

keeps_after : (a b : State → Result State FlatFault) → Keeps a → Keeps b → Keeps (λ s. on_value b (a s))
keeps_after a b first second s t made = by (a s) refl made
  where
    by : (r : Result State FlatFault) → a s ≡ r → on_value b r ≡ Ok t → nets s.net ≤ nets t.net
    by (Ok mid) is e = omega (arith, first s mid is, second mid t e)
    by (Err f) is e = absurd (cc)

keeps_all : Keeps (λ s. Ok s)
keeps_all s t made = let same : s ≡ t = cc in omega (arith, ap (λ (u : State). nets u.net) same)

grows_walked : (steps : List (Step Token)) → Keeps (λ s. local_walked s steps)
grows_walked [] = keeps_all
grows_walked (step ∷ steps) = keeps_after (λ s. local_step s step) (λ s. local_walked s steps) (λ s t. grows_step s t step) (grows_walked steps)

module _ (design : List ModelValue) (goes : State → ℕ → Result State FlatFault) (keeps : (model : ℕ) → Keeps (λ s. goes s model)) where
  keeps_body : (n : ℕ) (item : Item) → Keeps (λ s. local_body goes design s n item)
  keeps_body n (items.Inputs list) s t made = keeps_all s t made
  keeps_body n (items.Outputs list) s t made = keeps_all s t made
  keeps_body n (items.Gate line inputs out table) s t made = keeps_all s t made
  keeps_body n (items.Latch line next out start) s t made = keeps_all s t made
  keeps_body n (items.Instance line name connections) s t made = by (model_named design name) made
    where
      back : (m : ℕ) (r : Result State FlatFault) → goes (entered s n connections) m ≡ r → on_value (back_to s) r ≡ Ok t → nets s.net ≤ nets t.net
      back m (Ok u) is e = let same : state_with u.net u.instances s.local ≡ t = cc in omega (arith, keeps m (entered s n connections) u is, ap (λ (x : State). nets x.net) same)
      back m (Err f) is e = absurd (cc)

      by : (found : Option ℕ) → option_map_or (λ m. on_value (back_to s) (goes (entered s n connections) m)) found (Ok s) ≡ Ok t → nets s.net ≤ nets t.net
      by None e = keeps_all s t e
      by (Some m) e = back m (goes (entered s n connections) m) refl e

  keeps_line : (n : ℕ) (item : Item) → Keeps (λ s. local_line goes design s n item)
  keeps_line n item s t made = keeps_after (λ s. local_walked s (steps_of (is_in_top s.local) item)) (λ s. local_body goes design s n item) (λ s t. grows_walked (steps_of (is_in_top s.local) item) s t) (keeps_body n item) s t made

  keeps_lines : (lines : List Item) (n : ℕ) → Keeps (λ s. local_lines goes design s n lines)
  keeps_lines [] n = keeps_all
  keeps_lines (item ∷ lines) n = keeps_after (λ s. local_line goes design s n item) (λ s. local_lines goes design s (next_number n item) lines) (keeps_line n item) (keeps_lines lines (next_number n item))

pub keeps_within : (depth : ℕ) (design : List ModelValue) (model : ℕ) → Keeps (λ s. local_within depth design s model)
unfolding local_within
keeps_within zero design model = keeps_all
keeps_within (suc depth) design model = keeps_lines design (local_within depth design) (keeps_within depth design) (items_of design model) 1
