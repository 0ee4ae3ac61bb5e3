-- The gates, cycle by cycle.
use Rattle.std.proofs.Common.{◌≡◌, ◌∙◌, ap, inl, inr, ℕ, zero, suc, ◌<◌, ◌≤◌, ◌+◌, ◌++◌, length, length-append, arith, add-one}
use Rattle.std.proofs.lemmas.Bool.{cases_lt}
use Rattle.net_core.specs.NetList.{NetList}
use Rattle.net_words.specs.Binding.{Binding}
use Rattle.unroll.specs.Gates.{first_gates, gates_to, next_gates}
use Rattle.unroll.specs.private.Plan.{HasRoom, net_count, with_gates}
use Rattle.unroll.proofs.GrowLemmas.{less_room, puts_gates, room_after}

-- gates of fewer cycles are fewer
pub fewer_gates : (net : NetList) (b : Binding) (c s t : ℕ) → s ≤ t → length (gates_to net b c s) ≤ length (gates_to net b c t)
fewer_gates net b c s zero within = let same : s ≡ 0 = omega arith in omega (arith, ap (λ i. length (gates_to net b c i)) same)
fewer_gates net b c s (suc t) within =
    elim (cases_lt t s) [
      | inl last ↦ let same : s ≡ suc t = omega (arith, last, within) in omega (arith, ap (λ i. length (gates_to net b c i)) same)
      | inr before ↦ omega (arith, length-append (gates_to net b c t) (next_gates net b c t), fewer_gates net b c s t before)
    ]

pub first_few : (net : NetList) (b : Binding) (c t : ℕ) → length (first_gates net b c) ≤ length (gates_to net b c t)
first_few net b c t = fewer_gates net b c 0 t (omega arith)

-- room for the gates of the next cycle
pub next_room : (net : NetList) (b : Binding) (c t : ℕ) (m now : NetList) → t < c → HasRoom (net_count net b c) (length (gates_to net b c c)) m → now ≡ with_gates m (gates_to net b c t) → HasRoom (net_count net b c) (length (next_gates net b c t)) now
next_room net b c t m now less has is = room_after (net_count net b c) m now (gates_to net b c t) (next_gates net b c t) (less_room (net_count net b c) (length (gates_to net b c c)) (length (gates_to net b c t ++ next_gates net b c t)) m (fewer_gates net b c (suc t) c less) has) is

-- the gates of one more cycle
pub next_step : (net : NetList) (b : Binding) (c t : ℕ) (m now new : NetList) → now ≡ with_gates m (gates_to net b c t) → new ≡ with_gates now (next_gates net b c t) → new ≡ with_gates m (gates_to net b c (t + 1))
next_step net b c t m now new was made = rw add-one (made ∙ (ap (λ n. with_gates n (next_gates net b c t)) was ∙ puts_gates m (gates_to net b c t) (next_gates net b c t)))
