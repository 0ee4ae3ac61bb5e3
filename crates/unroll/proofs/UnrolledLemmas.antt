-- Laws of unrolled nets.
use Rattle.std.proofs.Common.{◌≡◌, ◌∙◌, ap, refl, ℕ, ◌≤◌, ◌+◌, ◌*◌, ◌^◌, Bool, true, false, not, List, [], ◌∷◌, length, cond, arith}
use Rattle.std.specs.Prelude.{◌↔◌, if◌then◌else◌, filter}
use Rattle.net_core.specs.NetList.{NetList, nets}
use Rattle.net_core.specs.Sound.{IsSound}
use Rattle.net_words.specs.Binding.{Binding, BoundNet}
use Rattle.net_words.specs.BoundTo.{IsBoundTo}
use Rattle.net_words.specs.Feeds.{is_fed}
use Rattle.net_words.specs.OneCycle.{IsOneCycle}
use Rattle.net_words.specs.Roles.{same_role}
use Rattle.net_words.specs.declared.bound.BoundWord.{BoundWord}
use Rattle.net_words.specs.declared.word.Role.{Role}
use Rattle.net_words.specs.declared.word.Role.TheVariants.{Input, State, Fed, Output}
use Rattle.net_words.proofs.FlatLemmas.{flat_bound, rebound_cycle}
use Rattle.gf_field.specs.Field.{HasNoZeroDivisors}
use Rattle.gf_field.specs.Ring.{IsRing}
use Rattle.circuit_model.specs.OfBinding.{circuit_with, HaveBases}
use Rattle.circuit_model.specs.Out.{IsOut}
use Rattle.unroll.specs.Gates.{is_held}
use Rattle.unroll.specs.Nets.{all_cycles}
use Rattle.unroll.specs.Places.{fed_bits, fed_count}
use Rattle.unroll.specs.Unrolled.{in_one_cycle, is_flat, unrolled, unrolled_nets}
use Rattle.unroll.proofs.CountLemmas.{gates_long, nets_long}
use Rattle.unroll.proofs.SoundLemmas.{cycles_sound}
use Rattle.unroll.proofs.WordLemmas.{are_nets}
use Rattle.unroll.proofs.ClosedLemmas.{closed}
use Rattle.unroll.proofs.FlatLemmas.{flat_from}
use Rattle.unroll.proofs.FromRunLemmas.{job_of}
use Rattle.unroll.proofs.OutputLemmas.{cycles_output}
use Rattle.unroll.proofs.FlatOutputLemmas.{flat_back, flat_forth}

-- the unrolled net and its words, where this says whether nothing is left to unroll
abbrev pub chosen : Bool → NetList → Binding → ℕ → BoundNet
chosen r net b c = if r then (record { net = net; binding = b }) else in_one_cycle net b c

-- ---- counts

pub fed_words : (k : ℕ) (words : List BoundWord) → fed_count k words ≡ length (filter (λ word. same_role word.role Fed) words) * k
fed_words k [] = omega arith
fed_words k (word ∷ words) = by word.role (fed_words k words)
  where
    by : (r : Role) → fed_count k words ≡ length (filter (λ u. same_role u.role Fed) words) * k → fed_bits k r + fed_count k words ≡ length (cond (same_role r Fed) (word ∷ filter (λ u. same_role u.role Fed) words) (filter (λ u. same_role u.role Fed) words)) * k
    by Input rest = omega (arith, rest)
    by State rest = omega (arith, rest)
    by Fed rest = omega (arith, rest)
    by Output rest = omega (arith, rest)

pub nets_of_unrolled : (net : NetList) (b : Binding) (c : ℕ) → is_flat net b ≡ false → nets (unrolled net b c).net ≡ (c + 1) * nets net + length (filter (λ word. same_role word.role Fed) b.words) * b.k
nets_of_unrolled net b c left = ap (λ (r : Bool). nets (chosen r net b c).net) left ∙ omega (arith, nets_long net b c, fed_words b.k b.words)

pub gates_of_unrolled : (net : NetList) (b : Binding) (c : ℕ) → is_flat net b ≡ false → length (unrolled net b c).net.gates ≡ (c + 1) * length net.gates + length (filter (λ latch. not (is_held b latch)) net.latches) + c * (length net.inputs + length net.latches) + length (filter (is_fed b.feeds) net.inputs)
gates_of_unrolled net b c left = ap (λ (r : Bool). length (chosen r net b c).net.gates) left ∙ gates_long net b c c

-- ---- soundness

pub unrolled_sound : (net : NetList) (b : Binding) (c : ℕ) → IsSound net → IsBoundTo net b → nets (unrolled net b c).net ≤ 2 ^ 20 → length (unrolled net b c).net.gates ≤ 2 ^ 20 → IsSound (unrolled net b c).net
unrolled_sound net b c sound bound few small = by (is_flat net b) few small
  where
    by : (r : Bool) → nets (chosen r net b c).net ≤ 2 ^ 20 → length (chosen r net b c).net.gates ≤ 2 ^ 20 → IsSound (chosen r net b c).net
    by true few small = sound
    by false few small = cycles_sound net b c sound bound (omega (arith, few, nets_long net b c)) small

pub unrolled_cycle : (net : NetList) (b : Binding) (c : ℕ) → IsSound net → IsBoundTo net b → IsOneCycle (unrolled net b c).net (unrolled net b c).binding
unrolled_cycle net b c sound bound = by (is_flat net b) refl
  where
    by : (r : Bool) → is_flat net b ≡ r → IsOneCycle (chosen r net b c).net (chosen r net b c).binding
    by true is = flat_bound net b bound (flat_from net b bound is)
    by false is = rebound_cycle (all_cycles net b c) b (unrolled_nets net b c) bound.parts (are_nets net b c sound bound) (closed net b c sound bound)

-- ---- outputs

-- what the unrolled net computes is what the job computes
pub unrolled_output : (product : ℕ → ℕ → ℕ) (net : NetList) (b : Binding) (bases : List (List ℕ)) (c : ℕ) (xs : List ℕ) (e : ℕ) → IsRing b.k product → HasNoZeroDivisors b.k product → IsSound net → IsBoundTo net b → HaveBases b.k b.words bases → nets (unrolled net b c).net ≤ 2 ^ 20 → length (unrolled net b c).net.gates ≤ 2 ^ 20 → IsOut (circuit_with b.k product (unrolled net b c) bases) xs e ↔ IsOut (job_of product net b bases c) xs e
unrolled_output product net b bases c xs e ring no_zero_divisors sound bound based few small = by (is_flat net b) refl (unrolled_sound net b c sound bound few small)
  where
    by : (r : Bool) → is_flat net b ≡ r → IsSound (chosen r net b c).net → IsOut (circuit_with b.k product (chosen r net b c) bases) xs e ↔ IsOut (job_of product net b bases c) xs e
    by true is whole =
        let flat = flat_from net b bound is in
        (flat_back product net b bases c ring no_zero_divisors sound bound based flat xs e, flat_forth product net b bases c ring no_zero_divisors sound bound based flat xs e)
    by false is whole = cycles_output product net b bases c ring no_zero_divisors sound bound based whole xs e
