-- The sources of circuits: primary inputs and latches, in words and in none.
use Rattle.std.proofs.Common.{◌≡◌, ◌≢◌, ◌∙◌, sym, refl, inl, inr, ℕ, suc, ◌<◌, ◌≤◌, Bool, true, false, List, [], ◌∷◌, Some, map, arith}
use Rattle.std.specs.Prelude.{slice_get}
use Rattle.std.proofs.lemmas.Option.{slice_get_within}
use Rattle.lists.specs.Lists.{Has, times}
use Rattle.lists.specs.laws.HasLaws.{Has_left, Has_right, Has_cases, All_has, times_get, times_append, times_none}
use Rattle.lists.specs.laws.ReadLaws.{get_below}
use Rattle.net_core.specs.NetList.{NetList, nets}
use Rattle.net_core.specs.GateValue.{GateValue}
use Rattle.net_core.specs.LatchValue.{LatchValue}
use Rattle.net_core.specs.Sound.{IsSound, sources}
use Rattle.net_core.specs.declared.latch.Start.{Start}
use Rattle.net_core.specs.declared.latch.Start.TheVariants.{Zero, One, Unknown}
use Rattle.net_words.specs.BoundTo.{StandsOn}
use Rattle.net_words.specs.declared.word.Role.{Role}
use Rattle.net_words.specs.declared.word.Role.TheVariants.{Input, State, Fed, Output}
use Rattle.net_core.proofs.LevelLemmas.{sources_inside}
use Rattle.circuit_model.specs.Word.{Word, word_nets}
use Rattle.circuit_model.specs.Circuit.{Circuit, IsInput}
use Rattle.circuit_model.specs.Run.{IsStart}
use Rattle.circuit_model.proofs.GivenLemmas.{has_or}

abbrev pub latch_outs : NetList → List ℕ
latch_outs net = map (λ (l : LatchValue). l.out) net.latches

pub find_word : (ws : List Word) (n : ℕ) → Has (word_nets ws) n → (i : ℕ) × (w : Word) × (slice_get ws i ≡ Some w) × Has w.nets n
find_word [] n has = let got = has.1 in absurd (cc)
find_word (w ∷ ws) n has =
    elim (Has_cases w.nets (word_nets ws) n has) [
      | inl own ↦ (0, w, refl, own)
      | inr later ↦ let rest = find_word ws n later in (suc rest.0, rest.1, rest.2, rest.3)
    ]

pub source_inside : (net : NetList) → IsSound net → (n : ℕ) → Has (sources net) n → n < nets net
source_inside net sound n has = All_has (λ m. m < nets net) (sources net) n (sources_inside net sound.inside) has

-- no primary input is the output of a latch
pub not_both : (net : NetList) → IsSound net → (n : ℕ) → Has net.inputs n → Has (latch_outs net) n → ⊥
not_both net sound n input latch =
    let within : n < nets net = source_inside net sound n (Has_left net.inputs (latch_outs net) n input) in
    omega (arith, sound.one n within, times_append n (sources net) (map (λ (g : GateValue). g.out) net.gates), times_append n net.inputs (latch_outs net), times_get n net.inputs input.0 input.1, times_get n (latch_outs net) latch.0 latch.1)

-- no net is the output of two latches
pub latches_once : (net : NetList) → IsSound net → (n : ℕ) → times n (latch_outs net) ≤ 1
latches_once net sound n =
    elim (has_or (latch_outs net) n) [
      | inl has ↦
          let within : n < nets net = source_inside net sound n (Has_right net.inputs (latch_outs net) n has) in
          omega (arith, sound.one n within, times_append n (sources net) (map (λ (g : GateValue). g.out) net.gates), times_append n net.inputs (latch_outs net))
      | inr none ↦ omega (arith, times_none n (latch_outs net) none)
    ]

pub role_input : (net : NetList) (r : Role) (n : ℕ) → IsSound net → r ≢ Output → StandsOn net r n → Has net.inputs n → r ≡ Input
role_input net Input n sound inner stands input = refl
role_input net State n sound inner stands input = absurd (not_both net sound n input stands)
role_input net Fed n sound inner stands input = absurd stands
role_input net Output n sound inner stands input = absurd (inner refl)

pub role_state : (net : NetList) (r : Role) (n : ℕ) → IsSound net → r ≢ Output → StandsOn net r n → Has (latch_outs net) n → r ≡ State
role_state net Input n sound inner stands latch = absurd (not_both net sound n stands latch)
role_state net State n sound inner stands latch = refl
role_state net Fed n sound inner stands latch = absurd stands
role_state net Output n sound inner stands latch = absurd (inner refl)

pub stands_source : (net : NetList) (r : Role) (n : ℕ) → r ≢ Output → StandsOn net r n → Has (sources net) n
stands_source net Input n inner stands = Has_left net.inputs (latch_outs net) n stands
stands_source net State n inner stands = Has_right net.inputs (latch_outs net) n stands
stands_source net Fed n inner stands = absurd stands
stands_source net Output n inner stands = absurd (inner refl)

pub start_bit : Start → Bool
start_bit Zero = false
start_bit One = true
start_bit Unknown = false

pub starts : (s : Start) → IsStart s (start_bit s)
unfolding start_bit
starts Zero = refl
starts One = refl
starts Unknown = tt

pub same_start : (s : Start) (a b : Bool) → s ≢ Unknown → IsStart s a → IsStart s b → a ≡ b
same_start Zero a b known x y = x ∙ sym y
same_start One a b known x y = x ∙ sym y
same_start Unknown a b known x y = absurd (known refl)

pub element_at : (c : Circuit) (xs : List ℕ) → IsInput c xs → (i : ℕ) (w : Word) → slice_get c.words i ≡ Some w → (x : ℕ) × (slice_get xs i ≡ Some x)
element_at c xs input i w got = get_below xs i (omega (arith, slice_get_within c.words i w got, input.long))
