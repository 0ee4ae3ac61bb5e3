-- The bits of primary inputs and latches in one cycle, as the plain program sets them.
use Rattle.std.proofs.Common.{◌≡◌, ◌≢◌, ◌∙◌, ap, sym, subst, inl, inr, ℕ, ◌<◌, ◌+◌, Bool, List, length, map, Some, arith}
use Rattle.std.specs.Prelude.{slice_get}
use Rattle.std.specs.Option.{option_map}
use Rattle.std.proofs.Math.ListN.{set}
use Rattle.std.proofs.lemmas.Option.{slice_get-map}
use Rattle.lists.specs.Lists.{Has}
use Rattle.lists.specs.laws.HasLaws.{Has_left, Has_right, Has_map, times_two}
use Rattle.lists.specs.laws.NumberLaws.{nat_eq_or}
use Rattle.net_core.specs.LatchValue.{LatchValue}
use Rattle.net_core.specs.NetList.{NetList, nets}
use Rattle.net_core.specs.Sound.{IsSound, sources}
use Rattle.net_core.specs.Value.{bit_of, HasSourceBits}
use Rattle.net_core.proofs.EvalLemmas.{bit_set_same, bit_set_other}
use Rattle.circuit_model.specs.declared.circuit_feed.CircuitFeed.{CircuitFeed}
use Rattle.circuit_model.specs.declared.circuit_word.CircuitWord.{CircuitWord}
use Rattle.plain_runs.specs.private.Cycle.{IsInputBit, IsStartBit, HaveInputs, HaveStarts, HaveNexts, AreKept}
use Rattle.circuit_model.proofs.SourceLemmas.{latch_outs, source_inside, not_both, latches_once}

-- one more net of a list has what it is asked
pub net_done : (P : ℕ → Bool → Type 0) (ns : List ℕ) (bits : List Bool) (i n : ℕ) (v : Bool) → n < length bits → slice_get ns i ≡ Some n → P n v → ((k m : ℕ) → k < i → slice_get ns k ≡ Some m → P m (bit_of bits m)) → (k m : ℕ) → k < i + 1 → slice_get ns k ≡ Some m → P m (bit_of (set bits n v) m)
net_done P ns bits i n v within here is each k m less got =
    elim (nat_eq_or m n) [
      | inl same ↦
          let Q : ℕ → Type 0 = λ j. P j (bit_of (set bits n v) j) in
          subst Q (sym same) (subst (P n) (sym (bit_set_same bits n v within)) is)
      | inr other ↦ subst (P m) (sym (bit_set_other bits n v m other)) (each k m (before other) got)
    ]
  where
    before : m ≢ n → k < i
    before other = elim (nat_eq_or k i) [
      | inl at ↦ let here' : slice_get ns k ≡ Some n = ap (slice_get ns) at ∙ here in absurd (other (cc))
      | inr apart ↦ omega (arith, apart)
    ]

out_at : (ls : List LatchValue) (k : ℕ) (l : LatchValue) → slice_get ls k ≡ Some l → slice_get (map (λ (m : LatchValue). m.out) ls) k ≡ Some l.out
out_at ls k l got = slice_get-map (λ (m : LatchValue). m.out) ls k ∙ ap (option_map (λ (m : LatchValue). m.out)) got

module _ (net : NetList) (sound : IsSound net) where
  pub latch_inside : (l : LatchValue) → Has net.latches l → l.out < nets net
  latch_inside l has = source_inside net sound l.out (Has_right net.inputs (latch_outs net) l.out (Has_map (λ (m : LatchValue). m.out) net.latches l has))

  pub input_inside : (n : ℕ) → Has net.inputs n → n < nets net
  input_inside n has = source_inside net sound n (Has_left net.inputs (latch_outs net) n has)

  -- one more latch has what it is asked
  pub latch_done : (P : LatchValue → Bool → Type 0) (bits : List Bool) (i : ℕ) (l : LatchValue) (v : Bool) → length bits ≡ nets net → slice_get net.latches i ≡ Some l → P l v → ((k : ℕ) (m : LatchValue) → k < i → slice_get net.latches k ≡ Some m → P m (bit_of bits m.out)) → (k : ℕ) (m : LatchValue) → k < i + 1 → slice_get net.latches k ≡ Some m → P m (bit_of (set bits l.out v) m.out)
  latch_done P bits i l v long here is each k m less got =
      elim (nat_eq_or k i) [
        | inl same ↦
            let got' : slice_get net.latches i ≡ Some m = ap (slice_get net.latches) (sym same) ∙ got in
            let equal : l ≡ m = cc in
            let Q : LatchValue → Type 0 = λ j. P j (bit_of (set bits l.out v) j.out) in
            subst Q equal (subst (P l) (sym (bit_set_same bits l.out v (omega (arith, latch_inside l (i, here), long)))) is)
        | inr other ↦
            let low : k < i = omega (arith, other) in
            let outs : m.out ≢ l.out = λ same. omega (arith, latches_once net sound l.out, times_two l.out (latch_outs net) k i (out_at net.latches k m got ∙ ap Some same) (out_at net.latches i l here) low) in
            subst (P m) (sym (bit_set_other bits l.out v m.out outs)) (each k m low got)
      ]

  -- primary inputs keep their bits where a latch gets one
  pub kept_step : (before bits : List Bool) (l : LatchValue) (v : Bool) → Has net.latches l → AreKept net.inputs before bits → AreKept net.inputs before (set bits l.out v)
  kept_step before bits l v has kept n input =
      let latch : Has (latch_outs net) l.out = Has_map (λ (m : LatchValue). m.out) net.latches l has in
      let P : ℕ → Type 0 = λ m. Has (latch_outs net) m in
      bit_set_other bits l.out v n (λ same. not_both net sound n input (subst P (sym same) latch)) ∙ kept n input

module _ (net : NetList) (words : List CircuitWord) (xs : List ℕ) (feeds : List CircuitFeed) (t : ℕ) where
  pub inputs_settled : (start middle bits : List Bool) → HaveInputs words xs feeds t net.inputs start → AreKept net.inputs start middle → HasSourceBits net middle bits → HaveInputs words xs feeds t net.inputs bits
  inputs_settled start middle bits have kept settled n input =
      let same : bit_of bits n ≡ bit_of start n = settled n (Has_left net.inputs (latch_outs net) n input) ∙ kept n input in
      let P : Bool → Type 0 = IsInputBit words xs feeds t n in
      subst P (sym same) (have n input)

  out_source : (l : LatchValue) → Has net.latches l → Has (sources net) l.out
  out_source l has = Has_right net.inputs (latch_outs net) l.out (Has_map (λ (m : LatchValue). m.out) net.latches l has)

  pub starts_settled : (middle bits : List Bool) → HaveStarts words xs net.latches middle → HasSourceBits net middle bits → HaveStarts words xs net.latches bits
  starts_settled middle bits have settled l has =
      let P : Bool → Type 0 = IsStartBit words xs l in
      subst P (sym (settled l.out (out_source l has))) (have l has)

  pub nexts_settled : (before middle bits : List Bool) → HaveNexts net.latches before middle → HasSourceBits net middle bits → HaveNexts net.latches before bits
  nexts_settled before middle bits have settled l has = settled l.out (out_source l has) ∙ have l has
