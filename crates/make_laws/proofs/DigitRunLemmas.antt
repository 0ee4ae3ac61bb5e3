-- Runs of nets that multiply digit by digit.
use Rattle.std.proofs.Common.{◌≡◌, ◌∙◌, ap, ap₂, sym, refl, subst, ℕ, zero, suc, ◌<◌, ◌≤◌, ◌^◌, ◌+◌, ◌-◌, ◌*◌, Bool, false, List, [], ◌∷◌, length, get_or, Some, arith}
use Rattle.std.specs.Prelude.{slice_get, ◌==◌, ◌&&◌, bit_xor}
use Rattle.std.specs.Int.{bit_at}
use Rattle.lists.specs.Lists.{Has}
use Rattle.gf_field.specs.Polynomial.{sum_of_first}
use Rattle.gf_field.specs.Power.{power}
use Rattle.net_core.specs.Value.{bit_of, index_of}
use Rattle.net_core.specs.declared.latch.Start.{Start}
use Rattle.net_words.specs.declared.word.Role.TheVariants.{Fed, Input}
use Rattle.gf_basis.specs.Basis.{AreBits, HasOnlyBits}
use Rattle.irreducible.specs.Span.{combination}
use Rattle.circuit_model.specs.declared.circuit_feed.FeedSource.{FeedSource}
use Rattle.circuit_model.specs.declared.circuit_feed.FeedSource.TheVariants.{Bit}
use Rattle.circuit_model.specs.Circuit.{Circuit, IsInNoWord}
use Rattle.circuit_model.specs.Job.{IsJob}
use Rattle.circuit_model.specs.Out.{IsOut}
use Rattle.circuit_model.specs.Run.{HasSource, IsRun, IsStart}
use Rattle.circuit_model.specs.Word.{Word, HasElement}
use Rattle.circuit_model.proofs.OutLemmas.{job_some_out}
use Rattle.circuit_model.proofs.WordLemmas.{same_bits}
use Rattle.gf_basis.proofs.CodeLaws.{length-first_values}
use Rattle.gf_field.proofs.SharedLemmas.{same_sum}
use Rattle.make_laws.specs.Chosen.{chosen}
use Rattle.make_laws.specs.DigitRegisters.{AreDigitRegisters, HasUnitPowers, digit_step_sum, highest_digits, power_element}
use Rattle.make_laws.proofs.ChosenLemmas.{number_again}
use Rattle.make_laws.proofs.DigitLemmas.{digit_products, digit_sums}
use Rattle.make_laws.specs.Held.{bit_at_place, net_at, Multiplies}
use Rattle.make_laws.specs.DigitNets.{DigitNets, AreDigitNets, HoldSumsSoFar, unit_basis}
use Rattle.make_laws.proofs.NetBitLemmas.{power_of_bits, power_of_nets}
use Rattle.make_laws.proofs.RunLemmas.{row, row_is, cycle_at, first_row, held, last_row, two_elements}

-- the sums are the same for the same bits of b
same_step : (k : ℕ) (mul : ℕ → ℕ → ℕ) (x width : ℕ) (z d b other : ℕ → Bool) (l : ℕ) → ((j : ℕ) → j < k → b j ≡ other j) → digit_step_sum k mul x width z d b l ≡ digit_step_sum k mul x width z d other l
same_step k mul x width z d b other l same =
    ap (bit_xor (sum_of_first k (λ i. chosen (z i) (bit_at (power mul x (i + width)) l))))
    (same_sum width (λ e. sum_of_first k (λ j. chosen (d e && b j) (bit_at (power mul x (e + j)) l))) (λ e. sum_of_first k (λ j. chosen (d e && other j) (bit_at (power mul x (e + j)) l)))
    (λ e within. same_sum k (λ j. chosen (d e && b j) (bit_at (power mul x (e + j)) l)) (λ j. chosen (d e && other j) (bit_at (power mul x (e + j)) l))
    (λ j less. ap (λ v. chosen (d e && v) (bit_at (power mul x (e + j)) l)) (same j less))))

pub has_place : (ns : List ℕ) (j : ℕ) → j < length ns → Has ns (net_at ns j)
has_place [] j h = absurd (omega arith)
has_place (n ∷ ns) zero h = (0, refl)
has_place (n ∷ ns) (suc j) h = let has = has_place ns j (omega arith) in (suc has.0, has.1)

module _ (c : Circuit) (x width : ℕ) (nets : DigitNets) (well : IsJob c) (units : HasUnitPowers c.k c.product x) (are : AreDigitNets c x width nets) where
  fed_word : Word
  fed_word = record { role = Fed; nets = []; basis = unit_basis c.k }

  held_word : Word
  held_word = record { role = Input; nets = nets.b; basis = unit_basis c.k }

  first_word : slice_get c.words 0 ≡ Some fed_word
  unfolding fed_word
  first_word = ap (λ ws. slice_get ws 0) are.words

  second_word : slice_get c.words 1 ≡ Some held_word
  unfolding held_word
  second_word = ap (λ ws. slice_get ws 1) are.words

  b_long : length nets.b ≡ c.k
  unfolding held_word
  b_long = (well.words held_word (1, second_word)).nets

  z_long : length nets.z ≡ c.k
  z_long = ap length (sym are.output_nets) ∙ well.output.nets

  module _ (a b : ℕ) (run : List (List Bool)) (is : IsRun c (a ∷ b ∷ []) run) where
    at : List ℕ → ℕ → ℕ → Bool
    at ns t = bit_at_place (row run t) ns

    b_element : (t : ℕ) → t ≤ c.cycles → HasElement (row run t) held_word b
    unfolding held_word
    b_element t h = (cycle_at c (a ∷ b ∷ []) run is.open_run t h).inputs 1 held_word b second_word refl refl

    b_starts : power_element c.product x c.k (at nets.b 0) ≡ b
    unfolding at held_word
    b_starts = sym (power_of_nets c.k c.product well.ring x units (row run 0) nets.b b_long) ∙ (b_element 0 (omega arith)).sum.is

    -- b has the same bits in each cycle
    b_same : (t j : ℕ) → t ≤ c.cycles → j < c.k → at nets.b t j ≡ at nets.b 0 j
    unfolding at held_word
    b_same t j h less =
        same_bits c.k held_word b (row run t) (row run 0) (well.words held_word (1, second_word)).basis (is.open_run.input.elements b (1, refl)) (b_element t h) (b_element 0 (omega arith))
        (net_at nets.b j) (has_place nets.b j (let e = b_long in omega (arith, e)))

    z_starts : (l : ℕ) → l < c.k → at nets.z 0 l ≡ false
    unfolding at
    z_starts l less =
        let latch = are.z_takes l less in
        let none : IsInNoWord c latch.latch.out = let P : ℕ → Type 0 = IsInNoWord c in subst P (sym latch.out_is) (are.unnamed l less) in
        let P : Start → Type 0 = λ s. IsStart s (bit_of (row run 0) latch.latch.out) in
        ap (bit_of (row run 0)) (sym latch.out_is)
        ∙ subst P latch.start ((first_row c (a ∷ b ∷ []) run is.open_run).latches latch.latch latch.has none)

    z_ends : (e : ℕ) (last : List Bool) → last ≡ row run c.cycles → HasElement last c.output e → power_element c.product x c.k (at nets.z c.cycles) ≡ e
    unfolding at
    z_ends e last same element =
        sym (power_of_nets c.k c.product well.ring x units (row run c.cycles) nets.z z_long)
        ∙ ap₂ combination (sym are.output_basis) (ap₂ index_of (sym same) (sym are.output_nets))
        ∙ element.sum.is

    module _ (d : ℕ) (bits_are : AreBits (unit_basis c.k) a d) where
      fed_bits : ℕ → Bool
      fed_bits i = bit_at d i == 1

      d_below : d < 2 ^ c.k
      d_below = subst (λ (n : ℕ). d < 2 ^ n) (length-first_values c.k (λ i. 2 ^ i)) bits_are.short

      a_is : power_element c.product x c.k fed_bits ≡ a
      unfolding fed_bits
      a_is =
          sym (power_of_bits c.k c.product well.ring x units (λ i. bit_at d i == 1))
          ∙ ap (combination (unit_basis c.k)) (number_again c.k d d_below)
          ∙ bits_are.is

      fed_is : (t e : ℕ) → t < c.cycles → e < width → at nets.d t e ≡ fed_bits (c.k - width * suc t + e)
      unfolding at fed_bits fed_word
      fed_is t e h less =
          let P : FeedSource → Type 0 = λ s. HasSource c.words (a ∷ b ∷ []) s (bit_of (row run t) (net_at nets.d e)) in
          let source : HasSource c.words (a ∷ b ∷ []) (Bit 0 (c.k - width * suc t + e)) (bit_of (row run t) (net_at nets.d e)) = subst P (are.feeds t e h less) ((cycle_at c (a ∷ b ∷ []) run is.open_run t (omega arith)).feeds (net_at nets.d e) (are.are_fed e less)) in
          source fed_word a d first_word refl bits_are

      -- a sum that z takes, with the bits of b in the first cycle
      step : (t l : ℕ) → t < c.cycles → l < c.k → chosen (at nets.z (suc t) l) 1 ≡ digit_step_sum c.k c.product x width (at nets.z t) (at nets.d t) (at nets.b 0) l
      unfolding at
      step t l h less =
          let latch = are.z_takes l less in
          ap (λ v. chosen v 1) (held c (a ∷ b ∷ []) run is.open_run t (net_at nets.sums l) (net_at nets.z l) h (record { latch = latch.latch; has = latch.has; next_is = latch.next_is; out_is = latch.out_is }))
          ∙ are.sums (row run t) (cycle_at c (a ∷ b ∷ []) run is.open_run t (omega arith)).consistent l less
          ∙ same_step c.k c.product x width (at nets.z t) (at nets.d t) (at nets.b t) (at nets.b 0) l (λ j below. b_same t j (omega arith) below)

      registers : AreDigitRegisters c.k c.product x width c.cycles fed_bits (at nets.b 0) (at nets.z) (at nets.d)
      unfolding at
      registers = record {
        starts = z_starts;
        fed = fed_is;
        steps = step;
      }

      -- what was fed so far, times b
      sum_is : (t : ℕ) → t ≤ c.cycles → combination (unit_basis c.k) (index_of (get_or run t []) nets.z) ≡ c.product (highest_digits c.k c.product x width (λ i. bit_at d i == 1) t) b
      unfolding at fed_bits
      sum_is t early =
          ap (λ bits. combination (unit_basis c.k) (index_of bits nets.z)) (sym (row_is run t))
          ∙ power_of_nets c.k c.product well.ring x units (row run t) nets.z z_long
          ∙ digit_sums c.k c.product well.ring x width c.cycles t fed_bits (at nets.b 0) (at nets.z) (at nets.d) units are.cycles early registers
          ∙ ap (c.product (highest_digits c.k c.product x width fed_bits t)) b_starts

      output_is : (e : ℕ) (last : List Bool) → last ≡ row run c.cycles → HasElement last c.output e → e ≡ c.product a b
      unfolding at
      output_is e last same element =
          sym (z_ends e last same element)
          ∙ digit_products c.k c.product well.ring x width c.cycles fed_bits (at nets.b 0) (at nets.z) (at nets.d) units are.cycles registers
          ∙ ap₂ c.product a_is b_starts

  pub digit_nets_hold : HoldSumsSoFar c x width nets.z
  digit_nets_hold a b bits t run is bits_are early = sum_is a b run is bits bits_are t early

  pub digit_nets_multiply : Multiplies c
  unfolding fed_word
  digit_nets_multiply a b below_a below_b =
      let out = job_some_out c (a ∷ b ∷ []) well (two_elements c a b (ap length are.words) below_a below_b) in
      let is = out.1 in
      let only : HasOnlyBits (unit_basis c.k) a = (well.words fed_word (0, first_word)).basis.sums a below_a in
      let same : out.0 ≡ c.product a b = output_is a b is.run is.is_run only.choice only.chosen out.0 is.ends.last (last_row c (a ∷ b ∷ []) is.run is.is_run.open_run out.0 is.ends) is.ends.element in
      let P : ℕ → Type 0 = λ e. IsOut c (a ∷ b ∷ []) e in
      subst P same is
