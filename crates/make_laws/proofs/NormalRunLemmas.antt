-- Runs of nets that multiply in a normal basis.
use Rattle.std.proofs.Common.{◌≡◌, ◌∙◌, ap, ap₂, sym, refl, subst, ℕ, zero, suc, ◌<◌, ◌^◌, ◌-◌, Bool, List, [], ◌∷◌, length, Some, arith}
use Rattle.std.specs.Prelude.{slice_get}
use Rattle.net_core.specs.Value.{bit_of, index_of}
use Rattle.net_words.specs.declared.word.Role.TheVariants.{State}
use Rattle.gf_basis.specs.Basis.{IsBasis}
use Rattle.gf_basis.specs.BasisFault.{conjugates_of}
use Rattle.irreducible.specs.Span.{combination}
use Rattle.circuit_model.specs.Circuit.{Circuit}
use Rattle.circuit_model.specs.Job.{IsJob}
use Rattle.circuit_model.specs.Out.{IsOut}
use Rattle.circuit_model.specs.Run.{IsRun}
use Rattle.circuit_model.specs.Word.{Word, HasElement}
use Rattle.circuit_model.proofs.OutLemmas.{job_some_out}
use Rattle.make_laws.specs.NormalRegisters.{AreNormalRegisters, HasNormalCoordinates, normal_element, turned}
use Rattle.make_laws.proofs.NormalLemmas.{normal_products}
use Rattle.make_laws.specs.Held.{bit_at_place, net_at, IsHeld, Multiplies}
use Rattle.make_laws.specs.NormalNets.{NormalNets, AreNormalNets, place_before}
use Rattle.make_laws.proofs.NetBitLemmas.{normal_of_nets}
use Rattle.make_laws.proofs.RunLemmas.{row, cycle_at, first_row, held, last_row, two_elements}

module _ (c : Circuit) (gamma : ℕ) (coordinates : ℕ → ℕ) (nets : NormalNets) (well : IsJob c) (are : AreNormalNets c gamma coordinates nets) where
  state : List ℕ → Word
  state ns = record { role = State; nets = ns; basis = conjugates_of c.k c.product gamma }

  first_word : slice_get c.words 0 ≡ Some (state nets.a)
  unfolding state
  first_word = ap (λ ws. slice_get ws 0) are.words

  second_word : slice_get c.words 1 ≡ Some (state nets.b)
  unfolding state
  second_word = ap (λ ws. slice_get ws 1) are.words

  a_long : length nets.a ≡ c.k
  unfolding state
  a_long = (well.words (state nets.a) (0, first_word)).nets

  b_long : length nets.b ≡ c.k
  unfolding state
  b_long = (well.words (state nets.b) (1, second_word)).nets

  z_long : length nets.z ≡ c.k
  z_long = ap length (sym are.output_nets) ∙ well.output.nets

  module _ (a b : ℕ) (run : List (List Bool)) (is : IsRun c (a ∷ b ∷ []) run) where
    at : List ℕ → ℕ → ℕ → Bool
    at ns t = bit_at_place (row run t) ns

    turns : (ns : List ℕ) → ((i : ℕ) → i < c.k → IsHeld c.net (net_at ns (place_before c.k i)) (net_at ns i)) → (t i : ℕ) → t < c.k → i < c.k → at ns (suc t) i ≡ turned c.k (at ns t) i
    unfolding at
    turns ns latches t zero h less = held c (a ∷ b ∷ []) run is.open_run t (net_at ns (c.k - 1)) (net_at ns 0) (let e = are.cycles in omega (arith, e)) (latches 0 less)
    turns ns latches t (suc i) h less = held c (a ∷ b ∷ []) run is.open_run t (net_at ns i) (net_at ns (suc i)) (let e = are.cycles in omega (arith, e)) (latches (suc i) less)

    registers : AreNormalRegisters c.k c.product gamma coordinates (at nets.a) (at nets.b) (at nets.z) (λ t. bit_of (row run t) nets.last)
    unfolding at
    registers = record {
      a_turns = turns nets.a are.a_turns;
      b_turns = turns nets.b are.b_turns;
      z_takes = λ t h. held c (a ∷ b ∷ []) run is.open_run t nets.last (net_at nets.z 0) (let e = are.cycles in omega (arith, e)) are.z_takes;
      z_moves = λ t i h less. held c (a ∷ b ∷ []) run is.open_run t (net_at nets.z i) (net_at nets.z (suc i)) (let e = are.cycles in omega (arith, e)) (are.z_moves i less);
      f_sums = λ t h. are.sums (row run t) (cycle_at c (a ∷ b ∷ []) run is.open_run t (let e = are.cycles in omega (arith, e))).consistent;
    }

    a_starts : normal_element c.k c.product gamma (at nets.a 0) ≡ a
    unfolding at state
    a_starts = sym (normal_of_nets c.k c.product gamma (row run 0) nets.a a_long) ∙ ((first_row c (a ∷ b ∷ []) run is.open_run).states 0 (state nets.a) a first_word refl refl).sum.is

    b_starts : normal_element c.k c.product gamma (at nets.b 0) ≡ b
    unfolding at state
    b_starts = sym (normal_of_nets c.k c.product gamma (row run 0) nets.b b_long) ∙ ((first_row c (a ∷ b ∷ []) run is.open_run).states 1 (state nets.b) b second_word refl refl).sum.is

    z_ends : (e : ℕ) (last : List Bool) → last ≡ row run c.cycles → HasElement last c.output e → normal_element c.k c.product gamma (at nets.z c.k) ≡ e
    unfolding at
    z_ends e last same element =
        sym (normal_of_nets c.k c.product gamma (row run c.k) nets.z z_long)
        ∙ ap₂ combination (sym are.output_basis) (ap (λ t. index_of (row run t) nets.z) (sym are.cycles) ∙ ap₂ index_of (sym same) (sym are.output_nets))
        ∙ element.sum.is

    pub output_is : (inside : gamma < 2 ^ c.k) → IsBasis c.k (conjugates_of c.k c.product gamma) → HasNormalCoordinates c.k c.product gamma coordinates → (e : ℕ) (last : List Bool) → last ≡ row run c.cycles → HasElement last c.output e → e ≡ c.product a b
    output_is inside basis coordinate e last same element =
        sym (z_ends e last same element)
        ∙ normal_products c.k c.product well.ring well.no_zero_divisors gamma coordinates (at nets.a) (at nets.b) (at nets.z) (λ t. bit_of (row run t) nets.last) inside basis coordinate registers
        ∙ ap₂ c.product a_starts b_starts

  pub normal_nets_multiply : (inside : gamma < 2 ^ c.k) → IsBasis c.k (conjugates_of c.k c.product gamma) → HasNormalCoordinates c.k c.product gamma coordinates → Multiplies c
  normal_nets_multiply inside basis coordinate a b below_a below_b =
      let out = job_some_out c (a ∷ b ∷ []) well (two_elements c a b (ap length are.words) below_a below_b) in
      let is = out.1 in
      let same : out.0 ≡ c.product a b = output_is a b is.run is.is_run inside basis coordinate out.0 is.ends.last (last_row c (a ∷ b ∷ []) is.run is.is_run.open_run out.0 is.ends) is.ends.element in
      let P : ℕ → Type 0 = λ e. IsOut c (a ∷ b ∷ []) e in
      subst P same is
