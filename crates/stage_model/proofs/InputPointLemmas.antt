-- Each input is that of a point.
use Rattle.std.proofs.Common.{◌≡◌, ◌∙◌, ap, sym, refl, inl, inr, ℕ, zero, suc, ◌<◌, ◌≤◌, ◌+◌, ◌-◌, ◌^◌, Bool, cond, not, List, [], ◌∷◌, ◌++◌, length, take, Some, arith}
use Rattle.std.specs.Prelude.{slice_get, slice_index, ◌==◌}
use Rattle.std.specs.List.{AllByRecursion, prefix_len}
use Rattle.std.proofs.Math.ListN.{replicate}
use Rattle.std.proofs.lemmas.List.{length-append, length-replicate}
use Rattle.std.proofs.lemmas.Bool.{eq-eqb, ne_eqb}
use Rattle.std.proofs.lemmas.Nat.{pow_pos}
use Rattle.lists.specs.Lists.{Has}
use Rattle.lists.specs.laws.NumberLaws.{nat_eq_or}
use Rattle.lists.specs.laws.ReadLaws.{get_below}
use Rattle.lists.specs.laws.TakeLaws.{front_of as front_taken}
use Rattle.net_core.specs.NetList.{nets}
use Rattle.net_core.specs.Value.{bit_of}
use Rattle.circuit_model.specs.Word.{Word, HasElement, word_nets}
use Rattle.circuit_model.specs.Circuit.{Circuit, IsInput}
use Rattle.circuit_model.specs.WellFormed.{IsWellFormed}
use Rattle.circuit_model.proofs.JobLemmas.{well_formed_is_job, first_elements}
use Rattle.circuit_model.proofs.SomeRunLemmas.{some_run}
use Rattle.circuit_model.proofs.SourceLemmas.{source_inside, stands_source}
use Rattle.poly_mixed.specs.Polynomial.{Point, IsPoint, IsElement}
use Rattle.stage_model.specs.Variables.{rank_in, point_bits, variables_of}
use Rattle.stage_model.specs.InputPoint.{IsAtInput, input_of}
use Rattle.stage_model.proofs.PointLemmas.{point_bits_at, same_word}
use Rattle.stage_model.proofs.VariableLemmas.{has_each}

-- at the rank of a net stands the net
net_at_rank : (xs : List ℕ) (n : ℕ) → rank_in xs n < length xs → slice_index xs (rank_in xs n) ≡ n
net_at_rank [] n less = absurd (omega arith)
net_at_rank (x ∷ xs) n less =
    elim (nat_eq_or x n) [
      | inl same ↦
          let at : rank_in (x ∷ xs) n ≡ 0 = ap (λ b. cond (not b) (1 + prefix_len (λ m. not (m == n)) xs) 0) (eq-eqb x n same) in
          ap (slice_index (x ∷ xs)) at ∙ same
      | inr other ↦
          let at : rank_in (x ∷ xs) n ≡ suc (rank_in xs n) = ap (λ b. cond (not b) (1 + prefix_len (λ m. not (m == n)) xs) 0) (ne_eqb x n other) ∙ omega arith in
          ap (slice_index (x ∷ xs)) at ∙ net_at_rank xs n (omega (arith, less, at))
    ]

abbrev zeros : ℕ → List ℕ
zeros m = replicate m 0

padded : (k : ℕ) (xs : List ℕ) → ((x : ℕ) → Has xs x → x < 2 ^ k) → (m : ℕ) → 0 < 2 ^ k → AllByRecursion (IsElement k) (xs ++ zeros m)
padded k [] are zero some = tt
padded k [] are (suc m) some = (some, padded k [] (λ x has. are x has) m some)
padded k (x ∷ xs) are m some = (are x (0, refl), padded k xs (λ y has. are y (suc has.0, has.1)) m some)

module _ (c : Circuit) (xs : List ℕ) (well : IsWellFormed c) (input : IsInput c xs) where
  -- the bits of the first cycle
  start : (bits : List Bool) × ((i : ℕ) (w : Word) (x : ℕ) → slice_get c.words i ≡ Some w → slice_get xs i ≡ Some x → HasElement bits w x)
  start =
      let run = some_run c xs (well_formed_is_job c well) input in
      let first = get_below run.0 0 (omega (arith, run.1.open_run.long)) in
      (first.0, λ i w x at got. first_elements c xs first.0 well (run.1.open_run.each 0 first.0 first.1) (run.1.open_run.first first.0 first.1) i w x at got tt)

  the_point : Point
  the_point = record { words = xs ++ zeros (8 - length c.words); is_one = λ r. bit_of start.0 (slice_index (variables_of c) r) }

  is_point : IsPoint c.k the_point
  unfolding the_point
  is_point = record {
    words = length-append xs (zeros (8 - length c.words)) ∙ long (length-replicate {A = ℕ} (8 - length c.words) 0);
    elements = padded c.k xs input.elements (8 - length c.words) (positive well.ring.some);
  }
    where
      long : length (zeros (8 - length c.words)) ≡ 8 - length c.words → length xs + length (zeros (8 - length c.words)) ≡ 8
      long e = omega (arith, e, input.long, well.few)

      positive : 1 ≤ c.k → 0 < 2 ^ c.k
      positive some = pow_pos c.k

  at_input : IsAtInput c xs the_point
  unfolding the_point
  at_input i w x at got any =
      same_word start.0 (point_bits (nets c.net) (variables_of c) the_point) w x
      (λ n has.
      let less : n < nets c.net = source_inside c.net well.sound n (stands_source c.net w.role n (well.inner w (i, at)) (well.places w n (i, at) has)) in
      let stands : slice_index (variables_of c) (rank_in (variables_of c) n) ≡ n = net_at_rank (variables_of c) n (has_each c.net (word_nets c.words) n less) in
      ap (bit_of start.0) (sym stands) ∙ sym (point_bits_at (nets c.net) (variables_of c) the_point n less))
      (start.1 i w x at got)

  same_input : input_of c the_point ≡ xs
  unfolding the_point
  same_input = ap (λ m. take m (xs ++ zeros (8 - length c.words))) (sym input.long) ∙ front_taken xs (zeros (8 - length c.words))

  pub point_of_input : (p : Point) × IsPoint c.k p × IsAtInput c xs p × (input_of c p ≡ xs)
  point_of_input = (the_point, is_point, at_input, same_input)
