-- The last cut does not depend on nets that are in no word.
use Rattle.std.proofs.Common.{◌≡◌, ◌≢◌, ◌∙◌, ap, sym, subst, inl, inr, ℕ, zero, suc, ◌<◌, ◌≤◌, ◌+◌, Bool, false, cond, not, List, [], ◌∷◌, ◌++◌, length, arith}
use Rattle.std.specs.Prelude.{◌==◌}
use Rattle.std.specs.List.{prefix_len}
use Rattle.std.proofs.lemmas.Bool.{eq-eqb, ne_eqb}
use Rattle.lists.specs.Lists.{Has}
use Rattle.lists.specs.laws.NumberLaws.{nat_eq_or}
use Rattle.net_core.specs.NetList.{nets}
use Rattle.net_core.specs.Value.{bit_of}
use Rattle.net_words.specs.Variables.{others}
use Rattle.circuit_model.specs.Word.{word_nets}
use Rattle.circuit_model.specs.WellFormed.{IsWellFormed}
use Rattle.circuit_model.specs.Circuit.{Circuit}
use Rattle.circuit_model.proofs.WordLemmas.{has_word}
use Rattle.circuit_model.proofs.SourceLemmas.{source_inside, stands_source}
use Rattle.poly_mixed.specs.Polynomial.{Terms, Point, IsPoint}
use Rattle.poly_mixed.specs.Cofactor.{LacksBit, at_bit}
use Rattle.stage_model.specs.Variables.{rank_in, point_bits, variables_of}
use Rattle.stage_model.specs.InputPoint.{IsAtInput}
use Rattle.stage_model.specs.Cut.{CutOf}
use Rattle.stage_model.specs.Stage.{IsOfStage}
use Rattle.stage_model.proofs.PointLemmas.{point_bits_at, same_word}
use Rattle.stage_model.proofs.CutLemmas.{one_cut}
use Rattle.stage_model.proofs.LastCutLemmas.{last_cut}
use Rattle.stage_model.proofs.MixLemmas.{some_mixed_input}
use Rattle.stage_model.proofs.SizeLemmas.{lacks}

-- what stands in the front of a list has its rank there
pub front_rank : (xs ys : List ℕ) (n : ℕ) → Has xs n → rank_in (xs ++ ys) n < length xs
front_rank [] ys n has = let got = has.1 in absurd (cc)
front_rank (x ∷ xs) ys n has =
    elim (nat_eq_or x n) [
      | inl same ↦
          let P : ℕ → Type 0 = λ m. m < suc (length xs) in
          subst P (sym (ap (λ b. cond (not b) (1 + prefix_len (λ m. not (m == n)) (xs ++ ys)) 0) (eq-eqb x n same))) (omega arith)
      | inr other ↦
          let P : ℕ → Type 0 = λ m. m < suc (length xs) in
          let rest : rank_in (xs ++ ys) n < length xs = front_rank xs ys n (later has other) in
          subst P (sym (ap (λ b. cond (not b) (1 + prefix_len (λ m. not (m == n)) (xs ++ ys)) 0) (ne_eqb x n other))) (omega arith)
    ]
  where
    later : Has (x ∷ xs) n → x ≢ n → Has xs n
    later (zero, got) other = absurd (other (cc))
    later (suc k, got) other = (k, got)

module _ (c : Circuit) (well : IsWellFormed c) where
  -- the point's bits of a word with another bit in no word
  pub other_bits : (p : Point) (rank : ℕ) (b : Bool) (xs : List ℕ) → length (word_nets c.words) ≤ rank → IsAtInput c xs p → IsAtInput c xs (at_bit p rank b)
  other_bits p rank b xs high is i w x got at any =
      same_word (point_bits (nets c.net) (variables_of c) p) (point_bits (nets c.net) (variables_of c) (at_bit p rank b)) w x (λ n has. same n (within n has) (low n has)) (is i w x got at any)
    where
      within : (n : ℕ) → Has w.nets n → n < nets c.net
      within n has = source_inside c.net well.sound n (stands_source c.net w.role n (well.inner w (i, got)) (well.places w n (i, got) has))

      low : (n : ℕ) → Has w.nets n → rank_in (variables_of c) n ≢ rank
      low n has e = let less = front_rank (word_nets c.words) (others (nets c.net) (word_nets c.words)) n (has_word c.words i w n got has) in omega (arith, less, e, high)

      same : (n : ℕ) → n < nets c.net → rank_in (variables_of c) n ≢ rank → bit_of (point_bits (nets c.net) (variables_of c) p) n ≡ bit_of (point_bits (nets c.net) (variables_of c) (at_bit p rank b)) n
      same n less other =
          point_bits_at (nets c.net) (variables_of c) p n less
          ∙ (sym (ap (λ v. cond v b (p.is_one (rank_in (variables_of c) n))) (ne_eqb (rank_in (variables_of c) n) rank other))
          ∙ sym (point_bits_at (nets c.net) (variables_of c) (at_bit p rank b) n less))

  module _ (flat : c.net.latches ≡ []) where
    blind : (rank : ℕ) → length (word_nets c.words) ≤ rank → (p : Point) (e : ℕ) → IsPoint c.k p → CutOf c (length c.net.gates) p e → CutOf c (length c.net.gates) (at_bit p rank false) e
    blind rank high p e at cut =
        let found = some_mixed_input c well 0 p at in
        let is : IsAtInput c found.0 p = λ i w x got here any. found.2.bits i x w (omega arith) got here in
        (last_cut c well flat (at_bit p rank false) found.0 e found.1 (other_bits p rank false found.0 high is)).1
        ((last_cut c well flat p found.0 e found.1 is).0 cut)

    pub in_words : (ts : Terms) (rank : ℕ) → IsOfStage c.k c.product (CutOf c (length c.net.gates)) ts → length (word_nets c.words) ≤ rank → LacksBit rank ts
    in_words ts rank is high =
        lacks c.k c.product well.ring well.no_zero_divisors (CutOf c (length c.net.gates)) (λ p x y at a b. one_cut c well (length c.net.gates) p x y a b) rank ts is (blind rank high)
