-- The first cut: all nets are free.
use Rattle.std.proofs.Common.{◌≡◌, ℕ, zero, suc, ◌<◌, ◌^◌, Bool, cond, List, [], ◌∷◌, length, get_or, take, bit_xor, sym, ap, subst, ◌∙◌, arith}
use Rattle.lists.specs.Lists.{Has}
use Rattle.lists.specs.laws.NumberLaws.{lowest_times, rest_of_choice}
use lib.Bits.{xor_zero_l, xor_zero_r, xor_assoc}
use Rattle.irreducible.specs.Span.{combination}
use Rattle.net_core.specs.NetList.{NetList, nets}
use Rattle.net_core.specs.Value.{index_of}
use Rattle.poly_mixed.specs.Polynomial.{Terms, Point, IsPoint, IsReduced, value}
use Rattle.poly_mixed.specs.Table.{index}
use Rattle.circuit_model.specs.Word.{Word}
use Rattle.circuit_model.proofs.GivenLemmas.{bits_by, bits_long, bits_at}
use Rattle.circuit_model.proofs.WordLemmas.{index_small}
use Rattle.stage_model.specs.Variables.{point_bit}
use Rattle.stage_model.specs.Stage.{IsOfStage}
use Rattle.rato_reduce.proofs.EliminationLemmas.{Settled}
use Rattle.stage_model.proofs.SharedLemmas.{index_same}

-- the sum of chosen elements, place by place
pub sum_more : (f : ℕ → Bool) (basis ns : List ℕ) (i : ℕ) → i < length basis → i < length ns
    → combination (take (suc i) basis) (index f (take (suc i) ns)) ≡ bit_xor (combination (take i basis) (index f (take i ns))) (cond (f (get_or ns i 0)) (get_or basis i 0) 0)
sum_more f [] ns i l m = absurd (omega arith)
sum_more f (b ∷ bs) [] i l m = absurd (omega arith)
sum_more f (b ∷ bs) (n ∷ ns) zero l m = ap (λ x. bit_xor x 0) (lowest_times (f n) 0 b) ∙ (xor_zero_r (cond (f n) b 0) ∙ sym (xor_zero_l (cond (f n) b 0)))
sum_more f (b ∷ bs) (n ∷ ns) (suc i) l m =
    let more = index f (take (suc i) ns) in
    let less = index f (take i ns) in
    (λ j. bit_xor (lowest_times (f n) more b j) (combination (take (suc i) bs) (rest_of_choice (f n) more j)))
    ∙ (ap (bit_xor (cond (f n) b 0)) (sum_more f bs ns i (omega arith) (omega arith))
    ∙ (sym (xor_assoc (cond (f n) b 0) (combination (take i bs) less) (cond (f (get_or ns i 0)) (get_or bs i 0) 0))
    ∙ sym (λ j. bit_xor (bit_xor (lowest_times (f n) less b j) (combination (take i bs) (rest_of_choice (f n) less j))) (cond (f (get_or ns i 0)) (get_or bs i 0) 0))))

module _ (net : NetList) (variables : List ℕ) (output : Word) (order : List ℕ) (k : ℕ) (mul : ℕ → ℕ → ℕ) where
  -- terms whose value is the sum of the basis elements at the point's bits of the word are of the first cut
  pub is_first : (ts : Terms) → length output.basis ≡ k → length output.nets ≡ k → ((m : ℕ) → Has output.nets m → m < nets net) → IsReduced k ts
      → ((p : Point) → IsPoint k p → value mul p ts ≡ combination output.basis (index (point_bit variables p) output.nets))
      → IsOfStage k mul (Settled net variables output order 0) ts
  is_first ts long_basis long_nets inside reduced values = record {
    reduced = reduced;
    values = λ p is_point.
        let bits = bits_by (nets net) (point_bit variables p) in
        let same : index_of bits output.nets ≡ index (point_bit variables p) output.nets = index_same bits (point_bit variables p) output.nets (λ m has. bits_at (nets net) (point_bit variables p) m (inside m has)) in
        let small : index_of bits output.nets < 2 ^ length output.nets = index_small bits output.nets in
        let long : length output.nets ≡ length output.basis = omega arith in
        let P : ℕ → Type 0 = λ d. index_of bits output.nets < 2 ^ d in
        record {
          bits = bits;
          settled = record {
            long = bits_long (nets net) (point_bit variables p);
            free = λ m less none. bits_at (nets net) (point_bit variables p) m less;
            right = λ g (i, q, less, at_i, at_q). absurd (omega (arith, less));
          };
          element = record {
            long = sym long;
            sum = record { short = subst P long small; is = ap (combination output.basis) same ∙ sym (values p is_point) };
          };
        };
  }
