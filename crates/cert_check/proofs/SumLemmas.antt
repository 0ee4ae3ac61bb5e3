-- Sums of basis elements, place by place, and tables over ranks.
use Rattle.std.proofs.Common.{◌≡◌, ℕ, zero, suc, ◌<◌, Bool, cond, List, [], ◌∷◌, length, map, get_or, take, bit_xor, sym, ap, ◌∙◌, arith}
use Rattle.lists.specs.laws.NumberLaws.{lowest_times, rest_of_choice}
use lib.Bits.{xor_zero_l, xor_zero_r, xor_assoc}
use Rattle.irreducible.specs.Span.{combination}
use Rattle.poly_mixed.specs.Table.{index, table_bit, table_value}
use Rattle.poly_mixed.proofs.SharedLemmas.{index_map}
use Rattle.cert_check.specs.Running.{rank_among}

-- the sum of chosen elements, place by place
pub sum_more : (f : ℕ → Bool) (basis ns : List ℕ) (i : ℕ) → i < length basis → i < length ns
    → combination (take (suc i) basis) (index f (take (suc i) ns)) ≡ bit_xor (combination (take i basis) (index f (take i ns))) (cond (f (get_or ns i 0)) (get_or basis i 0) 0)
sum_more f [] ns i l m = absurd (omega arith)
sum_more f (b ∷ bs) [] i l m = absurd (omega arith)
sum_more f (b ∷ bs) (n ∷ ns) zero l m = ap (λ x. bit_xor x 0) (lowest_times (f n) 0 b) ∙ (xor_zero_r (cond (f n) b 0) ∙ sym (xor_zero_l (cond (f n) b 0)))
sum_more f (b ∷ bs) (n ∷ ns) (suc i) l m =
    let more = index f (take (suc i) ns) in
    let less = index f (take i ns) in
    (λ j. bit_xor (lowest_times (f n) more b j) (combination (take (suc i) bs) (rest_of_choice (f n) more j)))
    ∙ (ap (bit_xor (cond (f n) b 0)) (sum_more f bs ns i (omega arith) (omega arith))
    ∙ (sym (xor_assoc (cond (f n) b 0) (combination (take i bs) less) (cond (f (get_or ns i 0)) (get_or bs i 0) 0))
    ∙ sym (λ j. bit_xor (bit_xor (lowest_times (f n) less b j) (combination (take i bs) (rest_of_choice (f n) less j))) (cond (f (get_or ns i 0)) (get_or bs i 0) 0))))

-- a table over the ranks of nets, which is added
pub table_added : (bit : ℕ → Bool) (order inputs ranks : List ℕ) (table other old new : ℕ) → ranks ≡ map (rank_among order) inputs → other ≡ table → new ≡ bit_xor old (table_value other ranks bit) → new ≡ bit_xor old (table_value table inputs (λ n. bit (rank_among order n)))
table_added bit order inputs ranks table other old new are same is =
    is
    ∙ ap (bit_xor old) ((λ i. cond (table_bit (same i) (index bit (are i))) 1 0)
    ∙ ap (λ n. cond (table_bit table n) 1 0) (index_map bit (rank_among order) inputs))
