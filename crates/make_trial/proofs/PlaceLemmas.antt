-- The gates of a multiplier by position.
use Rattle.std.proofs.Common.{◌≡◌, ◌≢◌, ◌∙◌, ap, sym, refl, inl, inr, ℕ, zero, suc, ◌<◌, ◌+◌, ◌*◌, List, [], ◌∷◌, length, Some, arith}
use Rattle.std.specs.Prelude.{slice_get, slice_index}
use Rattle.std.proofs.Math.Nat.{suc-mul}
use Rattle.lists.specs.laws.ListLaws.{length_more}
use Rattle.lists.specs.laws.NumberLaws.{nat_eq_or}
use Rattle.lists.specs.laws.ReadLaws.{get_front, get_here}
use Rattle.net_core.specs.GateValue.{GateValue}
use Rattle.net_core.specs.Turned.{turned_gate, turned_gates}
use Rattle.make_nets.specs.Plan.{Plan, begun, each}
use Rattle.mult_gen.specs.Chains.{product_row, products}
use Rattle.mult_gen.proofs.ProductLemmas.{row_next, rows_next}

-- the gate of a product
abbrev pub and_gate : ℕ → ℕ → ℕ → GateValue
and_gate out a b = record { out = out; inputs = a ∷ b ∷ []; table = 8 }

row_long : (n x : ℕ) (b : List ℕ) (plan : Plan) → length (product_row n x b plan).gates ≡ length plan.gates + n
row_long zero x b plan = omega arith
row_long (suc n) x b plan = omega (arith, row_long n x b plan, length_more (product_row n x b plan).gates (and_gate (product_row n x b plan).next x (slice_index b n)))

row_at : (n x : ℕ) (b : List ℕ) (plan : Plan) (j : ℕ) → j < n → slice_get (product_row n x b plan).gates (length plan.gates + j) ≡ Some (and_gate (plan.next + j) x (slice_index b j))
row_at zero x b plan j less = absurd (omega arith)
row_at (suc n) x b plan j less =
    elim (nat_eq_or j n) [
      | inl same ↦
          let place : length plan.gates + j ≡ length (product_row n x b plan).gates = omega (arith, same, row_long n x b plan) in
          ap (slice_get (product_row (suc n) x b plan).gates) place
          ∙ (get_here (product_row n x b plan).gates (and_gate (product_row n x b plan).next x (slice_index b n)) []
          ∙ (ap (λ m. Some (and_gate m x (slice_index b n))) (row_next n x b plan) ∙ ap (λ m. Some (and_gate (plan.next + m) x (slice_index b m))) (sym same)))
      | inr other ↦ get_front (product_row n x b plan).gates (and_gate (product_row n x b plan).next x (slice_index b n) ∷ []) (length plan.gates + j) (and_gate (plan.next + j) x (slice_index b j)) (row_at n x b plan j (omega (arith, less, other)))
    ]

kept : (n x : ℕ) (b : List ℕ) (plan : Plan) (q : ℕ) (g : GateValue) → slice_get plan.gates q ≡ Some g → slice_get (product_row n x b plan).gates q ≡ Some g
kept zero x b plan q g got = got
kept (suc n) x b plan q g got = get_front (product_row n x b plan).gates (and_gate (product_row n x b plan).next x (slice_index b n) ∷ []) q g (kept n x b plan q g got)

rows_long : (n k : ℕ) (a b : List ℕ) (plan : Plan) → length (each n (λ i. product_row k (slice_index a i) b) plan).gates ≡ length plan.gates + n * k
rows_long zero k a b plan = omega arith
rows_long (suc n) k a b plan = omega (arith, rows_long n k a b plan, row_long k (slice_index a n) b (each n (λ i. product_row k (slice_index a i) b) plan), suc-mul n k)

rows_at : (n k : ℕ) (a b : List ℕ) (plan : Plan) (i j : ℕ) → i < n → j < k → slice_get (each n (λ i. product_row k (slice_index a i) b) plan).gates (length plan.gates + i * k + j) ≡ Some (and_gate (plan.next + i * k + j) (slice_index a i) (slice_index b j))
rows_at zero k a b plan i j less low = absurd (omega arith)
rows_at (suc n) k a b plan i j less low =
    elim (nat_eq_or i n) [
      | inl same ↦
          let place : length plan.gates + i * k + j ≡ length (each n (λ i. product_row k (slice_index a i) b) plan).gates + j = omega (arith, ap (λ m. m * k) same, rows_long n k a b plan) in
          ap (slice_get (each (suc n) (λ i. product_row k (slice_index a i) b) plan).gates) place
          ∙ (row_at k (slice_index a n) b (each n (λ i. product_row k (slice_index a i) b) plan) j low
          ∙ (ap (λ m. Some (and_gate (m + j) (slice_index a n) (slice_index b j))) (rows_next n k a b plan) ∙ ap (λ m. Some (and_gate (plan.next + m * k + j) (slice_index a m) (slice_index b j))) (sym same)))
      | inr other ↦ kept k (slice_index a n) b (each n (λ i. product_row k (slice_index a i) b) plan) (length plan.gates + i * k + j) (and_gate (plan.next + i * k + j) (slice_index a i) (slice_index b j)) (rows_at n k a b plan i j (omega (arith, less, other)) low)
    ]

-- the first k * k gates are the products, by the first factor and then by the second
pub product_at : (outer k : ℕ) (a b : List ℕ) (i j : ℕ) → i < k → j < k → slice_get (products k a b (begun outer)).gates (i * k + j) ≡ Some (and_gate (outer + i * k + j) (slice_index a i) (slice_index b j))
product_at outer k a b i j first second = ap (slice_get (products k a b (begun outer)).gates) (omega arith) ∙ rows_at k k a b (begun outer) i j first second

pub products_long : (outer k : ℕ) (a b : List ℕ) → length (products k a b (begun outer)).gates ≡ k * k
products_long outer k a b = rows_long k k a b (begun outer) ∙ omega arith

pub turned_other : (gates : List GateValue) (p index q : ℕ) (g : GateValue) → q ≢ p → slice_get gates q ≡ Some g → slice_get (turned_gates gates p index) q ≡ Some g
turned_other [] p index q g other got = absurd (cc)
turned_other (h ∷ gates) zero index zero g other got = absurd (other refl)
turned_other (h ∷ gates) zero index (suc q) g other got = got
turned_other (h ∷ gates) (suc p) index zero g other got = got
turned_other (h ∷ gates) (suc p) index (suc q) g other got = turned_other gates p index q g (λ e. other (ap suc e)) got

pub turned_here : (gates : List GateValue) (p index : ℕ) (g : GateValue) → slice_get gates p ≡ Some g → slice_get (turned_gates gates p index) p ≡ Some (turned_gate g index)
turned_here [] p index g got = absurd (cc)
turned_here (h ∷ gates) zero index g got = let same : h ≡ g = cc in ap (λ (x : GateValue). Some (turned_gate x index)) same
turned_here (h ∷ gates) (suc p) index g got = turned_here gates p index g got
