-- The gates of a multiplier that divides by x after each coefficient of the first factor.
-- Source: Koç and Acar, Montgomery multiplication in GF(2^k), Designs, Codes and Cryptography 14, 1998.
use Rattle.std.specs.Prelude.{ℕ, ◌+◌, ◌-◌, ◌==◌, List, None, Some, slice_index, if◌then◌else◌}
use Rattle.std.specs.Int.{bit_at}
use Rattle.make_nets.specs.Plan.{Plan, begun, with_buffer, with_xor, each}
use Rattle.make_nets.specs.Row.{Row, begun_row, with_net, row_by, and_row, xor_row}

-- the gates after place j of the sum divided by x: one more where coefficient j + 1 of the modulus g is 1
abbrev pub moved_plan : (g : ℕ) → List ℕ → ℕ → Plan → Plan
moved_plan g sum j plan = if bit_at g (j + 1) == 1 then with_xor None (slice_index sum (j + 1)) (slice_index sum 0) plan else plan

-- the net of place j: that gate, which adds place 0 to place j + 1, or place j + 1 itself
abbrev pub moved_net : (g : ℕ) → List ℕ → ℕ → Plan → ℕ
moved_net g sum j plan = if bit_at g (j + 1) == 1 then plan.next else slice_index sum (j + 1)

-- the sum divided by x: the last place is place 0 itself
abbrev pub divided_row : (k g : ℕ) → Row → Row
divided_row k g sum = with_net (slice_index sum.nets 0) (row_by (k - 1) (moved_plan g sum.nets) (moved_net g sum.nets) sum.plan)

-- the products of coefficient i of the first factor, to which the row before is added; the first ones stand alone
abbrev pub summed_row : (k : ℕ) → List ℕ → List ℕ → ℕ → Row → Row
summed_row k a b i before =
    if i == 0
    then and_row k (slice_index a i) b before.plan
    else xor_row k before.nets (and_row k (slice_index a i) b before.plan).nets (and_row k (slice_index a i) b before.plan).plan

-- coefficient i of the first factor, with the division that follows
abbrev pub round : (k g : ℕ) → List ℕ → List ℕ → ℕ → Row → Row
round k g a b i before = divided_row k g (summed_row k a b i before)

-- all rounds, after the gates of a plan
abbrev pub rounds_from : (k g : ℕ) → List ℕ → List ℕ → Plan → Row
rounds_from k g a b plan = each k (round k g a b) (begun_row plan)

-- all rounds, over outer nets numbered below `outer`
abbrev pub rounds : (outer k g : ℕ) → List ℕ → List ℕ → Row
rounds outer k g a b = rounds_from k g a b (begun outer)

-- buffers from the row to the nets of the product
abbrev pub buffered : (k : ℕ) → List ℕ → Row → Plan
buffered k z row = each k (λ j. with_buffer (Some (slice_index z j)) (slice_index row.nets j)) row.plan

-- The multiplier of the field of degree k with the modulus g, where a, b and z are the nets of the factors and of the product.
abbrev pub montgomery_plan : (outer k g : ℕ) → (a b z : List ℕ) → Plan
montgomery_plan outer k g a b z = buffered k z (rounds outer k g a b)
