-- Gates read at most two nets each.
use Rattle.std.proofs.Common.{ℕ, ◌+◌, ◌-◌, Bool, true, false, List, None, Some}
use Rattle.std.specs.Prelude.{slice_index, ◌==◌, if◌then◌else◌}
use Rattle.std.specs.Int.{bit_at}
use Rattle.make_nets.specs.Plan.{Plan, begun, with_buffer, with_xor}
use Rattle.make_nets.specs.Row.{Row, and_row, begun_row, xor_row}
use Rattle.make_nets.specs.ShortPlan.{ReadTwo}
use Rattle.make_nets.proofs.EachLemmas.{each_keeps}
use Rattle.make_nets.proofs.TwoLemmas.{and_row_two, begun_two, buffer_two, each_two, row_two, xor_row_two, xor_two}
use Rattle.mult_montgomery.specs.Montgomery.{divided_row, montgomery_plan, moved_net, moved_plan, round, rounds, summed_row}

moved_two : (g : ℕ) (sum : List ℕ) (j : ℕ) (plan : Plan) → ReadTwo plan → ReadTwo (moved_plan g sum j plan)
moved_two g sum j plan two = by (bit_at g (j + 1) == 1)
  where
    by : (so : Bool) → ReadTwo (if so then with_xor None (slice_index sum (j + 1)) (slice_index sum 0) plan else plan)
    by true = xor_two None (slice_index sum (j + 1)) (slice_index sum 0) plan two
    by false = two

divided_two : (k g : ℕ) (sum : Row) → ReadTwo sum.plan → ReadTwo (divided_row k g sum).plan
divided_two k g sum two = row_two (k - 1) (moved_plan g sum.nets) (moved_net g sum.nets) sum.plan two (λ j p. moved_two g sum.nets j p)

summed_two : (k : ℕ) (a b : List ℕ) (i : ℕ) (before : Row) → ReadTwo before.plan → ReadTwo (summed_row k a b i before).plan
summed_two k a b i before two = by (i == 0)
  where
    by : (so : Bool) → ReadTwo (if so then and_row k (slice_index a i) b before.plan else xor_row k before.nets (and_row k (slice_index a i) b before.plan).nets (and_row k (slice_index a i) b before.plan).plan).plan
    by true = and_row_two k (slice_index a i) b before.plan two
    by false = xor_row_two k before.nets (and_row k (slice_index a i) b before.plan).nets (and_row k (slice_index a i) b before.plan).plan (and_row_two k (slice_index a i) b before.plan two)

rounds_two : (outer k g : ℕ) (a b : List ℕ) → ReadTwo (rounds outer k g a b).plan
rounds_two outer k g a b =
    each_keeps (λ i (row : Row). ReadTwo row.plan) (round k g a b) (begun_row (begun outer)) k (begun_two outer)
    (λ i row less two. divided_two k g (summed_row k a b i row) (summed_two k a b i row two))

-- the whole plan
pub montgomery_two : (outer k g : ℕ) (a b z : List ℕ) → ReadTwo (montgomery_plan outer k g a b z)
montgomery_two outer k g a b z =
    let row : Row = rounds outer k g a b in
    each_two k (λ j. with_buffer (Some (slice_index z j)) (slice_index row.nets j)) row.plan (rounds_two outer k g a b) (λ j p. buffer_two (Some (slice_index z j)) (slice_index row.nets j) p)
