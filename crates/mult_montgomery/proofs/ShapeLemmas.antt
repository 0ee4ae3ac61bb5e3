-- The gates read what is driven before, and drive each net once; how many inner nets there are.
use Rattle.std.proofs.Math.Nat.{suc-mul}
use Rattle.std.proofs.lemmas.List.{take_more}
use Rattle.std.proofs.Common.{◌≡◌, take_all, ℕ, zero, suc, refl, sym, ◌∙◌, ap, ◌<◌, ◌≤◌, ◌+◌, ◌*◌, ◌-◌, inl, arith, List, [], length, Bool, true, false, None, Some, subst, take}
use Rattle.std.specs.Prelude.{slice_index, ◌==◌, if◌then◌else◌}
use Rattle.std.specs.Int.{bit_at}
use Rattle.lists.specs.Lists.{Has}
use Rattle.lists.specs.laws.ReadLaws.{got_at}
use Rattle.lists.specs.laws.TakeLaws.{take_none}
use Rattle.make_nets.specs.Plan.{Plan, begun, with_xor, with_buffer}
use Rattle.make_nets.specs.PlanShape.{IsWellMade}
use Rattle.make_nets.proofs.OuterNets.{CanRead}
use Rattle.make_nets.proofs.EachLemmas.{each_keeps}
use Rattle.make_nets.proofs.ShapeLemmas.{begun_made, can_read_more, xor_made, buffer_made}
use Rattle.make_nets.specs.Row.{Row, begun_row, row_by, and_row, xor_row}
use Rattle.make_nets.proofs.RowShapeLemmas.{AreReadable, IsMadeRow, IsMadeStep, readable_at, readable_more, readable_none, net_made, row_made, gate_step, and_row_made, xor_row_made}
use Rattle.mult_montgomery.specs.Montgomery.{moved_plan, moved_net, divided_row, summed_row, round, rounds, montgomery_plan}
use Rattle.mult_montgomery.proofs.RoundLemmas.{summed_later}

module _ (outer : ℕ) (sources : List ℕ) where
  moved_made : (g j : ℕ) (sum : List ℕ) (p : Plan) → suc j < length sum → AreReadable outer sources sum p → IsWellMade outer sources [] p → IsMadeStep outer sources 1 p (moved_plan g sum j p) (moved_net g sum j p)
  moved_made g j sum p less reads made = by (bit_at g (j + 1) == 1)
    where
      later : CanRead outer sources p (slice_index sum (j + 1))
      later = readable_at outer sources sum p (j + 1) reads (omega (arith, less))

      by : (t : Bool) → IsMadeStep outer sources 1 p (if t then with_xor None (slice_index sum (j + 1)) (slice_index sum 0) p else p) (if t then p.next else slice_index sum (j + 1))
      by true = gate_step outer sources p (with_xor None (slice_index sum (j + 1)) (slice_index sum 0) p) made (xor_made outer sources [] None (slice_index sum (j + 1)) (slice_index sum 0) p made tt later (readable_at outer sources sum p 0 reads (omega (arith, less)))) refl
      by false = record { made = made; reads = later; low = omega arith; high = omega arith }

  divided_made : (k g start most : ℕ) (sum : Row) → 1 ≤ k → IsMadeRow outer sources start most k sum → IsMadeRow outer sources start (most + k) k (divided_row k g sum)
  divided_made k g start most sum some is =
      let moved = row_made outer sources (moved_plan g sum.nets) (moved_net g sum.nets) 1 (k - 1) sum.plan is.made (λ j p less low made. moved_made g j sum.nets p (omega (arith, less, is.long)) (readable_more outer sources sum.nets sum.plan p low is.reads) made) in
      let before = row_by (k - 1) (moved_plan g sum.nets) (moved_net g sum.nets) sum.plan in
      let whole = net_made outer sources sum.plan.next ((k - 1) * 1) (k - 1) (slice_index sum.nets 0) before moved (can_read_more outer sources sum.plan before.plan (slice_index sum.nets 0) moved.low (readable_at outer sources sum.nets sum.plan 0 is.reads (omega (arith, some, is.long)))) in
      record {
        made = whole.made;
        reads = whole.reads;
        long = omega (arith, whole.long, some);
        low = omega (arith, whole.low, is.low);
        high = omega (arith, whole.high, is.high, some);
      }

  module _ (k g : ℕ) (some : 1 ≤ k) (a b : List ℕ) (long_a : length a ≡ k) (long_b : length b ≡ k) (in_a : (n : ℕ) → Has a n → Has sources n) (in_b : (n : ℕ) → Has b n → Has sources n) where
    read_b : (plan : Plan) → AreReadable outer sources b plan
    read_b plan n has = inl (in_b n has)

    read_a : (plan : Plan) (i : ℕ) → i < k → CanRead outer sources plan (slice_index a i)
    read_a plan i less = readable_at outer sources a plan i (λ n has. inl (in_a n has)) (omega (arith, less, long_a))

    -- after i rounds
    pub record IsMadeSum (i : ℕ) (row : Row) : Type 0 where
      pub made : IsWellMade outer sources [] row.plan
      pub reads : AreReadable outer sources row.nets row.plan
      pub long : 0 < i → length row.nets ≡ k
      pub low : outer ≤ row.plan.next
      pub high : row.plan.next ≤ outer + i * (3 * k)

    summed_made : (i : ℕ) (row : Row) → i < k → IsMadeSum i row → IsMadeRow outer sources row.plan.next (2 * k) k (summed_row k a b i row)
    summed_made zero row less is =
        let anded = and_row_made outer sources k (slice_index a 0) b row.plan is.made (read_a row.plan 0 less) (read_b row.plan) long_b in
        record { made = anded.made; reads = anded.reads; long = anded.long; low = anded.low; high = omega (arith, anded.high) }
    summed_made (suc i) row less is =
        let products = and_row k (slice_index a (suc i)) b row.plan in
        let anded = and_row_made outer sources k (slice_index a (suc i)) b row.plan is.made (read_a row.plan (suc i) less) (read_b row.plan) long_b in
        let added = xor_row_made outer sources k row.nets products.nets products.plan anded.made (readable_more outer sources row.nets row.plan products.plan anded.low is.reads) anded.reads (is.long (omega arith)) anded.long in
        let P : Row → Type 0 = λ sum. IsMadeRow outer sources row.plan.next (2 * k) k sum in
        let whole : P (xor_row k row.nets products.nets products.plan) = record { made = added.made; reads = added.reads; long = added.long; low = omega (arith, anded.low, added.low); high = omega (arith, anded.high, added.high) } in
        subst P (sym (summed_later k a b (suc i) row (λ none. absurd (omega (arith, none))))) whole

    round_made : (i : ℕ) (row : Row) → i < k → IsMadeSum i row → IsMadeSum (suc i) (round k g a b i row)
    round_made i row less is =
        let divided = divided_made k g row.plan.next (2 * k) (summed_row k a b i row) some (summed_made i row less is) in
        record {
          made = divided.made;
          reads = divided.reads;
          long = λ positive. divided.long;
          low = omega (arith, divided.low, is.low);
          high = omega (arith, divided.high, is.high, suc-mul i (3 * k));
        }

    pub rounds_made : IsMadeSum k (rounds outer k g a b)
    rounds_made =
        each_keeps IsMadeSum (round k g a b) (begun_row (begun outer)) k
        (record { made = begun_made outer sources; reads = readable_none outer sources (begun outer); long = λ positive. absurd (omega (arith, positive)); low = omega arith; high = omega arith })
        round_made

    -- the whole plan
    pub montgomery_made : (z : List ℕ) → length z ≡ k → ((n : ℕ) → Has z n → n < outer) → IsWellMade outer sources z (montgomery_plan outer k g a b z)
    montgomery_made z long_z below =
        let row = rounds outer k g a b in
        let all = each_keeps (λ j plan. IsWellMade outer sources (take j z) plan × (plan.next ≡ row.plan.next)) (λ j. with_buffer (Some (slice_index z j)) (slice_index row.nets j)) row.plan k
        (subst (λ ts. IsWellMade outer sources ts row.plan) (sym (take_none z)) rounds_made.made, refl)
        (λ j plan less kept. (more j plan less kept.0 kept.1, kept.1)) in
        subst (λ ts. IsWellMade outer sources ts (montgomery_plan outer k g a b z)) (take_all k z (omega (arith, long_z))) all.0
      where
        more : (j : ℕ) (plan : Plan) → j < k → IsWellMade outer sources (take j z) plan → plan.next ≡ (rounds outer k g a b).plan.next → IsWellMade outer sources (take (suc j) z) (with_buffer (Some (slice_index z j)) (slice_index (rounds outer k g a b).nets j) plan)
        more j plan less made next =
            let row = rounds outer k g a b in
            let long : length row.nets ≡ k = rounds_made.long (omega (arith, some)) in
            let one_more : suc j ≡ j + 1 = omega arith in
            let within : j < length z = omega (arith, less, long_z) in
            let reads : CanRead outer sources plan (slice_index row.nets j) = can_read_more outer sources row.plan plan (slice_index row.nets j) (omega (arith, next)) (readable_at outer sources row.nets row.plan j rounds_made.reads (omega (arith, less, long))) in
            let target : slice_index z j < outer = below (slice_index z j) (j, got_at z j (slice_index z j) 0 within refl) in
            subst (λ ts. IsWellMade outer sources ts (with_buffer (Some (slice_index z j)) (slice_index row.nets j) plan)) (sym (ap (λ l. take l z) one_more ∙ take_more z j 0 within))
            (buffer_made outer sources (take j z) (Some (slice_index z j)) (slice_index row.nets j) plan made target reads)

    -- there are at most 3 k^2 inner nets
    pub montgomery_next : (z : List ℕ) → (montgomery_plan outer k g a b z).next ≤ outer + k * (3 * k)
    montgomery_next z =
        let row = rounds outer k g a b in
        let same = each_keeps (λ j plan. plan.next ≡ row.plan.next) (λ j. with_buffer (Some (slice_index z j)) (slice_index row.nets j)) row.plan k refl (λ j plan less kept. kept) in
        omega (arith, same, rounds_made.high)
