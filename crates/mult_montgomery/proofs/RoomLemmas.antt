-- One round more: its gates, and how many inner nets there are.
use Rattle.std.proofs.Math.Nat.{mul-le-mul_right, suc-mul}
use Rattle.std.proofs.Common.{◌≡◌, ℕ, suc, ap, ap₂, sym, ◌∙◌, ◌<◌, ◌≤◌, ◌+◌, ◌*◌, ◌^◌, List, [], ◌∷◌, ◌++◌, length, take, drop, arith}
use Rattle.std.specs.Prelude.{slice_index}
use Rattle.make_nets.specs.Plan.{Plan, each}
use Rattle.make_nets.specs.Row.{Row, row_of, begun_row, row_by, and_row, xor_row}
use Rattle.mult_montgomery.specs.Montgomery.{divided_row, montgomery_plan, moved_net, moved_plan, round, summed_row}
use Rattle.mult_montgomery.proofs.RoundLemmas.{summed_later}

pub round_more : (i c start old new : ℕ) → old ≤ start + i * c → new ≤ old + c → new ≤ start + (i + 1) * c
round_more i c start old new before grown =
    let one_more : (i + 1) * c ≡ i * c + c = let same : i + 1 ≡ suc i = omega arith in ap (λ x. x * c) same ∙ suc-mul i c in
    omega (arith, before, grown, one_more)

pub round_room : (i k start old : ℕ) → i < k → old ≤ start + i * (3 * k) → start + k * (3 * k) < 2 ^ 32 → old + 3 * k < 2 ^ 32
round_room i k start old less before room =
    let whole : suc i * (3 * k) ≤ k * (3 * k) = mul-le-mul_right (3 * k) less in
    omega (arith, whole, suc-mul i (3 * k), before, room)

pub rounds_more : (k g : ℕ) (a b : List ℕ) (i : ℕ) (start plan new : Plan) (row nets : List ℕ) → row_of plan row ≡ each i (round k g a b) (begun_row start) → new ≡ (round k g a b i (row_of plan row)).plan → nets ≡ (round k g a b i (row_of plan row)).nets → row_of new nets ≡ each (i + 1) (round k g a b) (begun_row start)
rounds_more k g a b i start plan new row nets before is_plan is_nets =
    let one_more : suc i ≡ i + 1 = omega arith in
    ap₂ row_of is_plan is_nets
    ∙ ap (round k g a b i) before
    ∙ ap (λ l. each l (round k g a b) (begun_row start)) one_more

-- one place more of the sum divided by x
pub moved_more : (g : ℕ) (sum : List ℕ) (j : ℕ) (start old new : Plan) (nets all : List ℕ) (n : ℕ) → row_of old nets ≡ row_by j (moved_plan g sum) (moved_net g sum) start → new ≡ moved_plan g sum j old → n ≡ moved_net g sum j old → all ≡ nets ++ n ∷ [] → row_of new all ≡ row_by (j + 1) (moved_plan g sum) (moved_net g sum) start
moved_more g sum j start old new nets all n before is_plan is_net is =
    let one_more : suc j ≡ j + 1 = omega arith in
    ap₂ row_of is_plan (is ∙ ap (λ k. nets ++ k ∷ []) is_net)
    ∙ ap (λ (row : Row). row_of (moved_plan g sum j row.plan) (row.nets ++ moved_net g sum j row.plan ∷ [])) before
    ∙ ap (λ k. row_by k (moved_plan g sum) (moved_net g sum) start) one_more

-- the sum of a round but the first
pub summed_is : (k : ℕ) (a b : List ℕ) (i : ℕ) (before second products : List ℕ) (start mid : Plan) → (i ≡ 0 → ⊥) → length before ≡ k → second ≡ products → products ≡ (and_row k (slice_index a i) b start).nets → mid ≡ (and_row k (slice_index a i) b start).plan → xor_row (length before) before second mid ≡ summed_row k a b i (row_of start before)
summed_is k a b i before second products start mid some long second_is products_are mid_is =
    ap (λ n. xor_row n before second mid) long
    ∙ ap₂ (λ u v. xor_row k before u v) (second_is ∙ products_are) mid_is
    ∙ sym (summed_later k a b i (row_of start before) some)

pub summed_few : (k more start mid new : ℕ) → more ≡ k → mid ≤ start + k → new ≤ mid + more → new ≤ start + 2 * k
summed_few k more start mid new same first second = omega (arith, same, first, second)

-- a round
pub round_is : (k g : ℕ) (a b : List ℕ) (i : ℕ) (before list sum : List ℕ) (start mid : Plan) → list ≡ sum → length sum ≡ k → sum ≡ (summed_row k a b i (row_of start before)).nets → mid ≡ (summed_row k a b i (row_of start before)).plan → divided_row (length list) g (row_of mid list) ≡ round k g a b i (row_of start before)
round_is k g a b i before list sum start mid list_is long sum_is mid_is =
    ap (λ n. divided_row n g (row_of mid list)) (ap (λ v. length v) list_is ∙ long)
    ∙ ap (divided_row k g) (ap₂ row_of mid_is (list_is ∙ sum_is))

pub round_few : (k more start mid new : ℕ) → more ≡ k → mid ≤ start + 2 * k → new ≤ mid + more → new ≤ start + 3 * k
round_few k more start mid new same first second = omega (arith, same, first, second)

-- the plan over the nets of the words, whose parts are given by equations
pub plan_over : (k n long g h first outer : ℕ) (a b z list inputs outputs : List ℕ) → long ≡ k → h ≡ g → first ≡ outer → n ≡ k → a ≡ take n list → b ≡ drop n list → list ≡ inputs → z ≡ outputs → montgomery_plan first long h a b z ≡ montgomery_plan outer k g (take k inputs) (drop k inputs) outputs
plan_over k n long g h first outer a b z list inputs outputs long_is same first_is n_is a_is b_is list_is z_is =
    ap₂ (λ o l. montgomery_plan o l h a b z) first_is long_is
    ∙ ap (λ v. montgomery_plan outer k v a b z) same
    ∙ ap₂ (λ u v. montgomery_plan outer k g u v z) (a_is ∙ ap₂ (λ l v. take l v) n_is list_is) (b_is ∙ ap₂ (λ l v. drop l v) n_is list_is)
    ∙ ap (λ v. montgomery_plan outer k g (take k inputs) (drop k inputs) v) z_is
