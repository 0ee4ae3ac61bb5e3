-- Lists that loops make.
use Rattle.std.proofs.Common.{◌≡◌, ◌∙◌, ℕ, zero, suc, refl, sym, subst, ap, ap₂, ◌<◌, ◌≤◌, ◌+◌, ◌*◌, ◌-◌, ◌/◌, ◌%◌, ◌^◌, inl, inr, List, [], ◌∷◌, ◌++◌, length, length-append, Option, None, arith, length-drop, take, drop}
use Rattle.std.proofs.Math.Nat.{suc-mul, mul-suc, mul-le-mul_left, zero-mul}
use Rattle.std.specs.Prelude.{slice_index, ◌==◌}
use Rattle.std.specs.Int.{bit_at}
use Rattle.std.proofs.lemmas.Bool.{cases_lt}
use Rattle.std.proofs.lemmas.List.{get_or_append_left, get_or-drop, get_or-take, length-take-le}
use Rattle.std.proofs.Math.Seq.{get_or-append_seam}
use Rattle.std.proofs.lemmas.Nat.{div_below}
use Rattle.lists.specs.laws.ListLaws.{length-push}
use Rattle.gf_field.specs.Bit.{bit_mul}
use Rattle.gf_field.specs.Polynomial.{coefficient}
use Rattle.gf_field.specs.Quotient.{product}
use Rattle.make_laws.specs.ProductBits.{x_to}
use Rattle.make_laws.specs.TowerProduct.{factor_bit, Y_to}
use Rattle.make_nets.specs.Plan.{Plan, begun, chain_net, each, gathered, where_so, with_chain}
use Rattle.make_nets.proofs.EachLemmas.{each_keeps}
use Rattle.make_nets.proofs.ShapeLemmas.{chain_grows}
use Rattle.make_nets.specs.Row.{Row, begun_row, row_by, row_of, with_nets}
use Rattle.mult_composite.specs.Composite.{added_sums, all_products, coefficient_product, composite_plan, pair_sums, reduced_sums, coefficient_nets}
use Rattle.mult_composite.specs.private.ByPowers.{IsPlanBy}
use Rattle.mult_composite.specs.private.HighPowers.{powers_from}
use Rattle.mult_composite.proofs.RoomLemmas.{square_few}
use Rattle.mult_gen.specs.Chains.{added_products, products as bit_products}
use Rattle.mult_gen.proofs.MastrovitoLemmas.{added_few}

-- one more list
pub gathered_more : (f : ℕ → List ℕ) (q : ℕ) (list new more : List ℕ) → list ≡ gathered q f → new ≡ list ++ more → more ≡ f q → new ≡ gathered (q + 1) f
gathered_more f q list new more before is here =
    let one_more : suc q ≡ q + 1 = omega arith in
    is ∙ ap (λ l. l ++ more) before ∙ ap (λ l. gathered q f ++ l) here ∙ ap (λ k. gathered k f) one_more

-- one more list behind a net
pub reached_more : (first : ℕ) (f : ℕ → List ℕ) (q : ℕ) (list new more : List ℕ) → list ≡ first ∷ gathered q f → new ≡ list ++ more → more ≡ f q → new ≡ first ∷ gathered (q + 1) f
reached_more first f q list new more before is here =
    let one_more : suc q ≡ q + 1 = omega arith in
    is ∙ ap₂ (λ u v. u ++ v) before here ∙ ap (λ k. first ∷ gathered k f) one_more

-- what is gathered of equal lists is equal
gathered_same : (n : ℕ) (f h : ℕ → List ℕ) → ((q : ℕ) → q < n → f q ≡ h q) → gathered n f ≡ gathered n h
gathered_same zero f h same = refl
gathered_same (suc n) f h same = ap₂ (λ u v. u ++ v) (gathered_same n f h (λ q less. same q (omega arith))) (same n (omega arith))

singles_long : (k : ℕ) (f : ℕ → ℕ) → length (gathered k (λ i. f i ∷ [])) ≡ k
singles_long zero f = refl
singles_long (suc k) f = length-push (gathered k (λ i. f i ∷ [])) (f k) ∙ omega (arith, singles_long k f)

-- place i of a list of single values
singles_at : (k : ℕ) (f : ℕ → ℕ) (i : ℕ) → i < k → slice_index (gathered k (λ i. f i ∷ [])) i ≡ f i
singles_at zero f i less = absurd (omega arith)
singles_at (suc k) f i less = elim (cases_lt i k) [
  | inl earlier ↦ get_or_append_left (gathered k (λ i. f i ∷ [])) (f k ∷ []) 0 i (omega (arith, earlier, singles_long k f)) ∙ singles_at k f i earlier
  | inr last ↦
      let same : i ≡ k = omega (arith, less, last) in
      let long : k ≡ length (gathered k (λ i. f i ∷ [])) = sym (singles_long k f) in
      ap (λ j. slice_index (gathered k (λ i. f i ∷ []) ++ f k ∷ []) j) (same ∙ long) ∙ get_or-append_seam (gathered k (λ i. f i ∷ [])) (f k) [] 0 ∙ ap f (sym same)
]

-- what adds to a bit, where the list of powers is that of Y
pub sums_done : (n g m t : ℕ) (powers sums : List ℕ) (e l q : ℕ) (list : List ℕ) → 1 ≤ n → list ≡ slice_index sums (e * n + l) ∷ gathered q (λ q. where_so (bit_at (product 1 n bit_mul g (x_to n g (q % n)) (coefficient n (slice_index powers (q / n)) e)) l == 1) (slice_index sums (m * n + q))) → q ≡ (m - 1) * n → powers ≡ powers_from n m (product 1 n bit_mul g) t (m - 1) → list ≡ added_sums n g m t sums e l
sums_done n g m t powers sums e l q list some is done high =
    is
    ∙ ap (λ k. slice_index sums (e * n + l) ∷ gathered k (λ q. where_so (bit_at (product 1 n bit_mul g (x_to n g (q % n)) (coefficient n (slice_index powers (q / n)) e)) l == 1) (slice_index sums (m * n + q)))) done
    ∙ ap (λ list. slice_index sums (e * n + l) ∷ list) (gathered_same ((m - 1) * n)
    (λ q. where_so (bit_at (product 1 n bit_mul g (x_to n g (q % n)) (coefficient n (slice_index powers (q / n)) e)) l == 1) (slice_index sums (m * n + q)))
    (λ q. where_so (factor_bit n g m t (m + q / n) e (q % n) l == 1) (slice_index sums (m * n + q)))
    (λ q less. ap (λ y. where_so (bit_at (product 1 n bit_mul g (x_to n g (q % n)) (coefficient n y e)) l == 1) (slice_index sums (m * n + q)))
    (ap (λ list. slice_index list (q / n)) high ∙ singles_at (m - 1) (λ i. Y_to n m (product 1 n bit_mul g) t (m + i)) (q / n) (div_below q n (m - 1) some less))))

-- a net of a coefficient, and how many it has
pub coefficient_net : (n m : ℕ) (nets : List ℕ) (i l : ℕ) → l < n → slice_index (coefficient_nets n nets i) l ≡ slice_index nets (n * i + l)
coefficient_net n m nets i l less = get_or-take n (drop (n * i) nets) l 0 less ∙ get_or-drop (n * i) nets l 0

pub coefficient_long : (n m : ℕ) (nets : List ℕ) (i : ℕ) → length nets ≡ n * m → i < m → length (coefficient_nets n nets i) ≡ n
coefficient_long n m nets i long less = length-take-le n (drop (n * i) nets) (omega (arith, length-drop (n * i) nets, long, mul-le-mul_left n less, mul-suc n i))

-- how many nets a row has
row_long : (k : ℕ) (after : ℕ → Plan → Plan) (net : ℕ → Plan → ℕ) (plan : Plan) → length (row_by k after net plan).nets ≡ k
row_long k after net plan =
    each_keeps (λ j (row : Row). length row.nets ≡ j) (λ j row. record { plan = after j row.plan; nets = row.nets ++ net j row.plan ∷ [] }) (begun_row plan) k refl
    (λ j row less long. length-push row.nets (net j row.plan) ∙ omega (arith, long))

-- how many nets the products have
pub all_long : (n g m : ℕ) (a b : List ℕ) (plan : Plan) → length (all_products n g m a b plan).nets ≡ m * m * n
all_long n g m a b plan =
    each_keeps (λ q (row : Row). length row.nets ≡ q * n) (λ q row. with_nets row.nets (coefficient_product n g a b (q / m) (q % m) row.plan)) (begun_row plan) (m * m) (sym (zero-mul n))
    (λ q row less long. length-append row.nets (coefficient_product n g a b (q / m) (q % m) row.plan).nets ∙ ap₂ (λ u v. u + v) long (one (q / m) (q % m) row.plan) ∙ sym (suc-mul q n))
  where
    one : (i j : ℕ) (p : Plan) → length (coefficient_product n g a b i j p).nets ≡ n
    one i j p = row_long n (λ l. with_chain None (added_products n g p.next l)) (λ l so_far. chain_net None (added_products n g p.next l) so_far) (bit_products n (coefficient_nets n a i) (coefficient_nets n b j) p)

-- a chain drives its last net, and at most so many between
pub chain_few : (target : Option ℕ) (list : List ℕ) (old new : Plan) → new ≡ with_chain target list old → new.next ≤ old.next + (length list + 1)
chain_few target list old new is = omega (arith, ap (λ (p : Plan). p.next) is, (chain_grows target list old).1)

-- how many products add to a bit
pub bit_few : (n g first l : ℕ) (list : List ℕ) → n ≤ 32 → list ≡ added_products n g first l → length list ≤ 2 ^ 10
bit_few n g first l list small is = omega (arith, ap (λ (v : List ℕ). length v) is, added_few n g first l, square_few n small)

-- one net more of a row
pub row_more : (after : ℕ → Plan → Plan) (net : ℕ → Plan → ℕ) (j : ℕ) (start old new : Plan) (nets all : List ℕ) (n : ℕ) → row_of old nets ≡ row_by j after net start → new ≡ after j old → n ≡ net j old → all ≡ nets ++ n ∷ [] → row_of new all ≡ row_by (j + 1) after net start
row_more after net j start old new nets all n before is_plan is_net is =
    let one_more : suc j ≡ j + 1 = omega arith in
    ap₂ row_of is_plan (is ∙ ap (λ k. nets ++ k ∷ []) is_net)
    ∙ ap (λ (row : Row). row_of (after j row.plan) (row.nets ++ net j row.plan ∷ [])) before
    ∙ ap (λ k. row_by k after net start) one_more

-- and all of them
pub row_done : (after : ℕ → Plan → Plan) (net : ℕ → Plan → ℕ) (j k : ℕ) (start last : Plan) (nets : List ℕ) → row_of last nets ≡ row_by j after net start → j ≡ k → row_of last nets ≡ row_by k after net start
row_done after net j k start last nets is done = is ∙ ap (λ i. row_by i after net start) done

-- the nets of one pair more, where f gives those of a pair
pub pairs_more : (f : ℕ → ℕ → Plan → Row) (m q i j : ℕ) (start old new : Plan) (nets more all : List ℕ) → row_of old nets ≡ each q (λ q row. with_nets row.nets (f (q / m) (q % m) row.plan)) (begun_row start) → i ≡ q / m → j ≡ q % m → new ≡ (f i j old).plan → more ≡ (f i j old).nets → all ≡ nets ++ more → row_of new all ≡ each (q + 1) (λ q row. with_nets row.nets (f (q / m) (q % m) row.plan)) (begun_row start)
pairs_more f m q i j start old new nets more all before i_is j_is is_plan is_more is =
    let one_more : suc q ≡ q + 1 = omega arith in
    ap₂ row_of is_plan (is ∙ ap (λ v. nets ++ v) is_more)
    ∙ ap₂ (λ u v. with_nets nets (f u v old)) i_is j_is
    ∙ ap (λ (row : Row). with_nets row.nets (f (q / m) (q % m) row.plan)) before
    ∙ ap (λ k. each k (λ q row. with_nets row.nets (f (q / m) (q % m) row.plan)) (begun_row start)) one_more

-- and all of them
pub pairs_done : (f : ℕ → ℕ → Plan → Row) (m q : ℕ) (start last : Plan) (nets : List ℕ) → row_of last nets ≡ each q (λ q row. with_nets row.nets (f (q / m) (q % m) row.plan)) (begun_row start) → q ≡ m * m → row_of last nets ≡ each (m * m) (λ q row. with_nets row.nets (f (q / m) (q % m) row.plan)) (begun_row start)
pairs_done f m q start last nets is done = is ∙ ap (λ k. each k (λ q row. with_nets row.nets (f (q / m) (q % m) row.plan)) (begun_row start)) done

-- one step more of a plan
pub step_more : (step : ℕ → Plan → Plan) (p : ℕ) (start old new : Plan) → old ≡ each p step start → new ≡ step p old → new ≡ each (p + 1) step start
step_more step p start old new before is =
    let one_more : suc p ≡ p + 1 = omega arith in
    is ∙ ap (step p) before ∙ ap (λ k. each k step start) one_more

-- the plan over the nets of the words, whose parts are given by equations
pub plan_over : (n m t g h first outer : ℕ) (powers a b z list inputs outputs : List ℕ) (plan : Plan) → IsPlanBy n h m powers first a b z plan → h ≡ g → powers ≡ powers_from n m (product 1 n bit_mul g) t (m - 1) → first ≡ outer → a ≡ take (n * m) list → b ≡ drop (n * m) list → list ≡ inputs → z ≡ outputs → plan ≡ composite_plan outer n g m t (take (n * m) inputs) (drop (n * m) inputs) outputs
plan_over n m t g h first outer powers a b z list inputs outputs plan by same high first_is a_is b_is list_is z_is =
    let P : ℕ → Type 0 = λ v. IsPlanBy n v m powers first a b z plan in
    subst P same by t high
    ∙ ap (λ o. composite_plan o n g m t a b z) first_is
    ∙ ap₂ (λ u v. composite_plan outer n g m t u v z) (a_is ∙ ap (λ v. take (n * m) v) list_is) (b_is ∙ ap (λ v. drop (n * m) v) list_is)
    ∙ ap (λ v. composite_plan outer n g m t (take (n * m) inputs) (drop (n * m) inputs) v) z_is

-- the whole plan, step by step
pub plan_done : (outer n g m t : ℕ) (a b z : List ℕ) (first second third last : Plan) (products sums : List ℕ) → first ≡ begun outer → second ≡ (all_products n g m a b first).plan → products ≡ (all_products n g m a b first).nets → third ≡ (pair_sums n m (row_of second products)).plan → sums ≡ (pair_sums n m (row_of second products)).nets → last ≡ reduced_sums n g m t z (row_of third sums) → last ≡ composite_plan outer n g m t a b z
plan_done outer n g m t a b z first second third last products sums start is_products products_are is_sums sums_are is =
    let made : row_of second products ≡ all_products n g m a b (begun outer) = ap₂ row_of is_products products_are ∙ ap (all_products n g m a b) start in
    let summed : row_of third sums ≡ pair_sums n m (all_products n g m a b (begun outer)) = ap₂ row_of is_sums sums_are ∙ ap (pair_sums n m) made in
    is ∙ ap (reduced_sums n g m t z) summed
