-- Terms that are split by one bit of the word after another.
use Rattle.std.proofs.Common.{◌≡◌, ◌≢◌, ◌∙◌, ap, sym, refl, subst, inl, inr, ℕ, suc, ◌<◌, ◌≤◌, ◌+◌, ◌-◌, ◌*◌, ◌==◌, ◌&&◌, ◌||◌, Bool, true, false, cond, not, nat_eq, nat_le, nat_lt, List, [], ◌∷◌, ◌++◌, length, take, take_all, drop, map, get_or, append_assoc, zero, slice_index, bit_xor, arith}
use Rattle.std.specs.Int.{bit_at}
use Rattle.std.specs.Int.Bits.{xor_zero_l, xor_assoc}
use Rattle.std.specs.List.{AllByRecursion, filter, list_all, list_any}
use Rattle.std.proofs.lemmas.Bool.{cases_lt, cases_order, lt-ltb, le-ltb, le-leb, lt-leb, eq-eqb, ne_eqb}
use Rattle.std.proofs.lemmas.Nat.Bits.{bit_at-lt}
use Rattle.std.proofs.lemmas.List.{take_more}
use Rattle.gf_field.specs.Power.{power}
use Rattle.lists.specs.laws.ListLaws.{map_push, all_append}
use Rattle.lists.specs.laws.NumberLaws.{bit_is_choice}
use Rattle.lists.specs.laws.ReadLaws.{got_read}
use Rattle.lists.specs.laws.TakeLaws.{drop_read}
use Rattle.lists.specs.laws.XorLaws.{xor_swap}
use Rattle.poly_mixed.specs.Monomial.{Monomial, has_bit}
use Rattle.poly_mixed.specs.Polynomial.{Terms, IsTerm}
use Rattle.poly_mixed.specs.Sum.{xor_sum}
use Rattle.poly_mixed.proofs.FieldLaws.{IsField}
use Rattle.word_subst.specs.Univariate.{Powers, value_of, IsSum, IsProductOfTwo}
use Rattle.word_subst.specs.Forms.{IsForm, AreForms}
use Rattle.word_subst.specs.AtOnce.{value_from, IsReadFrom, IsSumOfPowers, IsPlusProduct, power_of}
use Rattle.word_subst.proofs.SpreadLemmas.{element_at}
use Rattle.word_subst.proofs.UnivariateLemmas.{value_of_element, one_power, xor_sum-append}
use Rattle.word_subst.proofs.ChoiceLemmas.{times_bit}

-- ---- ranks

-- what one rank more says of a list, where F and G are what passes with it and without it
skip : (q : ℕ → Bool) (c a : Bool) (F G : List ℕ) → list_all q F ≡ cond c (a && list_all q G) (list_all q G) → (b : Bool) (x : ℕ)
    → list_all q (cond b (x ∷ F) F) ≡ cond c (a && list_all q (cond b (x ∷ G) G)) (list_all q (cond b (x ∷ G) G))
skip q c a F G so_far false x = so_far
skip q c a F G so_far true x = ap (λ z. q x && z) so_far ∙ swap c a (q x) (list_all q G)
  where
    swap : (c a x l : Bool) → (x && cond c (a && l) l) ≡ cond c (a && (x && l)) (x && l)
    swap true true x l = refl
    swap true false true l = refl
    swap true false false l = refl
    swap false a x l = refl

met : (c a l : Bool) → (a && cond c (a && l) l) ≡ (a && l)
met true true l = refl
met true false l = refl
met false a l = refl

module _ (q : ℕ → Bool) (a b : ℕ) (less : a < b) where
  one_rank : (xs : List ℕ) → list_all q (filter (λ r. nat_le a r && nat_lt r b) xs) ≡ cond (list_any (λ r. nat_eq r a) xs) (q a && list_all q (filter (λ r. nat_le (a + 1) r && nat_lt r b) xs)) (list_all q (filter (λ r. nat_le (a + 1) r && nat_lt r b) xs))
  one_rank [] = refl
  one_rank (x ∷ xs) =
      let F = filter (λ r. nat_le a r && nat_lt r b) xs in
      let G = filter (λ r. nat_le (a + 1) r && nat_lt r b) xs in
      let c = list_any (λ r. nat_eq r a) xs in
      elim (cases_order x a) [
        | inl same ↦
            let low : nat_le a x ≡ true = le-leb a x (omega (arith, same)) in
            let high : nat_lt x b ≡ true = lt-ltb x b (omega (arith, same, less)) in
            let past : nat_le (a + 1) x ≡ false = lt-leb (a + 1) x (omega (arith, same)) in
            let is : nat_eq x a ≡ true = eq-eqb x a same in
            (λ i. list_all q (cond (low i && high i) (x ∷ F) F))
            ∙ ((λ i. q (same i) && one_rank xs i) ∙ (met c (q a) (list_all q G)
            ∙ (λ i. cond (sym is i || c) (q a && list_all q (cond (sym past i && nat_lt x b) (x ∷ G) G)) (list_all q (cond (sym past i && nat_lt x b) (x ∷ G) G)))))
        | inr other ↦ elim other [
          | inl below ↦
              let low : nat_le a x ≡ false = lt-leb a x below in
              let past : nat_le (a + 1) x ≡ false = lt-leb (a + 1) x (omega (arith, below)) in
              let is : nat_eq x a ≡ false = ne_eqb x a (λ e. absurd (omega (arith, e, below))) in
              (λ i. list_all q (cond (low i && nat_lt x b) (x ∷ F) F))
              ∙ (one_rank xs
              ∙ (λ i. cond (sym is i || c) (q a && list_all q (cond (sym past i && nat_lt x b) (x ∷ G) G)) (list_all q (cond (sym past i && nat_lt x b) (x ∷ G) G))))
          | inr above ↦
              let low : nat_le a x ≡ true = le-leb a x (omega (arith, above)) in
              let past : nat_le (a + 1) x ≡ true = le-leb (a + 1) x (omega (arith, above)) in
              let is : nat_eq x a ≡ false = ne_eqb x a (λ e. absurd (omega (arith, e, above))) in
              (λ i. list_all q (cond (low i && nat_lt x b) (x ∷ F) F))
              ∙ (skip q c (q a) F G (one_rank xs) (nat_lt x b) x
              ∙ (λ i. cond (sym is i || c) (q a && list_all q (cond (sym past i && nat_lt x b) (x ∷ G) G)) (list_all q (cond (sym past i && nat_lt x b) (x ∷ G) G))))
        ]
      ]

none_between : (b : ℕ) (xs : List ℕ) → filter (λ r. nat_le b r && nat_lt r b) xs ≡ []
none_between b [] = refl
none_between b (x ∷ xs) =
    let F = filter (λ r. nat_le b r && nat_lt r b) xs in
    elim (cases_lt x b) [
      | inl low ↦ (λ i. cond (lt-leb b x low i && nat_lt x b) (x ∷ F) F) ∙ none_between b xs
      | inr high ↦ (λ i. cond (le-leb b x high i && le-ltb x b high i) (x ∷ F) F) ∙ none_between b xs
    ]

-- ---- sums

none_at_all : (b : Bool) → ◌≡◌ {A = ℕ} 0 (bit_xor 0 (cond b 0 0))
none_at_all true = sym (xor_zero_l 0)
none_at_all false = sym (xor_zero_l 0)

module _ {K : Type 0} (g h : K × ℕ → ℕ) (has : K × ℕ → Bool) (a : Bool) (each : (t : K × ℕ) → g t ≡ cond (has t) (cond a (h t) 0) (h t)) where
  split_sum : (ts : List (K × ℕ)) → xor_sum g ts ≡ bit_xor (xor_sum h (filter (λ t. not (has t)) ts)) (cond a (xor_sum h (filter has ts)) 0)
  split_sum [] = none_at_all a
  split_sum (t ∷ ts) =
      let A = xor_sum h (filter (λ u. not (has u)) ts) in
      let B = xor_sum h (filter has ts) in
      elim (has t) as (λ b. g t ≡ cond b (cond a (h t) 0) (h t) → bit_xor (g t) (xor_sum g ts) ≡ bit_xor (xor_sum h (cond (not b) (t ∷ filter (λ u. not (has u)) ts) (filter (λ u. not (has u)) ts))) (cond a (xor_sum h (cond b (t ∷ filter has ts) (filter has ts))) 0)) [
        | true ↦ λ e. (λ i. bit_xor (e i) (split_sum ts i)) ∙ put_in a (h t) A B
        | false ↦ λ e. (λ i. bit_xor (e i) (split_sum ts i)) ∙ sym (xor_assoc (h t) A (cond a B 0))
      ] (each t)
    where
      put_in : (b : Bool) (x m n : ℕ) → bit_xor (cond b x 0) (bit_xor m (cond b n 0)) ≡ bit_xor m (cond b (bit_xor x n) 0)
      put_in true x m n = xor_swap x m n
      put_in false x m n = xor_zero_l (bit_xor m 0)

pub filter_map_same : {X Y : Type 0} (p : Y → Bool) (g : X → Y) (xs : List X) → map g (filter (λ x. p (g x)) xs) ≡ filter p (map g xs)
filter_map_same p g [] = refl
filter_map_same p g (x ∷ xs) = elim (p (g x)) as (λ b. map g (cond b (x ∷ filter (λ y. p (g y)) xs) (filter (λ y. p (g y)) xs)) ≡ cond b (g x ∷ filter p (map g xs)) (filter p (map g xs))) [
  | true ↦ ap (λ ys. g x ∷ ys) (filter_map_same p g xs)
  | false ↦ filter_map_same p g xs
]

all_of_map : {X Y : Type 0} (P : Y → Type 0) (g : X → Y) (xs : List X) → AllByRecursion P (map g xs) → AllByRecursion (λ x. P (g x)) xs
all_of_map P g [] all = tt
all_of_map P g (x ∷ xs) all = (all.0, all_of_map P g xs all.1)

pub all_mapped : {X Y : Type 0} (P : Y → Type 0) (g : X → Y) (xs : List X) (ys : List Y) → map g xs ≡ ys → AllByRecursion P ys → AllByRecursion (λ x. P (g x)) xs
all_mapped P g xs ys same all = all_of_map P g xs (subst (AllByRecursion P) (sym same) all)

pub all_filtered : {X : Type 0} (P : X → Type 0) (p : X → Bool) (xs : List X) → AllByRecursion P xs → AllByRecursion P (filter p xs)
all_filtered P p [] all = tt
all_filtered P p (x ∷ xs) all = elim (p x) as (λ b. AllByRecursion P (cond b (x ∷ filter p xs) (filter p xs))) [ true ↦ (all.0, all_filtered P p xs all.1) | false ↦ all_filtered P p xs all.1 ]

-- ---- what the code reads

pub filtered_items : {X : Type 0} (xs ys zs : List X) (p : X → Bool) (P : X → Type 0) → ys ≡ zs → zs ≡ filter p xs → AllByRecursion P xs → AllByRecursion P ys
filtered_items xs ys zs p P same made all = subst (AllByRecursion P) (sym (same ∙ made)) (all_filtered P p xs all)

pub mapped_items : {X Y : Type 0} (xs ys : List X) (ts : List Y) (g : X → Y) (P : Y → Type 0) → xs ≡ ys → map g ys ≡ ts → AllByRecursion P ts → AllByRecursion (λ x. P (g x)) xs
mapped_items xs ys ts g P same made all = all_mapped P g xs ts (ap (map g) same ∙ made) all

pub item_at : {X : Type 0} (xs : List X) (i : ℕ) (t : X) (P : X → Type 0) → i < length xs → t ≡ get_or xs i t → AllByRecursion P xs → P t
item_at [] i t P less read all = absurd (omega arith)
item_at (x ∷ xs) zero t P less read all = subst P (sym read) all.0
item_at (x ∷ xs) (suc i) t P less read all = item_at xs i t P (omega arith) read all.1

pub one_item_more : {X : Type 0} (xs : List X) (i : ℕ) (t : X) (P : X → Type 0) → i < length xs → t ≡ get_or xs i t → AllByRecursion P (take i xs) → P t → AllByRecursion P (take (i + 1) xs)
one_item_more xs i t P less read all here =
    let is : take (i + 1) xs ≡ take i xs ++ t ∷ [] = take_more xs i t less ∙ ap (λ y. take i xs ++ y ∷ []) (sym read) in
    subst (AllByRecursion P) (sym is) (all_append P (take i xs) (t ∷ []) all (here, tt))

pub mapped_push : {X Y : Type 0} (xs new : List X) (ys : List Y) (g : X → Y) (i : ℕ) (x : X) (y : Y) → new ≡ xs ++ x ∷ [] → g x ≡ y → y ≡ get_or ys i y → i < length ys → map g xs ++ drop i ys ≡ ys → map g new ++ drop (i + 1) ys ≡ ys
mapped_push {X} {Y} xs new ys g i x y made same read less before =
    let rest : List Y = drop (i + 1) ys in
    ap (λ zs. map g zs ++ rest) made
    ∙ (ap (λ zs. zs ++ rest) (map_push g xs x ∙ ap (λ z. map g xs ++ z ∷ []) same)
    ∙ (append_assoc (map g xs) (y ∷ []) rest ∙ (ap (λ zs. map g xs ++ zs) (sym (drop_read ys i y less read)) ∙ before)))

pub all_taken : {X : Type 0} (xs : List X) (n : ℕ) (P : X → Type 0) → length xs ≤ n → AllByRecursion P (take n xs) → AllByRecursion P xs
all_taken xs n P most all = subst (AllByRecursion P) (take_all n xs most) all

-- ---- the values of terms

module _ {k : ℕ} {mul : ℕ → ℕ → ℕ} (f : IsField k mul) (elements : List ℕ) (w : ℕ) where
  split_value : (h a l : Bool) (v : ℕ) → cond (cond h (a && l) l) v 0 ≡ cond h (cond a (cond l v 0) 0) (cond l v 0)
  split_value true true l v = refl
  split_value true false l v = refl
  split_value false a l v = refl

  -- a term with a bit of the word, or without it
  one_place : (place d x : ℕ) (t : Monomial × ℕ) → place < k → value_from k mul elements w place d x t ≡ cond (has_bit (k * w + place) t.0) (cond (bit_at d place == 1) (value_from k mul elements w (place + 1) d x t) 0) (value_from k mul elements w (place + 1) d x t)
  one_place place d x t less = by (k * w)
    where
      v : ℕ
      v = mul t.1 (power mul x (slice_index t.0.exponents w))

      by : (b : ℕ) → cond (list_all (λ r. bit_at d (r - b) == 1) (filter (λ r. nat_le (b + place) r && nat_lt r (b + k)) t.0.bits)) v 0
          ≡ cond (list_any (λ r. nat_eq r (b + place)) t.0.bits) (cond (bit_at d place == 1) (cond (list_all (λ r. bit_at d (r - b) == 1) (filter (λ r. nat_le (b + (place + 1)) r && nat_lt r (b + k)) t.0.bits)) v 0) 0) (cond (list_all (λ r. bit_at d (r - b) == 1) (filter (λ r. nat_le (b + (place + 1)) r && nat_lt r (b + k)) t.0.bits)) v 0)
      by b =
          let q : ℕ → Bool = λ r. bit_at d (r - b) == 1 in
          let h = list_any (λ r. nat_eq r (b + place)) t.0.bits in
          let up : b + place + 1 ≡ b + (place + 1) = omega arith in
          let here : b + place - b ≡ place = omega arith in
          let L : ℕ → Bool = λ n. list_all q (filter (λ r. nat_le n r && nat_lt r (b + k)) t.0.bits) in
          ap (λ z. cond z v 0) (one_rank q (b + place) (b + k) (omega (arith, less)) t.0.bits)
          ∙ (split_value h (q (b + place)) (L (b + place + 1)) v
          ∙ (λ i. cond h (cond (bit_at d (here i) == 1) (cond (L (up i)) v 0) 0) (cond (L (up i)) v 0)))

  last_place : (d x : ℕ) (t : Monomial × ℕ) → value_from k mul elements w k d x t ≡ power_of k mul elements w x t
  last_place d x t = ap (λ rs. cond (list_all (λ r. bit_at d (r - k * w) == 1) rs) (mul t.1 (power mul x (slice_index t.0.exponents w))) 0) (none_between (k * w + k) t.0.bits)

  same_sums : (g h : Monomial × ℕ → ℕ) → ((t : Monomial × ℕ) → g t ≡ h t) → (ts : Terms) → xor_sum g ts ≡ xor_sum h ts
  same_sums g h same [] = refl
  same_sums g h same (t ∷ ts) = λ i. bit_xor (same t i) (same_sums g h same ts i)

  pub last_read : (place : ℕ) (ts : Terms) (us : Powers) → place ≡ k → IsSumOfPowers k mul elements w ts us → IsReadFrom k mul elements w place ts us
  last_read place ts us same is =
      let P : ℕ → Type 0 = λ n. IsReadFrom k mul elements w n ts us in
      subst P (sym same) (record { univariate = is.univariate; values = λ x d at bits. is.values x at ∙ sym (same_sums (value_from k mul elements w k d x) (power_of k mul elements w x) (last_place d x) ts) })

  -- the terms without a bit, and those with it times the form of the bit
  pub next_read : (place rank : ℕ) (ts without with_it : Terms) (low high form new : Powers) → place < k → rank ≡ k * w + place → without ≡ filter (λ t. not (has_bit rank t.0)) ts → with_it ≡ filter (λ t. has_bit rank t.0) ts
      → IsReadFrom k mul elements w (place + 1) without low → IsReadFrom k mul elements w (place + 1) with_it high → IsForm k mul elements place form → IsPlusProduct k mul low high form new → IsReadFrom k mul elements w place ts new
  next_read place rank ts without with_it low high form new less rank_is without_is with_is left right is sum = record {
    univariate = sum.univariate;
    values = λ x d at bits.
        let g = value_from k mul elements w (place + 1) d x in
        let has : ℕ → Monomial × ℕ → Bool = λ r t. has_bit r t.0 in
        let b = bit_at d place == 1 in
        let h = value_of mul x high in
        let hh = value_of_element f x high at right.univariate.powers in
        sum.values x at
        ∙ ((λ i. bit_xor ((left.values x d at bits ∙ ap (xor_sum g) (without_is ∙ ap (λ r. filter (λ t. not (has r t)) ts) rank_is)) i)
        ((ap (mul h) (is.values x d at bits ∙ bit_is_choice (bit_at d place) (bit_at-lt d place)) ∙ (times_bit f h hh b ∙ ap (λ n. cond b n 0) (right.values x d at bits ∙ ap (xor_sum g) (with_is ∙ ap (λ r. filter (has r) ts) rank_is)))) i))
        ∙ sym (split_sum (value_from k mul elements w place d x) g (has (k * w + place)) b (λ t. one_place place d x t less) ts));
  }

  -- ---- the sum of powers, one term after another

  pub one_sum : (t : Monomial × ℕ) (us : Powers) → IsTerm k t → t.1 ≢ 0 → w < 8 → us ≡ (slice_index t.0.exponents w, t.1) ∷ [] → IsSumOfPowers k mul elements w (t ∷ []) us
  one_sum t us is some inside made =
      let P : Powers → Type 0 = IsSumOfPowers k mul elements w (t ∷ []) in
      subst P (sym made) (record {
        univariate = one_power k (slice_index t.0.exponents w, t.1) (record { exponent = element_at k t.0.exponents w is.monomial.exponents (omega (arith, inside, is.monomial.words)); element = is.element; some = some });
        values = λ x at. refl;
      })

  pub all_summed : {X : Type 0} (items : List X) (i : ℕ) (g : X → Monomial × ℕ) (us : Powers) → length items ≤ i → IsSumOfPowers k mul elements w (map g (take i items)) us → IsSumOfPowers k mul elements w (map g items) us
  all_summed {X} items i g us most so_far =
      let P : List X → Type 0 = λ xs. IsSumOfPowers k mul elements w (map g xs) us in
      subst P (take_all i items most) so_far

  pub sum_more : {X : Type 0} (g : X → Monomial × ℕ) (items : List X) (i : ℕ) (t : X) (old one new : Powers) → i < length items → t ≡ get_or items i t → IsSumOfPowers k mul elements w (map g (take i items)) old → IsSumOfPowers k mul elements w (g t ∷ []) one → IsSum k mul old one new
      → IsSumOfPowers k mul elements w (map g (take (i + 1) items)) new
  sum_more g items i t old one new less read before own sum =
      let P : Terms → Type 0 = λ ts. IsSumOfPowers k mul elements w ts new in
      let is : take (i + 1) items ≡ take i items ++ t ∷ [] = take_more items i t less ∙ ap (λ y. take i items ++ y ∷ []) (sym read) in
      subst P (sym (ap (map g) is ∙ map_push g (take i items) t)) (record {
        univariate = sum.univariate;
        values = λ x at.
            sum.values x at ∙ ((λ j. bit_xor (before.values x at j) (own.values x at j)) ∙ sym (xor_sum-append (power_of k mul elements w x) (map g (take i items)) (g t ∷ [])));
      })

  pub sum_and_product : (low high form times new : Powers) → IsProductOfTwo k mul high form times → IsSum k mul low times new → IsPlusProduct k mul low high form new
  sum_and_product low high form times new product sum = record { univariate = sum.univariate; values = λ x at. sum.values x at ∙ ap (bit_xor (value_of mul x low)) (product.values x at) }

  pub next_items : {X : Type 0} (items lack have : List X) (g : X → Monomial × ℕ) (place rank : ℕ) (low high form new : Powers) → place < k → rank ≡ k * w + place → lack ≡ filter (λ x. not (has_bit rank (g x).0)) items → have ≡ filter (λ x. has_bit rank (g x).0) items
      → IsReadFrom k mul elements w (place + 1) (map g lack) low → IsReadFrom k mul elements w (place + 1) (map g have) high → IsForm k mul elements place form → IsPlusProduct k mul low high form new → IsReadFrom k mul elements w place (map g items) new
  next_items items lack have g place rank low high form new less rank_is lack_is have_is left right is sum =
      next_read place rank (map g items) (map g lack) (map g have) low high form new less rank_is (ap (map g) lack_is ∙ filter_map_same (λ t. not (has_bit rank t.0)) g items) (ap (map g) have_is ∙ filter_map_same (λ t. has_bit rank t.0) g items) left right is sum

  pub read_items : {X : Type 0} (xs ys : List X) (ts : Terms) (g : X → Monomial × ℕ) (us : Powers) → xs ≡ ys → map g ys ≡ ts → IsReadFrom k mul elements w 0 (map g xs) us → IsReadFrom k mul elements w 0 ts us
  read_items xs ys ts g us same made is = let P : Terms → Type 0 = λ vs. IsReadFrom k mul elements w 0 vs us in subst P (ap (map g) same ∙ made) is

-- the form that the code reads
pub form_read : (k : ℕ) (mul : ℕ → ℕ → ℕ) (elements : List ℕ) (place : ℕ) (forms : List Powers) (form : Powers) → AreForms k mul elements forms → place < k → form ≡ get_or forms place form → IsForm k mul elements place form
form_read k mul elements place forms form are less read = are.each place form (got_read forms place form (omega (arith, less, are.long)) read)

-- ---- numbers

pub below_last : (k m p : ℕ) → m ≡ k → p ≤ k → p ≢ m → p < k
below_last k m p same most apart = omega arith

pub next_closer : (k p : ℕ) → p < k → k - (p + 1) < k - p
next_closer k p less = omega arith
