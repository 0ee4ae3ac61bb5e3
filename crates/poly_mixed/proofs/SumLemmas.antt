-- Sums of finite maps: their order, their coefficients, and the sums over their terms.
use Rattle.std.proofs.Common.{◌≡◌, ℕ, ◌≢◌, true, false, cond, List, [], ◌∷◌, bit_xor, ◌==◌, refl, sym, ◌∙◌, ap, subst, Some}
use lib.Bits.{xor_zero_l, xor_zero_r, xor_comm, xor_assoc, xor_self}
use Rattle.std.specs.declared.cmp.Ordering.{Ordering}
use Rattle.std.specs.declared.cmp.Ordering.TheVariants.{Less, Equal, Greater}
use Rattle.std.specs.Cmp.{IsTotalOrder, tied_itself}
use Rattle.std.specs.Ordering.{match_ordering, eq_by_cmp, is_eq, ordering_reverse}
use Rattle.std.specs.Option.{unwrap_or}
use Rattle.std.specs.Map.{lookup, keys_of}
use Rattle.std.specs.List.{AllByRecursion}
use Rattle.std.specs.List.Sorted.{IsStrictlySortedBy}
use Rattle.std.proofs.lemmas.Bool.{eqb-true}
use Rattle.lists.specs.laws.XorLaws.{xor_swap}
use Rattle.poly_mixed.specs.Sum.{with_coefficient, xor_sum, plus_term, plus}
use Rattle.poly_mixed.proofs.TermLemmas.{all_plus_term}

pub xor_cancel : (a b c : ℕ) → bit_xor a b ≡ bit_xor a c → b ≡ c
xor_cancel a b c e = sym (back b) ∙ ap (bit_xor a) e ∙ back c
  where
    back : (n : ℕ) → bit_xor a (bit_xor a n) ≡ n
    back n = sym (xor_assoc a a n) ∙ ap (λ m. bit_xor m n) (xor_self a) ∙ xor_zero_l n

-- f is additive in the coefficient, where E holds of the coefficients
pub record IsAdditive {K : Type 0} (E : ℕ → Type 0) (f : K × ℕ → ℕ) : Type 0 where
  pub sums : (k : K) (c d : ℕ) → E c → E d → f (k, bit_xor c d) ≡ bit_xor (f (k, c)) (f (k, d))
  pub none : (k : K) → f (k, 0) ≡ 0

module _ {K : Type 0} (R : K → K → Ordering) where
  abbrev pub IsBelow : K → List (K × ℕ) → Type 0
  IsBelow x ts = AllByRecursion (λ y. R x y ≡ Less) (keys_of ts)

  IsBelow-plus_term : (x : K) (ts : List (K × ℕ)) (u : K × ℕ) → R x u.0 ≡ Less → IsBelow x ts → IsBelow x (plus_term R ts u)
  IsBelow-plus_term x [] u l all = (l, tt)
  IsBelow-plus_term x (t ∷ ts) u l all =
      elim (R u.0 t.0) as (λ r. IsBelow x (match_ordering r (u ∷ t ∷ ts) (with_coefficient t.0 (bit_xor t.1 u.1) ts) (t ∷ plus_term R ts u))) [
        | Less ↦ (l, all)
        | Equal ↦ elim (bit_xor t.1 u.1 == 0) as (λ b. IsBelow x (cond b ts ((t.0, bit_xor t.1 u.1) ∷ ts))) [ true ↦ all.1 | false ↦ all ]
        | Greater ↦ (all.0, IsBelow-plus_term x ts u l all.1)
      ]

  module _ (o : IsTotalOrder R) where
    IsBelow-trans : (x y : K) (ts : List (K × ℕ)) → R x y ≡ Less → IsBelow y ts → IsBelow x ts
    IsBelow-trans x y [] l all = tt
    IsBelow-trans x y (t ∷ ts) l all = (o.trans x y t.0 l all.0, IsBelow-trans x y ts l all.1)

    turned : (x y : K) → R x y ≡ Greater → R y x ≡ Less
    turned x y e = o.antisymm y x ∙ ap ordering_reverse e

    pub sorted-plus_term : (ts : List (K × ℕ)) (u : K × ℕ) → IsStrictlySortedBy R (keys_of ts) → IsStrictlySortedBy R (keys_of (plus_term R ts u))
    unfolding IsStrictlySortedBy
    sorted-plus_term [] u s = (tt, tt)
    sorted-plus_term (t ∷ ts) u s =
        elim (R u.0 t.0) as (λ r. R u.0 t.0 ≡ r → IsStrictlySortedBy R (keys_of (match_ordering r (u ∷ t ∷ ts) (with_coefficient t.0 (bit_xor t.1 u.1) ts) (t ∷ plus_term R ts u)))) [
          | Less ↦ λ e. ((e, IsBelow-trans u.0 t.0 ts e s.0), s)
          | Equal ↦ λ e. elim (bit_xor t.1 u.1 == 0) as (λ b. IsStrictlySortedBy R (keys_of (cond b ts ((t.0, bit_xor t.1 u.1) ∷ ts)))) [ true ↦ s.1 | false ↦ s ]
          | Greater ↦ λ e. (IsBelow-plus_term t.0 ts u (turned u.0 t.0 e) s.0, sorted-plus_term ts u s.1)
        ] refl

    pub sorted-plus : (ts us : List (K × ℕ)) → IsStrictlySortedBy R (keys_of ts) → IsStrictlySortedBy R (keys_of (plus R ts us))
    sorted-plus ts [] s = s
    sorted-plus ts (u ∷ us) s = sorted-plus (plus_term R ts u) us (sorted-plus_term ts u s)

  pub all_plus : (P : K × ℕ → Type 0) → ((t u : K × ℕ) → P t → P u → bit_xor t.1 u.1 ≢ 0 → P (t.0, bit_xor t.1 u.1)) → (ts us : List (K × ℕ)) → AllByRecursion P ts → AllByRecursion P us → AllByRecursion P (plus R ts us)
  all_plus P joins ts [] all more = all
  all_plus P joins ts (u ∷ us) all more = all_plus P joins (plus_term R ts u) us (all_plus_term R P u (λ t p n. joins t u p more.0 n) ts all more.0) more.1

  module _ (same : (x y : K) → R x y ≡ Equal → x ≡ y) (E : ℕ → Type 0) (f : K × ℕ → ℕ) (add : IsAdditive E f) where
    met : (t u : K × ℕ) (S : ℕ) → E t.1 → E u.1 → t.0 ≡ u.0 → bit_xor (f (t.0, bit_xor t.1 u.1)) S ≡ bit_xor (f u) (bit_xor (f t) S)
    met t u S et eu e =
        let P : K → Type 0 = λ k. f (t.0, u.1) ≡ f (k, u.1) in
        let here : f (t.0, u.1) ≡ f u = subst P e refl in
        ap (λ n. bit_xor n S) (add.sums t.0 t.1 u.1 et eu ∙ ap (bit_xor (f t)) here ∙ xor_comm (f t) (f u)) ∙ xor_assoc (f u) (f t) S

    xor_sum-with_coefficient : (m : K) (c : ℕ) (ts : List (K × ℕ)) → xor_sum f (with_coefficient m c ts) ≡ bit_xor (f (m, c)) (xor_sum f ts)
    xor_sum-with_coefficient m c ts =
        elim (c == 0) as (λ b. (c == 0) ≡ b → xor_sum f (cond b ts ((m, c) ∷ ts)) ≡ bit_xor (f (m, c)) (xor_sum f ts)) [
          | true ↦ λ e. sym (ap (λ n. bit_xor n (xor_sum f ts)) (ap (λ (n : ℕ). f (m, n)) (eqb-true c 0 e) ∙ add.none m) ∙ xor_zero_l (xor_sum f ts))
          | false ↦ λ e. refl
        ] refl

    pub xor_sum-plus_term : (ts : List (K × ℕ)) (u : K × ℕ) → AllByRecursion (λ t. E t.1) ts → E u.1 → xor_sum f (plus_term R ts u) ≡ bit_xor (f u) (xor_sum f ts)
    xor_sum-plus_term [] u all one = refl
    xor_sum-plus_term (t ∷ ts) u all one =
        elim (R u.0 t.0) as (λ r. R u.0 t.0 ≡ r → xor_sum f (match_ordering r (u ∷ t ∷ ts) (with_coefficient t.0 (bit_xor t.1 u.1) ts) (t ∷ plus_term R ts u)) ≡ bit_xor (f u) (bit_xor (f t) (xor_sum f ts))) [
          | Less ↦ λ e. refl
          | Equal ↦ λ e. xor_sum-with_coefficient t.0 (bit_xor t.1 u.1) ts ∙ met t u (xor_sum f ts) all.0 one (sym (same u.0 t.0 e))
          | Greater ↦ λ e. ap (bit_xor (f t)) (xor_sum-plus_term ts u all.1 one) ∙ xor_swap (f t) (f u) (xor_sum f ts)
        ] refl

    pub xor_sum-plus : ((x y : ℕ) → E x → E y → E (bit_xor x y)) → (ts us : List (K × ℕ)) → AllByRecursion (λ t. E t.1) ts → AllByRecursion (λ t. E t.1) us → xor_sum f (plus R ts us) ≡ bit_xor (xor_sum f ts) (xor_sum f us)
    xor_sum-plus closed ts [] all more = sym (xor_zero_r (xor_sum f ts))
    xor_sum-plus closed ts (u ∷ us) all more =
        xor_sum-plus closed (plus_term R ts u) us (all_plus_term R (λ t. E t.1) u (λ t p n. closed t.1 u.1 p more.0) ts all more.0) more.1
        ∙ ap (λ n. bit_xor n (xor_sum f us)) (xor_sum-plus_term ts u all more.0 ∙ xor_comm (f u) (xor_sum f ts))
        ∙ xor_assoc (xor_sum f ts) (f u) (xor_sum f us)

  -- what a map gives at q, as a sum over its terms
  abbrev pub found : List (K × ℕ) → K → ℕ
  found ts q = unwrap_or (lookup (eq_by_cmp R q) ts) 0

  abbrev pub at : K → K × ℕ → ℕ
  at q t = cond (eq_by_cmp R q t.0) t.1 0

  pub at_additive : (q : K) → IsAdditive (λ _. Unit {0}) (at q)
  at_additive q = record {
    sums = λ k c d _ _. elim (eq_by_cmp R q k) as (λ b. cond b (bit_xor c d) 0 ≡ bit_xor (cond b c 0) (cond b d 0)) [ true ↦ refl | false ↦ refl ];
    none = λ k. elim (eq_by_cmp R q k) as (λ b. ◌≡◌ {A = ℕ} (cond b 0 0) 0) [ true ↦ refl | false ↦ refl ];
  }

  module _ (o : IsTotalOrder R) where
    sum_below : (q x : K) (ts : List (K × ℕ)) → R q x ≡ Equal → IsBelow x ts → xor_sum (at q) ts ≡ 0
    sum_below q x [] e all = refl
    sum_below q x (t ∷ ts) e all = ap (λ r. bit_xor (cond (is_eq r) t.1 0) (xor_sum (at q) ts)) (o.congr q x t.0 e ∙ all.0) ∙ xor_zero_l (xor_sum (at q) ts) ∙ sum_below q x ts e all.1

    pub found_is_sum : (ts : List (K × ℕ)) (q : K) → IsStrictlySortedBy R (keys_of ts) → found ts q ≡ xor_sum (at q) ts
    unfolding IsStrictlySortedBy
    found_is_sum [] q s = refl
    found_is_sum (t ∷ ts) q s =
        elim (R q t.0) as (λ r. R q t.0 ≡ r → unwrap_or (cond (is_eq r) (Some t.1) (lookup (eq_by_cmp R q) ts)) 0 ≡ bit_xor (cond (is_eq r) t.1 0) (xor_sum (at q) ts)) [
          | Less ↦ λ e. found_is_sum ts q s.1 ∙ sym (xor_zero_l (xor_sum (at q) ts))
          | Equal ↦ λ e. sym (ap (bit_xor t.1) (sum_below q t.0 ts e s.0) ∙ xor_zero_r t.1)
          | Greater ↦ λ e. found_is_sum ts q s.1 ∙ sym (xor_zero_l (xor_sum (at q) ts))
        ] refl

    all_unit : (ts : List (K × ℕ)) → AllByRecursion (λ t. Unit {0}) ts
    all_unit [] = tt
    all_unit (t ∷ ts) = (tt, all_unit ts)

    -- the sum has at each key the sum of what the two have there
    pub found-plus : ((x y : K) → R x y ≡ Equal → x ≡ y) → (ts us : List (K × ℕ)) (q : K) → IsStrictlySortedBy R (keys_of ts) → IsStrictlySortedBy R (keys_of us) → found (plus R ts us) q ≡ bit_xor (found ts q) (found us q)
    found-plus same ts us q s v =
        found_is_sum (plus R ts us) q (sorted-plus o ts us s)
        ∙ xor_sum-plus same (λ _. Unit {0}) (at q) (at_additive q) (λ x y _ _. tt) ts us (all_unit ts) (all_unit us)
        ∙ ap (λ n. bit_xor n (xor_sum (at q) us)) (sym (found_is_sum ts q s))
        ∙ ap (bit_xor (found ts q)) (sym (found_is_sum us q v))

    missing : (x : K) (ts : List (K × ℕ)) → IsBelow x ts → found ts x ≡ 0
    missing x [] all = refl
    missing x (t ∷ ts) all = ap (λ r. unwrap_or (cond (is_eq r) (Some t.1) (lookup (eq_by_cmp R x) ts)) 0) all.0 ∙ missing x ts all.1

    at_head : (t : K × ℕ) (ts : List (K × ℕ)) → found (t ∷ ts) t.0 ≡ t.1
    at_head t ts = ap (λ r. unwrap_or (cond (is_eq r) (Some t.1) (lookup (eq_by_cmp R t.0) ts)) 0) (tied_itself o t.0)

    missing_all : (x : K) (t : K × ℕ) (ts : List (K × ℕ)) → R x t.0 ≡ Less → IsBelow t.0 ts → found (t ∷ ts) x ≡ 0
    missing_all x t ts l all = missing x (t ∷ ts) (l, IsBelow-trans o x t.0 ts l all)

    -- two maps that agree at each key are one
    pub same_terms : ((x y : K) → R x y ≡ Equal → x ≡ y) → (ts us : List (K × ℕ)) → IsStrictlySortedBy R (keys_of ts) → IsStrictlySortedBy R (keys_of us) → AllByRecursion (λ t. t.1 ≢ 0) ts → AllByRecursion (λ t. t.1 ≢ 0) us → ((q : K) → found ts q ≡ found us q) → ts ≡ us
    unfolding IsStrictlySortedBy
    same_terms same [] [] s v n m h = refl
    same_terms same [] (u ∷ us) s v n m h = absurd (m.0 (sym (at_head u us) ∙ sym (h u.0)))
    same_terms same (t ∷ ts) [] s v n m h = absurd (n.0 (sym (at_head t ts) ∙ h t.0))
    same_terms same (t ∷ ts) (u ∷ us) s v n m h =
        elim (R t.0 u.0) as (λ r. R t.0 u.0 ≡ r → t ∷ ts ≡ u ∷ us) [
          | Less ↦ λ e. absurd (n.0 (sym (at_head t ts) ∙ h t.0 ∙ missing_all t.0 u us e v.0))
          | Equal ↦ λ e.
              let k : t.0 ≡ u.0 = same t.0 u.0 e in
              let F : K → Type 0 = λ x. found (t ∷ ts) x ≡ found (u ∷ us) u.0 in
              let c : t.1 ≡ u.1 = sym (at_head t ts) ∙ subst F (sym k) (h u.0) ∙ at_head u us in
              let step : (q : K) → at q t ≡ at q u = λ q i. cond (eq_by_cmp R q (k i)) (c i) 0 in
              let rest : (q : K) → found ts q ≡ found us q = λ q.
              found_is_sum ts q s.1
              ∙ xor_cancel (at q t) _ _ (sym (found_is_sum (t ∷ ts) q s) ∙ h q ∙ found_is_sum (u ∷ us) q v ∙ ap (λ n. bit_xor n (xor_sum (at q) us)) (sym (step q)))
              ∙ sym (found_is_sum us q v.1) in
              let tails : ts ≡ us = same_terms same ts us s.1 v.1 n.1 m.1 rest in
              λ i. (k i, c i) ∷ tails i
          | Greater ↦ λ e. absurd (m.0 (sym (at_head u us) ∙ sym (h u.0) ∙ missing_all u.0 t ts (turned o t.0 u.0 e) s.0))
        ] refl
