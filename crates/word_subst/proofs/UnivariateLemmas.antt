-- The values of polynomials in one word, and merges of two.
use Rattle.std.proofs.Common.{◌≡◌, ◌≢◌, ◌∙◌, ap, sym, refl, subst, ℕ, ◌<◌, ◌≤◌, ◌+◌, List, [], ◌∷◌, ◌++◌, length, take, drop, get_or, ◌-◌, bit_xor, inl, inr, append-nil, arith}
use Rattle.std.specs.Int.Bits.{xor_zero_l, xor_zero_r, xor_assoc, xor_self, xor_lt}
use Rattle.std.proofs.lemmas.Bool.{cases_lt}
use Rattle.std.proofs.lemmas.List.{drop_more, length-append}
use Rattle.std.proofs.Math.ListN.{drop_of_length-le}
use Rattle.std.specs.declared.cmp.Ordering.TheVariants.{Less, Equal, Greater}
use Rattle.std.specs.Cmp.{ranked}
use Rattle.std.specs.Ordering.{nat_cmp}
use Rattle.std.specs.List.{AllByRecursion}
use Rattle.lists.specs.laws.ListLaws.{length-push, all_append}
use Rattle.lists.specs.laws.XorLaws.{xor_swap, xor_same, xor_cross}
use Rattle.gf_field.specs.Power.{power}
use Rattle.poly_mixed.specs.Polynomial.{IsElement}
use Rattle.poly_mixed.specs.Sum.{xor_sum}
use Rattle.poly_mixed.proofs.FieldLaws.{IsField}
use Rattle.poly_mixed.proofs.ValueLemmas.{power_element, zero_element}
use Rattle.word_subst.specs.Univariate.{Powers, IsPower, IsBelow, IsRising, IsUnivariate, power_value, value_of, IsSum}
use Rattle.poly_mixed.proofs.RankLemmas.{from_less}
use Rattle.word_subst.proofs.RisingLemmas.{rest_is}
use Rattle.word_subst.specs.Merge.{IsBefore, IsMergeOf, IsMerging, IsMergedTo}

pub xor_sum-append : {K : Type 0} (f : K × ℕ → ℕ) (ts us : List (K × ℕ)) → xor_sum f (ts ++ us) ≡ bit_xor (xor_sum f ts) (xor_sum f us)
xor_sum-append f [] us = sym (xor_zero_l (xor_sum f us))
xor_sum-append f (t ∷ ts) us = ap (bit_xor (f t)) (xor_sum-append f ts us) ∙ sym (xor_assoc (f t) (xor_sum f ts) (xor_sum f us))

-- ---- order

pub below_less : (e f : ℕ) (us : Powers) → e < f → IsBelow f us → IsBelow e us
below_less e f [] less all = tt
below_less e f (t ∷ us) less all = (omega (arith, less, all.0), below_less e f us less all.1)

pub rising_append : (ts us : Powers) → IsRising ts → IsRising us → IsBefore ts us → IsRising (ts ++ us)
rising_append [] us up more before = more
rising_append (t ∷ ts) us up more before = (all_append (λ u. t.0 < u.0) ts us up.0 before.0, rising_append ts us up.1 more before.1)

pub before_tail : (ts : Powers) (u : ℕ × ℕ) (us : Powers) → IsBefore ts (u ∷ us) → IsBefore ts us
before_tail [] u us all = tt
before_tail (t ∷ ts) u us all = (all.0.1, before_tail ts u us all.1)

pub before_one : (ts : Powers) (e c : ℕ) (u : ℕ × ℕ) (us : Powers) → e ≡ u.0 → IsBefore ts (u ∷ us) → IsBefore ts ((e, c) ∷ [])
before_one [] e c u us same all = tt
before_one (t ∷ ts) e c u us same all = ((omega (arith, same, all.0.0), tt), before_one ts e c u us same all.1)

pub univariate_append : (k : ℕ) (ts us : Powers) → IsUnivariate k ts → IsUnivariate k us → IsBefore ts us → IsUnivariate k (ts ++ us)
univariate_append k ts us is more before = record { rising = rising_append ts us is.rising more.rising before; powers = all_append (IsPower k) ts us is.powers more.powers }

pub univariate_tail : (k : ℕ) (t : ℕ × ℕ) (us : Powers) → IsUnivariate k (t ∷ us) → IsUnivariate k us
univariate_tail k t us is = record { rising = is.rising.1; powers = is.powers.1 }

pub no_powers : (k : ℕ) → IsUnivariate k []
no_powers k = record { rising = tt; powers = tt }

pub one_power : (k : ℕ) (t : ℕ × ℕ) → IsPower k t → IsUnivariate k (t ∷ [])
one_power k t is = record { rising = (tt, tt); powers = (is, tt) }

-- ---- values

module _ {k : ℕ} {mul : ℕ → ℕ → ℕ} (f : IsField k mul) where
  pub power_value_element : (x : ℕ) (t : ℕ × ℕ) → IsElement k x → IsPower k t → IsElement k (power_value mul x t)
  power_value_element x t at is = f.closed t.1 (power mul x t.0) is.element (power_element f x t.0 at)

  pub value_of_element : (x : ℕ) (us : Powers) → IsElement k x → AllByRecursion (IsPower k) us → IsElement k (value_of mul x us)
  value_of_element x [] at all = zero_element f
  value_of_element x (u ∷ us) at all = xor_lt k (power_value mul x u) (value_of mul x us) (power_value_element x u at all.0) (value_of_element x us at all.1)

  -- ---- merges

  module _ (us vs : Powers) where
    value_push : (x : ℕ) (sum : Powers) (t : ℕ × ℕ) → value_of mul x (sum ++ t ∷ []) ≡ bit_xor (value_of mul x sum) (power_value mul x t)
    value_push x sum t = xor_sum-append (power_value mul x) sum (t ∷ []) ∙ ap (bit_xor (value_of mul x sum)) (xor_zero_r (power_value mul x t))

    pub take_left : (t : ℕ × ℕ) (left right sum : Powers) → IsBelow t.0 right → IsMergeOf k mul us vs (t ∷ left) right sum → IsMergeOf k mul us vs left right (sum ++ t ∷ [])
    take_left t left right sum low is = record {
      left_is = univariate_tail k t left is.left_is;
      right_is = is.right_is;
      sum_is = univariate_append k sum (t ∷ []) is.sum_is (one_power k t is.left_is.powers.0) (before_one sum t.0 t.1 t left refl is.before_left);
      before_left = all_append (λ s. IsBelow s.0 left) sum (t ∷ []) (before_tail sum t left is.before_left) (is.left_is.rising.0, tt);
      before_right = all_append (λ s. IsBelow s.0 right) sum (t ∷ []) is.before_right (low, tt);
      few = omega (arith, is.few, length-push sum t);
      values = λ x at.
          let o = value_of mul x sum in
          let p = power_value mul x t in
          let a = value_of mul x left in
          let b = value_of mul x right in
          ap (λ n. bit_xor n (bit_xor a b)) (value_push x sum t)
          ∙ (xor_assoc o p (bit_xor a b) ∙ (ap (bit_xor o) (sym (xor_assoc p a b)) ∙ is.values x at));
    }

    pub take_right : (t : ℕ × ℕ) (left right sum : Powers) → IsBelow t.0 left → IsMergeOf k mul us vs left (t ∷ right) sum → IsMergeOf k mul us vs left right (sum ++ t ∷ [])
    take_right t left right sum low is = record {
      left_is = is.left_is;
      right_is = univariate_tail k t right is.right_is;
      sum_is = univariate_append k sum (t ∷ []) is.sum_is (one_power k t is.right_is.powers.0) (before_one sum t.0 t.1 t right refl is.before_right);
      before_left = all_append (λ s. IsBelow s.0 left) sum (t ∷ []) is.before_left (low, tt);
      before_right = all_append (λ s. IsBelow s.0 right) sum (t ∷ []) (before_tail sum t right is.before_right) (is.right_is.rising.0, tt);
      few = omega (arith, is.few, length-push sum t);
      values = λ x at.
          let o = value_of mul x sum in
          let p = power_value mul x t in
          let a = value_of mul x left in
          let b = value_of mul x right in
          ap (λ n. bit_xor n (bit_xor a b)) (value_push x sum t)
          ∙ (xor_assoc o p (bit_xor a b) ∙ (ap (bit_xor o) (xor_swap p a b) ∙ is.values x at));
    }

    -- the two powers add up
    pub take_both : (e c d : ℕ) (left right sum : Powers) → bit_xor c d ≢ 0 → IsMergeOf k mul us vs ((e, c) ∷ left) ((e, d) ∷ right) sum → IsMergeOf k mul us vs left right (sum ++ (e, bit_xor c d) ∷ [])
    take_both e c d left right sum some is =
        let hc = is.left_is.powers.0.element in
        let hd = is.right_is.powers.0.element in
        let both : IsPower k (e, bit_xor c d) = record { exponent = is.left_is.powers.0.exponent; element = xor_lt k c d hc hd; some = some } in
        record {
          left_is = univariate_tail k (e, c) left is.left_is;
          right_is = univariate_tail k (e, d) right is.right_is;
          sum_is = univariate_append k sum ((e, bit_xor c d) ∷ []) is.sum_is (one_power k (e, bit_xor c d) both) (before_one sum e (bit_xor c d) (e, c) left refl is.before_left);
          before_left = all_append (λ s. IsBelow s.0 left) sum ((e, bit_xor c d) ∷ []) (before_tail sum (e, c) left is.before_left) (is.left_is.rising.0, tt);
          before_right = all_append (λ s. IsBelow s.0 right) sum ((e, bit_xor c d) ∷ []) (before_tail sum (e, d) right is.before_right) (is.right_is.rising.0, tt);
          few = omega (arith, is.few, length-push sum (e, bit_xor c d));
          values = λ x at.
              let o = value_of mul x sum in
              let p = power_value mul x (e, c) in
              let q = power_value mul x (e, d) in
              let a = value_of mul x left in
              let b = value_of mul x right in
              ap (λ n. bit_xor n (bit_xor a b)) (value_push x sum (e, bit_xor c d))
              ∙ (xor_assoc o (power_value mul x (e, bit_xor c d)) (bit_xor a b)
              ∙ (ap (λ n. bit_xor o (bit_xor n (bit_xor a b))) (f.distrib c d (power mul x e) hc hd (power_element f x e at))
              ∙ (ap (bit_xor o) (xor_cross p q a b) ∙ is.values x at)));
        }

    -- the two powers are equal
    pub take_none : (e c d : ℕ) (left right sum : Powers) → c ≡ d → IsMergeOf k mul us vs ((e, c) ∷ left) ((e, d) ∷ right) sum → IsMergeOf k mul us vs left right sum
    take_none e c d left right sum same is = record {
      left_is = univariate_tail k (e, c) left is.left_is;
      right_is = univariate_tail k (e, d) right is.right_is;
      sum_is = is.sum_is;
      before_left = before_tail sum (e, c) left is.before_left;
      before_right = before_tail sum (e, d) right is.before_right;
      few = omega (arith, is.few);
      values = λ x at.
          let o = value_of mul x sum in
          let p = power_value mul x (e, c) in
          let q = power_value mul x (e, d) in
          let a = value_of mul x left in
          let b = value_of mul x right in
          let equal : p ≡ q = ap (λ n. mul n (power mul x e)) same in
          let gone : bit_xor p q ≡ 0 = ap (λ n. bit_xor n q) equal ∙ xor_self q in
          ap (bit_xor o) (sym (xor_zero_l (bit_xor a b)) ∙ (ap (λ n. bit_xor n (bit_xor a b)) (sym gone) ∙ xor_cross p q a b)) ∙ is.values x at;
    }

    pub merge_end_left : (left sum : Powers) → IsMergeOf k mul us vs left [] sum → IsSum k mul us vs (sum ++ left)
    merge_end_left left sum is = record {
      univariate = univariate_append k sum left is.sum_is is.left_is is.before_left;
      few = omega (arith, is.few, length-append sum left);
      values = λ x at. xor_sum-append (power_value mul x) sum left ∙ (ap (bit_xor (value_of mul x sum)) (sym (xor_zero_r (value_of mul x left))) ∙ is.values x at);
    }

    pub merge_end_right : (right sum : Powers) → IsMergeOf k mul us vs [] right sum → IsSum k mul us vs (sum ++ right)
    merge_end_right right sum is = record {
      univariate = univariate_append k sum right is.sum_is is.right_is is.before_right;
      few = omega (arith, is.few, length-append sum right);
      values = λ x at. xor_sum-append (power_value mul x) sum right ∙ (ap (bit_xor (value_of mul x sum)) (sym (xor_zero_l (value_of mul x right))) ∙ is.values x at);
    }

    -- ---- one step of a merge, by places

    abbrev at_left : ℕ → ℕ × ℕ
    at_left i = get_or us i (0, 0)

    abbrev at_right : ℕ → ℕ × ℕ
    at_right j = get_or vs j (0, 0)

    heads : (sum : Powers) (i j : ℕ) → i < length us → j < length vs → IsMerging k mul us vs i j sum → IsMergeOf k mul us vs (at_left i ∷ drop (i + 1) us) (at_right j ∷ drop (j + 1) vs) sum
    heads sum i j more_left more_right is =
        let P : Powers → Type 0 = λ ls. IsMergeOf k mul us vs ls (drop j vs) sum in
        let Q : Powers → Type 0 = λ rs. IsMergeOf k mul us vs (at_left i ∷ drop (i + 1) us) rs sum in
        subst Q (drop_more vs j (0, 0) more_right) (subst P (drop_more us i (0, 0) more_left) is.merge)

    pub step_left : (sum new : Powers) (i j : ℕ) → i < length us → j < length vs → IsMerging k mul us vs i j sum → nat_cmp (at_left i).0 (at_right j).0 ≡ Less → new ≡ sum ++ at_left i ∷ [] → IsMergedTo k mul us vs i j (i + 1) j new
    step_left sum new i j more_left more_right is less same =
        let m = heads sum i j more_left more_right is in
        let low : (at_left i).0 < (at_right j).0 = from_less (at_left i).0 (at_right j).0 less in
        let R : Powers → Type 0 = λ rs. IsMergeOf k mul us vs (drop (i + 1) us) rs new in
        let S : Powers → Type 0 = λ ss. IsMergeOf k mul us vs (drop (i + 1) us) (at_right j ∷ drop (j + 1) vs) ss in
        let next = take_left (at_left i) (drop (i + 1) us) (at_right j ∷ drop (j + 1) vs) sum (low, below_less (at_left i).0 (at_right j).0 (drop (j + 1) vs) low m.right_is.rising.0) m in
        record { merging = record { left = omega arith; right = omega arith; merge = subst R (sym (drop_more vs j (0, 0) more_right)) (subst S (sym same) next) }; more = omega arith }

    pub step_right : (sum new : Powers) (i j : ℕ) → i < length us → j < length vs → IsMerging k mul us vs i j sum → nat_cmp (at_left i).0 (at_right j).0 ≡ Greater → new ≡ sum ++ at_right j ∷ [] → IsMergedTo k mul us vs i j i (j + 1) new
    step_right sum new i j more_left more_right is greater same =
        let m = heads sum i j more_left more_right is in
        let low : (at_right j).0 < (at_left i).0 = ranked (at_left i).0 (at_right j).0 Greater (sym greater) in
        let R : Powers → Type 0 = λ ls. IsMergeOf k mul us vs ls (drop (j + 1) vs) new in
        let S : Powers → Type 0 = λ ss. IsMergeOf k mul us vs (at_left i ∷ drop (i + 1) us) (drop (j + 1) vs) ss in
        let next = take_right (at_right j) (at_left i ∷ drop (i + 1) us) (drop (j + 1) vs) sum (low, below_less (at_right j).0 (at_left i).0 (drop (i + 1) us) low m.left_is.rising.0) m in
        record { merging = record { left = omega arith; right = omega arith; merge = subst R (sym (drop_more us i (0, 0) more_left)) (subst S (sym same) next) }; more = omega arith }

    -- both have the same exponent
    same_heads : (sum : Powers) (i j : ℕ) → i < length us → j < length vs → IsMerging k mul us vs i j sum → nat_cmp (at_left i).0 (at_right j).0 ≡ Equal
        → IsMergeOf k mul us vs (((at_left i).0, (at_left i).1) ∷ drop (i + 1) us) (((at_left i).0, (at_right j).1) ∷ drop (j + 1) vs) sum
    same_heads sum i j more_left more_right is equal =
        let e : (at_right j).0 ≡ (at_left i).0 = sym (ranked (at_left i).0 (at_right j).0 Equal (sym equal)) in
        let P : ℕ → Type 0 = λ n. IsMergeOf k mul us vs (((at_left i).0, (at_left i).1) ∷ drop (i + 1) us) ((n, (at_right j).1) ∷ drop (j + 1) vs) sum in
        subst P e (heads sum i j more_left more_right is)

    pub step_both : (sum new : Powers) (i j : ℕ) → i < length us → j < length vs → IsMerging k mul us vs i j sum → nat_cmp (at_left i).0 (at_right j).0 ≡ Equal → (at_left i).1 ≢ (at_right j).1
        → new ≡ sum ++ ((at_left i).0, bit_xor (at_left i).1 (at_right j).1) ∷ [] → IsMergedTo k mul us vs i j (i + 1) (j + 1) new
    step_both sum new i j more_left more_right is equal apart same =
        let m = same_heads sum i j more_left more_right is equal in
        let S : Powers → Type 0 = λ ss. IsMergeOf k mul us vs (drop (i + 1) us) (drop (j + 1) vs) ss in
        let next = take_both (at_left i).0 (at_left i).1 (at_right j).1 (drop (i + 1) us) (drop (j + 1) vs) sum (λ none. apart (xor_same (at_left i).1 (at_right j).1 none)) m in
        record { merging = record { left = omega arith; right = omega arith; merge = subst S (sym same) next }; more = omega arith }

    pub step_none : (sum new : Powers) (i j : ℕ) → i < length us → j < length vs → IsMerging k mul us vs i j sum → nat_cmp (at_left i).0 (at_right j).0 ≡ Equal → (at_left i).1 ≡ (at_right j).1 → new ≡ sum → IsMergedTo k mul us vs i j (i + 1) (j + 1) new
    step_none sum new i j more_left more_right is equal alike same =
        let m = same_heads sum i j more_left more_right is equal in
        let S : Powers → Type 0 = λ ss. IsMergeOf k mul us vs (drop (i + 1) us) (drop (j + 1) vs) ss in
        let next = take_none (at_left i).0 (at_left i).1 (at_right j).1 (drop (i + 1) us) (drop (j + 1) vs) sum alike m in
        record { merging = record { left = omega arith; right = omega arith; merge = subst S (sym same) next }; more = omega arith }

    -- what is left of the one is nothing
    pub merge_end : (sum : Powers) (i j : ℕ) → (i < length us → j < length vs → ⊥) → IsMerging k mul us vs i j sum → IsSum k mul us vs ((sum ++ drop i us) ++ drop j vs)
    merge_end sum i j done is = elim (cases_lt i (length us)) [
      | inr whole ↦
          let none : drop i us ≡ [] = drop_of_length-le us whole in
          let P : Powers → Type 0 = λ ls. IsMergeOf k mul us vs ls (drop j vs) sum in
          let Q : Powers → Type 0 = λ ls. IsSum k mul us vs ((sum ++ ls) ++ drop j vs) in
          let R : Powers → Type 0 = λ ss. IsSum k mul us vs (ss ++ drop j vs) in
          subst Q (sym none) (subst R (sym (append-nil sum)) (merge_end_right (drop j vs) sum (subst P none is.merge)))
      | inl more ↦
          let whole : length vs ≤ j = (elim (cases_lt j (length vs)) [ inl lt ↦ absurd (done more lt) | inr le ↦ le ]) in
          let none : drop j vs ≡ [] = drop_of_length-le vs whole in
          let P : Powers → Type 0 = λ rs. IsMergeOf k mul us vs (drop i us) rs sum in
          let Q : Powers → Type 0 = λ rs. IsSum k mul us vs ((sum ++ drop i us) ++ rs) in
          subst Q (sym none) (subst (IsSum k mul us vs) (sym (append-nil (sum ++ drop i us))) (merge_end_left (drop i us) sum (subst P none is.merge)))
    ]

    pub merged : (left right sum mid new : Powers) (i j : ℕ) → left ≡ us → right ≡ vs → (i < length left → j < length right → ⊥) → IsMerging k mul us vs i j sum
        → mid ≡ sum ++ take (length left - i) (drop i left) → new ≡ mid ++ take (length right - j) (drop j right) → IsSum k mul us vs new
    merged left right sum mid new i j left_is right_is done is mid_is new_is =
        let whole = merge_end sum i j (λ more_left more_right. done (omega (arith, more_left, ap length left_is)) (omega (arith, more_right, ap length right_is))) is in
        let first : mid ≡ sum ++ drop i us = mid_is ∙ ap (λ xs. sum ++ xs) (rest_is i left ∙ ap (λ xs. drop i xs) left_is) in
        let last : new ≡ (sum ++ drop i us) ++ drop j vs = new_is ∙ ((λ n. first n ++ take (length right - j) (drop j right)) ∙ ap (λ xs. (sum ++ drop i us) ++ xs) (rest_is j right ∙ ap (λ xs. drop j xs) right_is)) in
        subst (IsSum k mul us vs) (sym last) whole

-- more of both is taken
pub closer : (a b i j p q : ℕ) → p ≤ a → q ≤ b → i + j < p + q → (a + b) - (p + q) < (a + b) - (i + j)
closer a b i j p q left right more = omega arith
