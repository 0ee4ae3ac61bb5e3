-- What the first term of a sum says of the two polynomials.
use Rattle.std.proofs.Common.{◌≡◌, ◌≢◌, ◌∙◌, ap, sym, refl, subst, inl, inr, ℕ, zero, suc, ◌<◌, ◌≤◌, ◌*◌, true, false, List, [], ◌∷◌, length, take, drop, bit_xor, arith}
use lib.Bits.{xor_self, xor_zero_l}
use Rattle.std.specs.declared.cmp.Ordering.TheVariants.{Greater}
use Rattle.std.specs.Ordering.{nat_cmp}
use Rattle.std.specs.List.{AllByRecursion}
use Rattle.std.specs.List.Sorted.{IsStrictlySortedBy}
use Rattle.std.proofs.Math.Nat.{mul-suc, mul-le-mul_left}
use Rattle.std.proofs.lemmas.Bool.{cases_lt}
use Rattle.std.proofs.lemmas.List.{length-append}
use Rattle.lists.specs.Lists.{Has}
use Rattle.lists.specs.laws.HasLaws.{all_low}
use Rattle.lists.specs.laws.XorLaws.{xor_same}
use Rattle.poly_mixed.specs.Monomial.{Monomial, has_bit, text_cmp}
use Rattle.poly_mixed.specs.Polynomial.{Terms, Point, IsPoint, IsReduced, IsTerm, coefficient, value}
use Rattle.poly_mixed.specs.Cofactor.{LacksBit}
use Rattle.poly_mixed.specs.laws.Uniqueness.{IsZeros}
use Rattle.poly_mixed.specs.Sum.{plus}
use Rattle.poly_mixed.proofs.FieldLaws.{IsField, field_of}
use Rattle.poly_mixed.proofs.SumLemmas.{all_plus}
use Rattle.poly_mixed.proofs.UniquenessLemmas.{zeros_same}
use Rattle.poly_mixed.proofs.ValueLemmas.{coefficient-plus, same_map, map_plus, zero_element}
use Rattle.circuit_model.specs.Word.{Word, word_nets}
use Rattle.circuit_model.specs.Circuit.{Circuit}
use Rattle.circuit_model.specs.WellFormed.{IsWellFormed}
use Rattle.circuit_model.specs.Ones.{AreOnes, ones_cmp}
use Rattle.circuit_model.specs.Differing.{Differ, AreSame, IsDifferingInput}
use Rattle.circuit_model.proofs.Functions.{IsFunction}
use Rattle.circuit_model.proofs.DifferingLemmas.{one_differing}
use Rattle.spec_compare.specs.private.First.{IsFirstTerm, IsSumOf}
use Rattle.spec_compare.specs.private.InputOf.{inputs_from}
use Rattle.spec_compare.specs.ValueAt.{at_ones, IsValueAt, IsInInputBits}
use Rattle.spec_compare.specs.Verdict.{IsDifference, IsVerdict}
use Rattle.spec_compare.specs.declared.verdict.Verdict.{Verdict}
use Rattle.spec_compare.specs.declared.verdict.Verdict.TheVariants.{Same, Differ as Differ_at}
use Rattle.spec_compare.proofs.FirstLemmas.{IsBitTerm, at_first, before_none, term_has}
use Rattle.spec_compare.proofs.StepLemmas.{inputs_long}
use Rattle.spec_compare.proofs.InputLemmas.{one_list, are_ones, is_member}

-- ---- one value

pub one_value : (c : Circuit) (ts : Terms) → IsFunction (IsValueAt c ts)
one_value c ts xs e other a b = sym a.value_is ∙ ap (λ rs. value c.product (at_ones rs) ts) (one_list c xs a.ones b.ones a.are b.are) ∙ b.value_is

most : (k n : ℕ) → k ≤ 64 → n ≤ 8 → k * n ≤ 512
most k n small few = omega (arith, mul-le-mul_left {m = n} {n = 8} k few)

-- ---- ranks of a term

lacks_low : (n : ℕ) (m : Monomial) → ((rank : ℕ) → n ≤ rank → has_bit rank m ≡ false) → (r : ℕ) → Has m.bits r → r < n
lacks_low n m lacks r has =
    elim (cases_lt r n) [
      | inl less ↦ less
      | inr more ↦ let bad : true ≡ false = sym (is_member m.bits r has) ∙ lacks r more in absurd (cc)
    ]

pub nets_long : (k : ℕ) (ws : List Word) → ((w : Word) → Has ws w → length w.nets ≡ k) → length (word_nets ws) ≡ k * length ws
nets_long k [] are = omega arith
nets_long k (w ∷ ws) are = length-append w.nets (word_nets ws) ∙ omega (arith, are w (0, refl), nets_long k ws (λ v has. are v (suc has.0, has.1)), mul-suc k (length ws))

module _ (c : Circuit) (well : IsWellFormed c) (ls rs sum : Terms) (left : IsInInputBits c ls) (right : IsInInputBits c rs) (sum_is : IsSumOf c.k c.product ls rs sum) where
  is : sum ≡ plus text_cmp ls rs
  is = sum_is.terms

  reduced : IsReduced c.k sum
  reduced = sum_is.reduced

  values : (p : Point) → IsPoint c.k p → value c.product p sum ≡ bit_xor (value c.product p ls) (value c.product p rs)
  values = sum_is.values

  f : IsField c.k c.product
  f = field_of c.k c.product well.ring well.no_zero_divisors

  at_point : (ones : List ℕ) → IsPoint c.k (at_ones ones)
  at_point ones = let z = zero_element f in record { words = refl; elements = (z, (z, (z, (z, (z, (z, (z, (z, tt)))))))) }

  lacks : (rank : ℕ) → length (word_nets c.words) ≤ rank → LacksBit rank sum
  lacks rank more =
      let P : Terms → Type 0 = LacksBit rank in
      subst P (sym is) (all_plus text_cmp (λ t. has_bit rank t.0 ≡ false) (λ t u h k n. h) ls rs (left.ranks rank more) (right.ranks rank more))

  in_bits : AllByRecursion (λ t. IsZeros t.0.exponents) sum
  in_bits =
      let P : Terms → Type 0 = AllByRecursion (λ t. IsZeros t.0.exponents) in
      subst P (sym is) (all_plus text_cmp (λ t. IsZeros t.0.exponents) (λ t u h k n. h) ls rs left.bits right.bits)

  bit_terms : (ts : Terms) → AllByRecursion (IsTerm c.k) ts → AllByRecursion (λ t. IsZeros t.0.exponents) ts → AllByRecursion (IsBitTerm c.k) ts
  bit_terms [] all zeros = tt
  bit_terms (t ∷ ts) all zeros = ((all.0, zeros.0), bit_terms ts all.1 zeros.1)

  -- where the sum has no terms, the values are the same everywhere
  pub none_same : sum ≡ [] → AreSame c (IsValueAt c ls) (IsValueAt c rs)
  none_same nothing xs a b input p q =
      let same = one_list c xs q.ones p.ones q.are p.are in
      let zero_there : bit_xor (value c.product (at_ones p.ones) ls) (value c.product (at_ones p.ones) rs) ≡ 0 = sym (values (at_ones p.ones) (at_point p.ones)) ∙ ap (value c.product (at_ones p.ones)) nothing in
      sym p.value_is ∙ xor_same (value c.product (at_ones p.ones) ls) (value c.product (at_ones p.ones) rs) zero_there
      ∙ ap (λ os. value c.product (at_ones os) rs) (sym same) ∙ q.value_is

  module _ (t : Monomial × ℕ) (first : IsFirstTerm sum t) where
    terms : AllByRecursion (IsBitTerm c.k) sum
    terms = bit_terms sum reduced.terms in_bits

    pub low : (rank : ℕ) → Has t.0.bits rank → rank < c.k * length c.words
    low rank has =
        let l : rank < length (word_nets c.words) = lacks_low (length (word_nets c.words)) t.0 (λ r more. term_has (λ u. has_bit r u.0 ≡ false) sum t (lacks r more) first.has) rank has in
        omega (arith, l, nets_long c.k c.words (λ w h. (well.words w h).nets))

    there : bit_xor (value c.product (at_ones t.0.bits) ls) (value c.product (at_ones t.0.bits) rs) ≡ t.1
    there = sym (values (at_ones t.0.bits) (at_point t.0.bits)) ∙ at_first f sum t terms reduced.is_map.sorted first.first first.has

    ones : AreOnes c (inputs_from c.k t.0.bits 0 c.words) t.0.bits
    ones = are_ones c well t.0.bits (term_has (λ u. IsStrictlySortedBy nat_cmp u.0.bits) sum t reduced.is_map.rising first.has) low

    differ : Differ (IsValueAt c ls) (IsValueAt c rs) (inputs_from c.k t.0.bits 0 c.words) (value c.product (at_ones t.0.bits) ls) (value c.product (at_ones t.0.bits) rs)
    differ = record {
      first = record { ones = t.0.bits; are = ones; value_is = refl };
      second = record { ones = t.0.bits; are = ones; value_is = refl };
      apart = λ same.
          term_has (λ u. u.1 ≢ 0) sum t reduced.is_map.nonzero first.has
          (sym there ∙ ap (λ n. bit_xor n (value c.product (at_ones t.0.bits) rs)) same ∙ xor_self (value c.product (at_ones t.0.bits) rs));
    }

    least : (ys others : List ℕ) (l r : ℕ) → AreOnes c ys others → Differ (IsValueAt c ls) (IsValueAt c rs) ys l r → ones_cmp t.0.bits others ≢ Greater
    least ys others l r are d =
        let at_left : value c.product (at_ones others) ls ≡ l = ap (λ os. value c.product (at_ones os) ls) (one_list c ys others d.first.ones are d.first.are) ∙ d.first.value_is in
        let at_right : value c.product (at_ones others) rs ≡ r = ap (λ os. value c.product (at_ones os) rs) (one_list c ys others d.second.ones are d.second.are) ∙ d.second.value_is in
        before_none f others sum t terms are.rising first.first
        (λ z. d.apart (sym at_left ∙ xor_same (value c.product (at_ones others) ls) (value c.product (at_ones others) rs) (sym (values (at_ones others) (at_point others)) ∙ z) ∙ at_right))

    pub differing : IsDifferingInput c (IsValueAt c ls) (IsValueAt c rs) (inputs_from c.k t.0.bits 0 c.words) (value c.product (at_ones t.0.bits) ls) (value c.product (at_ones t.0.bits) rs)
    differing = record { differ = differ; ones = t.0.bits; are = ones; least = least }

    pub below_512 : AllByRecursion (λ r. r < 512) t.0.bits
    below_512 = all_low 512 t.0.bits (λ r has. omega (arith, low r has, most c.k (length c.words) well.ring.small well.few))

    pub list_few : length (inputs_from c.k t.0.bits 0 c.words) ≤ 8
    list_few = omega (arith, inputs_long c.k t.0.bits 0 c.words, well.few)

    pub difference : (list input : List ℕ) (l r : ℕ) → list ≡ inputs_from c.k t.0.bits 0 c.words → take (length list) input ≡ list → IsZeros (drop (length list) input) → length input ≡ 8
        → l ≡ value c.product (at_ones t.0.bits) ls → r ≡ value c.product (at_ones t.0.bits) rs → IsDifference c ls rs input l r
    difference list input l r list_is front rest long l_is r_is =
        let count : length list ≡ length c.words = ap length list_is ∙ inputs_long c.k t.0.bits 0 c.words in
        let xs : take (length c.words) input ≡ inputs_from c.k t.0.bits 0 c.words = ap (λ n. take n input) (sym count) ∙ front ∙ list_is in
        let P : List ℕ → Type 0 = λ ys. IsDifferingInput c (IsValueAt c ls) (IsValueAt c rs) ys (value c.product (at_ones t.0.bits) ls) (value c.product (at_ones t.0.bits) rs) in
        let Q : ℕ → Type 0 = λ a. IsDifferingInput c (IsValueAt c ls) (IsValueAt c rs) (take (length c.words) input) a (value c.product (at_ones t.0.bits) rs) in
        let R : ℕ → Type 0 = λ b. IsDifferingInput c (IsValueAt c ls) (IsValueAt c rs) (take (length c.words) input) l b in
        let S : ℕ → Type 0 = λ n. IsZeros (drop n input) in
        record { long = long; differing = subst R (sym r_is) (subst Q (sym l_is) (subst P (sym xs) differing)); rest = subst S count rest }

    -- the same where the ranks and the sum have other names
    pub difference_at : (os list input : List ℕ) (l r : ℕ) → os ≡ t.0.bits → list ≡ inputs_from c.k os 0 c.words → take (length list) input ≡ list → IsZeros (drop (length list) input) → length input ≡ 8
        → l ≡ value c.product (at_ones os) ls → r ≡ value c.product (at_ones os) rs → IsDifference c ls rs input l r
    difference_at os list input l r e list_is front rest long l_is r_is =
        difference list input l r (list_is ∙ ap (λ zs. inputs_from c.k zs 0 c.words) e) front rest long (l_is ∙ ap (λ zs. value c.product (at_ones zs) ls) e) (r_is ∙ ap (λ zs. value c.product (at_ones zs) rs) e)

    pub below_at : (os : List ℕ) → os ≡ t.0.bits → AllByRecursion (λ r. r < 512) os
    below_at os e = let P : List ℕ → Type 0 = AllByRecursion (λ r. r < 512) in subst P (sym e) below_512

    pub few_at : (os list : List ℕ) → os ≡ t.0.bits → list ≡ inputs_from c.k os 0 c.words → length list ≤ 8
    few_at os list e list_is = omega (arith, ap length list_is, ap (λ zs. length (inputs_from c.k zs 0 c.words)) e, list_few)

pub moved_sum : (k : ℕ) (mul : ℕ → ℕ → ℕ) (ls rs sum ts : Terms) → ts ≡ sum → IsSumOf k mul ls rs sum → IsSumOf k mul ls rs ts
moved_sum k mul ls rs sum ts e is = let P : Terms → Type 0 = IsSumOf k mul ls rs in subst P (sym e) is

-- ---- the sum

pub sum_is : (k : ℕ) (mul : ℕ → ℕ → ℕ) (ls rs empty first sum : Terms) → empty ≡ [] → IsReduced k ls → IsReduced k rs → IsReduced k sum
    → ((m : Monomial) → coefficient first m ≡ bit_xor (coefficient empty m) (coefficient ls m)) → ((m : Monomial) → coefficient sum m ≡ bit_xor (coefficient first m) (coefficient rs m))
    → ((p : Point) → IsPoint k p → value mul p first ≡ bit_xor (value mul p empty) (value mul p ls)) → ((p : Point) → IsPoint k p → value mul p sum ≡ bit_xor (value mul p first) (value mul p rs))
    → IsSumOf k mul ls rs sum
sum_is k mul ls rs empty first sum nothing left right reduced c1 c2 v1 v2 = record {
  reduced = reduced;
  terms = same_map sum (plus text_cmp ls rs) reduced.is_map (map_plus ls rs left.is_map right.is_map)
      (λ m. c2 m ∙ ap (λ n. bit_xor n (coefficient rs m)) (c1 m ∙ ap (λ (us : Terms). bit_xor (coefficient us m) (coefficient ls m)) nothing ∙ xor_zero_l (coefficient ls m)) ∙ sym (coefficient-plus ls rs m left.is_map right.is_map));
  values = λ p at. v2 p at ∙ ap (λ n. bit_xor n (value mul p rs)) (v1 p at ∙ ap (λ us. bit_xor (value mul p us) (value mul p ls)) nothing ∙ xor_zero_l (value mul p ls));
}

-- ---- one verdict

same_parts : (n : ℕ) (xs ys : List ℕ) → length xs ≡ length ys → take n xs ≡ take n ys → IsZeros (drop n xs) → IsZeros (drop n ys) → xs ≡ ys
same_parts zero xs ys long e p q = zeros_same xs ys p q long
same_parts (suc n) [] [] long e p q = refl
same_parts (suc n) [] (y ∷ ys) long e p q = absurd (omega arith)
same_parts (suc n) (x ∷ xs) [] long e p q = absurd (omega arith)
same_parts (suc n) (x ∷ xs) (y ∷ ys) long e p q =
    let here : x ≡ y = cc in
    let later : take n xs ≡ take n ys = cc in
    let rest : xs ≡ ys = same_parts n xs ys (omega arith) later p q in
    λ i. here i ∷ rest i

never : (c : Circuit) (ls rs : Terms) (input : List ℕ) (left right : ℕ) → IsVerdict c ls rs Same → IsDifference c ls rs input left right → ⊥
never c ls rs input left right same d = d.differing.differ.apart (same (take (length c.words) input) left right d.differing.are.input d.differing.differ.first d.differing.differ.second)

pub one_verdict : (c : Circuit) (ls rs : Terms) (a b : Verdict) → IsWellFormed c → IsVerdict c ls rs a → IsVerdict c ls rs b → a ≡ b
one_verdict c ls rs Same Same well p q = refl
one_verdict c ls rs Same (Differ_at input left right) well p q = absurd (never c ls rs input left right p q)
one_verdict c ls rs (Differ_at input left right) Same well p q = absurd (never c ls rs input left right q p)
one_verdict c ls rs (Differ_at xs l r) (Differ_at ys m n) well p q =
    let one = one_differing c (IsValueAt c ls) (IsValueAt c rs) well (one_value c ls) (one_value c rs) (take (length c.words) xs) (take (length c.words) ys) l r m n p.differing q.differing in
    let input : xs ≡ ys = same_parts (length c.words) xs ys (p.long ∙ sym q.long) one.0 p.rest q.rest in
    λ i. Differ_at (input i) (one.1 i) (one.2 i)
