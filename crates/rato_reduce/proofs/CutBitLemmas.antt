-- The terms of a cut with a bit, and those without it.
use Rattle.std.proofs.Common.{◌≡◌, ℕ, zero, suc, ◌<◌, ◌≤◌, ◌-◌, length, slice_get, true, false, cond, not, nat_le, nat_lt, nat_eq, List, [], ◌∷◌, ◌++◌, map, bit_xor, refl, sym, ◌∙◌, ap, subst, arith, ◌||◌}
use lib.Bits.{xor_zero_l, xor_zero_r}
use Rattle.std.specs.declared.cmp.Ordering.TheVariants.{Less, Equal, Greater}
use Rattle.std.specs.Cmp.Lexicographic.{slice_cmp}
use Rattle.std.specs.FinMap.{nat_cmp-IsAntisymmetric}
use Rattle.std.specs.List.{AllByRecursion, list_any}
use Rattle.std.specs.List.Sorted.{IsStrictlySortedBy}
use Rattle.std.specs.Map.{keys_of}
use Rattle.std.specs.Ordering.{nat_cmp, ordering_then, is_eq}
use Rattle.std.specs.Option.{option_map_or}
use Rattle.std.proofs.lemmas.List.{map-append}
use Rattle.std.proofs.lemmas.Bool.{eqb-true, leb-false, ltb-true, ltb-false}
use Rattle.poly_mixed.specs.Monomial.{Monomial, has_bit, text_cmp, text_cmp_total}
use Rattle.poly_mixed.specs.Polynomial.{Terms, IsMap, coefficient}
use Rattle.poly_mixed.specs.Cofactor.{LacksBit, lacking, cofactors, with_bit, without_bit}
use Rattle.poly_mixed.specs.Sum.{xor_sum, plus}
use Rattle.poly_mixed.proofs.CofactorLemmas.{rising-filter, lacking_map, cofactors_map}
use Rattle.poly_mixed.proofs.MonomialLemmas.{text_cmp-same}
use Rattle.poly_mixed.proofs.OneBitLemmas.{is_cofactor}
use Rattle.poly_mixed.proofs.RankLemmas.{from_less}
use Rattle.poly_mixed.proofs.SumLemmas.{at, found_is_sum}
use Rattle.poly_mixed.proofs.ValueLemmas.{same_map, one_map}
use Rattle.rato_reduce.specs.private.CutKey.{CutKey, place_at, first_from, key_cmp}
use Rattle.rato_reduce.specs.private.CutTerms.{IsBitTerm, term_of, IsEntry, AreEntries, ends_up_to}
use Rattle.rato_reduce.proofs.CutLemmas.{coefficient_sum, sum_map_is, nothing_map}
use Rattle.rato_reduce.proofs.ProductLemmas.{sum_append}

-- ---- the terms without the bit

other_monomial : (bit : ℕ) (q : Monomial) (t : Monomial × ℕ) → (has_bit bit q ≡ has_bit bit t.0 → ⊥) → at text_cmp q t ≡ 0
other_monomial bit q t apart =
    elim (text_cmp q t.0) as (λ r. text_cmp q t.0 ≡ r → cond (is_eq r) t.1 0 ≡ 0) [
      | Less ↦ λ e. refl
      | Equal ↦ λ e. absurd (apart (ap (has_bit bit) (text_cmp-same q t.0 e)))
      | Greater ↦ λ e. refl
    ] refl

lacking_sum : (bit : ℕ) (q : Monomial) (ts : Terms) → xor_sum (at text_cmp q) (lacking bit ts) ≡ cond (has_bit bit q) 0 (xor_sum (at text_cmp q) ts)
lacking_sum bit q [] = elim (has_bit bit q) as (λ b. ◌≡◌ {A = ℕ} 0 (cond b 0 0)) [ true ↦ refl | false ↦ refl ]
lacking_sum bit q (t ∷ ts) =
    let s = xor_sum (at text_cmp q) ts in
    elim (has_bit bit t.0) as (λ v. has_bit bit t.0 ≡ v → xor_sum (at text_cmp q) (cond (not v) (t ∷ lacking bit ts) (lacking bit ts)) ≡ cond (has_bit bit q) 0 (bit_xor (at text_cmp q t) s)) [
      | true ↦ λ has. lacking_sum bit q ts ∙ elim (has_bit bit q) as (λ w. has_bit bit q ≡ w → cond w 0 s ≡ cond w 0 (bit_xor (at text_cmp q t) s)) [
        | true ↦ λ e. refl
        | false ↦ λ e. sym (ap (λ n. bit_xor n s) (other_monomial bit q t (λ same. let bad : false ≡ true = sym e ∙ same ∙ has in cc)) ∙ xor_zero_l s)
      ] refl
      | false ↦ λ lacks. ap (bit_xor (at text_cmp q t)) (lacking_sum bit q ts) ∙ elim (has_bit bit q) as (λ w. has_bit bit q ≡ w → bit_xor (at text_cmp q t) (cond w 0 s) ≡ cond w 0 (bit_xor (at text_cmp q t) s)) [
        | true ↦ λ e. ap (λ n. bit_xor n 0) (other_monomial bit q t (λ same. let bad : true ≡ false = sym e ∙ same ∙ lacks in cc))
        | false ↦ λ e. refl
      ] refl
    ] refl

-- ---- those with it

one_term_map : (t : Monomial × ℕ) → IsBitTerm t → IsMap (t ∷ [])
one_term_map t is = one_map t.0 t.1 is.rising is.some

cofactors_split : (bit : ℕ) (t : Monomial × ℕ) (ts : Terms) → cofactors bit (t ∷ ts) ≡ cofactors bit (t ∷ []) ++ cofactors bit ts
cofactors_split bit t ts = elim (has_bit bit t.0) as (λ b. cond b ((without_bit bit t.0, t.1) ∷ cofactors bit ts) (cofactors bit ts) ≡ cond b ((without_bit bit t.0, t.1) ∷ []) [] ++ cofactors bit ts) [ true ↦ refl | false ↦ refl ]

one_cofactor_sum : (bit : ℕ) (q : Monomial) (t : Monomial × ℕ) → IsBitTerm t → xor_sum (at text_cmp q) (cofactors bit (t ∷ [])) ≡ cond (has_bit bit q) 0 (at text_cmp (with_bit bit q) t)
one_cofactor_sum bit q t is =
    let map = one_term_map t is in
    sym (found_is_sum text_cmp text_cmp_total (cofactors bit (t ∷ [])) q (cofactors_map bit (t ∷ []) map).sorted)
    ∙ is_cofactor bit (t ∷ []) map q
    ∙ ap (cond (has_bit bit q) 0) (found_is_sum text_cmp text_cmp_total (t ∷ []) (with_bit bit q) map.sorted ∙ xor_zero_r (at text_cmp (with_bit bit q) t))

cofactors_sum : (bit : ℕ) (q : Monomial) (ts : Terms) → AllByRecursion IsBitTerm ts → xor_sum (at text_cmp q) (cofactors bit ts) ≡ cond (has_bit bit q) 0 (xor_sum (at text_cmp (with_bit bit q)) ts)
cofactors_sum bit q [] all = elim (has_bit bit q) as (λ b. ◌≡◌ {A = ℕ} 0 (cond b 0 0)) [ true ↦ refl | false ↦ refl ]
cofactors_sum bit q (t ∷ ts) all =
    let one = at text_cmp (with_bit bit q) t in
    let s = xor_sum (at text_cmp (with_bit bit q)) ts in
    ap (xor_sum (at text_cmp q)) (cofactors_split bit t ts)
    ∙ sum_append (at text_cmp q) (cofactors bit (t ∷ [])) (cofactors bit ts)
    ∙ (λ i. bit_xor (one_cofactor_sum bit q t all.0 i) (cofactors_sum bit q ts all.1 i))
    ∙ elim (has_bit bit q) as (λ b. bit_xor (cond b 0 one) (cond b 0 s) ≡ cond b 0 (bit_xor one s)) [ true ↦ refl | false ↦ refl ]

-- ---- of sums

pub cofactor_terms : (bit : ℕ) (ts : Terms) → AllByRecursion IsBitTerm ts → AllByRecursion IsBitTerm (cofactors bit ts)
cofactor_terms bit [] all = tt
cofactor_terms bit (t ∷ ts) all = elim (has_bit bit t.0) as (λ b. AllByRecursion IsBitTerm (cond b ((without_bit bit t.0, t.1) ∷ cofactors bit ts) (cofactors bit ts))) [
  | true ↦ (record { no_words = ap (without_bit bit) all.0.no_words; rising = rising-filter (λ r. not (nat_eq r bit)) t.0.bits all.0.rising; some = all.0.some }, cofactor_terms bit ts all.1)
  | false ↦ cofactor_terms bit ts all.1
]

pub cofactors_of_sum : (bit : ℕ) (us : Terms) → AllByRecursion IsBitTerm us → cofactors bit (plus text_cmp [] us) ≡ plus text_cmp [] (cofactors bit us)
cofactors_of_sum bit us all =
    let sum = plus text_cmp [] us in
    let is_map = sum_map_is [] us nothing_map all in
    same_map (cofactors bit sum) (plus text_cmp [] (cofactors bit us)) (cofactors_map bit sum is_map) (sum_map_is [] (cofactors bit us) nothing_map (cofactor_terms bit us all))
    (λ q. is_cofactor bit sum is_map q ∙ ap (cond (has_bit bit q) 0) (coefficient_sum us (with_bit bit q)) ∙ sym (cofactors_sum bit q us all) ∙ sym (coefficient_sum (cofactors bit us) q))

pub lacking_of_sum : (bit : ℕ) (q : Monomial) (us : Terms) → AllByRecursion IsBitTerm us → coefficient (lacking bit (plus text_cmp [] us)) q ≡ xor_sum (at text_cmp q) (lacking bit us)
lacking_of_sum bit q us all =
    let sum = plus text_cmp [] us in
    let is_map = sum_map_is [] us nothing_map all in
    found_is_sum text_cmp text_cmp_total (lacking bit sum) q (lacking_map bit sum is_map).sorted
    ∙ lacking_sum bit q sum
    ∙ ap (cond (has_bit bit q) 0) (sym (found_is_sum text_cmp text_cmp_total sum q is_map.sorted) ∙ coefficient_sum us q)
    ∙ sym (lacking_sum bit q us)

-- ---- the entries behind the place of a bit lack it

pub least_first : (places : List ℕ) (least : ℕ) (rs : List ℕ) → first_from places least rs ≤ least
least_first places least [] = omega arith
least_first places least (r ∷ rs) =
    let place = place_at places r in
    elim (nat_lt place least) as (λ b. nat_lt place least ≡ b → first_from places (cond b place least) rs ≤ least) [
      | true ↦ λ e. let less = ltb-true place least e in let more = least_first places place rs in omega arith
      | false ↦ λ e. least_first places least rs
    ] refl

member_first : (places : List ℕ) (least rank : ℕ) (rs : List ℕ) → list_any (λ r. nat_eq r rank) rs ≡ true → first_from places least rs ≤ place_at places rank
member_first places least rank [] has = cc
member_first places least rank (r ∷ rs) has =
    let place = place_at places r in
    let low = cond (nat_lt place least) place least in
    elim (nat_eq r rank) as (λ b. nat_eq r rank ≡ b → (b || list_any (λ r. nat_eq r rank) rs) ≡ true → first_from places low rs ≤ place_at places rank) [
      | true ↦ λ e _.
          let same : place ≡ place_at places rank = ap (place_at places) (eqb-true r rank e) in
          let down : low ≤ place = lower place least in
          let more = least_first places low rs in
          omega arith
      | false ↦ λ e h. member_first places low rank rs h
    ] refl has
  where
    lower : (a b : ℕ) → cond (nat_lt a b) a b ≤ a
    lower a b = elim (nat_lt a b) as (λ v. nat_lt a b ≡ v → cond v a b ≤ a) [ true ↦ λ e. omega arith | false ↦ λ e. ltb-false a b e ] refl

first_falls : (x y : CutKey) → key_cmp x y ≡ Less → y.first ≤ x.first
first_falls x y less =
    let rest = ordering_then (nat_cmp x.hash y.hash) (slice_cmp nat_cmp x.bits y.bits) in
    elim (nat_cmp y.first x.first) as (λ r. nat_cmp y.first x.first ≡ r → ordering_then r rest ≡ Less → y.first ≤ x.first) [
      | Less ↦ λ e _. let l = from_less y.first x.first e in omega arith
      | Equal ↦ λ e _. let same = nat_cmp-IsAntisymmetric y.first x.first e in omega arith
      | Greater ↦ λ e h. let bad : Greater ≡ Less = h in cc
    ] refl less

behind_lacks : (places : List ℕ) (rank : ℕ) (e : CutKey × ℕ) → IsEntry places e → place_at places rank < e.0.first → has_bit rank (term_of e).0 ≡ false
behind_lacks places rank e is behind =
    elim (list_any (λ r. nat_eq r rank) e.0.bits) as (λ b. list_any (λ r. nat_eq r rank) e.0.bits ≡ b → b ≡ false) [
      | true ↦ λ has.
          let low = member_first places 4294967295 rank e.0.bits has in
          let first : e.0.first ≡ first_from places 4294967295 e.0.bits = ap (λ (k : CutKey). k.first) is.key in
          absurd (omega arith)
      | false ↦ λ e. refl
    ] refl

-- the first places of the entries are behind this one, if that of the last is
all_behind : (place n : ℕ) (e : CutKey × ℕ) (es : List (CutKey × ℕ)) → n ≡ length es → IsStrictlySortedBy key_cmp (keys_of (e ∷ es)) → option_map_or (λ f. nat_le f.0.first place) (slice_get (e ∷ es) n) false ≡ false
    → (place < e.0.first) × AllByRecursion (λ f. place < f.0.first) es
unfolding IsStrictlySortedBy
all_behind place zero e [] long sorted behind = (leb-false e.0.first place behind, tt)
all_behind place (suc n) e [] long sorted behind = absurd (omega arith)
all_behind place zero e (f ∷ es) long sorted behind = absurd (omega arith)
all_behind place (suc n) e (f ∷ es) long sorted behind =
    let rest = all_behind place n f es (omega arith) sorted.1 behind in
    let falls = first_falls e.0 f.0 sorted.0.0 in
    (omega arith, rest)

all_lack : (places : List ℕ) (rank : ℕ) (es : List (CutKey × ℕ)) → AllByRecursion (IsEntry places) es → AllByRecursion (λ f. place_at places rank < f.0.first) es → LacksBit rank (map term_of es)
all_lack places rank [] each behind = tt
all_lack places rank (e ∷ es) each behind = (behind_lacks places rank e each.0 behind.0, all_lack places rank es each.1 behind.1)

pub rest_lacks : (places : List ℕ) (rank : ℕ) (es : List (CutKey × ℕ)) → AreEntries places es → ends_up_to (place_at places rank) es ≡ false → LacksBit rank (map term_of es)
rest_lacks places rank [] are behind = tt
rest_lacks places rank (e ∷ es) are behind =
    let last : length (e ∷ es) - 1 ≡ length es = omega arith in
    let P : ℕ → Type 0 = λ n. option_map_or (λ f. nat_le f.0.first (place_at places rank)) (slice_get (e ∷ es) n) false ≡ false in
    all_lack places rank (e ∷ es) are.each (all_behind (place_at places rank) (length es) e es refl are.sorted (subst P last behind))

pub all_before : {A : Type 0} (P : A → Type 0) (xs : List A) (x : A) → AllByRecursion P (xs ++ x ∷ []) → AllByRecursion P xs
all_before P [] x all = tt
all_before P (y ∷ ys) x all = (all.0, all_before P ys x all.1)

sorted_before : (es : List (CutKey × ℕ)) (e : CutKey × ℕ) → IsStrictlySortedBy key_cmp (keys_of (es ++ e ∷ [])) → IsStrictlySortedBy key_cmp (keys_of es)
unfolding IsStrictlySortedBy
sorted_before [] e sorted = tt
sorted_before (f ∷ es) e sorted =
    let P : CutKey → Type 0 = λ y. key_cmp f.0 y ≡ Less in
    (all_before P (keys_of es) e.0 (let Q : List CutKey → Type 0 = AllByRecursion P in subst Q (map-append (λ (t : CutKey × ℕ). t.0) es (e ∷ [])) sorted.0), sorted_before es e sorted.1)

pub entries_rest : (places : List ℕ) (e : CutKey × ℕ) (es : List (CutKey × ℕ)) → AreEntries places (es ++ e ∷ []) → AreEntries places es
entries_rest places e es are = record { sorted = sorted_before es e are.sorted; each = all_before (IsEntry places) es e are.each }
