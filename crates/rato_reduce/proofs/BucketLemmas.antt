-- Terms in no order, in lists by the level of their bits: their sums, their levels and how many they are.
use Rattle.std.proofs.Common.{◌≡◌, ℕ, zero, suc, ◌+◌, ◌-◌, ◌<◌, ◌≤◌, true, false, cond, nat_eq, nat_lt, ◌||◌, List, [], ◌∷◌, ◌++◌, length, Some, bit_xor, refl, sym, ◌∙◌, ap, subst, arith, append-nil}
use Rattle.std.specs.Prelude.{slice_get, slice_set, ◌==◌}
use lib.Bits.{xor_zero_l, xor_zero_r, xor_assoc, xor_comm, xor_self}
use Rattle.std.specs.declared.cmp.Ordering.TheVariants.{Less, Equal, Greater}
use Rattle.std.specs.List.{AllByRecursion, list_any}
use Rattle.std.specs.Ordering.{match_ordering}
use Rattle.std.proofs.lemmas.Bool.{eqb-true, ltb-false}
use Rattle.std.proofs.lemmas.List.{append_assoc, length-append, length-set}
use Rattle.lists.specs.laws.ListLaws.{all_append}
use Rattle.lists.specs.laws.OptionLaws.{same_some}
use Rattle.poly_mixed.specs.Monomial.{Monomial, has_bit, text_cmp}
use Rattle.poly_mixed.specs.Polynomial.{Terms}
use Rattle.poly_mixed.specs.Cofactor.{LacksBit, cofactors, lacking}
use Rattle.poly_mixed.specs.Sum.{plus, plus_term, with_coefficient, xor_sum}
use Rattle.poly_mixed.proofs.ValueLemmas.{same_map}
use Rattle.stage_model.proofs.SharedLemmas.{plus_append}
use Rattle.rato_reduce.specs.private.CutKey.{place_at, first_from}
use Rattle.rato_reduce.specs.private.CutTerms.{IsBitTerm}
use Rattle.rato_reduce.specs.private.Buckets.{at_monomial, coefficient_in, level_at, joined, AreLevelled, AreOut, AreTaken, AreUpTo, HasTermAt, HaveSameSum, IsCounted, IsLine, IsMergedAt, StayLevelled}
use Rattle.rato_reduce.proofs.CutLemmas.{coefficient_sum, sum_map_is, nothing_map}
use Rattle.rato_reduce.proofs.CutBitLemmas.{least_first}
use Rattle.rato_reduce.proofs.CutPartLemmas.{put_back, part_is}
use Rattle.rato_reduce.proofs.ProductLemmas.{sum_append}

-- ---- sums and polynomials

sum_end : (f : Monomial × ℕ → ℕ) (ts : Terms) (t : Monomial × ℕ) → xor_sum f (ts ++ t ∷ []) ≡ bit_xor (xor_sum f ts) (f t)
sum_end f ts t = sum_append f ts (t ∷ []) ∙ ap (bit_xor (xor_sum f ts)) (xor_zero_r (f t))

-- terms of one sum are one polynomial
pub same_polynomial : (ts us : Terms) → AllByRecursion IsBitTerm ts → AllByRecursion IsBitTerm us → HaveSameSum ts us → plus text_cmp [] us ≡ plus text_cmp [] ts
same_polynomial ts us each other same =
    same_map (plus text_cmp [] us) (plus text_cmp [] ts) (sum_map_is [] us nothing_map other) (sum_map_is [] ts nothing_map each) (λ q. coefficient_sum us q ∙ same q ∙ sym (coefficient_sum ts q))

-- a term more in the sum is a term more in the polynomial
pub more_polynomial : (ts us : Terms) (t : Monomial × ℕ) → AllByRecursion IsBitTerm ts → IsBitTerm t → AllByRecursion IsBitTerm us
    → ((q : Monomial) → coefficient_in q us ≡ bit_xor (coefficient_in q ts) (at_monomial q t)) → plus text_cmp [] us ≡ plus_term text_cmp (plus text_cmp [] ts) t
more_polynomial ts us t each one other more =
    same_polynomial (ts ++ t ∷ []) us (all_append IsBitTerm ts (t ∷ []) each (one, tt)) other
    (λ q. more q ∙ sym (sum_append (at_monomial q) ts (t ∷ []) ∙ ap (bit_xor (coefficient_in q ts)) (xor_zero_r (at_monomial q t))))
    ∙ plus_append [] ts (t ∷ [])

-- ---- levels

line_term : (places : List ℕ) (level : ℕ) (t : Monomial × ℕ) → IsLine places level t → IsBitTerm t
line_term places level t line = record { no_words = line.placed.no_words; rising = line.placed.rising; some = line.some }

lines_terms : (places : List ℕ) (level : ℕ) (ts : Terms) → AllByRecursion (IsLine places level) ts → AllByRecursion IsBitTerm ts
lines_terms places level [] all = tt
lines_terms places level (t ∷ ts) all = (line_term places level t all.0, lines_terms places level ts all.1)

pub levelled_terms : (places : List ℕ) (level : ℕ) (lists : List Terms) → AreLevelled places level lists → AllByRecursion IsBitTerm (joined lists)
levelled_terms places level [] are = tt
levelled_terms places level (ts ∷ lists) are = all_append IsBitTerm ts (joined lists) (lines_terms places level ts are.0) (levelled_terms places (suc level) lists are.1)

-- the first place of ranks is not behind that of any of them
pub first_of_all : (places : List ℕ) (least : ℕ) (rs : List ℕ) → AllByRecursion (λ r. first_from places least rs ≤ place_at places r) rs
first_of_all places least [] = tt
first_of_all places least (r ∷ rs) =
    let place : ℕ = place_at places r in
    let low : ℕ = cond (nat_lt place least) place least in
    let first : first_from places low rs ≤ low = least_first places low rs in
    let up : low ≤ place = elim (nat_lt place least) as (λ b. nat_lt place least ≡ b → cond b place least ≤ place) [
      | true ↦ λ e. omega arith
      | false ↦ λ e. ltb-false place least e
    ] refl in
    (omega arith, first_of_all places low rs)

-- ranks up to a level are not of a greater one
rank_absent : (places : List ℕ) (level rank : ℕ) (rs : List ℕ) → AreUpTo places level rs → level < level_at places rank → list_any (λ r. nat_eq r rank) rs ≡ false
rank_absent places level rank [] all less = refl
rank_absent places level rank (r ∷ rs) all less =
    elim (nat_eq r rank) as (λ b. nat_eq r rank ≡ b → (b || list_any (λ r. nat_eq r rank) rs) ≡ false) [
      | true ↦ λ e. (let P : ℕ → Type 0 = λ n. level_at places n ≤ level in let up : level_at places rank ≤ level = subst P (eqb-true r rank e) all.0 in absurd (omega arith))
      | false ↦ λ e. rank_absent places level rank rs all.1 less
    ] refl

lines_lack : (places : List ℕ) (level rank : ℕ) (ts : Terms) → AllByRecursion (IsLine places level) ts → level < level_at places rank → LacksBit rank ts
lines_lack places level rank [] all less = tt
lines_lack places level rank (t ∷ ts) all less = (rank_absent places level rank t.0.bits all.0.placed.up_to less, lines_lack places level rank ts all.1 less)

-- lists that end before the level of a rank lack it
pub levelled_lack : (places : List ℕ) (level rank : ℕ) (lists : List Terms) → AreLevelled places level lists → level + length lists ≤ level_at places rank → LacksBit rank (joined lists)
levelled_lack places level rank [] are long = tt
levelled_lack places level rank (ts ∷ lists) are long =
    all_append (λ t. has_bit rank t.0 ≡ false) ts (joined lists) (lines_lack places level rank ts are.0 (omega arith)) (levelled_lack places (suc level) rank lists are.1 (omega arith))

-- ---- lists at the end

pub joined_end : (lists : List Terms) (last : Terms) → joined (lists ++ last ∷ []) ≡ joined lists ++ last
joined_end [] last = append-nil last
joined_end (ts ∷ lists) last = ap (λ us. ts ++ us) (joined_end lists last) ∙ sym (append_assoc ts (joined lists) last)

pub levelled_end : (places : List ℕ) (level : ℕ) (lists : List Terms) (last : Terms) → AreLevelled places level (lists ++ last ∷ []) → AreLevelled places level lists × AllByRecursion (IsLine places (level + length lists)) last
levelled_end places level [] last are =
    let P : ℕ → Type 0 = λ n. AllByRecursion (IsLine places n) last in
    let here : level ≡ level + length {A = Terms} [] = omega arith in
    (tt, subst P here are.0)
levelled_end places level (ts ∷ lists) last are =
    let rest = levelled_end places (suc level) lists last are.1 in
    let P : ℕ → Type 0 = λ n. AllByRecursion (IsLine places n) last in
    let here : suc level + length lists ≡ level + length (ts ∷ lists) = omega arith in
    ((are.0, rest.0), subst P here rest.1)

-- an empty list more
pub levelled_more : (places : List ℕ) (level : ℕ) (lists : List Terms) → AreLevelled places level lists → AreLevelled places level (lists ++ [] ∷ [])
levelled_more places level [] are = (tt, tt)
levelled_more places level (ts ∷ lists) are = (are.0, levelled_more places (suc level) lists are.1)

-- ---- one list is another

pub set_sums : (q : Monomial) (lists : List Terms) (i : ℕ) (old new : Terms) → slice_get lists i ≡ Some old
    → coefficient_in q (joined (slice_set lists i new)) ≡ bit_xor (coefficient_in q (joined lists)) (bit_xor (coefficient_in q old) (coefficient_in q new))
set_sums q [] i old new got = absurd (cc)
set_sums q (ts ∷ lists) zero old new got =
    let s : ℕ = coefficient_in q (joined lists) in
    let a : ℕ = coefficient_in q ts in
    let b : ℕ = coefficient_in q new in
    let same : ts ≡ old = same_some ts old got in
    sum_append (at_monomial q) new (joined lists)
    ∙ xor_comm b s
    ∙ ap (bit_xor s) (sym (xor_zero_l b) ∙ ap (λ n. bit_xor n b) (sym (xor_self a)) ∙ xor_assoc a a b)
    ∙ sym (xor_assoc s a (bit_xor a b))
    ∙ ap (λ n. bit_xor n (bit_xor a b)) (xor_comm s a ∙ sym (sum_append (at_monomial q) ts (joined lists)))
    ∙ ap (λ (us : Terms). bit_xor (coefficient_in q (ts ++ joined lists)) (bit_xor (coefficient_in q us) b)) same
set_sums q (ts ∷ lists) (suc i) old new got =
    let d : ℕ = bit_xor (coefficient_in q old) (coefficient_in q new) in
    sum_append (at_monomial q) ts (joined (slice_set lists i new))
    ∙ ap (bit_xor (coefficient_in q ts)) (set_sums q lists i old new got)
    ∙ sym (xor_assoc (coefficient_in q ts) (coefficient_in q (joined lists)) d)
    ∙ ap (λ n. bit_xor n d) (sym (sum_append (at_monomial q) ts (joined lists)))

pub set_levelled : (places : List ℕ) (level : ℕ) (lists : List Terms) (i : ℕ) (new : Terms) → AreLevelled places level lists → AllByRecursion (IsLine places (level + i)) new → AreLevelled places level (slice_set lists i new)
set_levelled places level [] i new are all = tt
set_levelled places level (ts ∷ lists) zero new are all =
    let P : ℕ → Type 0 = λ n. AllByRecursion (IsLine places n) new in
    let here : level + 0 ≡ level = omega arith in
    (subst P here all, are.1)
set_levelled places level (ts ∷ lists) (suc i) new are all =
    let P : ℕ → Type 0 = λ n. AllByRecursion (IsLine places n) new in
    let here : level + suc i ≡ suc level + i = omega arith in
    (are.0, set_levelled places (suc level) lists i new are.1 (subst P here all))

pub got_levelled : (places : List ℕ) (level : ℕ) (lists : List Terms) (i : ℕ) (old : Terms) → AreLevelled places level lists → slice_get lists i ≡ Some old → AllByRecursion (IsLine places (level + i)) old
got_levelled places level [] i old are got = absurd (cc)
got_levelled places level (ts ∷ lists) zero old are got =
    let P : Terms → Type 0 = AllByRecursion (IsLine places (level + 0)) in
    let Q : ℕ → Type 0 = λ n. AllByRecursion (IsLine places n) ts in
    let here : level ≡ level + 0 = omega arith in
    subst P (same_some ts old got) (subst Q here are.0)
got_levelled places level (ts ∷ lists) (suc i) old are got =
    let Q : ℕ → Type 0 = λ n. AllByRecursion (IsLine places n) old in
    let here : suc level + i ≡ level + suc i = omega arith in
    subst Q here (got_levelled places (suc level) lists i old are.1 got)

pub set_length : (lists : List Terms) (i : ℕ) (old new : Terms) → slice_get lists i ≡ Some old → length (joined (slice_set lists i new)) + length old ≡ length (joined lists) + length new
set_length [] i old new got = absurd (cc)
set_length (ts ∷ lists) zero old new got =
    let same : length ts ≡ length old = ap length (same_some ts old got) in
    omega (arith, same, length-append new (joined lists), length-append ts (joined lists))
set_length (ts ∷ lists) (suc i) old new got =
    omega (arith, set_length lists i old new got, length-append ts (joined (slice_set lists i new)), length-append ts (joined lists))

-- ---- how many terms

short_term : (ts : Terms) (u : Monomial × ℕ) → length (plus_term text_cmp ts u) ≤ suc (length ts)
short_term [] u = omega arith
short_term (t ∷ ts) u =
    elim (text_cmp u.0 t.0) as (λ r. length (match_ordering r (u ∷ t ∷ ts) (with_coefficient t.0 (bit_xor t.1 u.1) ts) (t ∷ plus_term text_cmp ts u)) ≤ suc (length (t ∷ ts))) [
      | Less ↦ omega arith
      | Equal ↦ elim (bit_xor t.1 u.1 == 0) as (λ b. length (cond b ts ((t.0, bit_xor t.1 u.1) ∷ ts)) ≤ suc (length (t ∷ ts))) [ true ↦ omega arith | false ↦ omega arith ]
      | Greater ↦ (let rest = short_term ts u in omega arith)
    ]

-- a sum has at most as many terms as are added up
pub short_sum : (ts us : Terms) → length (plus text_cmp ts us) ≤ length ts + length us
short_sum ts [] = omega arith
short_sum ts (u ∷ us) = (let one = short_term ts u in let rest = short_sum (plus_term text_cmp ts u) us in omega arith)

-- a count that is seen to be small is that of a small polynomial
pub within_count : (count bound : ℕ) (lists : List Terms) → IsCounted count (length (joined lists)) → count ≤ bound → bound < 4294967296 → length (plus text_cmp [] (joined lists)) ≤ bound
within_count count bound lists counted small word =
    let all : length (joined lists) ≤ count = counted (omega arith) in
    let short = short_sum [] (joined lists) in
    let none : length {A = Monomial × ℕ} [] ≡ 0 = refl in
    omega arith

-- ranks are up to the level of the first of their places
pub up_to_first : (places : List ℕ) (first : ℕ) (rs : List ℕ) → AllByRecursion (λ r. first ≤ place_at places r) rs → AreUpTo places (length places - first) rs
up_to_first places first [] all = tt
up_to_first places first (r ∷ rs) all = ((let at : first ≤ place_at places r = all.0 in omega arith), up_to_first places first rs all.1)

twice : (a b : ℕ) → bit_xor a (bit_xor a b) ≡ b
twice a b = sym (xor_assoc a a b) ∙ ap (λ n. bit_xor n b) (xor_self a) ∙ xor_zero_l b

-- ---- a term more in one list

module _ (places : List ℕ) (old new : List Terms) (i : ℕ) (t : Monomial × ℕ) (are : AreLevelled places 0 old) (has : HasTermAt old new i t) (line : IsLine places i t) where
  pub added_levelled : AreLevelled places 0 new
  added_levelled =
      let P : List Terms → Type 0 = AreLevelled places 0 in
      let Q : ℕ → Type 0 = λ n. IsLine places n t in
      let here : i ≡ 0 + i = omega arith in
      let last : AllByRecursion (IsLine places (0 + i)) (t ∷ []) = (subst Q here line, tt) in
      subst P (sym has.is.set) (set_levelled places 0 old i (has.before ++ t ∷ []) are (all_append (IsLine places (0 + i)) has.before (t ∷ []) (got_levelled places 0 old i has.before are has.is.got) last))

  pub added_polynomial : plus text_cmp [] (joined new) ≡ plus_term text_cmp (plus text_cmp [] (joined old)) t
  added_polynomial =
      more_polynomial (joined old) (joined new) t (levelled_terms places 0 old are) (line_term places i t line) (levelled_terms places 0 new added_levelled)
      (λ q.
      ap (λ (ls : List Terms). coefficient_in q (joined ls)) has.is.set
      ∙ set_sums q old i has.before (has.before ++ t ∷ []) has.is.got
      ∙ ap (bit_xor (coefficient_in q (joined old))) (ap (bit_xor (coefficient_in q has.before)) (sum_end (at_monomial q) has.before t) ∙ twice (coefficient_in q has.before) (at_monomial q t)))

  pub added_length : length (joined new) ≡ length (joined old) + 1
  added_length =
      let set : length (joined new) ≡ length (joined (slice_set old i (has.before ++ t ∷ []))) = ap (λ (ls : List Terms). length (joined ls)) has.is.set in
      let one : length (t ∷ []) ≡ 1 = refl in
      omega (arith, set, one, set_length old i has.before (has.before ++ t ∷ []) has.is.got, length-append has.before (t ∷ []))

-- a list has a term more, or none has, and one more was counted
module _ (places : List ℕ) (old raised : List Terms) (count more : ℕ) (are : AreLevelled places 0 raised) (same : joined raised ≡ joined old) (counted : IsCounted count (length (joined old)))
    (through : (m : ℕ) → IsCounted count m → IsCounted more (m + 1)) where
  pub added_state : (new : List Terms) (i : ℕ) (t : Monomial × ℕ) → IsLine places i t → HasTermAt raised new i t → AreLevelled places 0 new × IsCounted more (length (joined new))
  added_state new i t line has = (
    added_levelled places raised new i t are has line,
    λ less.
        let up : length (joined old) + 1 ≤ more = through (length (joined old)) counted less in
        let long = added_length places raised new i t are has line in
        let before : length (joined raised) ≡ length (joined old) = ap length same in
        omega (arith, up, long, before),
  )

  pub kept_state : AreLevelled places 0 raised × IsCounted more (length (joined raised))
  kept_state = (
    are,
    λ less.
        let up : length (joined old) + 1 ≤ more = through (length (joined old)) counted less in
        let before : length (joined raised) ≡ length (joined old) = ap length same in
        omega (arith, up, before),
  )

-- ---- one list was merged

list_short : (lists : List Terms) (i : ℕ) (ts : Terms) → slice_get lists i ≡ Some ts → length ts ≤ length (joined lists)
list_short [] i ts got = absurd (cc)
list_short (us ∷ lists) zero ts got = let same : length us ≡ length ts = ap length (same_some us ts got) in omega (arith, same, length-append us (joined lists))
list_short (us ∷ lists) (suc i) ts got = omega (arith, list_short lists i ts got, length-append us (joined lists))

module _ (places : List ℕ) (old new : List Terms) (i count n : ℕ) (are : AreLevelled places 0 old) (made : IsMergedAt old new i count n) where
  pub merged_levelled : AreLevelled places 0 new
  merged_levelled =
      let P : List Terms → Type 0 = AreLevelled places 0 in
      subst P (sym made.is.set) (set_levelled places 0 old i made.after are (made.merged.each places (0 + i) (got_levelled places 0 old i made.before are made.is.got)))

  pub merged_polynomial : plus text_cmp [] (joined new) ≡ plus text_cmp [] (joined old)
  merged_polynomial =
      same_polynomial (joined old) (joined new) (levelled_terms places 0 old are) (levelled_terms places 0 new merged_levelled)
      (λ q.
      let b : ℕ = coefficient_in q made.before in
      ap (λ (ls : List Terms). coefficient_in q (joined ls)) made.is.set
      ∙ set_sums q old i made.before made.after made.is.got
      ∙ ap (bit_xor (coefficient_in q (joined old))) (ap (bit_xor b) (made.merged.sums q) ∙ xor_self b)
      ∙ xor_zero_r (coefficient_in q (joined old)))

  pub merged_count : IsCounted count (length (joined old)) → IsCounted n (length (joined new))
  merged_count counted =
      let m : ℕ = length (joined old) - length made.before in
      let short = list_short old i made.before made.is.got in
      let set : length (joined new) ≡ length (joined (slice_set old i made.after)) = ap (λ (ls : List Terms). length (joined ls)) made.is.set in
      let long = set_length old i made.before made.after made.is.got in
      let whole : length (joined old) ≡ m + length made.before = omega (arith, short) in
      let rest : m + length made.after ≡ length (joined new) = omega (arith, short, set, long) in
      let P : ℕ → Type 0 = IsCounted count in
      let Q : ℕ → Type 0 = IsCounted n in
      subst Q rest (made.merged.counted m (subst P whole counted))

  pub merged_long : length new ≡ length old
  merged_long = ap length made.is.set ∙ length-set old i made.after

pub added_long : (old new : List Terms) (i : ℕ) (t : Monomial × ℕ) → HasTermAt old new i t → length new ≡ length old
added_long old new i t has = ap length has.is.set ∙ length-set old i (has.before ++ t ∷ [])

-- ---- lists one behind the other

all_first : (ts us : Terms) → AllByRecursion IsBitTerm (ts ++ us) → AllByRecursion IsBitTerm ts
all_first [] us all = tt
all_first (t ∷ ts) us all = (all.0, all_first ts us all.1)

all_later : (ts us : Terms) → AllByRecursion IsBitTerm (ts ++ us) → AllByRecursion IsBitTerm us
all_later [] us all = all
all_later (t ∷ ts) us all = all_later ts us all.1

pub each_split : (lists rest : List Terms) (ts : Terms) → lists ≡ ts ∷ rest → AllByRecursion IsBitTerm (joined lists) → AllByRecursion IsBitTerm ts × AllByRecursion IsBitTerm (joined rest)
each_split lists rest ts are all =
    let P : List Terms → Type 0 = λ ls. AllByRecursion IsBitTerm (joined ls) in
    let both = subst P are all in
    (all_first ts (joined rest) both, all_later ts (joined rest) both)

pub step_lists : (old new goal : Terms) (lists rest : List Terms) (ts : Terms) → lists ≡ ts ∷ rest → old ++ joined lists ≡ goal → new ≡ old ++ ts → new ++ joined rest ≡ goal
step_lists old new goal lists rest ts next so_far step =
    ap (λ (us : Terms). us ++ joined rest) step
    ∙ append_assoc old ts (joined rest)
    ∙ ap (λ (ls : List Terms). old ++ joined ls) (sym next)
    ∙ so_far

-- ---- a list was taken from the end

pub no_list_out : (old new : List Terms) (taken : Terms) → new ≡ old → taken ≡ [] → AreOut old new taken
no_list_out old new taken same none =
    let P : Terms → Type 0 = AreOut old new in
    subst P (sym none) (record {
      sums = λ q. ap (coefficient_in q) (append-nil (joined new)) ∙ ap (λ (ls : List Terms). coefficient_in q (joined ls)) same;
      each = λ places are. tt;
    })

pub one_list_out : (old new : List Terms) (lines taken : Terms) → old ≡ new ++ lines ∷ [] → AreTaken lines taken → AreOut old new taken
one_list_out old new lines taken are made = record {
  sums = λ q.
      sum_append (at_monomial q) (joined new) taken
      ∙ ap (bit_xor (coefficient_in q (joined new))) (made.sums q)
      ∙ sym (sum_append (at_monomial q) (joined new) lines)
      ∙ sym (ap (λ (ls : List Terms). coefficient_in q (joined ls)) are ∙ ap (coefficient_in q) (joined_end new lines));
  each = λ places levelled.
      let P : List Terms → Type 0 = AreLevelled places 0 in
      let ends = levelled_end places 0 new lines (subst P are levelled) in
      lines_terms places (0 + length new) taken (made.each places (0 + length new) ends.1);
}

pub rest_levelled : (old new : List Terms) (lines : Terms) → old ≡ new ++ lines ∷ [] → StayLevelled old new
rest_levelled old new lines are places levelled = let P : List Terms → Type 0 = AreLevelled places 0 in (levelled_end places 0 new lines (subst P are levelled)).0

pub rest_length : (old new : List Terms) (lines : Terms) → old ≡ new ++ lines ∷ [] → length (joined old) ≡ length (joined new) + length lines
rest_length old new lines are = ap (λ (ls : List Terms). length (joined ls)) are ∙ ap length (joined_end new lines) ∙ length-append (joined new) lines

-- the lists that are left end before the level of the rank
module _ (places : List ℕ) (rank : ℕ) (old new : List Terms) (taken : Terms) (levelled : AreLevelled places 0 old) (after : AreLevelled places 0 new) (long : length new ≤ level_at places rank) (made : AreOut old new taken) where
  each_whole : AllByRecursion IsBitTerm (taken ++ joined new)
  each_whole = all_append IsBitTerm taken (joined new) (made.each places levelled) (levelled_terms places 0 new after)

  lacks : LacksBit rank (joined new)
  lacks = levelled_lack places 0 rank new after (omega (arith, long))

  same_whole : plus text_cmp [] (taken ++ joined new) ≡ plus text_cmp [] (joined old)
  same_whole = same_polynomial (joined old) (taken ++ joined new) (levelled_terms places 0 old levelled) each_whole
      (λ q.
      sum_append (at_monomial q) taken (joined new)
      ∙ xor_comm (coefficient_in q taken) (coefficient_in q (joined new))
      ∙ sym (sum_append (at_monomial q) (joined new) taken)
      ∙ made.sums q)

  pub out_left : lacking rank taken ≡ [] → plus text_cmp [] (joined new) ≡ lacking rank (plus text_cmp [] (joined old))
  out_left no_others =
      ap (plus text_cmp (plus text_cmp [] (joined new))) (sym no_others)
      ∙ put_back rank (taken ++ joined new) taken (joined new) refl each_whole lacks
      ∙ ap (lacking rank) same_whole

  pub out_part : plus text_cmp [] (cofactors rank taken) ≡ cofactors rank (plus text_cmp [] (joined old))
  out_part = part_is rank (taken ++ joined new) taken (joined new) refl each_whole lacks ∙ ap (cofactors rank) same_whole
