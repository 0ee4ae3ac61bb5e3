-- Words of tables, by those of their halves.
use Rattle.std.proofs.Common.{◌≡◌, ◌∙◌, ap, ap₂, sym, refl, inl, inr, subst, ℕ, zero, suc, ◌<◌, ◌≤◌, ◌+◌, ◌-◌, ◌*◌, ◌/◌, ◌%◌, ◌^◌, Bool, true, false, cond, min, List, [], ◌∷◌, ◌++◌, length, take, Some, arith, div-one, mul-one, mul-zero, one-mul, pow-suc, pow_mono, shr-shr}
use Rattle.std.specs.Prelude.{slice_index_or, ◌==◌}
use Rattle.std.specs.Int.{bit_at}
use Rattle.std.specs.Int.RustNames.{bit_and}
use Rattle.std.proofs.lemmas.Nat.Bits.{bit_at-suc, bit_at_and, bit_at_lowest, bit_at_ones}
use Rattle.lists.specs.Lists.{Has}
use Rattle.lists.specs.laws.HasLaws.{Has_left, Has_right}
use Rattle.net_core.specs.Value.{index_of}
use Rattle.net_simplify.specs.Choice.{Forms, taken}
use Rattle.net_simplify.specs.Form.{Form, index_by, value}
use Rattle.net_simplify.specs.private.Lists.{HoldLeaves, IsWordOf, bit_number, value_number}
use Rattle.net_simplify.proofs.FormLemmas.{bit_small}
use Rattle.net_simplify.proofs.HalfLemmas.{number_small}
use Rattle.net_simplify.proofs.ListLemmas.{index_lt}

-- ---- one place more at the end

parted_at : (k : ℕ) (xs : List ℕ) → length xs ≡ suc k → xs ≡ take k xs ++ slice_index_or xs k 0 ∷ []
parted_at k [] long = absurd (omega arith)
parted_at zero (x ∷ []) long = refl
parted_at zero (x ∷ (y ∷ ys)) long = absurd (omega arith)
parted_at (suc k) (x ∷ xs) long = ap (λ zs. x ∷ zs) (parted_at k xs (omega arith))

parted_last : (xs : List ℕ) → 1 ≤ length xs → xs ≡ take (length xs - 1) xs ++ slice_index_or xs (length xs - 1) 0 ∷ []
parted_last xs some = let long : length xs ≡ suc (length xs - 1) = omega (arith, some) in parted_at (length xs - 1) xs long

times_up : (p q b i j : ℕ) → b < 2 → q ≡ 2 * p → j ≡ i + p * b → 2 * j ≡ 2 * i + q * b
times_up p q zero i j small twice is = omega (arith, is, mul-zero p, mul-zero q)
times_up p q (suc zero) i j small twice is = omega (arith, is, twice, mul-one p, mul-one q)
times_up p q (suc (suc b)) i j small twice is = absurd (omega arith)

number_below : (bits : List Bool) (form : Form) → value_number bits form < 2
number_below bits form = by (value bits form)
  where
    by : (b : Bool) → ◌<◌ (cond b 1 0) 2
    by true = omega arith
    by false = omega arith

index_last : (bits : List Bool) (ns : List ℕ) (n : ℕ) → index_of bits (ns ++ n ∷ []) ≡ index_of bits ns + 2 ^ length ns * bit_number bits n
index_last bits [] n = omega (arith, one-mul (bit_number bits n))
index_last bits (m ∷ ns) n = omega (arith, times_up (2 ^ length ns) (2 ^ suc (length ns)) (bit_number bits n) (index_of bits ns) (index_of bits (ns ++ n ∷ [])) (number_small bits n) (omega (arith, pow-suc 2 (length ns))) (index_last bits ns n))

values_last : (bits : List Bool) (fs : List Form) (f : Form) → index_by bits (fs ++ f ∷ []) ≡ index_by bits fs + 2 ^ length fs * value_number bits f
values_last bits [] f = omega (arith, one-mul (value_number bits f))
values_last bits (g ∷ fs) f = omega (arith, times_up (2 ^ length fs) (2 ^ suc (length fs)) (value_number bits f) (index_by bits fs) (index_by bits (fs ++ f ∷ [])) (number_below bits f) (omega (arith, pow-suc 2 (length fs))) (values_last bits fs f))

-- what is taken of a net
abbrev of_net : Forms → Bool → ℕ → Form
of_net forms opened n = cond opened (forms.body n) (forms.unit n)

taken_last : (forms : Forms) (opened : ℕ) (ns : List ℕ) (n : ℕ) → taken forms opened (ns ++ n ∷ []) ≡ taken forms opened ns ++ of_net forms (bit_at opened (length ns) == 1) n ∷ []
taken_last forms opened [] n = ap (λ b. of_net forms (b == 1) n ∷ []) (sym (bit_at_lowest opened))
taken_last forms opened (m ∷ ns) n =
    ap (λ fs. of_net forms (opened % 2 == 1) m ∷ fs) (taken_last forms (opened / 2) ns n)
    ∙ ap (λ b. of_net forms (opened % 2 == 1) m ∷ (taken forms (opened / 2) ns ++ of_net forms (b == 1) n ∷ [])) (sym (bit_at-suc opened (length ns)))

taken_long : (forms : Forms) (opened : ℕ) (ns : List ℕ) → length (taken forms opened ns) ≡ length ns
taken_long forms opened [] = refl
taken_long forms opened (n ∷ ns) = ap suc (taken_long forms (opened / 2) ns)

-- the bit of a table whose upper half is taken where the bit of the last place is 1
mixed : (table s word high low made i index b : ℕ) → b < 2 → bit_at word i ≡ b → bit_at high i ≡ bit_at (table / 2 ^ s) index → bit_at low i ≡ bit_at table index → bit_at made i ≡ cond (bit_at word i == 1) (bit_at high i) (bit_at low i) → bit_at made i ≡ bit_at table (index + s * b)
mixed table s word high low made i index b small is upper lower chosen = chosen ∙ ap (λ x. cond (x == 1) (bit_at high i) (bit_at low i)) is ∙ by b small
  where
    by : (c : ℕ) → c < 2 → cond (c == 1) (bit_at high i) (bit_at low i) ≡ bit_at table (index + s * c)
    by zero less = lower ∙ (let e : index ≡ index + s * 0 = omega (arith, mul-zero s) in ap (bit_at table) e)
    by (suc zero) less = upper ∙ ap (λ x. x % 2) (shr-shr table s index) ∙ (let e : s + index ≡ index + s * 1 = omega (arith, mul-one s) in ap (bit_at table) e)
    by (suc (suc c)) less = absurd (omega arith)

index_small : (bits : List Bool) (leaves : List ℕ) → length leaves ≤ 6 → index_of bits leaves < 64
index_small bits leaves few = omega (arith, index_lt bits leaves, pow_mono {i = length leaves} {j = 6} few)

-- the word of a table's function of some leaves, by those of its halves
over_last : (leaves some before : List ℕ) (last table s word high low made : ℕ) → some ≡ before ++ last ∷ [] → s ≡ 2 ^ length before → length leaves ≤ 6
    → ((bits : List Bool) (i : ℕ) → i < 64 → i / 2 ^ 0 ≡ index_of bits leaves → Has leaves last → bit_at word i ≡ bit_number bits last)
    → (((n : ℕ) → Has before n → Has leaves n) → IsWordOf leaves (λ bits. bit_at (table / 2 ^ s) (index_of bits before)) high)
    → (((n : ℕ) → Has before n → Has leaves n) → IsWordOf leaves (λ bits. bit_at table (index_of bits before)) low)
    → ((i : ℕ) → bit_at made i ≡ cond (bit_at word i == 1) (bit_at high i) (bit_at low i))
    → ((n : ℕ) → Has some n → Has leaves n) → IsWordOf leaves (λ bits. bit_at table (index_of bits some)) made
over_last leaves some before last table s word high low made same wide few leaf upper lower chosen hold bits =
    let P : List ℕ → Type 0 = λ xs. (n : ℕ) → Has xs n → Has leaves n in
    let all : (n : ℕ) → Has (before ++ last ∷ []) n → Has leaves n = subst P same hold in
    let front : (n : ℕ) → Has before n → Has leaves n = λ n has. all n (Has_left before (last ∷ []) n has) in
    let i : ℕ = index_of bits leaves in
    let whole : i / 2 ^ 0 ≡ i = div-one i in
    mixed table s word high low made i (index_of bits before) (bit_number bits last) (number_small bits last) (leaf bits i (index_small bits leaves few) whole (all last (Has_right before (last ∷ []) last (0, refl)))) (upper front bits) (lower front bits) (chosen i)
    ∙ ap (λ p. bit_at table (index_of bits before + p * bit_number bits last)) wide
    ∙ ap (bit_at table) (sym (index_last bits before last))
    ∙ ap (λ xs. bit_at table (index_of bits xs)) (sym same)

pub over_slice : (leaves some before : List ℕ) (last table place s word high low made : ℕ) → 1 ≤ length some → before ≡ take (length some - 1) some → last ≡ slice_index_or some (length some - 1) 0 → place ≡ length before → s ≡ 2 ^ place → length leaves ≤ 6
    → ((bits : List Bool) (i : ℕ) → i < 64 → i / 2 ^ 0 ≡ index_of bits leaves → Has leaves last → bit_at word i ≡ bit_number bits last)
    → (((n : ℕ) → Has before n → Has leaves n) → IsWordOf leaves (λ bits. bit_at (table / 2 ^ s) (index_of bits before)) high)
    → (((n : ℕ) → Has before n → Has leaves n) → IsWordOf leaves (λ bits. bit_at table (index_of bits before)) low)
    → ((i : ℕ) → bit_at made i ≡ cond (bit_at word i == 1) (bit_at high i) (bit_at low i))
    → ((n : ℕ) → Has some n → Has leaves n) → IsWordOf leaves (λ bits. bit_at table (index_of bits some)) made
over_slice leaves some before last table place s word high low made long is_before is_last is_place is_s few leaf upper lower chosen =
    over_last leaves some before last table s word high low made (parted_last some long ∙ ap₂ (λ xs x. xs ++ x ∷ []) (sym is_before) (sym is_last)) (is_s ∙ ap (λ p. 2 ^ p) is_place) few leaf upper lower chosen

-- the word of a constant function
pub over_none : (leaves some : List ℕ) (table word bit : ℕ) → length some < 1 → length leaves ≤ 6 → ((i : ℕ) → i < 64 → bit_at word i ≡ bit) → bit ≡ bit_at table 0 → IsWordOf leaves (λ bits. bit_at table (index_of bits some)) word
over_none leaves some table word bit none few is value bits = is (index_of bits leaves) (index_small bits leaves few) ∙ value ∙ ap (λ xs. bit_at table (index_of bits xs)) (sym (empty some none))
  where
    empty : (xs : List ℕ) → length xs < 1 → xs ≡ []
    empty [] short = refl
    empty (x ∷ xs) short = absurd (omega arith)

pub taken_none : (leaves nets : List ℕ) (forms : Forms) (opened table word bit : ℕ) → length nets < 1 → length leaves ≤ 6 → ((i : ℕ) → i < 64 → bit_at word i ≡ bit) → bit ≡ bit_at table 0 → IsWordOf leaves (λ bits. bit_at table (index_by bits (taken forms opened nets))) word
taken_none leaves nets forms opened table word bit none few is value bits = is (index_of bits leaves) (index_small bits leaves few) ∙ value ∙ ap (λ xs. bit_at table (index_by bits (taken forms opened xs))) (sym (empty nets none))
  where
    empty : (xs : List ℕ) → length xs < 1 → xs ≡ []
    empty [] short = refl
    empty (x ∷ xs) short = absurd (omega arith)

-- the same for nets of which some are opened
taken_over : (leaves nets before : List ℕ) (last table s opened word high low made : ℕ) (forms : Forms) (form : Form) → nets ≡ before ++ last ∷ [] → s ≡ 2 ^ length before → form ≡ of_net forms (bit_at opened (length before) == 1) last
    → (((n : ℕ) → Has form.leaves n → Has leaves n) → IsWordOf leaves (λ bits. value_number bits form) word)
    → (HoldLeaves leaves (taken forms opened before) → IsWordOf leaves (λ bits. bit_at (table / 2 ^ s) (index_by bits (taken forms opened before))) high)
    → (HoldLeaves leaves (taken forms opened before) → IsWordOf leaves (λ bits. bit_at table (index_by bits (taken forms opened before))) low)
    → ((i : ℕ) → bit_at made i ≡ cond (bit_at word i == 1) (bit_at high i) (bit_at low i))
    → HoldLeaves leaves (taken forms opened nets) → IsWordOf leaves (λ bits. bit_at table (index_by bits (taken forms opened nets))) made
taken_over leaves nets before last table s opened word high low made forms form same wide is leaf upper lower chosen hold bits =
    let fs : List Form = taken forms opened before in
    let whole : taken forms opened nets ≡ fs ++ form ∷ [] = ap (taken forms opened) same ∙ taken_last forms opened before last ∙ ap (λ (f : Form). fs ++ f ∷ []) (sym is) in
    let P : List Form → Type 0 = HoldLeaves leaves in
    let all : HoldLeaves leaves (fs ++ form ∷ []) = subst P whole hold in
    let front : HoldLeaves leaves fs = λ f has. all f (Has_left fs (form ∷ []) f has) in
    let i : ℕ = index_of bits leaves in
    let long : s ≡ 2 ^ length fs = wide ∙ ap (λ n. 2 ^ n) (sym (taken_long forms opened before)) in
    mixed table s word high low made i (index_by bits fs) (value_number bits form) (number_below bits form) (leaf (all form (Has_right fs (form ∷ []) form (0, refl))) bits) (upper front bits) (lower front bits) (chosen i)
    ∙ ap (λ p. bit_at table (index_by bits fs + p * value_number bits form)) long
    ∙ ap (bit_at table) (sym (values_last bits fs form))
    ∙ ap (λ xs. bit_at table (index_by bits xs)) (sym whole)

pub taken_slice : (leaves nets before : List ℕ) (last table place s opened word high low made : ℕ) (forms : Forms) (form : Form) → 1 ≤ length nets → before ≡ take (length nets - 1) nets → last ≡ slice_index_or nets (length nets - 1) 0 → place ≡ length before → s ≡ 2 ^ place
    → form ≡ cond (opened / 2 ^ place % 2 == 1) (forms.body last) (forms.unit last)
    → (((n : ℕ) → Has form.leaves n → Has leaves n) → IsWordOf leaves (λ bits. value_number bits form) word)
    → (HoldLeaves leaves (taken forms opened before) → IsWordOf leaves (λ bits. bit_at (table / 2 ^ s) (index_by bits (taken forms opened before))) high)
    → (HoldLeaves leaves (taken forms opened before) → IsWordOf leaves (λ bits. bit_at table (index_by bits (taken forms opened before))) low)
    → ((i : ℕ) → bit_at made i ≡ cond (bit_at word i == 1) (bit_at high i) (bit_at low i))
    → HoldLeaves leaves (taken forms opened nets) → IsWordOf leaves (λ bits. bit_at table (index_by bits (taken forms opened nets))) made
taken_slice leaves nets before last table place s opened word high low made forms form long is_before is_last is_place is_s is leaf upper lower chosen =
    taken_over leaves nets before last table s opened word high low made forms form (parted_last nets long ∙ ap₂ (λ xs x. xs ++ x ∷ []) (sym is_before) (sym is_last)) (is_s ∙ ap (λ p. 2 ^ p) is_place) (is ∙ ap (λ p. of_net forms (bit_at opened p == 1) last) is_place) leaf upper lower chosen

-- ---- tables of so many places

-- the low bits of a word
pub masked_bit : (word k i : ℕ) → i < k → bit_at (bit_and word (2 ^ k - 1)) i ≡ bit_at word i
masked_bit word k i less = bit_at_and word (2 ^ k - 1) i ∙ ap (min (bit_at word i)) (bit_at_ones k i less) ∙ by (bit_at word i) (bit_small word i)
  where
    by : (b : ℕ) → b < 2 → ◌≡◌ {A = ℕ} (min b 1) b
    by zero small = refl
    by (suc zero) small = refl
    by (suc (suc b)) small = absurd (omega arith)

-- the table of a function of forms, by its word
pub masked_word : (leaves ins inputs : List ℕ) (forms : List ℕ → List Form) (t table word full : ℕ) → ins ≡ inputs → t ≡ table → full ≡ 2 ^ (2 ^ length leaves) - 1 → HoldLeaves leaves (forms inputs)
    → (HoldLeaves leaves (forms ins) → IsWordOf leaves (λ bits. bit_at t (index_by bits (forms ins))) word) → IsWordOf leaves (λ bits. bit_at table (index_by bits (forms inputs))) (bit_and word full)
masked_word leaves ins inputs forms t table word full same same_table is hold made bits =
    let P : List ℕ → Type 0 = λ ns. HoldLeaves leaves (forms ns) in
    ap (λ m. bit_at (bit_and word m) (index_of bits leaves)) is
    ∙ masked_bit word (2 ^ length leaves) (index_of bits leaves) (index_lt bits leaves)
    ∙ made (subst P (sym same) hold) bits
    ∙ ap (λ x. bit_at x (index_by bits (forms ins))) same_table
    ∙ ap (λ ns. bit_at table (index_by bits (forms ns))) same
