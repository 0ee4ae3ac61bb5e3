-- Forms with a leaf less.
use Rattle.std.proofs.Common.{◌≡◌, ◌≢◌, ◌⊎◌, ◌∙◌, ap, ap₂, sym, refl, inl, inr, subst, ℕ, zero, suc, ◌<◌, ◌≤◌, ◌+◌, ◌*◌, ◌-◌, ◌/◌, ◌%◌, ◌^◌, Bool, true, false, cond, List, [], ◌∷◌, ◌++◌, length, take, drop, remove, Some, arith, pow-suc}
use Rattle.std.specs.Prelude.{slice_get, ◌==◌}
use Rattle.lists.specs.laws.ReadLaws.{get_below}
use Rattle.std.specs.Int.{bit_at}
use Rattle.lists.specs.Lists.{Has}
use Rattle.net_core.specs.Value.{bit_of, index_of}
use Rattle.net_simplify.specs.Form.{Form, value, IsForm, IsRising, DependsOn}
use Rattle.net_simplify.specs.private.Lists.{IsLeft, IsTold, Reduces, bit_number, with_place, without_leaf}
use Rattle.net_simplify.proofs.FormLemmas.{bit_small, one_bit}
use Rattle.net_simplify.proofs.ListLemmas.{has_cons, has_more, has_none, index_lt, index_put, index_some, put, put_other, put_same}

pub number_small : (bits : List Bool) (n : ℕ) → bit_number bits n < 2
number_small bits n = by (bit_of bits n)
  where
    by : (b : Bool) → ◌<◌ (cond b 1 0) 2
    by true = omega arith
    by false = omega arith

-- an index is that without a place, with the bit of this place
pub index_with_place : (bits : List Bool) (ns : List ℕ) (place n : ℕ) → slice_get ns place ≡ Some n → index_of bits ns ≡ with_place place (bit_number bits n) (index_of bits (remove ns place))
index_with_place bits [] place n got = absurd (cc)
index_with_place bits (m ∷ ns) zero n got =
    let same : m ≡ n = cc in
    ap (λ x. bit_number bits x + 2 * index_of bits ns) same
index_with_place bits (m ∷ ns) (suc place) n got =
    let rest : ℕ = index_of bits (remove ns place) in
    let low : (bit_number bits m + 2 * rest) % 2 ≡ bit_number bits m = omega (arith, number_small bits m) in
    let high : (bit_number bits m + 2 * rest) / 2 ≡ rest = omega (arith, number_small bits m) in
    ap (λ i. bit_number bits m + 2 * i) (index_with_place bits ns place n got)
    ∙ sym (ap₂ (λ a b. a + 2 * with_place place (bit_number bits n) b) low high)

remove_has : (ns : List ℕ) (place n : ℕ) → Has (remove ns place) n → Has ns n
remove_has [] zero n has = has
remove_has [] (suc place) n has = has
remove_has (m ∷ ns) zero n has = has_more m ns n has
remove_has (m ∷ ns) (suc place) n has = elim (has_cons m (remove ns place) n has) [
  | inl same ↦ (0, ap Some same)
  | inr rest ↦ has_more m ns n (remove_has ns place n rest)
]

pub remove_rising : (ns : List ℕ) (place : ℕ) → IsRising ns → IsRising (remove ns place)
remove_rising [] zero up = up
remove_rising [] (suc place) up = up
remove_rising (m ∷ ns) zero up = up.1
remove_rising (m ∷ ns) (suc place) up = (λ y has. up.0 y (remove_has ns place y has), remove_rising ns place up.1)

-- a rising list has a number at one place alone
remove_gone : (ns : List ℕ) (place n : ℕ) → IsRising ns → slice_get ns place ≡ Some n → Has (remove ns place) n → ⊥
remove_gone [] place n up got has = absurd (cc)
remove_gone (m ∷ ns) zero n up got has = let same : m ≡ n = cc in omega (arith, same, up.0 n has)
remove_gone (m ∷ ns) (suc place) n up got has = elim (has_cons m (remove ns place) n has) [
  | inl same ↦ omega (arith, same, up.0 n (place, got))
  | inr rest ↦ remove_gone ns place n up.1 got rest
]

pub remove_length : (ns : List ℕ) (place n : ℕ) → slice_get ns place ≡ Some n → length (remove ns place) + 1 ≡ length ns
remove_length [] place n got = absurd (cc)
remove_length (m ∷ ns) zero n got = omega arith
remove_length (m ∷ ns) (suc place) n got = omega (arith, remove_length ns place n got)

remove_after : (ns : List ℕ) (place n : ℕ) → slice_get ns place ≡ Some n → drop place (remove ns place) ≡ drop (suc place) ns
remove_after [] place n got = absurd (cc)
remove_after (m ∷ ns) zero n got = refl
remove_after (m ∷ ns) (suc place) n got = remove_after ns place n got

drop_here : (ns : List ℕ) (place n : ℕ) → slice_get ns place ≡ Some n → drop place ns ≡ n ∷ drop (suc place) ns
drop_here [] place n got = absurd (cc)
drop_here (m ∷ ns) zero n got = let same : m ≡ n = cc in ap (λ x. x ∷ ns) same
drop_here (m ∷ ns) (suc place) n got = drop_here ns place n got

-- the table has the bits of another where one more place has this bit
abbrev pub IsHalf : (table places place bit half : ℕ) → Type 0
IsHalf table places place bit half = (i : ℕ) → i < 2 ^ places → bit_at half i ≡ bit_at table (with_place place bit i)

index_removed : (bits : List Bool) (ns : List ℕ) (place n k : ℕ) → slice_get ns place ≡ Some n → k + 1 ≡ length ns → index_of bits (remove ns place) < 2 ^ k
index_removed bits ns place n k got long =
    let same : length (remove ns place) ≡ k = omega (arith, remove_length ns place n got, long) in
    let P : ℕ → Type 0 = λ x. index_of bits (remove ns place) < 2 ^ x in
    subst P same (index_lt bits (remove ns place))

-- the value, by the bit of the leaf
half_value : (bits : List Bool) (form : Form) (place n k half : ℕ) → slice_get form.leaves place ≡ Some n → k + 1 ≡ length form.leaves → IsHalf form.table k place (bit_number bits n) half → bit_at half (index_of bits (remove form.leaves place)) ≡ bit_at form.table (index_of bits form.leaves)
half_value bits form place n k half got long is =
    is (index_of bits (remove form.leaves place)) (index_removed bits form.leaves place n k got long)
    ∙ ap (bit_at form.table) (sym (index_with_place bits form.leaves place n got))

-- where both halves are the same, the leaf is left out
pub idle_reduces : (form : Form) (place n k low high : ℕ) → IsRising form.leaves → slice_get form.leaves place ≡ Some n → k + 1 ≡ length form.leaves → place ≤ k → IsHalf form.table k place 0 low → IsHalf form.table k place 1 high → low ≡ high → Reduces form place (without_leaf form place low)
idle_reduces form place n k low high up got long within first second same = record {
  same = λ bits. ap (λ b. b == 1) (half_value bits form place n k low got long (either bits (bit_of bits n)));
  rises = remove_rising form.leaves place up;
  long = omega (arith, remove_length form.leaves place n got, long, within);
  after = λ m has. let P : List ℕ → Type 0 = λ xs. Has xs m in inl (subst P (remove_after form.leaves place n got) has);
}
  where
    either : (bits : List Bool) (b : Bool) → IsHalf form.table k place (cond b 1 0) low
    either bits true = let P : ℕ → Type 0 = IsHalf form.table k place 1 in subst P (sym same) second
    either bits false = first

-- where some bits of them differ, the value depends on it
pub kept_reduces : (form : Form) (place n k : ℕ) → IsRising form.leaves → slice_get form.leaves place ≡ Some n → k + 1 ≡ length form.leaves → place ≤ k → IsTold form.table k place → Reduces form place form
kept_reduces form place n k up got long within at = record {
  same = λ bits. refl;
  rises = up;
  long = omega (arith, long, within);
  after = λ m has. let P : List ℕ → Type 0 = λ xs. Has xs m in cases m (has_cons n (drop (suc place) form.leaves) m (subst P (drop_here form.leaves place n got) has));
}
  where
    bits : (bits : List Bool) × (index_of bits (remove form.leaves place) ≡ at.0)
    bits =
        let same : length (remove form.leaves place) ≡ k = omega (arith, remove_length form.leaves place n got, long) in
        let P : ℕ → Type 0 = λ x. at.0 < 2 ^ x in
        index_some (remove form.leaves place) (remove_rising form.leaves place up) at.0 (subst P (sym same) at.1)

    index : (v : Bool) → index_of (put n v bits.0) (remove form.leaves place) ≡ at.0
    index v = index_put n v bits.0 (remove form.leaves place) (remove_gone form.leaves place n up got) ∙ bits.1

    number : (v : Bool) → bit_number (put n v bits.0) n ≡ cond v 1 0
    number v = ap (λ (b : Bool). cond b 1 0) (put_same n v bits.0)

    bit : (v : Bool) → bit_at form.table (index_of (put n v bits.0) form.leaves) ≡ bit_at form.table (with_place place (cond v 1 0) at.0)
    bit v = ap (bit_at form.table) (index_with_place (put n v bits.0) form.leaves place n got ∙ ap₂ (with_place place) (number v) (index v))

    differ : value (put n false bits.0) form ≡ value (put n true bits.0) form → ⊥
    differ same = at.2 (sym (bit false) ∙ one_bit (bit_at form.table (index_of (put n false bits.0) form.leaves)) (bit_at form.table (index_of (put n true bits.0) form.leaves)) (bit_small form.table _) (bit_small form.table _) same ∙ bit true)

    cases : (m : ℕ) → (n ≡ m) ⊎ Has (drop (suc place) form.leaves) m → Has (drop (suc place) form.leaves) m ⊎ DependsOn form m
    cases m (inr rest) = inl rest
    cases m (inl same) =
        let P : ℕ → Type 0 = DependsOn form in
        inr (subst P same (record { bits = put n false bits.0; other = put n true bits.0; alike = λ x apart. put_other n false bits.0 x apart ∙ sym (put_other n true bits.0 x apart); differ = differ }))

-- ---- what is left after some places

pub depends_moved : (form other : Form) (n : ℕ) → ((bits : List Bool) → value bits form ≡ value bits other) → DependsOn form n → DependsOn other n
depends_moved form other n same d = record { bits = d.bits; other = d.other; alike = d.alike; differ = λ e. d.differ (same d.bits ∙ e ∙ sym (same d.other)) }

pub left_step : (start form left : Form) (place : ℕ) → IsLeft start form (suc place) → Reduces form place left → IsLeft start left place
left_step start form left place is r = record {
  same = λ bits. r.same bits ∙ is.same bits;
  rises = r.rises;
  long = r.long;
  depends = λ n has. elim (r.after n has) [
    | inl after ↦ is.depends n after
    | inr here ↦ depends_moved form start n is.same here
  ];
}

drop_past : (ns : List ℕ) (k n : ℕ) → length ns ≤ k → Has (drop k ns) n → ⊥
drop_past [] zero n past has = has_none n has
drop_past [] (suc k) n past has = has_none n has
drop_past (m ∷ ns) zero n past has = absurd (omega arith)
drop_past (m ∷ ns) (suc k) n past has = drop_past ns k n (omega arith) has

pub left_start : (form : Form) (k : ℕ) → k ≡ length form.leaves → IsRising form.leaves → IsLeft form form k
left_start form k long up = record { same = λ bits. refl; rises = up; long = omega (arith, long); depends = λ n has. absurd (drop_past form.leaves k n (omega (arith, long)) has) }

-- after all places each leaf matters
pub left_form : (start form : Form) → length form.leaves ≤ 6 → form.table < 2 ^ (2 ^ length form.leaves) → IsLeft start form 0 → IsForm form
left_form start form few fits is = record { rises = is.rises; few = few; fits = fits; depends = λ n has. depends_moved start form n (λ bits. sym (is.same bits)) (is.depends n has) }

pub idle_at : (form : Form) (place k low : ℕ) → IsRising form.leaves → place < length form.leaves → k ≡ length form.leaves - 1 → IsHalf form.table k place 0 low → ((i : ℕ) → i < 2 ^ k → bit_at form.table (with_place place 0 i) ≡ bit_at form.table (with_place place 1 i)) → Reduces form place (without_leaf form place low)
idle_at form place k low up less long half alike =
    let at = get_below form.leaves place less in
    idle_reduces form place at.0 k low low up at.1 (omega (arith, less, long)) (omega (arith, less, long)) half (λ i within. half i within ∙ alike i within) refl

pub kept_at : (form : Form) (place k : ℕ) → IsRising form.leaves → place < length form.leaves → k ≡ length form.leaves - 1 → IsTold form.table k place → Reduces form place form
kept_at form place k up less long told = let at = get_below form.leaves place less in kept_reduces form place at.0 k up at.1 (omega (arith, less, long)) (omega (arith, less, long)) told

pub left_more : (start form left : Form) (place below : ℕ) → below ≡ place - 1 → place ≢ 0 → IsLeft start form place → Reduces form below left → IsLeft start left below
left_more start form left place below same some is r =
    let P : ℕ → Type 0 = IsLeft start form in
    left_step start form left below (subst P (omega (arith, same, some)) is) r

-- ---- what the functions do

pub idle_by : (form left : Form) (place p t u low : ℕ) → IsRising form.leaves → place < length form.leaves → p ≡ length form.leaves → t ≡ form.table → u ≡ form.table → IsHalf t (p - 1) place 0 low → ((i : ℕ) → i < 2 ^ (p - 1) → bit_at u (with_place place 0 i) ≡ bit_at u (with_place place 1 i)) → left ≡ without_leaf form place low → Reduces form place left
idle_by form left place p t u low up less long is is' half alike made =
    let P : Form → Type 0 = Reduces form place in
    let F : ℕ → Type 0 = λ x. IsHalf x (p - 1) place 0 low in
    let A : ℕ → Type 0 = λ x. (i : ℕ) → i < 2 ^ (p - 1) → bit_at x (with_place place 0 i) ≡ bit_at x (with_place place 1 i) in
    subst P (sym made) (idle_at form place (p - 1) low up less (omega (arith, long)) (subst F is half) (subst A is' alike))

pub kept_by : (form : Form) (place p t : ℕ) → IsRising form.leaves → place < length form.leaves → p ≡ length form.leaves → t ≡ form.table → IsTold t (p - 1) place → Reduces form place form
kept_by form place p t up less long is told = let T : ℕ → Type 0 = λ x. IsTold x (p - 1) place in kept_at form place (p - 1) up less (omega (arith, long)) (subst T is told)

pub left_by : (start form : Form) (p : ℕ) → form ≡ start → p ≡ length form.leaves → IsRising start.leaves → IsLeft start form p
left_by start form p same long up =
    let P : Form → Type 0 = λ f. IsLeft start f p in
    subst P (sym same) (left_start start p (omega (arith, long, ap (λ (f : Form). length f.leaves) same)) up)
