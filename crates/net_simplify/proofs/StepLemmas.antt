-- Steps of the functions that join leaves and make tables.
use Rattle.std.proofs.Common.{◌≡◌, ◌≢◌, ◌⊎◌, ◌∙◌, ap, ap₂, sym, refl, inl, inr, subst, ℕ, zero, suc, ◌<◌, ◌≤◌, ◌+◌, ◌-◌, ◌*◌, ◌/◌, ◌%◌, ◌^◌, Bool, true, false, cond, not, List, [], ◌∷◌, length, take, drop, insert, Option, Some, None, arith, pow_mono}
use Rattle.std.specs.Prelude.{slice_get, slice_index_or, ◌==◌}
use Rattle.std.specs.Int.{bit_at}
use Rattle.lists.specs.Lists.{Has}
use Rattle.lists.specs.laws.NumberLaws.{nat_eq_or}
use Rattle.net_core.specs.Value.{bit_of, index_of}
use Rattle.net_simplify.specs.Form.{Form, value, IsRising, IsForm, IsComposed, index_by}
use Rattle.net_simplify.specs.Choice.{Forms, leaves_of, leaves_with, taken, with_leaf, with_leaves}
use Rattle.net_simplify.specs.private.Lists.{FormLists, HoldLeaves, IsComposedWithin, IsJoined, bit_number, form_at, forms_of, is_at_place, leaf_place, value_number, with_place}
use Rattle.net_simplify.proofs.ListLemmas.{has_more}
use Rattle.net_simplify.proofs.LeafLemmas.{all_long, leaf_new, leaf_there, leaves_hold, leaves_long, leaves_rise, units_few}

take_whole : (n : ℕ) (xs : List ℕ) → n ≡ length xs → take n xs ≡ xs
take_whole zero [] same = refl
take_whole zero (x ∷ xs) same = absurd (omega arith)
take_whole (suc n) [] same = refl
take_whole (suc n) (x ∷ xs) same = ap (λ ys. x ∷ ys) (take_whole n xs (omega arith))

-- the first of a slice, and what follows it
abbrev pub first : List ℕ → ℕ
first xs = slice_index_or xs 0 0

abbrev pub rest : List ℕ → List ℕ
rest xs = take (length xs - 1) (drop 1 xs)

pub parted : (xs : List ℕ) → 1 ≤ length xs → xs ≡ first xs ∷ rest xs
parted [] some = absurd (omega arith)
parted (x ∷ xs) some = ap (λ ys. x ∷ ys) (sym (take_whole (length (x ∷ xs) - 1) xs (omega arith)))

-- an index of six places at most is one of a table
pub below_table : (i n : ℕ) → i < 2 ^ n → n ≤ 6 → i < 64
below_table i n less few = omega (arith, less, pow_mono {i = n} {j = 6} few)

pub leaf_added : (x p : ℕ) (ys new : List ℕ) (b : Bool) → p ≡ leaf_place x ys → b ≡ is_at_place ys p x → b ≡ false → new ≡ insert ys p x → new ≡ with_leaf x ys
leaf_added x p ys new b place test none made =
    made ∙ ap (λ q. insert ys q x) place ∙ sym (leaf_new x ys (sym (ap (λ q. is_at_place ys q x) place) ∙ sym test ∙ none))

pub leaf_kept : (x p : ℕ) (ys : List ℕ) (b : Bool) → p ≡ leaf_place x ys → b ≡ is_at_place ys p x → b ≡ true → ys ≡ with_leaf x ys
leaf_kept x p ys b place test some = sym (leaf_there x ys (sym (ap (λ q. is_at_place ys q x) place) ∙ sym test ∙ some))

-- ---- joining

pub joined_over : (limit x : ℕ) (more rest old new : List ℕ) → more ≡ x ∷ rest → new ≡ with_leaf x old → limit < length new → IsJoined limit (with_leaves more old) new false
joined_over limit x more rest old new same made over =
    let P : List ℕ → Type 0 = λ xs. limit < length (with_leaves xs old) in
    let long : length new ≡ length (with_leaf x old) = ap (λ (xs : List ℕ). length xs) made in
    subst P (sym same) (omega (arith, over, long, leaves_long rest (with_leaf x old)))

pub joined_rest : (limit x : ℕ) (more rest old middle new : List ℕ) (within : Bool) → more ≡ x ∷ rest → middle ≡ with_leaf x old → IsJoined limit (with_leaves rest middle) new within → IsJoined limit (with_leaves more old) new within
joined_rest limit x more rest old middle new within same made is =
    let P : List ℕ → Type 0 = λ xs. IsJoined limit (with_leaves rest xs) new within in
    let Q : List ℕ → Type 0 = λ xs. IsJoined limit (with_leaves xs old) new within in
    subst Q (sym same) (subst P made is)

pub forms_over : (limit first opened : ℕ) (ns rest old new : List ℕ) (forms : Forms) (form : Form) → ns ≡ first ∷ rest → form ≡ cond (opened % 2 == 1) (forms.body first) (forms.unit first) → IsJoined limit (with_leaves form.leaves old) new false → IsJoined limit (leaves_with old (taken forms opened ns)) new false
forms_over limit first opened ns rest old new forms form same is over =
    let P : List ℕ → Type 0 = λ xs. limit < length (leaves_with old (taken forms opened xs)) in
    let chosen : Form = cond (opened % 2 == 1) (forms.body first) (forms.unit first) in
    let long : length (with_leaves form.leaves old) ≡ length (with_leaves chosen.leaves old) = ap (λ (f : Form). length (with_leaves f.leaves old)) is in
    subst P (sym same) (omega (arith, over, long, all_long (with_leaves chosen.leaves old) (taken forms (opened / 2) rest)))

pub forms_rest : (limit first opened : ℕ) (ns rest old middle new : List ℕ) (forms : Forms) (form : Form) (within : Bool) → ns ≡ first ∷ rest → form ≡ cond (opened % 2 == 1) (forms.body first) (forms.unit first) → IsJoined limit (with_leaves form.leaves old) middle true → IsJoined limit (leaves_with middle (taken forms (opened / 2) rest)) new within → IsJoined limit (leaves_with old (taken forms opened ns)) new within
forms_rest limit first opened ns rest old middle new forms form within same is first_is rest_is =
    let chosen : Form = cond (opened % 2 == 1) (forms.body first) (forms.unit first) in
    let made : middle ≡ with_leaves chosen.leaves old = first_is.0 ∙ ap (λ (f : Form). with_leaves f.leaves old) is in
    let P : List ℕ → Type 0 = λ xs. IsJoined limit (leaves_with xs (taken forms (opened / 2) rest)) new within in
    let Q : List ℕ → Type 0 = λ xs. IsJoined limit (leaves_with old (taken forms opened xs)) new within in
    subst Q (sym same) (subst P made rest_is)

-- ---- tables

-- one more bit of a table that is made by a rule
pub rule_step : (rule : ℕ → ℕ) (found new index value : ℕ) → ((i : ℕ) → i < index → bit_at found i ≡ rule i) → ((i : ℕ) → i < index → bit_at new i ≡ bit_at found i) → bit_at new index ≡ value → value ≡ rule index → (i : ℕ) → i < index + 1 → bit_at new i ≡ rule i
rule_step rule found new index value before keeps here is i less =
    elim (nat_eq_or i index) [
      | inl same ↦ ap (bit_at new) same ∙ here ∙ is ∙ ap rule (sym same)
      | inr apart ↦ keeps i (omega (arith, less, apart)) ∙ before i (omega (arith, less, apart))
    ]

-- ---- over slices

pub joined_all : (limit : ℕ) (all list : List ℕ) (b : Bool) → b ≡ true → IsJoined limit all list b → (list ≡ all) × (length all ≤ limit)
joined_all limit all list true some is = is
joined_all limit all list false some is = absurd (cc)

pub joined_none : (limit : ℕ) (all list : List ℕ) (b : Bool) → b ≡ false → IsJoined limit all list b → limit < length all
joined_none limit all list false none is = is
joined_none limit all list true none is = absurd (cc)

pub joined_few : (limit : ℕ) (all list : List ℕ) (b : Bool) → b ≡ true → IsJoined limit all list b → length list ≤ limit
joined_few limit all list b some is =
    let both = joined_all limit all list b some is in
    omega (arith, both.1, ap (λ (xs : List ℕ). length xs) both.0)

pub over_first : (limit : ℕ) (more old new : List ℕ) → 1 ≤ length more → new ≡ with_leaf (first more) old → limit < length new → limit < length (with_leaves more old)
over_first limit more old new long made over = joined_over limit (first more) more (rest more) old new (parted more long) made over

pub within_first : (limit : ℕ) (more old middle new : List ℕ) (b : Bool) → 1 ≤ length more → middle ≡ with_leaf (first more) old → IsJoined limit (with_leaves (rest more) middle) new b → IsJoined limit (with_leaves more old) new b
within_first limit more old middle new b long made is = joined_rest limit (first more) more (rest more) old middle new b (parted more long) made is

pub forms_over_first : (limit opened : ℕ) (ns old new leaves : List ℕ) (forms : Forms) (form : Form) (b : Bool) → 1 ≤ length ns → form ≡ cond (opened % 2 == 1) (forms.body (first ns)) (forms.unit (first ns)) → leaves ≡ form.leaves → b ≡ false → IsJoined limit (with_leaves leaves old) new b → limit < length (leaves_with old (taken forms opened ns))
forms_over_first limit opened ns old new leaves forms form b long is same none joined =
    let P : List ℕ → Type 0 = λ ls. limit < length (with_leaves ls old) in
    forms_over limit (first ns) opened ns (rest ns) old new forms form (parted ns long) is (subst P same (joined_none limit (with_leaves leaves old) new b none joined))

pub forms_within_first : (limit opened : ℕ) (ns old middle new leaves : List ℕ) (forms : Forms) (form : Form) (b within : Bool) → 1 ≤ length ns → form ≡ cond (opened % 2 == 1) (forms.body (first ns)) (forms.unit (first ns)) → leaves ≡ form.leaves → b ≡ true → IsJoined limit (with_leaves leaves old) middle b → IsJoined limit (leaves_with middle (taken forms (opened / 2) (rest ns))) new within → IsJoined limit (leaves_with old (taken forms opened ns)) new within
forms_within_first limit opened ns old middle new leaves forms form b within long is same some joined rest_is =
    let P : List ℕ → Type 0 = λ ls. IsJoined limit (with_leaves ls old) middle true in
    forms_rest limit (first ns) opened ns (rest ns) old middle new forms form within (parted ns long) is (subst P same (joined_all limit (with_leaves leaves old) middle b some joined)) rest_is

-- ---- functions over leaves

-- the leaves of all forms hold each, and rise
pub hold_all : (leaves : List ℕ) (forms : List Form) → leaves ≡ leaves_of forms → HoldLeaves leaves forms
hold_all leaves forms same = let P : List ℕ → Type 0 = λ ls. HoldLeaves ls forms in subst P (sym same) (leaves_hold forms)

pub rise_all : (leaves : List ℕ) (forms : List Form) → leaves ≡ leaves_of forms → IsRising leaves
rise_all leaves forms same = let P : List ℕ → Type 0 = IsRising in subst P (sym same) (leaves_rise forms)

pub composed_over : (leaves : List ℕ) (table found : ℕ) (forms : List Form) (form : Form) → IsForm form → ((bits : List Bool) → value bits form ≡ value bits (record { leaves = leaves; table = found })) → ((bits : List Bool) → bit_at found (index_of bits leaves) ≡ bit_at table (index_by bits forms)) → IsComposed table forms form
composed_over leaves table found forms form is same made = record { is_form = is; same = λ bits. same bits ∙ ap (λ b. b == 1) (made bits) }

-- units alone never have more leaves than six
pub never_over : (lists : FormLists) (table : ℕ) (inputs : List ℕ) → ((n : ℕ) → length (form_at lists.units n).leaves ≤ 1) → length inputs ≤ 6 → IsComposedWithin 6 table (taken (forms_of lists) 0 inputs) None → ⊥
never_over lists table inputs few small over = omega (arith, units_few (forms_of lists) inputs few small, over)
