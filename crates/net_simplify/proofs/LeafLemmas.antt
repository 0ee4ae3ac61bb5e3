-- Leaves, and indices made of them.
use Rattle.std.proofs.Common.{◌≡◌, ◌≢◌, ◌⊎◌, ◌∙◌, ap, ap₂, sym, refl, inl, inr, subst, ℕ, zero, suc, ◌<◌, ◌≤◌, ◌+◌, ◌*◌, ◌-◌, ◌/◌, ◌%◌, ◌^◌, Bool, true, false, cond, not, List, [], ◌∷◌, ◌++◌, length, take, drop, insert, Some, None, arith, pow-suc, eq-eqb, lt-ltb, ltb-true, ltb-false}
use Rattle.std.specs.Prelude.{slice_get, ◌==◌, nat_lt}
use Rattle.std.specs.Int.{bit_at}
use Rattle.std.proofs.lemmas.Bool.Decides.{nat_tests}
use Rattle.std.proofs.lemmas.Bool.{ne_eqb}
use Rattle.lists.specs.laws.NumberLaws.{nat_eq_or}
use Rattle.lists.specs.Lists.{Has}
use Rattle.net_core.specs.Value.{bit_of, index_of}
use Rattle.net_simplify.specs.Form.{Form, value, IsRising, index_by}
use Rattle.net_simplify.specs.Choice.{Forms, leaves_of, leaves_with, taken, with_leaf, with_leaves}
use Rattle.net_simplify.specs.private.Lists.{HoldLeaves, IsJoined, bit_number, is_at_place, leaf_place, value_number}
use Rattle.net_simplify.proofs.ListLemmas.{has_cons, has_more, has_none}

-- the three ways that two numbers stand to each other, as tests
lt_test : (x y : ℕ) → x < y → nat_lt x y ≡ true
lt_test x y less = grind (arith, nat_tests)

ge_test : (x y : ℕ) → y ≤ x → nat_lt x y ≡ false
ge_test x y more = grind (arith, nat_tests)

-- where the leaf stands at its place, nothing is added
pub leaf_there : (x : ℕ) (ys : List ℕ) → is_at_place ys (leaf_place x ys) x ≡ true → with_leaf x ys ≡ ys
leaf_there x [] at = absurd (cc)
leaf_there x (y ∷ ys) at = by (cases y) at (leaf_there x ys)
  where
    cases : (m : ℕ) → (x < m) ⊎ ((x ≡ m) ⊎ (m < x))
    cases m = elim (nat_eq_or x m) [ inl same ↦ inr (inl same) | inr other ↦ elim (nat_eq_or (x - m) 0) [ inl under ↦ inl (omega (arith, other, under)) | inr over ↦ inr (inr (omega (arith, over))) ] ]

    by : (x < y) ⊎ ((x ≡ y) ⊎ (y < x)) → is_at_place (y ∷ ys) (leaf_place x (y ∷ ys)) x ≡ true → (is_at_place ys (leaf_place x ys) x ≡ true → with_leaf x ys ≡ ys) → with_leaf x (y ∷ ys) ≡ y ∷ ys
    by (inl less) at' rest =
        let place : leaf_place x (y ∷ ys) ≡ 0 = ap (λ b. cond b (1 + leaf_place x ys) 0) (ge_test y x (omega (arith, less))) in
        let here : (y == x) ≡ true = sym (ap (λ p. is_at_place (y ∷ ys) p x) place) ∙ at' in
        let other : (y == x) ≡ false = ne_eqb y x (λ e. omega (arith, e, less)) in
        absurd (cc)
    by (inr (inl same)) at' rest =
        ap (λ b. cond b (x ∷ (y ∷ ys)) (cond (x == y) (y ∷ ys) (y ∷ with_leaf x ys))) (ge_test x y (omega (arith, same)))
        ∙ ap (λ b. cond b (y ∷ ys) (y ∷ with_leaf x ys)) (eq-eqb x y same)
    by (inr (inr more)) at' rest =
        let place : leaf_place x (y ∷ ys) ≡ suc (leaf_place x ys) = ap (λ b. cond b (1 + leaf_place x ys) 0) (lt_test y x more) ∙ omega arith in
        let later : is_at_place ys (leaf_place x ys) x ≡ true = sym (ap (λ p. is_at_place (y ∷ ys) p x) place) ∙ at' in
        ap (λ b. cond b (x ∷ (y ∷ ys)) (cond (x == y) (y ∷ ys) (y ∷ with_leaf x ys))) (ge_test x y (omega (arith, more)))
        ∙ ap (λ b. cond b (y ∷ ys) (y ∷ with_leaf x ys)) (ne_eqb x y (λ e. omega (arith, e, more)))
        ∙ ap (λ zs. y ∷ zs) (rest later)

-- where it does not, it is put there
pub leaf_new : (x : ℕ) (ys : List ℕ) → is_at_place ys (leaf_place x ys) x ≡ false → with_leaf x ys ≡ insert ys (leaf_place x ys) x
leaf_new x [] at = refl
leaf_new x (y ∷ ys) at = by (cases y) at (leaf_new x ys)
  where
    cases : (m : ℕ) → (x < m) ⊎ ((x ≡ m) ⊎ (m < x))
    cases m = elim (nat_eq_or x m) [ inl same ↦ inr (inl same) | inr other ↦ elim (nat_eq_or (x - m) 0) [ inl under ↦ inl (omega (arith, other, under)) | inr over ↦ inr (inr (omega (arith, over))) ] ]

    by : (x < y) ⊎ ((x ≡ y) ⊎ (y < x)) → is_at_place (y ∷ ys) (leaf_place x (y ∷ ys)) x ≡ false → (is_at_place ys (leaf_place x ys) x ≡ false → with_leaf x ys ≡ insert ys (leaf_place x ys) x) → with_leaf x (y ∷ ys) ≡ insert (y ∷ ys) (leaf_place x (y ∷ ys)) x
    by (inl less) at' rest =
        let place : leaf_place x (y ∷ ys) ≡ 0 = ap (λ b. cond b (1 + leaf_place x ys) 0) (ge_test y x (omega (arith, less))) in
        ap (λ b. cond b (x ∷ (y ∷ ys)) (cond (x == y) (y ∷ ys) (y ∷ with_leaf x ys))) (lt_test x y less)
        ∙ sym (ap (λ p. insert (y ∷ ys) p x) place)
    by (inr (inl same)) at' rest =
        let place : leaf_place x (y ∷ ys) ≡ 0 = ap (λ b. cond b (1 + leaf_place x ys) 0) (ge_test y x (omega (arith, same))) in
        let here : (y == x) ≡ false = sym (ap (λ p. is_at_place (y ∷ ys) p x) place) ∙ at' in
        let other : (y == x) ≡ true = eq-eqb y x (sym same) in
        absurd (cc)
    by (inr (inr more)) at' rest =
        let place : leaf_place x (y ∷ ys) ≡ suc (leaf_place x ys) = ap (λ b. cond b (1 + leaf_place x ys) 0) (lt_test y x more) ∙ omega arith in
        let later : is_at_place ys (leaf_place x ys) x ≡ false = sym (ap (λ p. is_at_place (y ∷ ys) p x) place) ∙ at' in
        ap (λ b. cond b (x ∷ (y ∷ ys)) (cond (x == y) (y ∷ ys) (y ∷ with_leaf x ys))) (ge_test x y (omega (arith, more)))
        ∙ ap (λ b. cond b (y ∷ ys) (y ∷ with_leaf x ys)) (ne_eqb x y (λ e. omega (arith, e, more)))
        ∙ ap (λ zs. y ∷ zs) (rest later)
        ∙ sym (ap (λ p. insert (y ∷ ys) p x) place)

-- ---- which leaves a list has

with_leaf_cases : (P : List ℕ → Type 0) (x y : ℕ) (ys : List ℕ) → (x < y → P (x ∷ (y ∷ ys))) → (x ≡ y → P (y ∷ ys)) → (y < x → P (y ∷ with_leaf x ys)) → P (with_leaf x (y ∷ ys))
with_leaf_cases P x y ys below here above =
    elim (nat_eq_or x y) [
      | inl same ↦ subst P (sym (ap (λ b. cond b (x ∷ (y ∷ ys)) (cond (x == y) (y ∷ ys) (y ∷ with_leaf x ys))) (ge_test x y (omega (arith, same))) ∙ ap (λ b. cond b (y ∷ ys) (y ∷ with_leaf x ys)) (eq-eqb x y same))) (here same)
      | inr other ↦ elim (nat_eq_or (x - y) 0) [
        | inl under ↦ let less : x < y = omega (arith, other, under) in subst P (sym (ap (λ b. cond b (x ∷ (y ∷ ys)) (cond (x == y) (y ∷ ys) (y ∷ with_leaf x ys))) (lt_test x y less))) (below less)
        | inr over ↦ let more : y < x = omega (arith, over) in subst P (sym (ap (λ b. cond b (x ∷ (y ∷ ys)) (cond (x == y) (y ∷ ys) (y ∷ with_leaf x ys))) (ge_test x y (omega (arith, more))) ∙ ap (λ b. cond b (y ∷ ys) (y ∷ with_leaf x ys)) (ne_eqb x y other))) (above more)
      ]
    ]

leaf_has : (x : ℕ) (ys : List ℕ) → Has (with_leaf x ys) x
leaf_has x [] = (0, refl)
leaf_has x (y ∷ ys) = with_leaf_cases (λ zs. Has zs x) x y ys (λ less. (0, refl)) (λ same. (0, ap Some (sym same))) (λ more. has_more y (with_leaf x ys) x (leaf_has x ys))

leaf_keeps : (x : ℕ) (ys : List ℕ) (n : ℕ) → Has ys n → Has (with_leaf x ys) n
leaf_keeps x [] n has = absurd (has_none n has)
leaf_keeps x (y ∷ ys) n has = with_leaf_cases (λ zs. Has zs n) x y ys (λ less. has_more x (y ∷ ys) n has) (λ same. has) (λ more. elim (has_cons y ys n has) [ inl same ↦ (0, ap Some same) | inr rest ↦ has_more y (with_leaf x ys) n (leaf_keeps x ys n rest) ])

leaf_from : (x : ℕ) (ys : List ℕ) (n : ℕ) → Has (with_leaf x ys) n → (x ≡ n) ⊎ Has ys n
leaf_from x [] n = λ has. has_cons x [] n has
leaf_from x (y ∷ ys) n = with_leaf_cases (λ zs. Has zs n → (x ≡ n) ⊎ Has (y ∷ ys) n) x y ys
    (λ less has. has_cons x (y ∷ ys) n has)
    (λ same has. inr has)
    (λ more has. elim (has_cons y (with_leaf x ys) n has) [ inl same ↦ inr (0, ap Some same) | inr rest ↦ elim (leaf_from x ys n rest) [ inl same ↦ inl same | inr there ↦ inr (has_more y ys n there) ] ])

leaf_rising : (x : ℕ) (ys : List ℕ) → IsRising ys → IsRising (with_leaf x ys)
leaf_rising x [] up = (λ y has. absurd (has_none y has), tt)
leaf_rising x (y ∷ ys) up = with_leaf_cases IsRising x y ys
    (λ less. (λ z has. elim (has_cons y ys z has) [ inl same ↦ omega (arith, less, same) | inr rest ↦ omega (arith, less, up.0 z rest) ], up))
    (λ same. up)
    (λ more. (λ z has. elim (leaf_from x ys z has) [ inl same ↦ omega (arith, more, same) | inr rest ↦ up.0 z rest ], leaf_rising x ys up.1))

leaf_long : (x : ℕ) (ys : List ℕ) → length ys ≤ length (with_leaf x ys)
leaf_long x [] = omega arith
leaf_long x (y ∷ ys) = with_leaf_cases (λ zs. suc (length ys) ≤ length zs) x y ys (λ less. omega arith) (λ same. omega arith) (λ more. omega (arith, leaf_long x ys))

leaf_most : (x : ℕ) (ys : List ℕ) → length (with_leaf x ys) ≤ suc (length ys)
leaf_most x [] = omega arith
leaf_most x (y ∷ ys) = with_leaf_cases (λ zs. length zs ≤ suc (suc (length ys))) x y ys (λ less. omega arith) (λ same. omega arith) (λ more. omega (arith, leaf_most x ys))

pub leaves_long : (xs ys : List ℕ) → length ys ≤ length (with_leaves xs ys)
leaves_long [] ys = omega arith
leaves_long (x ∷ xs) ys = omega (arith, leaf_long x ys, leaves_long xs (with_leaf x ys))

leaves_most : (xs ys : List ℕ) → length (with_leaves xs ys) ≤ length xs + length ys
leaves_most [] ys = omega arith
leaves_most (x ∷ xs) ys = omega (arith, leaf_most x ys, leaves_most xs (with_leaf x ys))

leaves_keep : (xs ys : List ℕ) (n : ℕ) → Has ys n → Has (with_leaves xs ys) n
leaves_keep [] ys n has = has
leaves_keep (x ∷ xs) ys n has = leaves_keep xs (with_leaf x ys) n (leaf_keeps x ys n has)

leaves_have : (xs ys : List ℕ) (n : ℕ) → Has xs n → Has (with_leaves xs ys) n
leaves_have [] ys n has = absurd (has_none n has)
leaves_have (x ∷ xs) ys n has = elim (has_cons x xs n has) [
  | inl same ↦ let P : ℕ → Type 0 = Has (with_leaves xs (with_leaf x ys)) in subst P same (leaves_keep xs (with_leaf x ys) x (leaf_has x ys))
  | inr rest ↦ leaves_have xs (with_leaf x ys) n rest
]

leaves_rising : (xs ys : List ℕ) → IsRising ys → IsRising (with_leaves xs ys)
leaves_rising [] ys up = up
leaves_rising (x ∷ xs) ys up = leaves_rising xs (with_leaf x ys) (leaf_rising x ys up)

pub all_long : (ys : List ℕ) (forms : List Form) → length ys ≤ length (leaves_with ys forms)
all_long ys [] = omega arith
all_long ys (form ∷ forms) = omega (arith, leaves_long form.leaves ys, all_long (with_leaves form.leaves ys) forms)

all_keep : (ys : List ℕ) (forms : List Form) (n : ℕ) → Has ys n → Has (leaves_with ys forms) n
all_keep ys [] n has = has
all_keep ys (form ∷ forms) n has = all_keep (with_leaves form.leaves ys) forms n (leaves_keep form.leaves ys n has)

all_hold : (ys : List ℕ) (forms : List Form) → HoldLeaves (leaves_with ys forms) forms
all_hold ys [] form has n leaf = absurd (has_none form has)
all_hold ys (f ∷ forms) form has n leaf = elim (has_cons f forms form has) [
  | inl same ↦ let P : Form → Type 0 = λ x. Has x.leaves n in all_keep (with_leaves f.leaves ys) forms n (leaves_have f.leaves ys n (subst P (sym same) leaf))
  | inr rest ↦ all_hold (with_leaves f.leaves ys) forms form rest n leaf
]

pub leaves_hold : (forms : List Form) → HoldLeaves (leaves_of forms) forms
leaves_hold forms = all_hold [] forms

all_rising : (ys : List ℕ) (forms : List Form) → IsRising ys → IsRising (leaves_with ys forms)
all_rising ys [] up = up
all_rising ys (form ∷ forms) up = all_rising (with_leaves form.leaves ys) forms (leaves_rising form.leaves ys up)

pub leaves_rise : (forms : List Form) → IsRising (leaves_of forms)
leaves_rise forms = all_rising [] forms tt

-- units have one leaf at most, so all units of a gate's inputs have no more leaves than it has inputs
units_most : (forms : Forms) (ns ys : List ℕ) (opened : ℕ) → opened ≡ 0 → ((n : ℕ) → length (forms.unit n).leaves ≤ 1) → length (leaves_with ys (taken forms opened ns)) ≤ length ns + length ys
units_most forms [] ys opened none few = omega arith
units_most forms (n ∷ ns) ys opened none few =
    let even : (opened % 2 == 1) ≡ false = ap (λ o. o % 2 == 1) none in
    let next : opened / 2 ≡ 0 = ap (λ o. o / 2) none in
    let head : cond (opened % 2 == 1) (forms.body n) (forms.unit n) ≡ forms.unit n = ap (λ b. cond b (forms.body n) (forms.unit n)) even in
    let P : Form → Type 0 = λ f. length (leaves_with (with_leaves f.leaves ys) (taken forms (opened / 2) ns)) ≤ suc (length ns) + length ys in
    subst P (sym head) (omega (arith, units_most forms ns (with_leaves (forms.unit n).leaves ys) (opened / 2) next few, leaves_most (forms.unit n).leaves ys, few n))

pub units_few : (forms : Forms) (ns : List ℕ) → ((n : ℕ) → length (forms.unit n).leaves ≤ 1) → length ns ≤ 6 → length (leaves_of (taken forms 0 ns)) ≤ 6
units_few forms ns few small = omega (arith, units_most forms ns [] 0 refl few, small)
