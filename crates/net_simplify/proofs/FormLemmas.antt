-- Forms and their values.
use Rattle.std.proofs.Common.{◌≡◌, ◌≢◌, ◌⊎◌, ◌∙◌, ap, ap₂, sym, refl, inl, inr, subst, ℕ, zero, suc, ◌<◌, ◌≤◌, ◌+◌, ◌-◌, ◌*◌, ◌/◌, ◌%◌, ◌^◌, Bool, true, false, cond, not, List, [], ◌∷◌, length, Some, arith, pow-suc, pow_pos}
use Rattle.std.specs.Prelude.{slice_get, ◌==◌}
use Rattle.std.specs.Int.{bit_at}
use Rattle.std.proofs.lemmas.Bool.Decides.{nat_tests}
use Rattle.std.proofs.lemmas.Nat.Bits.{bit_at-suc, bit_at_lowest, same_from_bits_below}
use Rattle.lists.specs.Lists.{Has}
use Rattle.net_core.specs.Value.{bit_of, index_of}
use Rattle.net_core.proofs.EvalLemmas.{index_agree}
use Rattle.net_simplify.specs.Form.{Form, value, IsRising, DependsOn, IsForm, itself, complement, index_by, IsComposed}
use Rattle.net_simplify.proofs.ListLemmas.{has_none, has_cons, has_more, has_or, rising_same, put, put_same, put_other, index_lt, index_some}

pub value_agree : (form : Form) (v w : List Bool) → ((n : ℕ) → Has form.leaves n → bit_of v n ≡ bit_of w n) → value v form ≡ value w form
value_agree form v w same = ap (λ i. bit_at form.table i == 1) (index_agree v w form.leaves (λ k n got. same n (k, got)))

pub index_by_agree : (v w : List Bool) (forms : List Form) → ((form : Form) → Has forms form → value v form ≡ value w form) → index_by v forms ≡ index_by w forms
index_by_agree v w [] same = refl
index_by_agree v w (form ∷ forms) same = ap₂ (λ b i. cond b 1 0 + 2 * i) (same form (0, refl)) (index_by_agree v w forms (λ f has. same f (has_more form forms f has)))

-- a form of the list has the leaf
abbrev pub HasLeaf : List Form → ℕ → Type 0
HasLeaf forms n = (form : Form) × Has forms form × Has form.leaves n

leaf_or : (forms : List Form) (n : ℕ) → HasLeaf forms n ⊎ ((form : Form) → Has forms form → Has form.leaves n → ⊥)
leaf_or [] n = inr (λ form has. absurd (has_none form has))
leaf_or (form ∷ forms) n =
    elim (has_or form.leaves n) [
      | inl here ↦ inl (form, (0, refl), here)
      | inr gone ↦ elim (leaf_or forms n) [
        | inl has ↦ inl (has.0, has_more form forms has.0 has.1, has.2)
        | inr none ↦ inr (λ f has leaf. cases f (has_cons form forms f has) gone none leaf)
      ]
    ]
  where
    cases : (f : Form) → (form ≡ f) ⊎ Has forms f → (Has form.leaves n → ⊥) → ((g : Form) → Has forms g → Has g.leaves n → ⊥) → Has f.leaves n → ⊥
    cases f (inl same) gone none leaf = let P : Form → Type 0 = λ g. Has g.leaves n in gone (subst P (sym same) leaf)
    cases f (inr rest) gone none leaf = none f rest leaf

-- a function of forms depends on their leaves alone
pub composed_leaf : (table : ℕ) (forms : List Form) (form : Form) → IsComposed table forms form → (n : ℕ) → Has form.leaves n → HasLeaf forms n
composed_leaf table forms form is n has =
    elim (leaf_or forms n) [
      | inl there ↦ there
      | inr none ↦ absurd (depends (is.is_form.depends n has) none)
    ]
  where
    apart : (f : Form) (m : ℕ) → (Has f.leaves n → ⊥) → Has f.leaves m → m ≢ n
    apart f m gone leaf same = let P : ℕ → Type 0 = λ x. Has f.leaves x in gone (subst P same leaf)

    depends : DependsOn form n → ((f : Form) → Has forms f → Has f.leaves n → ⊥) → ⊥
    depends d none =
        let index : index_by d.bits forms ≡ index_by d.other forms = index_by_agree d.bits d.other forms (λ f at. value_agree f d.bits d.other (λ m leaf. d.alike m (apart f m (none f at) leaf))) in
        d.differ (is.same d.bits ∙ ap (λ i. bit_at table i == 1) index ∙ sym (is.same d.other))

-- ---- a form is told by its values

leaf_there : (f g : Form) → IsForm f → ((bits : List Bool) → value bits f ≡ value bits g) → (n : ℕ) → Has f.leaves n → Has g.leaves n
leaf_there f g is same n has =
    elim (has_or g.leaves n) [
      | inl there ↦ there
      | inr gone ↦ absurd (depends (is.depends n has) gone)
    ]
  where
    apart : (m : ℕ) → (Has g.leaves n → ⊥) → Has g.leaves m → m ≢ n
    apart m gone leaf e = let P : ℕ → Type 0 = λ x. Has g.leaves x in gone (subst P e leaf)

    depends : DependsOn f n → (Has g.leaves n → ⊥) → ⊥
    depends d gone = d.differ (same d.bits ∙ value_agree g d.bits d.other (λ m leaf. d.alike m (apart m gone leaf)) ∙ sym (same d.other))

pub one_bit : (a b : ℕ) → a < 2 → b < 2 → (a == 1) ≡ (b == 1) → a ≡ b
one_bit zero zero small small' same = refl
one_bit (suc zero) (suc zero) small small' same = refl
one_bit zero (suc zero) small small' same = absurd (cc)
one_bit (suc zero) zero small small' same = absurd (cc)
one_bit (suc (suc a)) b small small' same = absurd (omega arith)
one_bit a (suc (suc b)) small small' same = absurd (omega arith)

pub bit_small : (n i : ℕ) → bit_at n i < 2
bit_small n i = omega arith

tables_same : (leaves : List ℕ) (t u : ℕ) → IsRising leaves → t < 2 ^ (2 ^ length leaves) → u < 2 ^ (2 ^ length leaves) → ((bits : List Bool) → (bit_at t (index_of bits leaves) == 1) ≡ (bit_at u (index_of bits leaves) == 1)) → t ≡ u
tables_same leaves t u up fits fits' same =
    same_from_bits_below (2 ^ length leaves) t u fits fits' (λ i less.
    let at = index_some leaves up i less in
    one_bit (bit_at t i) (bit_at u i) (bit_small t i) (bit_small u i) (rw (← at.1) (same at.0)))

pub forms_same : (f g : Form) → IsForm f → IsForm g → ((bits : List Bool) → value bits f ≡ value bits g) → f ≡ g
forms_same f g is is' same =
    let leaves : f.leaves ≡ g.leaves = rising_same f.leaves g.leaves is.rises is'.rises (leaf_there f g is same) (leaf_there g f is' (λ bits. sym (same bits))) in
    let table : f.table ≡ g.table = tables_same f.leaves f.table g.table is.rises is.fits (let P : List ℕ → Type 0 = λ ls. g.table < 2 ^ (2 ^ length ls) in subst P (sym leaves) is'.fits)
    (λ bits. same bits ∙ ap (λ ls. bit_at g.table (index_of bits ls) == 1) (sym leaves)) in
    ap₂ (λ (l : List ℕ) (t : ℕ). record { leaves = l; table = t }) leaves table

-- there is one function of forms at most
pub composed_same : (table : ℕ) (forms : List Form) (f g : Form) → IsComposed table forms f → IsComposed table forms g → f ≡ g
composed_same table forms f g is is' = forms_same f g is.is_form is'.is_form (λ bits. is.same bits ∙ sym (is'.same bits))

-- ---- complements

turned_bits : (k n i : ℕ) → n < 2 ^ k → i < k → bit_at (2 ^ k - 1 - n) i ≡ 1 - bit_at n i
turned_bits zero n i fits within = absurd (omega arith)
turned_bits (suc k) n zero fits within = omega (arith, bit_at_lowest (2 ^ suc k - 1 - n), bit_at_lowest n, pow-suc 2 k)
turned_bits (suc k) n (suc i) fits within =
    let half : (2 ^ suc k - 1 - n) / 2 ≡ 2 ^ k - 1 - n / 2 = omega (arith, pow-suc 2 k) in
    bit_at-suc _ i ∙ ap (λ x. bit_at x i) half ∙ turned_bits k (n / 2) i (omega (arith, pow-suc 2 k)) (omega arith) ∙ ap (λ d. 1 - d) (sym (bit_at-suc n i))

turned_test : (b : ℕ) → b < 2 → (1 - b == 1) ≡ not (b == 1)
turned_test zero small = refl
turned_test (suc zero) small = refl
turned_test (suc (suc b)) small = absurd (omega arith)

pub complement_value : (form : Form) → form.table < 2 ^ (2 ^ length form.leaves) → (bits : List Bool) → value bits (complement form) ≡ not (value bits form)
complement_value form fits bits =
    let i : ℕ = index_of bits form.leaves in
    ap (λ b. b == 1) (turned_bits (2 ^ length form.leaves) form.table i fits (index_lt bits form.leaves)) ∙ turned_test (bit_at form.table i) (bit_small form.table i)

not_same : (a b : Bool) → not a ≡ not b → a ≡ b
not_same true true same = refl
not_same false false same = refl
not_same true false same = absurd (cc)
not_same false true same = absurd (cc)

not_self : (a : Bool) → a ≡ not a → ⊥
not_self true same = absurd (cc)
not_self false same = absurd (cc)

pub complement_form : (form : Form) → IsForm form → IsForm (complement form)
complement_form form is = record {
  rises = is.rises;
  few = is.few;
  fits = omega (arith, pow_pos (2 ^ length form.leaves));
  depends = λ n has.
      let d = is.depends n has in
      record { bits = d.bits; other = d.other; alike = d.alike; differ = λ same. d.differ (not_same (value d.bits form) (value d.other form) (sym (complement_value form is.fits d.bits) ∙ same ∙ complement_value form is.fits d.other)) };
}

-- no form is its own complement
pub no_complement : (form : Form) → IsForm form → form ≡ complement form → ⊥
no_complement form is same = not_self (value [] form) (ap (value []) same ∙ complement_value form is.fits [])

-- ---- a net itself

bit_itself : (b : Bool) → (bit_at 2 (cond b 1 0 + 2 * 0) == 1) ≡ b
bit_itself true = refl
bit_itself false = refl

pub itself_value : (bits : List Bool) (n : ℕ) → value bits (itself n) ≡ bit_of bits n
itself_value bits n = bit_itself (bit_of bits n)

pub itself_form : (n : ℕ) → IsForm (itself n)
itself_form n = record {
  rises = (λ y has. absurd (has_none y has), tt);
  few = omega arith;
  fits = omega arith;
  depends = λ m has. only m (has_cons n [] m has);
}
  where
    differ : value (put n true []) (itself n) ≡ value (put n false []) (itself n) → ⊥
    differ same =
        let same' : bit_of (put n true []) n ≡ bit_of (put n false []) n = sym (itself_value (put n true []) n) ∙ same ∙ itself_value (put n false []) n in
        let t = put_same n true [] in
        let f = put_same n false [] in absurd (cc)

    only : (m : ℕ) → (n ≡ m) ⊎ Has [] m → DependsOn (itself n) m
    only m (inl same) = let P : ℕ → Type 0 = DependsOn (itself n) in subst P same (record { bits = put n true []; other = put n false []; alike = λ k apart. put_other n true [] k apart ∙ sym (put_other n false [] k apart); differ = differ })
    only m (inr none) = absurd (has_none m none)
