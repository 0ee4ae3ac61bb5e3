-- Nets that are found by their names.
use Rattle.std.proofs.Common.{◌≡◌, ◌∙◌, inl, inr, ap, sym, refl, subst, ℕ, zero, suc, ◌+◌, ◌<◌, Bool, true, false, cond, List, [], ◌∷◌, length, Some, arith}
use Rattle.std.specs.Prelude.{slice_get}
use Rattle.std.specs.Str.{bytes_eq}
use Rattle.lists.specs.laws.BoolLaws.{first_true}
use Rattle.lists.specs.laws.NumberLaws.{nat_eq_or}
use Rattle.lists.specs.laws.OptionLaws.{same_some}
use Rattle.net_core.specs.NetList.{LabelValue, NetList, is_named, number_from, number_of, text_of}
use Rattle.net_write.specs.Plain.{IsPlainName}

pub within : {A : Type 0} (xs : List A) (k : ℕ) (x : A) → slice_get xs k ≡ Some x → k < length xs
within [] k x at = absurd (cc)
within (y ∷ ys) zero x at = omega arith
within (y ∷ ys) (suc k) x at = omega (arith, within ys k x at)

-- the label that a name finds
found : (n : ℕ) (labels : List LabelValue) (name : List ℕ) (k : ℕ) → number_from n labels name ≡ Some k → (i : ℕ) × (label : LabelValue) × (k ≡ n + i) × (slice_get labels i ≡ Some label) × (is_named name label ≡ true)
found n [] name k e = absurd (cc)
found n (label ∷ labels) name k e = by (is_named name label) refl e (λ e. found (n + 1) labels name k e)
  where
    later : (i : ℕ) × (other : LabelValue) × (k ≡ n + 1 + i) × (slice_get labels i ≡ Some other) × (is_named name other ≡ true) → (i : ℕ) × (other : LabelValue) × (k ≡ n + i) × (slice_get (label ∷ labels) i ≡ Some other) × (is_named name other ≡ true)
    later more = (suc more.0, more.1, omega (arith, more.2), more.3, more.4)

    here : n ≡ k → is_named name label ≡ true → (i : ℕ) × (other : LabelValue) × (k ≡ n + i) × (slice_get (label ∷ labels) i ≡ Some other) × (is_named name other ≡ true)
    here same is = (0, label, omega (arith, same), refl, is)

    by : (b : Bool) → is_named name label ≡ b → cond b (Some n) (number_from (n + 1) labels name) ≡ Some k → (number_from (n + 1) labels name ≡ Some k → (i : ℕ) × (other : LabelValue) × (k ≡ n + 1 + i) × (slice_get labels i ≡ Some other) × (is_named name other ≡ true)) → (i : ℕ) × (other : LabelValue) × (k ≡ n + i) × (slice_get (label ∷ labels) i ≡ Some other) × (is_named name other ≡ true)
    by true is e more = here (same_some n k e) is
    by false is e more = later (more e)

-- a net that its name finds is named
named : (net : NetList) (n : ℕ) (label : LabelValue) → slice_get net.labels n ≡ Some label → number_of net (text_of net n) ≡ Some n → label.named ≡ true
named net n label at finds =
    let that = found 0 net.labels (text_of net n) n finds in
    let place : n ≡ that.0 = omega (arith, that.2) in
    let other : slice_get net.labels n ≡ Some that.1 = ap (slice_get net.labels) place ∙ that.3 in
    ap (λ (l : LabelValue). l.named) (same_some label that.1 (sym at ∙ other)) ∙ first_true that.1.named (bytes_eq (text_of net n) that.1.text) that.4

pub text_at : (net : NetList) (n : ℕ) (label : LabelValue) → slice_get net.labels n ≡ Some label → text_of net n ≡ label.text
text_at net n label at = rw at refl

-- one more net
pub plain_more : (net : NetList) (end : ℕ) → number_of net (text_of net end) ≡ Some end → IsPlainName (text_of net end) → ((n : ℕ) (label : LabelValue) → n < end → slice_get net.labels n ≡ Some label → (label.named ≡ true) × IsPlainName label.text)
    → (n : ℕ) (label : LabelValue) → n < end + 1 → slice_get net.labels n ≡ Some label → (label.named ≡ true) × IsPlainName label.text
plain_more net end finds plain so_far n label less at = elim (nat_eq_or end n) [ inl same ↦ here n same label at | inr other ↦ so_far n label (omega (arith, less, other)) at ]
  where
    here : (n : ℕ) → end ≡ n → (label : LabelValue) → slice_get net.labels n ≡ Some label → (label.named ≡ true) × IsPlainName label.text
    here n same label at =
        let P : ℕ → Type 0 = λ k. slice_get net.labels k ≡ Some label in
        let back : slice_get net.labels end ≡ Some label = subst P (sym same) at in
        let Q : List ℕ → Type 0 = IsPlainName in
        (named net end label back finds, subst Q (text_at net end label back) plain)
