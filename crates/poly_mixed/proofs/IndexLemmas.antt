-- Slots and their lists after a monomial came or went.
use Rattle.std.proofs.Common.{◌≡◌, ℕ, Bool, true, false, cond, not, ◌&&◌, ◌||◌, List, [], ◌∷◌, Some, None, nat_eq, nat_lt, ◌==◌, refl, sym, ◌∙◌, ap, subst, arith}
use Rattle.std.specs.List.{list_any}
use Rattle.std.specs.List.Sorted.{IsStrictlySortedBy}
use Rattle.std.specs.Ordering.{nat_cmp}
use Rattle.std.proofs.lemmas.Bool.{ne_eqb, eqb-true, eqb-false}
use Rattle.poly_mixed.specs.Monomial.{Monomial, has_bit}
use Rattle.poly_mixed.specs.Polynomial.{Slots}
use Rattle.poly_mixed.specs.Product.{with_rank}
use Rattle.poly_mixed.specs.Slots.{slot_at, stands, IsListOf}
use Rattle.poly_mixed.specs.private.Indexed.{Changes}
use Rattle.poly_mixed.specs.private.Listed.{without_slot, changed, all_changed}
use Rattle.poly_mixed.proofs.CofactorLemmas.{rising-filter}
use Rattle.poly_mixed.proofs.ListsAtLemmas.{same_bit}
use Rattle.poly_mixed.proofs.ProductLemmas.{rising-with_rank}
use Rattle.poly_mixed.proofs.RankLemmas.{Above, from_less}
use Rattle.std.specs.Cmp.{nat_cmp_total, tied_itself}
use Rattle.std.specs.Ordering.{eq_by_cmp, is_eq}
use Rattle.lists.specs.laws.BoolLaws.{either, or_swap}

-- whether a slot is listed
abbrev pub is_in : ℕ → List ℕ → Bool
is_in slot xs = list_any (λ s. nat_eq s slot) xs

pub is_in-with_rank : (xs : List ℕ) (k s : ℕ) → is_in s (with_rank xs k) ≡ (nat_eq k s || is_in s xs)
is_in-with_rank [] k s = refl
is_in-with_rank (x ∷ xs) k s =
    elim (nat_lt k x) as (λ b. is_in s (cond b (k ∷ x ∷ xs) (cond (k == x) (x ∷ xs) (x ∷ with_rank xs k))) ≡ (nat_eq k s || (nat_eq x s || is_in s xs))) [
      | true ↦ refl
      | false ↦ elim (k == x) as (λ b. (k == x) ≡ b → is_in s (cond b (x ∷ xs) (x ∷ with_rank xs k)) ≡ (nat_eq k s || (nat_eq x s || is_in s xs))) [
        | true ↦ λ e. let P : ℕ → Type 0 = λ n. (nat_eq x s || is_in s xs) ≡ (nat_eq n s || (nat_eq x s || is_in s xs)) in
            subst P (sym (eqb-true k x e)) (twice (nat_eq x s) (is_in s xs))
        | false ↦ λ e. ap (λ b. nat_eq x s || b) (is_in-with_rank xs k s) ∙ or_swap (nat_eq x s) (nat_eq k s) (is_in s xs)
      ] refl
    ]
  where
    twice : (a b : Bool) → (a || b) ≡ (a || (a || b))
    twice true b = refl
    twice false b = refl

pub is_in-without : (xs : List ℕ) (k s : ℕ) → is_in s (without_slot k xs) ≡ (not (nat_eq k s) && is_in s xs)
is_in-without [] k s = elim (nat_eq k s) as (λ b. false ≡ (not b && false)) [ true ↦ refl | false ↦ refl ]
is_in-without (x ∷ xs) k s =
    elim (nat_eq x k) as (λ b. nat_eq x k ≡ b → is_in s (cond (not b) (x ∷ without_slot k xs) (without_slot k xs)) ≡ (not (nat_eq k s) && (nat_eq x s || is_in s xs))) [
      | true ↦ λ e.
          let P : ℕ → Type 0 = λ n. (not (nat_eq k s) && is_in s xs) ≡ (not (nat_eq k s) && (nat_eq n s || is_in s xs)) in
          is_in-without xs k s ∙ subst P (sym (eqb-true x k e)) (gone (nat_eq k s) (is_in s xs))
      | false ↦ λ e. ap (λ b. nat_eq x s || b) (is_in-without xs k s)
          ∙ either (nat_eq k s)
          (λ y.
          let P : ℕ → Type 0 = λ n. nat_eq x n ≡ false in
          let off : nat_eq x s ≡ false = subst P (eqb-true k s y) e in
          (λ i. off i || (not (y i) && is_in s xs)) ∙ sym (ap (λ b. not b && (nat_eq x s || is_in s xs)) y))
          (λ n. ap (λ b. nat_eq x s || (not b && is_in s xs)) n ∙ sym (ap (λ b. not b && (nat_eq x s || is_in s xs)) n))
    ] refl
  where
    gone : (a b : Bool) → (not a && b) ≡ (not a && (a || b))
    gone true b = refl
    gone false b = refl

module _ (bit slot : ℕ) (m : Monomial) (old new : Slots) (xs : List ℕ) where
  -- a monomial came into an empty slot
  pub listed_put : slot_at old slot ≡ None → Changes old new slot (Some m) → IsListOf bit old xs → IsListOf bit new (cond (has_bit bit m) (with_rank xs slot) xs)
  listed_put empty change is = record {
    rising = elim (has_bit bit m) as (λ b. IsStrictlySortedBy nat_cmp (cond b (with_rank xs slot) xs)) [ true ↦ rising-with_rank xs slot is.rising | false ↦ is.rising ];
    exactly = λ s. either (nat_eq slot s)
        (λ y.
        let same : slot ≡ s = eqb-true slot s y in
        let now : stands bit (slot_at new s) ≡ has_bit bit m = ap (λ (n : ℕ). stands bit (slot_at new n)) (sym same) ∙ ap (stands bit) change.changed in
        let was : is_in s xs ≡ false = is.exactly s ∙ ap (λ (n : ℕ). stands bit (slot_at old n)) (sym same) ∙ ap (stands bit) empty in
        elim (has_bit bit m) as (λ b. is_in s (cond b (with_rank xs slot) xs) ≡ b) [ true ↦ is_in-with_rank xs slot s ∙ ap (λ b. b || is_in s xs) y | false ↦ was ] ∙ sym now)
        (λ n.
        let now : stands bit (slot_at new s) ≡ stands bit (slot_at old s) = ap (stands bit) (change.others s (λ e. eqb-false slot s n (sym e))) in
        elim (has_bit bit m) as (λ b. is_in s (cond b (with_rank xs slot) xs) ≡ is_in s xs) [ true ↦ is_in-with_rank xs slot s ∙ ap (λ b. b || is_in s xs) n | false ↦ refl ] ∙ is.exactly s ∙ sym now);
  }

  -- a monomial left its slot
  pub listed_take : slot_at old slot ≡ Some m → Changes old new slot None → IsListOf bit old xs → IsListOf bit new (cond (has_bit bit m) (without_slot slot xs) xs)
  listed_take held change is = record {
    rising = elim (has_bit bit m) as (λ b. IsStrictlySortedBy nat_cmp (cond b (without_slot slot xs) xs)) [ true ↦ rising-filter (λ x. not (nat_eq x slot)) xs is.rising | false ↦ is.rising ];
    exactly = λ s. either (nat_eq slot s)
        (λ y.
        let same : slot ≡ s = eqb-true slot s y in
        let now : stands bit (slot_at new s) ≡ false = ap (λ (n : ℕ). stands bit (slot_at new n)) (sym same) ∙ ap (stands bit) change.changed in
        let was : is_in s xs ≡ has_bit bit m = is.exactly s ∙ ap (λ (n : ℕ). stands bit (slot_at old n)) (sym same) ∙ ap (stands bit) held in
        elim (has_bit bit m) as (λ b. is_in s xs ≡ b → is_in s (cond b (without_slot slot xs) xs) ≡ false) [ true ↦ λ w. is_in-without xs slot s ∙ ap (λ b. not b && is_in s xs) y | false ↦ λ w. w ] was ∙ sym now)
        (λ n.
        let now : stands bit (slot_at new s) ≡ stands bit (slot_at old s) = ap (stands bit) (change.others s (λ e. eqb-false slot s n (sym e))) in
        elim (has_bit bit m) as (λ b. is_in s (cond b (without_slot slot xs) xs) ≡ is_in s xs) [ true ↦ is_in-without xs slot s ∙ ap (λ b. not b && is_in s xs) n | false ↦ refl ] ∙ is.exactly s ∙ sym now);
  }

-- the test of the map finds the bit itself
same_test : (x b : ℕ) → nat_eq x b ≡ eq_by_cmp nat_cmp x b
same_test x b = elim (nat_eq x b) as (λ t. nat_eq x b ≡ t → t ≡ eq_by_cmp nat_cmp x b) [
  | true ↦ λ e. let P : ℕ → Type 0 = λ n. true ≡ eq_by_cmp nat_cmp x n in subst P (eqb-true x b e) (sym (ap is_eq (tied_itself nat_cmp_total x)))
  | false ↦ λ e. elim (eq_by_cmp nat_cmp x b) as (λ t. eq_by_cmp nat_cmp x b ≡ t → false ≡ t) [ true ↦ λ s. absurd (eqb-false x b e (same_bit x b s)) | false ↦ λ s. refl ] refl
] refl

above_lacks : (x : ℕ) (xs : List ℕ) → Above x xs → is_in x xs ≡ false
above_lacks x [] up = refl
above_lacks x (y ∷ ys) up = let l = from_less x y up.0 in rw (ne_eqb y x (λ e. omega (arith, l, e))) (above_lacks x ys up.1)

-- each of different bits is changed once
pub all_changed_is : (f : List ℕ → List ℕ) (bits : List ℕ) (l : ℕ → List ℕ) (b : ℕ) → IsStrictlySortedBy nat_cmp bits → all_changed f bits l b ≡ cond (is_in b bits) (f (l b)) (l b)
unfolding IsStrictlySortedBy
all_changed_is f [] l b s = refl
all_changed_is f (x ∷ xs) l b s =
    all_changed_is f xs (changed f x l) b s.1
    ∙ ap (λ t. cond (is_in b xs) (f (cond t (f (l x)) (l b))) (cond t (f (l x)) (l b))) (sym (same_test x b))
    ∙ elim (nat_eq x b) as (λ t. nat_eq x b ≡ t → cond (is_in b xs) (f (cond t (f (l x)) (l b))) (cond t (f (l x)) (l b)) ≡ cond (t || is_in b xs) (f (l b)) (l b)) [
      | true ↦ λ e.
          let same : x ≡ b = eqb-true x b e in
          let P : ℕ → Type 0 = λ n. is_in n xs ≡ false in
          let none : is_in b xs ≡ false = subst P same (above_lacks x xs s.0) in
          ap (λ t. cond t (f (f (l x))) (f (l x))) none ∙ ap (λ (n : ℕ). f (l n)) same
      | false ↦ λ e. refl
    ] refl

-- the list of a bit after a monomial came into the slot key
pub put_listed : (bit : ℕ) (old mid new : Slots) (m : Monomial) (slot key : ℕ) (bits : List ℕ) (l n : ℕ → List ℕ) → mid ≡ old → key ≡ slot → bits ≡ m.bits → IsStrictlySortedBy nat_cmp m.bits
    → slot_at mid key ≡ None → Changes mid new key (Some m) → ((b : ℕ) → n b ≡ all_changed (λ xs. with_rank xs slot) bits l b) → IsListOf bit old (l bit) → IsListOf bit new (n bit)
put_listed bit old mid new m slot key bits l n stays same are up empty change e is =
    let P : List ℕ → Type 0 = IsListOf bit new in
    let S : Slots → Type 0 = λ ss. IsListOf bit ss (l bit) in
    let now : n bit ≡ cond (has_bit bit m) (with_rank (l bit) key) (l bit) =
    e bit ∙ ap (λ (rs : List ℕ). all_changed (λ xs. with_rank xs slot) rs l bit) are ∙ all_changed_is (λ xs. with_rank xs slot) m.bits l bit up
    ∙ ap (λ (k : ℕ). cond (has_bit bit m) (with_rank (l bit) k) (l bit)) (sym same) in
    subst P (sym now) (listed_put bit key m mid new (l bit) empty change (subst S (sym stays) is))

-- and after it left its slot
pub take_listed : (bit : ℕ) (old new : Slots) (m : Monomial) (slot : ℕ) (bits : List ℕ) (l n : ℕ → List ℕ) → bits ≡ m.bits → IsStrictlySortedBy nat_cmp m.bits
    → slot_at old slot ≡ Some m → Changes old new slot None → ((b : ℕ) → n b ≡ all_changed (without_slot slot) bits l b) → IsListOf bit old (l bit) → IsListOf bit new (n bit)
take_listed bit old new m slot bits l n are up held change e is =
    let P : List ℕ → Type 0 = IsListOf bit new in
    let now : n bit ≡ cond (has_bit bit m) (without_slot slot (l bit)) (l bit) =
    e bit ∙ ap (λ (rs : List ℕ). all_changed (without_slot slot) rs l bit) are ∙ all_changed_is (without_slot slot) m.bits l bit up in
    subst P (sym now) (listed_take bit slot m old new (l bit) held change is)
