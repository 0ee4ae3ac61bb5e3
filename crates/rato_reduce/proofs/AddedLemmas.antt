-- Equal terms of a list that are added up.
use Rattle.std.proofs.Common.{Result, Ok, Err, OnOk, OnErr, take, drop, take_all, append-nil, drop_of_length-le, arith, ◌≡◌, ℕ, zero, suc, ◌==◌, Bool, true, false, cond, not, List, [], ◌∷◌, ◌++◌, length, bit_xor, Some, refl, sym, ◌∙◌, ap, subst, nat_eq, ◌||◌}
use Rattle.std.specs.Prelude.{slice_get, slice_set}
use lib.Bits.{xor_zero_l, xor_zero_r, xor_assoc, xor_comm, xor_self}
use Rattle.std.specs.List.{AllByRecursion, filter, list_any}
use Rattle.std.proofs.lemmas.Bool.{eqb-true, eqb-false, true_from_ne_false}
use Rattle.lists.specs.laws.OptionLaws.{same_some}
use Rattle.poly_mixed.specs.Monomial.{Monomial, has_bit, text_cmp}
use Rattle.poly_mixed.specs.Polynomial.{Terms}
use Rattle.poly_mixed.specs.Cofactor.{cofactors, lacking, without_bit}
use Rattle.poly_mixed.proofs.SumLemmas.{at_additive}
use Rattle.rato_reduce.specs.private.CutTerms.{of_bits}
use Rattle.rato_reduce.specs.private.Buckets.{at_monomial, coefficient_in, ArePlaced, HaveSameSum, IsLine, IsPlaced}

-- the terms at two indices are of the same product
pub record HaveSameProduct (terms : Terms) (index i : ℕ) : Type 0 where
  pub one : Monomial × ℕ
  pub other : Monomial × ℕ
  pub got_one : slice_get terms index ≡ Some one
  pub got_other : slice_get terms i ≡ Some other
  pub same : one.0 ≡ other.0

-- to the coefficient of the term at an index one is added
pub record AddsToTerm (old new : Terms) (i c : ℕ) : Type 0 where
  pub term : Monomial × ℕ
  pub got : slice_get old i ≡ Some term
  pub set : new ≡ slice_set old i (term.0, bit_xor term.1 c)

-- terms of the same products have the same sum
pub record AreSummed (old new : Terms) : Type 0 where
  pub sums : HaveSameSum old new
  pub each : (places : List ℕ) (level : ℕ) → ArePlaced places level old → ArePlaced places level new

-- ---- one term is another

pub set_sum : (q : Monomial) (ts : Terms) (i : ℕ) (old new : Monomial × ℕ) → slice_get ts i ≡ Some old
    → coefficient_in q (slice_set ts i new) ≡ bit_xor (coefficient_in q ts) (bit_xor (at_monomial q old) (at_monomial q new))
set_sum q [] i old new got = absurd (cc)
set_sum q (t ∷ ts) zero old new got =
    let s : ℕ = coefficient_in q ts in
    let a : ℕ = at_monomial q t in
    let b : ℕ = at_monomial q new in
    let same : t ≡ old = same_some t old got in
    xor_comm b s
    ∙ ap (bit_xor s) (sym (xor_zero_l b) ∙ ap (λ n. bit_xor n b) (sym (xor_self a)) ∙ xor_assoc a a b)
    ∙ sym (xor_assoc s a (bit_xor a b))
    ∙ ap (λ n. bit_xor n (bit_xor a b)) (xor_comm s a)
    ∙ ap (λ (x : Monomial × ℕ). bit_xor (bit_xor a s) (bit_xor (at_monomial q x) b)) same
set_sum q (t ∷ ts) (suc i) old new got =
    ap (bit_xor (at_monomial q t)) (set_sum q ts i old new got)
    ∙ sym (xor_assoc (at_monomial q t) (coefficient_in q ts) (bit_xor (at_monomial q old) (at_monomial q new)))

-- the product at an index stays where another term of one product is put
same_product : (ts : Terms) (i j : ℕ) (old new one other : Monomial × ℕ) → slice_get ts i ≡ Some old → new.0 ≡ old.0 → slice_get ts j ≡ Some one → slice_get (slice_set ts i new) j ≡ Some other → other.0 ≡ one.0
same_product [] i j old new one other got same at after = absurd (cc)
same_product (t ∷ ts) zero zero old new one other got same at after =
    let first : Monomial × ℕ → Monomial = λ x. x.0 in
    ap first (sym (same_some new other after)) ∙ same ∙ ap first (sym (same_some t old got) ∙ same_some t one at)
same_product (t ∷ ts) zero (suc j) old new one other got same at after = ap (λ (x : Monomial × ℕ). x.0) (same_some other one (sym after ∙ at))
same_product (t ∷ ts) (suc i) zero old new one other got same at after = ap (λ (x : Monomial × ℕ). x.0) (sym (same_some t other after) ∙ same_some t one at)
same_product (t ∷ ts) (suc i) (suc j) old new one other got same at after = same_product ts i j old new one other got same at after

all_set : (P : Monomial × ℕ → Type 0) (ts : Terms) (i : ℕ) (old new : Monomial × ℕ) → AllByRecursion P ts → slice_get ts i ≡ Some old → (P old → P new) → AllByRecursion P (slice_set ts i new)
all_set P [] i old new all got through = tt
all_set P (t ∷ ts) zero old new all got through = (through (subst P (same_some t old got) all.0), all.1)
all_set P (t ∷ ts) (suc i) old new all got through = (all.0, all_set P ts i old new all.1 got through)

-- what a coefficient more changes
changed : (q m : Monomial) (a c : ℕ) → bit_xor (at_monomial q (m, a)) (at_monomial q (m, bit_xor a c)) ≡ at_monomial q (m, c)
changed q m a c =
    let x : ℕ = at_monomial q (m, a) in
    let y : ℕ = at_monomial q (m, c) in
    ap (bit_xor x) ((at_additive text_cmp q).sums m a c tt tt)
    ∙ sym (xor_assoc x x y)
    ∙ ap (λ n. bit_xor n y) (xor_self x)
    ∙ xor_zero_l y

adds_sum : (q : Monomial) (old new : Terms) (i c : ℕ) (adds : AddsToTerm old new i c) → coefficient_in q new ≡ bit_xor (coefficient_in q old) (at_monomial q (adds.term.0, c))
adds_sum q old new i c adds =
    ap (coefficient_in q) adds.set
    ∙ set_sum q old i adds.term (adds.term.0, bit_xor adds.term.1 c) adds.got
    ∙ ap (bit_xor (coefficient_in q old)) (changed q adds.term.0 adds.term.1 c)

adds_each : (places : List ℕ) (level : ℕ) (old new : Terms) (i c : ℕ) → AddsToTerm old new i c → ArePlaced places level old → ArePlaced places level new
adds_each places level old new i c adds all =
    let P : Terms → Type 0 = ArePlaced places level in
    subst P (sym adds.set) (all_set (λ t. IsPlaced places level t.0) old i adds.term (adds.term.0, bit_xor adds.term.1 c) all adds.got (λ p. p))

-- the coefficient of one term was added to it, and to one of the same product
pub moved : (old mid new : Terms) (to from c : ℕ) → HaveSameProduct old to from → AddsToTerm old mid from c → AddsToTerm mid new to c → AreSummed old new
moved old mid new to from c has first second =
    let at_from : first.term.0 ≡ has.other.0 = ap (λ (x : Monomial × ℕ). x.0) (same_some first.term has.other (sym first.got ∙ has.got_other)) in
    let P : Terms → Type 0 = λ ts. slice_get ts to ≡ Some second.term in
    let at_to : second.term.0 ≡ has.one.0 = same_product old from to first.term (first.term.0, bit_xor first.term.1 c) has.one second.term first.got refl has.got_one (subst P first.set second.got) in
    let same : second.term.0 ≡ first.term.0 = at_to ∙ has.same ∙ sym at_from in
    record {
      sums = λ q.
          let x : ℕ = at_monomial q (first.term.0, c) in
          adds_sum q mid new to c second
          ∙ (λ i. bit_xor (adds_sum q old mid from c first i) (at_monomial q (same i, c)))
          ∙ xor_assoc (coefficient_in q old) x x
          ∙ ap (bit_xor (coefficient_in q old)) (xor_self x)
          ∙ xor_zero_r (coefficient_in q old);
      each = λ places level all. adds_each places level mid new to c second (adds_each places level old mid from c first all);
    }

-- ---- without zeros

abbrev pub stays : Monomial × ℕ → Bool
stays t = not (t.1 == 0)

zeros_sum : (q : Monomial) (ts : Terms) → coefficient_in q (filter stays ts) ≡ coefficient_in q ts
zeros_sum q [] = refl
zeros_sum q (t ∷ ts) =
    elim (t.1 == 0) as (λ b. (t.1 == 0) ≡ b → coefficient_in q (cond (not b) (t ∷ filter stays ts) (filter stays ts)) ≡ bit_xor (at_monomial q t) (coefficient_in q ts)) [
      | true ↦ λ e.
          let nothing : at_monomial q t ≡ 0 = ap (λ (n : ℕ). at_monomial q (t.0, n)) (eqb-true t.1 0 e) ∙ (at_additive text_cmp q).none t.0 in
          zeros_sum q ts ∙ sym (xor_zero_l (coefficient_in q ts)) ∙ ap (λ n. bit_xor n (coefficient_in q ts)) (sym nothing)
      | false ↦ λ e. ap (bit_xor (at_monomial q t)) (zeros_sum q ts)
    ] refl

zeros_each : (places : List ℕ) (level : ℕ) (ts : Terms) → ArePlaced places level ts → AllByRecursion (IsLine places level) (filter stays ts)
zeros_each places level [] all = tt
zeros_each places level (t ∷ ts) all = elim (t.1 == 0) as (λ b. (t.1 == 0) ≡ b → AllByRecursion (IsLine places level) (cond (not b) (t ∷ filter stays ts) (filter stays ts))) [
  | true ↦ λ e. zeros_each places level ts all.1
  | false ↦ λ e. (record { placed = all.0; some = eqb-false t.1 0 e }, zeros_each places level ts all.1)
] refl

placed : (places : List ℕ) (level : ℕ) (ts : Terms) → AllByRecursion (IsLine places level) ts → ArePlaced places level ts
placed places level [] all = tt
placed places level (t ∷ ts) all = (all.0.placed, placed places level ts all.1)

pub merged_sums : (old mid new : Terms) → AreSummed old mid → new ≡ filter stays mid → HaveSameSum old new
merged_sums old mid new added kept q = ap (coefficient_in q) kept ∙ zeros_sum q mid ∙ added.sums q

pub merged_each : (old mid new : Terms) (places : List ℕ) (level : ℕ) → AreSummed old mid → new ≡ filter stays mid → AllByRecursion (IsLine places level) old → AllByRecursion (IsLine places level) new
merged_each old mid new places level added kept all =
    let P : Terms → Type 0 = AllByRecursion (IsLine places level) in
    subst P (sym kept) (zeros_each places level mid (added.each places level (placed places level old all)))

-- ---- what follows from two clauses

pub ok_both : {A E P Q S : Type 0} (r : Result A E) → (P → Q → S) → OnOk r P → OnOk r Q → OnOk r S
ok_both (Ok a) f p q = f p q
ok_both (Err e) f p q = tt

-- what follows from either clause
pub either_way : {A E P Q S : Type 0} (r : Result A E) → (P → S) → (Q → S) → OnOk r P → OnErr r Q → S
either_way (Ok a) f g p q = f p
either_way (Err e) f g p q = g q

-- ---- one term without a bit

-- the bits but one
abbrev pub bits_but : ℕ → List ℕ → List ℕ
bits_but rank bits = filter (λ r. not (nat_eq r rank)) bits

all_stay : (rank : ℕ) (bits : List ℕ) → list_any (λ r. nat_eq r rank) bits ≡ false → length (bits_but rank bits) ≡ length bits
all_stay rank [] none = refl
all_stay rank (r ∷ bits) none =
    elim (nat_eq r rank) as (λ b. (b || list_any (λ r. nat_eq r rank) bits) ≡ false → length (cond (not b) (r ∷ bits_but rank bits) (bits_but rank bits)) ≡ length (r ∷ bits)) [
      | true ↦ λ e. (let bad : true ≡ false = e in absurd (cc))
      | false ↦ λ e. ap suc (all_stay rank bits e)
    ] none

-- a term that is shorter without the bit has it
module _ (rank c : ℕ) (bits : List ℕ) (shorter : length (bits_but rank bits) ≡ length bits → ⊥) where
  has : has_bit rank (of_bits bits) ≡ true
  has = true_from_ne_false (list_any (λ r. nat_eq r rank) bits) (λ none. shorter (all_stay rank bits none))

  pub taken_line : cofactors rank ((of_bits bits, c) ∷ []) ≡ (of_bits (bits_but rank bits), c) ∷ []
  taken_line = ap (λ b. cond b ((without_bit rank (of_bits bits), c) ∷ []) []) has

  pub no_other_line : lacking rank ((of_bits bits, c) ∷ []) ≡ []
  no_other_line = ap (λ b. cond (not b) ((of_bits bits, c) ∷ []) []) has

-- a list that is written whole
pub refilled : {A : Type 0} (old new : List A) (n : ℕ) → length new ≡ length old → n ≡ length old → take n (new ++ drop (length new) old) ≡ new
refilled old new n same long =
    let past : drop (length new) old ≡ [] = drop_of_length-le old {i = length new} (omega (arith, same)) in
    ap (λ xs. take n (new ++ xs)) past ∙ (ap (take n) (append-nil new) ∙ take_all n new (omega (arith, same, long)))
