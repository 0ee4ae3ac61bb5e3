-- The values of cofactors and of what is left.
use Rattle.std.proofs.Common.{◌≡◌, ℕ, ◌≢◌, Bool, true, false, cond, not, ◌&&◌, ◌||◌, List, [], ◌∷◌, bit_xor, nat_eq, refl, sym, ◌∙◌, ap}
use lib.Bits.{xor_zero_l, xor_zero_r, xor_self}
use Rattle.std.proofs.lemmas.Bool.{or_parts}
use Rattle.std.specs.declared.cmp.Ordering.TheVariants.{Less}
use Rattle.std.specs.Ordering.{nat_cmp}
use Rattle.std.specs.List.{AllByRecursion, list_all, list_any, filter}
use Rattle.std.specs.List.Sorted.{IsStrictlySortedBy}
use Rattle.poly_mixed.proofs.FieldLaws.{IsField}
use Rattle.poly_mixed.specs.Monomial.{Monomial, text_cmp}
use Rattle.poly_mixed.specs.Polynomial.{Terms, Point, IsPoint, IsTerm, IsMap, IsReduced, powers, term_value, value}
use Rattle.poly_mixed.specs.Monomial.{has_bit}
use Rattle.poly_mixed.specs.Cofactor.{LacksBit, without_bit, lacking, cofactors, at_bit, IsSubstituted}
use Rattle.poly_mixed.proofs.OneBitLemmas.{order_stays}
use Rattle.std.specs.Map.{keys_of}
use Rattle.lists.specs.laws.XorLaws.{xor_cross}
use Rattle.poly_mixed.proofs.ProductLemmas.{value_element}

-- ranks other than the bit
same_without : (p : Point) (bit : ℕ) (b : Bool) (rs : List ℕ) → list_any (λ r. nat_eq r bit) rs ≡ false → list_all (at_bit p bit b).is_one rs ≡ list_all p.is_one rs
same_without p bit b [] h = refl
same_without p bit b (r ∷ rs) h =
    let parts = or_parts (nat_eq r bit) (list_any (λ r. nat_eq r bit) rs) h in
    λ i. cond (parts.0 i) b (p.is_one r) && same_without p bit b rs parts.1 i

off : (p : Point) (bit : ℕ) (rs : List ℕ) → list_any (λ r. nat_eq r bit) rs ≡ true → list_all (at_bit p bit false).is_one rs ≡ false
off p bit [] h = cc
off p bit (r ∷ rs) h =
    elim (nat_eq r bit) as (λ v. (v || list_any (λ r. nat_eq r bit) rs) ≡ true → (cond v false (p.is_one r) && list_all (at_bit p bit false).is_one rs) ≡ false) [
      | true ↦ λ _. refl
      | false ↦ λ k. ap (λ v. p.is_one r && v) (off p bit rs k) ∙ elim (p.is_one r) as (λ v. (v && false) ≡ false) [ true ↦ refl | false ↦ refl ]
    ] h

on : (p : Point) (bit : ℕ) (rs : List ℕ) → list_all (at_bit p bit true).is_one rs ≡ list_all p.is_one (filter (λ r. not (nat_eq r bit)) rs)
on p bit [] = refl
on p bit (r ∷ rs) =
    elim (nat_eq r bit) as (λ v. (cond v true (p.is_one r) && list_all (at_bit p bit true).is_one rs) ≡ list_all p.is_one (cond (not v) (r ∷ filter (λ r. not (nat_eq r bit)) rs) (filter (λ r. not (nat_eq r bit)) rs))) [
      | true ↦ on p bit rs
      | false ↦ ap (λ v. p.is_one r && v) (on p bit rs)
    ]

above_filter : (q : ℕ → Bool) (x : ℕ) (rs : List ℕ) → AllByRecursion (λ y. nat_cmp x y ≡ Less) rs → AllByRecursion (λ y. nat_cmp x y ≡ Less) (filter q rs)
above_filter q x [] up = tt
above_filter q x (r ∷ rs) up = elim (q r) as (λ b. AllByRecursion (λ y. nat_cmp x y ≡ Less) (cond b (r ∷ filter q rs) (filter q rs))) [ true ↦ (up.0, above_filter q x rs up.1) | false ↦ above_filter q x rs up.1 ]

pub rising-filter : (q : ℕ → Bool) (rs : List ℕ) → IsStrictlySortedBy nat_cmp rs → IsStrictlySortedBy nat_cmp (filter q rs)
unfolding IsStrictlySortedBy
rising-filter q [] s = tt
rising-filter q (r ∷ rs) s = elim (q r) as (λ b. IsStrictlySortedBy nat_cmp (cond b (r ∷ filter q rs) (filter q rs))) [ true ↦ (above_filter q r rs s.0, rising-filter q rs s.1) | false ↦ rising-filter q rs s.1 ]

module _ (mul : ℕ → ℕ → ℕ) where
  pub value-lacking : (p : Point) (bit : ℕ) (ts : Terms) → value mul p (lacking bit ts) ≡ value mul (at_bit p bit false) ts
  value-lacking p bit [] = refl
  value-lacking p bit (t ∷ ts) =
      let x = mul t.1 (powers mul t.0.exponents p.words) in
      elim (has_bit bit t.0) as (λ v. has_bit bit t.0 ≡ v → value mul p (cond (not v) (t ∷ lacking bit ts) (lacking bit ts)) ≡ bit_xor (term_value mul (at_bit p bit false) t) (value mul (at_bit p bit false) ts)) [
        | true ↦ λ e. value-lacking p bit ts ∙ sym (ap (λ v. bit_xor (cond v x 0) (value mul (at_bit p bit false) ts)) (off p bit t.0.bits e) ∙ xor_zero_l (value mul (at_bit p bit false) ts))
        | false ↦ λ e. λ i. bit_xor (cond (sym (same_without p bit false t.0.bits e) i) x 0) (value-lacking p bit ts i)
      ] refl

  pub value-cofactors : (p : Point) (bit : ℕ) (ts : Terms) → value mul p (cofactors bit ts) ≡ bit_xor (value mul (at_bit p bit true) ts) (value mul (at_bit p bit false) ts)
  value-cofactors p bit [] = refl
  value-cofactors p bit (t ∷ ts) =
      let x = mul t.1 (powers mul t.0.exponents p.words) in
      let one = value mul (at_bit p bit true) ts in
      let none = value mul (at_bit p bit false) ts in
      elim (has_bit bit t.0) as (λ v. has_bit bit t.0 ≡ v → value mul p (cond v ((without_bit bit t.0, t.1) ∷ cofactors bit ts) (cofactors bit ts)) ≡ bit_xor (bit_xor (term_value mul (at_bit p bit true) t) one) (bit_xor (term_value mul (at_bit p bit false) t) none)) [
        | true ↦ λ e.
            (λ i. bit_xor (cond (sym (on p bit t.0.bits) i) x 0) (value-cofactors p bit ts i))
            ∙ sym (xor_cross (term_value mul (at_bit p bit true) t) one (term_value mul (at_bit p bit false) t) none
            ∙ ap (λ n. bit_xor n (bit_xor one none)) (ap (λ v. bit_xor (term_value mul (at_bit p bit true) t) (cond v x 0)) (off p bit t.0.bits e) ∙ xor_zero_r (term_value mul (at_bit p bit true) t)))
        | false ↦ λ e.
            let same : term_value mul (at_bit p bit true) t ≡ term_value mul (at_bit p bit false) t = ap (λ v. cond v x 0) (same_without p bit true t.0.bits e ∙ sym (same_without p bit false t.0.bits e)) in
            value-cofactors p bit ts
            ∙ sym (xor_cross (term_value mul (at_bit p bit true) t) one (term_value mul (at_bit p bit false) t) none
            ∙ ap (λ n. bit_xor n (bit_xor one none)) (ap (λ n. bit_xor n (term_value mul (at_bit p bit false) t)) same ∙ xor_self (term_value mul (at_bit p bit false) t)) ∙ xor_zero_l (bit_xor one none))
      ] refl

pub cofactor_terms : (degree bit : ℕ) (ts : Terms) → AllByRecursion (IsTerm degree) ts → AllByRecursion (IsTerm degree) (cofactors bit ts)
cofactor_terms degree bit [] all = tt
cofactor_terms degree bit (t ∷ ts) all =
    elim (has_bit bit t.0) as (λ v. AllByRecursion (IsTerm degree) (cond v ((without_bit bit t.0, t.1) ∷ cofactors bit ts) (cofactors bit ts))) [
      | true ↦ (record { monomial = record { words = all.0.monomial.words; exponents = all.0.monomial.exponents; rising = rising-filter (λ r. not (nat_eq r bit)) t.0.bits all.0.monomial.rising }; element = all.0.element }, cofactor_terms degree bit ts all.1)
      | false ↦ cofactor_terms degree bit ts all.1
    ]

pub cofactor_nonzero : (bit : ℕ) (ts : Terms) → AllByRecursion (λ t. t.1 ≢ 0) ts → AllByRecursion (λ t. t.1 ≢ 0) (cofactors bit ts)
cofactor_nonzero bit [] all = tt
cofactor_nonzero bit (t ∷ ts) all = elim (has_bit bit t.0) as (λ v. AllByRecursion (λ t. t.1 ≢ 0) (cond v ((without_bit bit t.0, t.1) ∷ cofactors bit ts) (cofactors bit ts))) [ true ↦ (all.0, cofactor_nonzero bit ts all.1) | false ↦ cofactor_nonzero bit ts all.1 ]

pub lacking_all : (P : Monomial × ℕ → Type 0) (bit : ℕ) (ts : Terms) → AllByRecursion P ts → AllByRecursion P (lacking bit ts)
lacking_all P bit [] all = tt
lacking_all P bit (t ∷ ts) all = elim (has_bit bit t.0) as (λ v. AllByRecursion P (cond (not v) (t ∷ lacking bit ts) (lacking bit ts))) [ true ↦ lacking_all P bit ts all.1 | false ↦ (all.0, lacking_all P bit ts all.1) ]

lacking_below : (bit : ℕ) (x : Monomial) (ts : Terms) → AllByRecursion (λ y. text_cmp x y ≡ Less) (keys_of ts) → AllByRecursion (λ y. text_cmp x y ≡ Less) (keys_of (lacking bit ts))
lacking_below bit x [] up = tt
lacking_below bit x (t ∷ ts) up = elim (has_bit bit t.0) as (λ v. AllByRecursion (λ y. text_cmp x y ≡ Less) (keys_of (cond (not v) (t ∷ lacking bit ts) (lacking bit ts)))) [ true ↦ lacking_below bit x ts up.1 | false ↦ (up.0, lacking_below bit x ts up.1) ]

lacking_sorted : (bit : ℕ) (ts : Terms) → IsStrictlySortedBy text_cmp (keys_of ts) → IsStrictlySortedBy text_cmp (keys_of (lacking bit ts))
unfolding IsStrictlySortedBy
lacking_sorted bit [] s = tt
lacking_sorted bit (t ∷ ts) s = elim (has_bit bit t.0) as (λ v. IsStrictlySortedBy text_cmp (keys_of (cond (not v) (t ∷ lacking bit ts) (lacking bit ts)))) [ true ↦ lacking_sorted bit ts s.1 | false ↦ (lacking_below bit t.0 ts s.0, lacking_sorted bit ts s.1) ]

pub lacking_map : (bit : ℕ) (ts : Terms) → IsMap ts → IsMap (lacking bit ts)
lacking_map bit ts m = record { sorted = lacking_sorted bit ts m.sorted; rising = lacking_all (λ t. IsStrictlySortedBy nat_cmp t.0.bits) bit ts m.rising; nonzero = lacking_all (λ t. t.1 ≢ 0) bit ts m.nonzero }

-- ---- the terms with the bit are a map

cofactors_below : (bit : ℕ) (t : Monomial × ℕ) (ts : Terms) → has_bit bit t.0 ≡ true → IsStrictlySortedBy nat_cmp t.0.bits → AllByRecursion (λ u. IsStrictlySortedBy nat_cmp u.0.bits) ts
    → AllByRecursion (λ y. text_cmp t.0 y ≡ Less) (keys_of ts) → AllByRecursion (λ y. text_cmp (without_bit bit t.0) y ≡ Less) (keys_of (cofactors bit ts))
cofactors_below bit t [] h s all up = tt
cofactors_below bit t (u ∷ us) h s all up =
    elim (has_bit bit u.0) as (λ v. has_bit bit u.0 ≡ v → AllByRecursion (λ y. text_cmp (without_bit bit t.0) y ≡ Less) (keys_of (cond v ((without_bit bit u.0, u.1) ∷ cofactors bit us) (cofactors bit us)))) [
      | true ↦ λ e. (order_stays bit t.0 u.0 s all.0 h e up.0, cofactors_below bit t us h s all.1 up.1)
      | false ↦ λ e. cofactors_below bit t us h s all.1 up.1
    ] refl

cofactors_sorted : (bit : ℕ) (ts : Terms) → AllByRecursion (λ u. IsStrictlySortedBy nat_cmp u.0.bits) ts → IsStrictlySortedBy text_cmp (keys_of ts) → IsStrictlySortedBy text_cmp (keys_of (cofactors bit ts))
unfolding IsStrictlySortedBy
cofactors_sorted bit [] all s = tt
cofactors_sorted bit (t ∷ ts) all s =
    elim (has_bit bit t.0) as (λ v. has_bit bit t.0 ≡ v → IsStrictlySortedBy text_cmp (keys_of (cond v ((without_bit bit t.0, t.1) ∷ cofactors bit ts) (cofactors bit ts)))) [
      | true ↦ λ e. (cofactors_below bit t ts e all.0 all.1 s.0, cofactors_sorted bit ts all.1 s.1)
      | false ↦ λ e. cofactors_sorted bit ts all.1 s.1
    ] refl

cofactors_rising : (bit : ℕ) (ts : Terms) → AllByRecursion (λ u. IsStrictlySortedBy nat_cmp u.0.bits) ts → AllByRecursion (λ u. IsStrictlySortedBy nat_cmp u.0.bits) (cofactors bit ts)
cofactors_rising bit [] all = tt
cofactors_rising bit (t ∷ ts) all =
    elim (has_bit bit t.0) as (λ v. AllByRecursion (λ u. IsStrictlySortedBy nat_cmp u.0.bits) (cond v ((without_bit bit t.0, t.1) ∷ cofactors bit ts) (cofactors bit ts))) [
      | true ↦ (rising-filter (λ r. not (nat_eq r bit)) t.0.bits all.0, cofactors_rising bit ts all.1)
      | false ↦ cofactors_rising bit ts all.1
    ]

pub cofactors_map : (bit : ℕ) (ts : Terms) → IsMap ts → IsMap (cofactors bit ts)
cofactors_map bit ts m = record { sorted = cofactors_sorted bit ts m.rising m.sorted; rising = cofactors_rising bit ts m.rising; nonzero = cofactor_nonzero bit ts m.nonzero }

pub reduced_lacking : (degree bit : ℕ) (ts : Terms) → IsReduced degree ts → IsReduced degree (lacking bit ts)
reduced_lacking degree bit ts r = record {
  is_map = lacking_map bit ts r.is_map;
  terms = lacking_all (IsTerm degree) bit ts r.terms;
}

pub reduced_cofactors : (degree bit : ℕ) (ts : Terms) → IsReduced degree ts → IsReduced degree (cofactors bit ts)
reduced_cofactors degree bit ts r = record {
  is_map = cofactors_map bit ts r.is_map;
  terms = cofactor_terms degree bit ts r.terms;
}

module _ {degree : ℕ} {mul : ℕ → ℕ → ℕ} (f : IsField degree mul) where
  -- the whole substitution: part is the cofactor, product its product with by
  pub substituted : (bit : ℕ) (by old part product new : Terms) → IsReduced degree old → IsReduced degree by → IsReduced degree part
      → part ≡ cofactors bit old → ((p : Point) → IsPoint degree p → value mul p product ≡ mul (value mul p part) (value mul p by))
      → ((p : Point) → IsPoint degree p → value mul p new ≡ bit_xor (value mul p (lacking bit old)) (value mul p product)) → IsSubstituted degree mul bit by old new
  substituted bit by old part product new ro rb rp hp times sum p at =
      let q = bit_xor (value mul (at_bit p bit true) old) (value mul (at_bit p bit false) old) in
      let part_value : value mul p part ≡ q = ap (λ (ts : Terms). value mul p ts) hp ∙ value-cofactors mul p bit old in
      sum p at
      ∙ (λ i. bit_xor (value-lacking mul p bit old i) ((times p at ∙ f.comm (value mul p part) (value mul p by) (value_element f p at part rp.terms) (value_element f p at by rb.terms) ∙ ap (mul (value mul p by)) part_value) i))

-- where no term has the bit, its cofactor has no term, and all terms lack it
pub none_of_absent : (bit : ℕ) (ts : Terms) → LacksBit bit ts → cofactors bit ts ≡ []
none_of_absent bit [] all = refl
none_of_absent bit (t ∷ ts) all = ap (λ b. cond b ((without_bit bit t.0, t.1) ∷ cofactors bit ts) (cofactors bit ts)) all.0 ∙ none_of_absent bit ts all.1

pub absent_of_none : (bit : ℕ) (ts : Terms) → cofactors bit ts ≡ [] → LacksBit bit ts
absent_of_none bit [] none = tt
absent_of_none bit (t ∷ ts) none = elim (has_bit bit t.0) as (λ b. has_bit bit t.0 ≡ b → LacksBit bit (t ∷ ts)) [
  | true ↦ λ has. let more : (without_bit bit t.0, t.1) ∷ cofactors bit ts ≡ [] = sym (ap (λ b. cond b ((without_bit bit t.0, t.1) ∷ cofactors bit ts) (cofactors bit ts)) has) ∙ none in absurd (cc)
  | false ↦ λ lacks. (lacks, absent_of_none bit ts (sym (ap (λ b. cond b ((without_bit bit t.0, t.1) ∷ cofactors bit ts) (cofactors bit ts)) lacks) ∙ none))
] refl

pub all_lacking : (bit : ℕ) (ts : Terms) → LacksBit bit ts → lacking bit ts ≡ ts
all_lacking bit [] all = refl
all_lacking bit (t ∷ ts) all = ap (λ b. cond (not b) (t ∷ lacking bit ts) (lacking bit ts)) all.0 ∙ ap (λ us. t ∷ us) (all_lacking bit ts all.1)
