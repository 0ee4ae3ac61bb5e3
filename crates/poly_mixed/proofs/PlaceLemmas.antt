-- Maps of monomials in slots: their terms, and what their slots hold after a change.
use Rattle.std.proofs.Common.{◌≡◌, ℕ, zero, suc, ◌+◌, ◌-◌, ◌<◌, ◌≢◌, Bool, true, false, cond, not, ◌||◌, List, [], ◌∷◌, length, map, Option, Some, None, slice_get, nat_eq, refl, sym, ◌∙◌, ap, subst, arith}
use Rattle.std.specs.declared.cmp.Ordering.{Ordering}
use Rattle.std.specs.declared.cmp.Ordering.TheVariants.{Less, Equal, Greater}
use Rattle.std.specs.Cmp.{IsTotalOrder, tied_itself}
use Rattle.std.specs.List.{AllByRecursion, list_any}
use Rattle.std.specs.List.Sorted.{IsStrictlySortedBy}
use Rattle.std.specs.Map.{lookup, keys_of, remove_entry}
use Rattle.std.specs.BTreeMap.{insert_entry}
use Rattle.std.specs.Option.{option_map, unwrap_or}
use Rattle.std.specs.Ordering.{match_ordering, eq_by_cmp, is_eq, ordering_reverse, nat_cmp}
use Rattle.std.proofs.lemmas.Bool.{eqb-true, eqb-false, eq-eqb, ne_eqb}
use Rattle.std.proofs.lemmas.Map.Made.{lookup-map_values}
use Rattle.std.proofs.Math.Bool.{or-true}
use Rattle.lists.specs.laws.BoolLaws.{either}
use Rattle.lists.specs.laws.OptionLaws.{same_some as one_of, none_is_some}
use Rattle.lists.specs.laws.OrderingLaws.{is_equal as equal}
use Rattle.poly_mixed.specs.Cofactor.{LacksBit}
use Rattle.poly_mixed.specs.Monomial.{Monomial, has_bit, text_cmp, text_cmp_total}
use Rattle.poly_mixed.specs.Polynomial.{Terms, Slots, IsMap, coefficient}
use Rattle.poly_mixed.specs.Slots.{slot_at, stands, term_in, IsListOf, AreSlotsOf}
use Rattle.poly_mixed.specs.private.Indexed.{Entries, terms_in, slot_of, IsIndexed, IsTaken, Changes}
use Rattle.poly_mixed.specs.declared.place.Place.{Place}
use Rattle.poly_mixed.proofs.IndexLemmas.{is_in}
use Rattle.poly_mixed.proofs.MonomialLemmas.{text_cmp-same}

module _ {K V : Type 0} (R : K → K → Ordering) (g : V → ℕ) where
  -- the numbers of the values
  abbrev numbers : List (K × V) → List (K × ℕ)
  numbers es = map (λ e. (e.0, g e.1)) es

  pub numbers-insert : (es : List (K × V)) (k : K) (v : V) → numbers (insert_entry R es k v) ≡ insert_entry R (numbers es) k (g v)
  numbers-insert [] k v = refl
  numbers-insert (e ∷ es) k v =
      elim (R k e.0) as (λ r. numbers (match_ordering r ((k, v) ∷ e ∷ es) ((e.0, v) ∷ es) (e ∷ insert_entry R es k v))
      ≡ match_ordering r ((k, g v) ∷ numbers (e ∷ es)) ((e.0, g v) ∷ numbers es) ((e.0, g e.1) ∷ insert_entry R (numbers es) k (g v))) [
        | Less ↦ refl
        | Equal ↦ refl
        | Greater ↦ ap (λ ts. (e.0, g e.1) ∷ ts) (numbers-insert es k v)
      ]

  pub numbers-remove : (test : K → Bool) (es : List (K × V)) → numbers (remove_entry test es) ≡ remove_entry test (numbers es)
  numbers-remove test [] = refl
  numbers-remove test (e ∷ es) =
      elim (test e.0) as (λ b. numbers (cond b es (e ∷ remove_entry test es)) ≡ cond b (numbers es) ((e.0, g e.1) ∷ remove_entry test (numbers es))) [
        | true ↦ refl
        | false ↦ ap (λ ts. (e.0, g e.1) ∷ ts) (numbers-remove test es)
      ]

  pub keys-numbers : (es : List (K × V)) → keys_of (numbers es) ≡ keys_of es
  keys-numbers [] = refl
  keys-numbers (e ∷ es) = ap (λ ks. e.0 ∷ ks) (keys-numbers es)

module _ {K V : Type 0} (R : K → K → Ordering) (o : IsTotalOrder R) where
  later : (e : K × V) (es fs : List (K × V)) → AllByRecursion (λ y. R e.0 y ≡ Less) (keys_of fs) → AllByRecursion (λ f. lookup (eq_by_cmp R f.0) es ≡ Some f.1) fs → AllByRecursion (λ f. lookup (eq_by_cmp R f.0) (e ∷ es) ≡ Some f.1) fs
  later e es [] up all = tt
  later e es (f ∷ fs) up all = (ap (λ r. cond (is_eq r) (Some e.1) (lookup (eq_by_cmp R f.0) es)) (o.antisymm f.0 e.0 ∙ ap ordering_reverse up.0) ∙ all.0, later e es fs up.1 all.1)

  -- each entry is found at its key
  pub own_values : (es : List (K × V)) → IsStrictlySortedBy R (keys_of es) → AllByRecursion (λ e. lookup (eq_by_cmp R e.0) es ≡ Some e.1) es
  unfolding IsStrictlySortedBy
  own_values [] s = tt
  own_values (e ∷ es) s = (ap (λ r. cond (is_eq r) (Some e.1) (lookup (eq_by_cmp R e.0) es)) (tied_itself o e.0), later e es es s.0 (own_values es s.1))

  below_removed : (test : K → Bool) (x : K) (es : List (K × V)) → AllByRecursion (λ y. R x y ≡ Less) (keys_of es) → AllByRecursion (λ y. R x y ≡ Less) (keys_of (remove_entry test es))
  below_removed test x [] up = tt
  below_removed test x (e ∷ es) up = elim (test e.0) as (λ b. AllByRecursion (λ y. R x y ≡ Less) (keys_of (cond b es (e ∷ remove_entry test es)))) [ true ↦ up.1 | false ↦ (up.0, below_removed test x es up.1) ]

  pub sorted_removed : (test : K → Bool) (es : List (K × V)) → IsStrictlySortedBy R (keys_of es) → IsStrictlySortedBy R (keys_of (remove_entry test es))
  unfolding IsStrictlySortedBy
  sorted_removed test [] s = tt
  sorted_removed test (e ∷ es) s = elim (test e.0) as (λ b. IsStrictlySortedBy R (keys_of (cond b es (e ∷ remove_entry test es)))) [ true ↦ s.1 | false ↦ (below_removed test e.0 es s.0, sorted_removed test es s.1) ]

  pub all_removed : (P : K × V → Type 0) (test : K → Bool) (es : List (K × V)) → AllByRecursion P es → AllByRecursion P (remove_entry test es)
  all_removed P test [] all = tt
  all_removed P test (e ∷ es) all = elim (test e.0) as (λ b. AllByRecursion P (cond b es (e ∷ remove_entry test es))) [ true ↦ all.1 | false ↦ (all.0, all_removed P test es all.1) ]

  pub fewer : (test : K → Bool) (es : List (K × V)) (v : V) → lookup test es ≡ Some v → length (remove_entry test es) + 1 ≡ length es
  fewer test [] v h = absurd (cc)
  fewer test (e ∷ es) v h =
      elim (test e.0) as (λ b. cond b (Some e.1) (lookup test es) ≡ Some v → length (cond b es (e ∷ remove_entry test es)) + 1 ≡ length (e ∷ es)) [
        | true ↦ λ h. omega arith
        | false ↦ λ h. let r = fewer test es v h in omega (arith, r)
      ] h

-- ---- monomials

abbrev same : Monomial → Monomial → Bool
same m q = eq_by_cmp text_cmp m q

pub is_same : (m q : Monomial) → same m q ≡ true → m ≡ q
is_same m q e = text_cmp-same m q (equal (text_cmp m q) e)

same_itself : (m : Monomial) → same m m ≡ true
same_itself m = ap is_eq (tied_itself text_cmp_total m)

pub removed_map : (m : Monomial) (ts : Terms) → IsMap ts → IsMap (remove_entry (same m) ts)
removed_map m ts is = record {
  sorted = sorted_removed text_cmp text_cmp_total (same m) ts is.sorted;
  rising = all_removed text_cmp text_cmp_total (λ t. IsStrictlySortedBy nat_cmp t.0.bits) (same m) ts is.rising;
  nonzero = all_removed text_cmp text_cmp_total (λ t. t.1 ≢ 0) (same m) ts is.nonzero;
}

pub looked : (entries : Entries) (m : Monomial) → lookup (same m) (terms_in entries) ≡ option_map (λ p. p.coefficient) (lookup (same m) entries)
looked entries m = lookup-map_values (λ (p : Place). p.coefficient) (same m) entries

some_of : {A B : Type 0} (f : A → B) (o : Option A) (y : B) → option_map f o ≡ Some y → (x : A) × ((o ≡ Some x) × (f x ≡ y))
some_of f None y e = none_is_some y e
some_of f (Some x) y e = (x, (refl, one_of (f x) y e))

-- the entry of a monomial that stands in a slot
pub entry_at : (entries : Entries) (slots : Slots) (slot : ℕ) (m : Monomial) → IsIndexed entries slots → slot_at slots slot ≡ Some m → (p : Place) × ((lookup (same m) entries ≡ Some p) × (p.slot ≡ slot))
entry_at entries slots slot m is held = some_of (λ (p : Place). p.slot) (lookup (same m) entries) slot (is.back slot m held)

-- ---- after a change

module _ (es new : Entries) (old next : Slots) (m : Monomial) (p : Place) (is : IsIndexed es old) (map_is : IsMap (terms_in new)) where
  pub indexed_put : lookup (same m) es ≡ None → slot_at old p.slot ≡ None → Changes old next p.slot (Some m) → ((q : Monomial) → lookup (same q) new ≡ cond (same m q) (Some p) (lookup (same q) es)) → IsIndexed new next
  indexed_put absent empty change found = record {
    is_map = map_is;
    there = λ q s h. either (same m q)
        (λ y.
        let e : slot_of new q ≡ Some p.slot = ap (option_map (λ p. p.slot)) (found q ∙ ap (λ b. cond b (Some p) (lookup (same q) es)) y) in
        let at : p.slot ≡ s = one_of p.slot s (sym e ∙ h) in
        ap (slot_at next) (sym at) ∙ change.changed ∙ ap Some (is_same m q y))
        (λ n.
        let e : slot_of new q ≡ slot_of es q = ap (option_map (λ p. p.slot)) (found q ∙ ap (λ b. cond b (Some p) (lookup (same q) es)) n) in
        let was : slot_at old s ≡ Some q = is.there q s (sym e ∙ h) in
        change.others s (λ at. none_is_some q (sym empty ∙ ap (slot_at old) (sym at) ∙ was)) ∙ was);
    back = λ s q h. either (nat_eq s p.slot)
        (λ y.
        let at : s ≡ p.slot = eqb-true s p.slot y in
        let same_one : m ≡ q = one_of m q (sym change.changed ∙ ap (slot_at next) (sym at) ∙ h) in
        let P : Monomial → Type 0 = λ q. same m q ≡ true in
        ap (option_map (λ p. p.slot)) (found q ∙ ap (λ b. cond b (Some p) (lookup (same q) es)) (subst P same_one (same_itself m))) ∙ ap Some (sym at))
        (λ n.
        let was : slot_at old s ≡ Some q = sym (change.others s (eqb-false s p.slot n)) ∙ h in
        let had = is.back s q was in
        ap (option_map (λ p. p.slot)) (found q) ∙ either (same m q)
        (λ y.
        let P : Monomial → Type 0 = λ q. slot_of es q ≡ Some s in
        let none : slot_of es m ≡ None = ap (option_map (λ p. p.slot)) absent in
        none_is_some s (sym none ∙ subst P (sym (is_same m q y)) had))
        (λ n. ap (λ b. option_map (λ p. p.slot) (cond b (Some p) (lookup (same q) es))) n ∙ had));
  }

  pub indexed_take : slot_at old p.slot ≡ Some m → Changes old next p.slot None → ((q : Monomial) → lookup (same q) new ≡ cond (same m q) None (lookup (same q) es)) → IsIndexed new next
  indexed_take held change found = record {
    is_map = map_is;
    there = λ q s h. either (same m q)
        (λ y. none_is_some s (sym (ap (option_map (λ p. p.slot)) (found q ∙ ap (λ b. cond b None (lookup (same q) es)) y)) ∙ h))
        (λ n.
        let e : slot_of new q ≡ slot_of es q = ap (option_map (λ p. p.slot)) (found q ∙ ap (λ b. cond b None (lookup (same q) es)) n) in
        let was : slot_at old s ≡ Some q = is.there q s (sym e ∙ h) in
        let P : Monomial → Type 0 = λ q. same m q ≡ true in
        change.others s (λ at. absurd (let t : same m q ≡ true = subst P (one_of m q (sym held ∙ ap (slot_at old) (sym at) ∙ was)) (same_itself m) in cc)) ∙ was);
    back = λ s q h. either (nat_eq s p.slot)
        (λ y. none_is_some q (sym change.changed ∙ ap (slot_at next) (sym (eqb-true s p.slot y)) ∙ h))
        (λ n.
        let was : slot_at old s ≡ Some q = sym (change.others s (eqb-false s p.slot n)) ∙ h in
        let had = is.back s q was in
        ap (option_map (λ p. p.slot)) (found q) ∙ either (same m q)
        (λ y.
        let P : Monomial → Type 0 = λ q. slot_of es q ≡ Some s in
        let here : slot_of es m ≡ Some s = subst P (sym (is_same m q y)) had in
        let at : p.slot ≡ s = one_of p.slot s (sym (is.back p.slot m held) ∙ here) in
        absurd (eqb-false s p.slot n (sym at)))
        (λ n. ap (λ b. option_map (λ p. p.slot) (cond b None (lookup (same q) es))) n ∙ had));
  }

-- only the coefficient of a monomial changed
pub indexed_same : (es new : Entries) (slots : Slots) (m : Monomial) (old p : Place) → IsIndexed es slots → IsMap (terms_in new) → lookup (same m) es ≡ Some old → p.slot ≡ old.slot
    → ((q : Monomial) → lookup (same q) new ≡ cond (same m q) (Some p) (lookup (same q) es)) → IsIndexed new slots
indexed_same es new slots m old p is map_is had at found =
    let stays : (q : Monomial) → slot_of new q ≡ slot_of es q = λ q. ap (option_map (λ p. p.slot)) (found q) ∙ either (same m q)
    (λ y.
    let P : Monomial → Type 0 = λ q. slot_of es q ≡ Some old.slot in
    ap (λ b. option_map (λ p. p.slot) (cond b (Some p) (lookup (same q) es))) y ∙ ap Some at ∙ sym (subst P (is_same m q y) (ap (option_map (λ p. p.slot)) had)))
    (λ n. ap (λ b. option_map (λ p. p.slot) (cond b (Some p) (lookup (same q) es))) n) in
    record { is_map = map_is; there = λ q s h. is.there q s (sym (stays q) ∙ h); back = λ s q h. stays q ∙ is.back s q h }

-- a found slot is listed
pub listed_at : (xs : List ℕ) (i s : ℕ) → slice_get xs i ≡ Some s → is_in s xs ≡ true
listed_at [] i s h = none_is_some s h
listed_at (x ∷ xs) zero s h = ap (λ b. b || is_in s xs) (eq-eqb x s (one_of x s h))
listed_at (x ∷ xs) (suc i) s h = ap (λ b. nat_eq x s || b) (listed_at xs i s h) ∙ or-true (nat_eq x s)

-- ---- what the lists say of the terms

module _ (entries : Entries) (slots : Slots) (is : IsIndexed entries slots) where
  sorted_keys : IsStrictlySortedBy text_cmp (keys_of entries)
  sorted_keys = let P : List Monomial → Type 0 = IsStrictlySortedBy text_cmp in subst P (keys-numbers text_cmp (λ (p : Place). p.coefficient) entries) is.is_map.sorted

  lacks : (bit : ℕ) (list : List ℕ) → IsListOf bit slots list → list ≡ [] → (fs : Entries) → AllByRecursion (λ e. lookup (same e.0) entries ≡ Some e.1) fs → LacksBit bit (terms_in fs)
  lacks bit list l none [] all = tt
  lacks bit list l none (f ∷ fs) all =
      let held : slot_at slots f.1.slot ≡ Some f.0 = is.there f.0 f.1.slot (ap (option_map (λ p. p.slot)) all.0) in
      (sym (ap (stands bit) held) ∙ sym (l.exactly f.1.slot) ∙ ap (is_in f.1.slot) none, lacks bit list l none fs all.1)

  -- where the list of a bit is empty no term has the bit
  pub lacks_bit : (bit : ℕ) (list : List ℕ) → IsListOf bit slots list → list ≡ [] → LacksBit bit (terms_in entries)
  lacks_bit bit list l none = lacks bit list l none entries (own_values text_cmp text_cmp_total entries sorted_keys)

  any_found : (bit : ℕ) (m : Monomial) (p : Place) (fs : Entries) → lookup (same m) fs ≡ Some p → has_bit bit m ≡ true → list_any (λ t. has_bit bit t.0) (terms_in fs) ≡ true
  any_found bit m p [] h has = none_is_some p h
  any_found bit m p (f ∷ fs) h has = either (same m f.0)
      (λ y. let P : Monomial → Type 0 = λ q. has_bit bit q ≡ true in ap (λ b. b || list_any (λ t. has_bit bit t.0) (terms_in fs)) (subst P (is_same m f.0 y) has))
      (λ n. ap (λ b. has_bit bit f.0 || b) (any_found bit m p fs (sym (ap (λ b. cond b (Some f.1) (lookup (same m) fs)) n) ∙ h) has) ∙ or-true (has_bit bit f.0))

  none_any : (bit : ℕ) (ts : Terms) → LacksBit bit ts → list_any (λ t. has_bit bit t.0) ts ≡ false
  none_any bit [] all = refl
  none_any bit (t ∷ ts) all = ap (λ b. b || list_any (λ u. has_bit bit u.0) ts) all.0 ∙ none_any bit ts all.1

  first_itself : (x : ℕ) (xs : List ℕ) → is_in x (x ∷ xs) ≡ true
  first_itself x xs = ap (λ b. b || is_in x xs) (eq-eqb x x refl)

  -- a listed slot holds a monomial that has the bit
  pub held_by : (bit slot : ℕ) (list : List ℕ) → IsListOf bit slots list → is_in slot list ≡ true → stands bit (slot_at slots slot) ≡ true
  held_by bit slot list l e = sym (l.exactly slot) ∙ e

  some_held : (bit : ℕ) (o : Option Monomial) → stands bit o ≡ true → (m : Monomial) × ((o ≡ Some m) × (has_bit bit m ≡ true))
  some_held bit None e = absurd (cc)
  some_held bit (Some m) e = (m, (refl, e))

  pub has_is : (bit : ℕ) (list : List ℕ) → IsListOf bit slots list → not (nat_eq (length list) 0) ≡ list_any (λ t. has_bit bit t.0) (terms_in entries)
  has_is bit [] l = sym (none_any bit (terms_in entries) (lacks_bit bit [] l refl))
  has_is bit (x ∷ xs) l =
      let h = some_held bit (slot_at slots x) (held_by bit x (x ∷ xs) l (first_itself x xs)) in
      let p = entry_at entries slots x h.0 is h.1.0 in
      ap not (ne_eqb (length (x ∷ xs)) 0 (λ e. omega (arith, e))) ∙ sym (any_found bit h.0 p.0 entries p.1.0 h.1.1)

  -- the coefficient of a monomial that has a place
  pub coefficient_at : (m : Monomial) (p : Place) → lookup (same m) entries ≡ Some p → coefficient (terms_in entries) m ≡ p.coefficient
  coefficient_at m p h = ap (λ o. unwrap_or o 0) (looked entries m ∙ ap (option_map (λ p. p.coefficient)) h)

  nonzero_at : (m : Monomial) (c : ℕ) (ts : Terms) → AllByRecursion (λ t. t.1 ≢ 0) ts → lookup (same m) ts ≡ Some c → c ≢ 0
  nonzero_at m c [] all h = none_is_some c h
  nonzero_at m c (t ∷ ts) all h =
      elim (same m t.0) as (λ b. cond b (Some t.1) (lookup (same m) ts) ≡ Some c → c ≢ 0) [
        | true ↦ λ h. let P : ℕ → Type 0 = λ n. n ≢ 0 in subst P (one_of t.1 c h) all.0
        | false ↦ λ h. nonzero_at m c ts all.1 h
      ] h

  pub are_slots : AreSlotsOf (terms_in entries) slots
  are_slots = record {
    each = λ m n. place_of m n (lookup (same m) entries) refl;
    once = λ m s t h k. one_of s t (sym (is.back s m h) ∙ is.back t m k);
    only = λ slot m h.
        let p = entry_at entries slots slot m is h in
        let P : ℕ → Type 0 = λ n. n ≢ 0 in
        subst P (sym (coefficient_at m p.0 p.1.0)) (nonzero_at m p.0.coefficient (terms_in entries) is.is_map.nonzero (looked entries m ∙ ap (option_map (λ p. p.coefficient)) p.1.0));
  }
    where
      place_of : (m : Monomial) → coefficient (terms_in entries) m ≢ 0 → (o : Option Place) → lookup (same m) entries ≡ o → (slot : ℕ) × (slot_at slots slot ≡ Some m)
      place_of m n None e = absurd (n (ap (λ o. unwrap_or o 0) (looked entries m ∙ ap (option_map (λ p. p.coefficient)) e)))
      place_of m n (Some p) e = (p.slot, is.there m p.slot (ap (option_map (λ p. p.slot)) e))

  -- the term in a slot
  pub term_is : (slot : ℕ) (m : Monomial) (p : Place) → Some m ≡ slot_at slots slot → Some p ≡ lookup (same m) entries → Some (p.coefficient, m) ≡ term_in (record { terms = terms_in entries; slots = slots }) slot
  term_is slot m p held at =
      ap (λ c. Some (c, m)) (sym (coefficient_at m p (sym at))) ∙ ap (option_map (λ m. (coefficient (terms_in entries) m, m))) held

  -- a monomial in a slot has a place
  pub has_place : {P : Type 0} (slot : ℕ) (m : Monomial) → Some m ≡ slot_at slots slot → None ≡ lookup (same m) entries → P
  has_place slot m held none = let p = entry_at entries slots slot m is (sym held) in none_is_some p.0 (none ∙ p.1.0)

  -- a slot that is listed last is not empty
  pub last_has : (bit slot i : ℕ) (list : List ℕ) (m : Monomial) → IsListOf bit slots list → Some slot ≡ slice_get list i → Some m ≡ slot_at slots slot → has_bit bit m ≡ true
  last_has bit slot i list m l last held = ap (stands bit) held ∙ held_by bit slot list l (listed_at list i slot (sym last))

-- where a list has no last item it is empty
pub none_last : (xs : List ℕ) → None ≡ slice_get xs (length xs - 1) → xs ≡ []
none_last [] e = refl
none_last (x ∷ xs) e = absurd (past (x ∷ xs) (length (x ∷ xs) - 1) (omega arith) (sym e))
  where
    past : (zs : List ℕ) (i : ℕ) → i < length zs → slice_get zs i ≡ None → ⊥
    past [] i h e = absurd (omega (arith, h))
    past (z ∷ zs) zero h e = none_is_some z (sym e)
    past (z ∷ zs) (suc i) h e = past zs i (omega (arith, h)) e

-- a term was taken out of its slot and of the map
module _ (es new : Entries) (old next : Slots) (m : Monomial) (slot : ℕ) (p : Place) (is : IsIndexed es old) where
  pub taken : Some p ≡ lookup (same m) es → new ≡ remove_entry (same m) es → IsTaken (terms_in es) (m, p.coefficient) (terms_in new)
  taken at gone = record {
    had = looked es m ∙ ap (option_map (λ p. p.coefficient)) (sym at);
    left = ap terms_in gone ∙ numbers-remove text_cmp (λ (p : Place). p.coefficient) (same m) es;
  }

  pub taken_indexed : Some m ≡ slot_at old slot → Changes old next slot None → Some p ≡ lookup (same m) es → new ≡ remove_entry (same m) es
      → ((q : Monomial) → lookup (same q) new ≡ cond (same m q) None (lookup (same q) es)) → IsIndexed new next
  taken_indexed held change at gone found =
      let e = entry_at es old slot m is (sym held) in
      let same_slot : slot ≡ p.slot = sym e.1.1 ∙ ap (λ (p : Place). p.slot) (one_of e.0 p (sym e.1.0 ∙ sym at)) in
      let P : Terms → Type 0 = IsMap in
      let H : ℕ → Type 0 = λ s. slot_at old s ≡ Some m in
      let C : ℕ → Type 0 = λ s. Changes old next s None in
      indexed_take es new old next m p is (subst P (sym (taken at gone).left) (removed_map m (terms_in es) is.is_map)) (subst H same_slot (sym held)) (subst C same_slot change) found
