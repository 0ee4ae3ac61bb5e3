-- A term added to a map of monomials in slots.
use Rattle.std.proofs.Common.{◌≡◌, ℕ, ◌≢◌, Bool, true, false, cond, List, [], ◌∷◌, Option, Some, None, bit_xor, refl, sym, ◌∙◌, ap, subst}
use Rattle.std.specs.declared.cmp.Ordering.TheVariants.{Less, Equal, Greater}
use Rattle.std.specs.BTreeMap.{insert_entry}
use Rattle.std.specs.Cmp.{eq_by_cmp_equiv}
use Rattle.std.specs.List.{AllByRecursion}
use Rattle.std.specs.List.Sorted.{IsStrictlySortedBy}
use Rattle.std.specs.Map.{lookup, keys_of, remove_entry}
use Rattle.std.specs.Option.{option_map}
use Rattle.std.specs.Ordering.{match_ordering, eq_by_cmp, is_eq, nat_cmp}
use Rattle.lists.specs.laws.BoolLaws.{either}
use Rattle.poly_mixed.specs.Monomial.{Monomial, text_cmp, text_cmp_total}
use Rattle.poly_mixed.specs.Polynomial.{Terms, Slots, IsMap}
use Rattle.poly_mixed.specs.Slots.{slot_at}
use Rattle.poly_mixed.specs.Sum.{plus_term}
use Rattle.poly_mixed.specs.private.Indexed.{Entries, terms_in, IsIndexed, Changes}
use Rattle.poly_mixed.specs.declared.place.Place.{Place}
use Rattle.poly_mixed.proofs.PlaceLemmas.{is_same, looked, numbers-insert, numbers-remove, keys-numbers, indexed_put, indexed_same, taken_indexed}
use Rattle.poly_mixed.proofs.TermLemmas.{plus_term-new, plus_term-old, plus_term-gone}
use Rattle.poly_mixed.proofs.ValueLemmas.{map_plus, one_map, nothing_map}

abbrev same : Monomial → Monomial → Bool
same m q = eq_by_cmp text_cmp m q

turned : (m q : Monomial) → same m q ≡ same q m
turned m q = (eq_by_cmp_equiv text_cmp_total).symm m q

-- what is found after an entry was put in
pub found_put : (q m : Monomial) (p : Place) (es : Entries) → lookup (same q) (insert_entry text_cmp es m p) ≡ cond (same m q) (Some p) (lookup (same q) es)
found_put q m p [] = ap (λ b. cond b (Some p) None) (turned q m)
found_put q m p (e ∷ es) =
    elim (text_cmp m e.0) as (λ r. text_cmp m e.0 ≡ r → lookup (same q) (match_ordering r ((m, p) ∷ e ∷ es) ((e.0, p) ∷ es) (e ∷ insert_entry text_cmp es m p)) ≡ cond (same m q) (Some p) (cond (same q e.0) (Some e.1) (lookup (same q) es))) [
      | Less ↦ λ h. ap (λ b. cond b (Some p) (cond (same q e.0) (Some e.1) (lookup (same q) es))) (turned q m)
      | Equal ↦ λ h.
          let here : m ≡ e.0 = is_same m e.0 (ap is_eq h) in
          let alike : same q e.0 ≡ same m q = ap (same q) (sym here) ∙ turned q m in
          ap (λ b. cond b (Some p) (lookup (same q) es)) alike
          ∙ elim (same m q) as (λ b. cond b (Some p) (lookup (same q) es) ≡ cond b (Some p) (cond b (Some e.1) (lookup (same q) es))) [ true ↦ refl | false ↦ refl ]
          ∙ sym (ap (λ b. cond (same m q) (Some p) (cond b (Some e.1) (lookup (same q) es))) alike)
      | Greater ↦ λ h.
          ap (cond (same q e.0) (Some e.1)) (found_put q m p es)
          ∙ either (same m q)
          (λ y.
          let P : Monomial → Type 0 = λ x. text_cmp x e.0 ≡ Greater in
          let off : same q e.0 ≡ false = ap is_eq (subst P (is_same m q y) h) in
          ap (λ b. cond b (Some e.1) (cond (same m q) (Some p) (lookup (same q) es))) off ∙ ap (λ b. cond b (Some p) (lookup (same q) es)) y ∙ sym (ap (λ b. cond b (Some p) (cond (same q e.0) (Some e.1) (lookup (same q) es))) y))
          (λ n. ap (λ b. cond (same q e.0) (Some e.1) (cond b (Some p) (lookup (same q) es))) n ∙ sym (ap (λ b. cond b (Some p) (cond (same q e.0) (Some e.1) (lookup (same q) es))) n))
    ] refl

none_above : (x : Monomial) (es : Entries) → AllByRecursion (λ y. text_cmp x y ≡ Less) (keys_of es) → lookup (same x) es ≡ None
none_above x [] up = refl
none_above x (e ∷ es) up = ap (λ r. cond (is_eq r) (Some e.1) (lookup (same x) es)) up.0 ∙ none_above x es up.1

-- what is found after an entry was taken out
pub found_taken : (q m : Monomial) (es : Entries) → IsStrictlySortedBy text_cmp (keys_of es) → lookup (same q) (remove_entry (same m) es) ≡ cond (same m q) None (lookup (same q) es)
unfolding IsStrictlySortedBy
found_taken q m [] s = elim (same m q) as (λ b. ◌≡◌ {A = Option Place} None (cond b None None)) [ true ↦ refl | false ↦ refl ]
found_taken q m (e ∷ es) s = either (same m e.0)
    (λ y.
    let here : m ≡ e.0 = is_same m e.0 y in
    let alike : same q e.0 ≡ same m q = ap (same q) (sym here) ∙ turned q m in
    ap (λ b. lookup (same q) (cond b es (e ∷ remove_entry (same m) es))) y
    ∙ either (same m q)
    (λ z.
    let P : Monomial → Type 0 = λ x. lookup (same x) es ≡ None in
    subst P (sym here ∙ is_same m q z) (none_above e.0 es s.0) ∙ sym (ap (λ b. cond b None (cond (same q e.0) (Some e.1) (lookup (same q) es))) z))
    (λ n. sym (ap (λ b. cond b None (cond (same q e.0) (Some e.1) (lookup (same q) es))) n ∙ ap (λ b. cond b (Some e.1) (lookup (same q) es)) (alike ∙ n))))
    (λ n.
    ap (λ b. lookup (same q) (cond b es (e ∷ remove_entry (same m) es))) n
    ∙ ap (cond (same q e.0) (Some e.1)) (found_taken q m es s.1)
    ∙ either (same m q)
    (λ z.
    let P : Monomial → Type 0 = λ x. same x e.0 ≡ false in
    let off : same q e.0 ≡ false = subst P (is_same m q z) n in
    ap (λ b. cond b (Some e.1) (cond (same m q) None (lookup (same q) es))) off ∙ ap (λ b. cond b None (lookup (same q) es)) z ∙ sym (ap (λ b. cond b None (cond (same q e.0) (Some e.1) (lookup (same q) es))) z))
    (λ z. ap (λ b. cond (same q e.0) (Some e.1) (cond b None (lookup (same q) es))) z ∙ sym (ap (λ b. cond b None (cond (same q e.0) (Some e.1) (lookup (same q) es))) z)))

-- where nothing is left
pub indexed_none : (es : Entries) (slots : Slots) → es ≡ [] → slots ≡ [] → IsIndexed es slots
indexed_none es slots e s =
    let E : Entries → Type 0 = λ es. IsIndexed es slots in
    let S : Slots → Type 0 = λ slots. IsIndexed [] slots in
    let none : IsIndexed [] [] = record { is_map = nothing_map; there = λ m slot h. absurd (cc); back = λ slot m h. absurd (cc) } in
    subst E (sym e) (subst S (sym s) none)

module _ (es new : Entries) (old : Slots) (m : Monomial) (c : ℕ) (is : IsIndexed es old) where
  keys_sorted : IsStrictlySortedBy text_cmp (keys_of es)
  keys_sorted = let P : List Monomial → Type 0 = IsStrictlySortedBy text_cmp in subst P (keys-numbers text_cmp (λ (p : Place). p.coefficient) es) is.is_map.sorted

  there_in : (p : Place) → lookup (same m) es ≡ Some p → lookup (same m) (terms_in es) ≡ Some p.coefficient
  there_in p had = looked es m ∙ ap (option_map (λ p. p.coefficient)) had

  sum_map : c ≢ 0 → IsStrictlySortedBy nat_cmp m.bits → terms_in new ≡ plus_term text_cmp (terms_in es) (m, c) → IsMap (terms_in new)
  sum_map n up e = let P : Terms → Type 0 = IsMap in subst P (sym e) (map_plus (terms_in es) ((m, c) ∷ []) is.is_map (one_map m c up n))

  pub added_new : (p : Place) → p.coefficient ≡ c → lookup (same m) es ≡ None → new ≡ insert_entry text_cmp es m p → terms_in new ≡ plus_term text_cmp (terms_in es) (m, c)
  added_new p of absent put =
      ap terms_in put ∙ numbers-insert text_cmp (λ (p : Place). p.coefficient) es m p ∙ ap (λ (n : ℕ). insert_entry text_cmp (terms_in es) m n) of
      ∙ sym (plus_term-new text_cmp (terms_in es) m c (looked es m ∙ ap (option_map (λ p. p.coefficient)) absent))

  pub added_old : (p : Place) (d : Place) → lookup (same m) es ≡ Some d → bit_xor d.coefficient c ≢ 0 → p.coefficient ≡ bit_xor d.coefficient c → new ≡ insert_entry text_cmp es m p → terms_in new ≡ plus_term text_cmp (terms_in es) (m, c)
  added_old p d had n of put =
      ap terms_in put ∙ numbers-insert text_cmp (λ (p : Place). p.coefficient) es m p ∙ ap (λ (n : ℕ). insert_entry text_cmp (terms_in es) m n) of
      ∙ sym (plus_term-old text_cmp text_cmp_total (terms_in es) m c d.coefficient is.is_map.sorted (there_in d had) n)

  pub added_gone : (d : Place) → lookup (same m) es ≡ Some d → bit_xor d.coefficient c ≡ 0 → new ≡ remove_entry (same m) es → terms_in new ≡ plus_term text_cmp (terms_in es) (m, c)
  added_gone d had z gone =
      ap terms_in gone ∙ numbers-remove text_cmp (λ (p : Place). p.coefficient) (same m) es
      ∙ sym (plus_term-gone text_cmp text_cmp_total (terms_in es) m c d.coefficient is.is_map.sorted (there_in d had) z)

  pub new_indexed : (next : Slots) (p : Place) → c ≢ 0 → IsStrictlySortedBy nat_cmp m.bits → p.coefficient ≡ c → lookup (same m) es ≡ None → slot_at old p.slot ≡ None → Changes old next p.slot (Some m) → new ≡ insert_entry text_cmp es m p → IsIndexed new next
  new_indexed next p n up of absent empty change put =
      indexed_put es new old next m p is (sum_map n up (added_new p of absent put)) absent empty change (λ q. ap (lookup (same q)) put ∙ found_put q m p es)

  pub old_indexed : (p : Place) (d : Place) → c ≢ 0 → IsStrictlySortedBy nat_cmp m.bits → lookup (same m) es ≡ Some d → bit_xor d.coefficient c ≢ 0 → p.coefficient ≡ bit_xor d.coefficient c → p.slot ≡ d.slot → new ≡ insert_entry text_cmp es m p → IsIndexed new old
  old_indexed p d n up had nz of at put =
      indexed_same es new old m d p is (sum_map n up (added_old p d had nz of put)) had at (λ q. ap (lookup (same q)) put ∙ found_put q m p es)

  pub gone_indexed : (next : Slots) (d : Place) → lookup (same m) es ≡ Some d → Changes old next d.slot None → new ≡ remove_entry (same m) es → IsIndexed new next
  gone_indexed next d had change gone =
      taken_indexed es new old next m d.slot d is (sym (is.there m d.slot (ap (option_map (λ p. p.slot)) had))) change (sym had) gone (λ q. ap (lookup (same q)) gone ∙ found_taken q m es keys_sorted)
