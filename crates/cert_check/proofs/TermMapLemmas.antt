-- A term added to a map of monomials.
use Rattle.std.proofs.Common.{◌≡◌, ◌≢◌, ◌∙◌, sym, subst, ℕ, [], ◌∷◌, Some, None, bit_xor}
use Rattle.std.specs.BTreeMap.{insert_entry}
use Rattle.std.specs.List.Sorted.{IsStrictlySortedBy}
use Rattle.std.specs.Map.{lookup, remove_entry}
use Rattle.std.specs.Ordering.{eq_by_cmp, nat_cmp}
use Rattle.poly_mixed.specs.Monomial.{Monomial, text_cmp, text_cmp_total}
use Rattle.poly_mixed.specs.Polynomial.{Terms, IsMap}
use Rattle.poly_mixed.specs.Sum.{plus_term}
use Rattle.poly_mixed.proofs.TermLemmas.{plus_term-new, plus_term-old, plus_term-gone}
use Rattle.poly_mixed.proofs.ValueLemmas.{map_plus, one_map}

module _ (ts new : Terms) (m : Monomial) (c : ℕ) (is : IsMap ts) where
  pub added_new : lookup (eq_by_cmp text_cmp m) ts ≡ None → new ≡ insert_entry text_cmp ts m c → new ≡ plus_term text_cmp ts (m, c)
  added_new absent put = put ∙ sym (plus_term-new text_cmp ts m c absent)

  pub added_old : (d : ℕ) → lookup (eq_by_cmp text_cmp m) ts ≡ Some d → bit_xor d c ≢ 0 → new ≡ insert_entry text_cmp ts m (bit_xor d c) → new ≡ plus_term text_cmp ts (m, c)
  added_old d had some put = put ∙ sym (plus_term-old text_cmp text_cmp_total ts m c d is.sorted had some)

  pub added_gone : (d : ℕ) → lookup (eq_by_cmp text_cmp m) ts ≡ Some d → bit_xor d c ≡ 0 → new ≡ remove_entry (eq_by_cmp text_cmp m) ts → new ≡ plus_term text_cmp ts (m, c)
  added_gone d had none gone = gone ∙ sym (plus_term-gone text_cmp text_cmp_total ts m c d is.sorted had none)

  pub sum_map : c ≢ 0 → IsStrictlySortedBy nat_cmp m.bits → new ≡ plus_term text_cmp ts (m, c) → IsMap new
  sum_map some up added = let P : Terms → Type 0 = IsMap in subst P (sym added) (map_plus ts ((m, c) ∷ []) is (one_map m c up some))
