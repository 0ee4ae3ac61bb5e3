-- The only bit of a cut, and the line of another bit in its place.
use Rattle.std.proofs.Common.{◌≡◌, ◌≢◌, ℕ, Bool, true, false, cond, not, nat_eq, ◌||◌, List, [], ◌∷◌, ◌++◌, map, reverse, bit_xor, Option, Some, None, refl, sym, ◌∙◌, ap, subst, append-nil, arith}
use Rattle.std.specs.Prelude.{IfSome, IfNone}
use lib.Bits.{xor_zero_r}
use mathlib.Core.List.{reverse-cons}
use Rattle.std.proofs.lemmas.Bool.{eq-eqb}
use Rattle.std.specs.declared.cmp.Ordering.TheVariants.{Less}
use Rattle.std.specs.List.{AllByRecursion, filter}
use Rattle.poly_mixed.specs.Monomial.{Monomial, has_bit, text_cmp}
use Rattle.poly_mixed.specs.Polynomial.{Terms}
use Rattle.poly_mixed.specs.Cofactor.{LacksBit, cofactors, lacking, without_bit}
use Rattle.poly_mixed.specs.Sum.{plus}
use Rattle.poly_mixed.specs.Table.{table_bit}
use Rattle.poly_mixed.proofs.SimpleLemmas.{one_rank_rises}
use Rattle.stage_model.proofs.SharedLemmas.{plus_append}
use Rattle.rato_reduce.specs.Monomials.{monomials}
use Rattle.rato_reduce.specs.private.CutKey.{CutKey, key_of, no_bits, key_cmp}
use Rattle.rato_reduce.specs.private.CutTerms.{of_bits, term_of, cut_polynomial, with_constant, all_products, products, AreBitEntries, HasSetsPutIn, IsBitTerm, IsEntry}
use Rattle.rato_reduce.specs.private.EntryList.{only_or, IsExchanged, IsOtherBit}
use Rattle.rato_reduce.proofs.CutLemmas.{entry_terms}
use Rattle.rato_reduce.proofs.CutPartLemmas.{all_taken, sum_taken, put_back, part_is, line_products}
use Rattle.rato_reduce.proofs.ConstantLemmas.{before_bits, bit_entries_more, bit_terms_more, constant_entries, constant_lacks, constant_taken, constant_terms_more, no_bits_rise, no_entries}

-- ---- a term of one bit

has_one : (rank : ℕ) → has_bit rank (of_bits (rank ∷ [])) ≡ true
has_one rank = ap (λ b. b || false) (eq-eqb rank rank refl)

without_one : (rank : ℕ) → filter (λ r. not (nat_eq r rank)) (rank ∷ []) ≡ []
without_one rank = ap (λ b. cond (not b) (rank ∷ []) []) (eq-eqb rank rank refl)

one_cofactor : (rank c : ℕ) → cofactors rank ((of_bits (rank ∷ []), c) ∷ []) ≡ (of_bits [], c) ∷ []
one_cofactor rank c =
    ap (λ b. cond b ((without_bit rank (of_bits (rank ∷ [])), c) ∷ []) []) (has_one rank) ∙ ap (λ (bs : List ℕ). (of_bits bs, c) ∷ []) (without_one rank)

one_lacking : (rank c : ℕ) → lacking rank ((of_bits (rank ∷ []), c) ∷ []) ≡ []
one_lacking rank c = ap (λ b. cond (not b) ((of_bits (rank ∷ []), c) ∷ []) []) (has_one rank)

-- ---- entries of which the only one stands beside the map

module _ (places : List ℕ) (rank by : ℕ) (rest : List (CutKey × ℕ)) (old new : Option (CutKey × ℕ)) where
  pub exchanged : (r : Option ℕ) → IfSome r (λ c. IsOtherBit places rank by c old new) → IfSome r (λ c. IsExchanged places rank by c (only_or old rest) (only_or new rest))
  exchanged (Some c) is = record { key = is.key; old_is = ap (λ o. only_or o rest) is.old_is; bits = is.bits; new_is = ap (λ o. only_or o rest) is.new_is }
  exchanged None is = tt

  pub not_exchanged : (r : Option ℕ) → IfNone r (new ≡ old) → IfNone r (only_or new rest ≡ only_or old rest)
  not_exchanged (Some c) is = tt
  not_exchanged None is = ap (λ o. only_or o rest) is

  -- and it stays the only one
  pub still_only : (r : Option ℕ) → IfSome r (λ c. IsOtherBit places rank by c old new) → IfNone r (new ≡ old) → IfSome old (λ x. (rest ≡ []) × (x.1 ≢ 0)) → IfSome new (λ x. (rest ≡ []) × (x.1 ≢ 0))
  still_only (Some c) is same was = let P : Option (CutKey × ℕ) → Type 0 = λ o. IfSome o (λ x. (rest ≡ []) × (x.1 ≢ 0)) in subst P (sym is.new_is) (subst P is.old_is was)
  still_only None is same was = let P : Option (CutKey × ℕ) → Type 0 = λ o. IfSome o (λ x. (rest ≡ []) × (x.1 ≢ 0)) in subst P (sym same) was

-- ---- the only entry has another bit

module _ (places : List ℕ) (rank by c : ℕ) (old new : List (CutKey × ℕ)) (are : AreBitEntries places old) (made : IsExchanged places rank by c old new) where
  old_entry : IsEntry places (made.key, c)
  old_entry = let P : List (CutKey × ℕ) → Type 0 = AreBitEntries places in (subst P made.old_is are).are.each.0

  new_entry : IsEntry places (key_of places (by ∷ []), c)
  new_entry = record { key = refl; rising = one_rank_rises by; some = old_entry.some }

  behind : key_cmp no_bits (key_of places (by ∷ [])) ≡ Less
  behind = before_bits places (by ∷ []) (λ none. absurd (omega (arith, none)))

  pub exchanged_entries : AreBitEntries places new
  exchanged_entries =
      let P : List (CutKey × ℕ) → Type 0 = AreBitEntries places in
      subst P (sym made.new_is) (bit_entries_more places [] (key_of places (by ∷ []), c) (no_entries places) new_entry behind)

  module _ (constant : ℕ) where
    abbrev term : Monomial × ℕ
    term = (of_bits (rank ∷ []), c)

    -- the term without bits, if there is one
    abbrev rest : ℕ → Terms
    rest k = map term_of (with_constant k [])

    abbrev whole : Terms
    whole = (cut_polynomial (with_constant constant old)).terms

    all : map term_of (with_constant constant old) ≡ rest constant ++ reverse (term ∷ [])
    all =
        constant_taken constant old [] (term ∷ [])
        (ap (map term_of) made.old_is ∙ ap (λ (bs : List ℕ). (of_bits bs, c) ∷ []) made.bits ∙ sym (reverse-cons term []))

    both : AllByRecursion IsBitTerm (rest constant ++ reverse (term ∷ []))
    both = let P : Terms → Type 0 = AllByRecursion IsBitTerm in subst P all (entry_terms places (with_constant constant old) (constant_entries places constant old are).each)

    each : AllByRecursion IsBitTerm (term ∷ rest constant)
    each = all_taken IsBitTerm (term ∷ []) (rest constant) both

    lacks : LacksBit rank (rest constant)
    lacks = constant_lacks constant rank [] tt

    view : plus text_cmp [] (term ∷ rest constant) ≡ whole
    view = sum_taken (term ∷ []) (rest constant) both ∙ ap (plus text_cmp []) (sym all)

    left : plus text_cmp [] (rest constant) ≡ lacking rank whole
    left =
        ap (plus text_cmp (plus text_cmp [] (rest constant))) (sym (one_lacking rank c))
        ∙ put_back rank (term ∷ rest constant) (term ∷ []) (rest constant) refl each lacks
        ∙ ap (lacking rank) view

    cofactor : plus text_cmp [] ((of_bits [], c) ∷ []) ≡ cofactors rank whole
    cofactor =
        ap (plus text_cmp []) (sym (one_cofactor rank c))
        ∙ part_is rank (term ∷ rest constant) (term ∷ []) (rest constant) refl each lacks
        ∙ ap (cofactors rank) view

    -- the coefficient is added to the term without bits
    more : (one : Bool) → plus text_cmp [] (rest (bit_xor constant (cond one c 0))) ≡ plus text_cmp (plus text_cmp [] (rest constant)) (cond one ((of_bits [], c) ∷ []) [])
    more true = constant_terms_more places constant c [] (no_entries places) old_entry.some
    more false = ap (λ n. plus text_cmp [] (rest n)) (xor_zero_r constant)

    sum : (form : ℕ) → table_bit form 1 ≡ true
        → (cut_polynomial (with_constant (bit_xor constant (cond (table_bit form 0) c 0)) new)).terms ≡ plus text_cmp (lacking rank whole) (all_products ((of_bits [], c) ∷ []) (monomials form [] (by ∷ []) 0 1))
    sum form bit =
        let sets = monomials form [] (by ∷ []) 0 1 in
        let k : ℕ = bit_xor constant (cond (table_bit form 0) c 0) in
        let one : Terms = cond (table_bit form 0) ((of_bits [], c) ∷ []) [] in
        let other : Terms = (of_bits (by ∷ []), c) ∷ [] in
        let are_products : products (of_bits [], c) sets ≡ one ++ other = line_products form by (of_bits [], c) ∙ ap (λ b. one ++ cond b other []) bit in
        ap (λ es. (cut_polynomial (with_constant k es)).terms) made.new_is
        ∙ bit_terms_more places k [] (key_of places (by ∷ []), c) (no_entries places) new_entry behind
        ∙ ap (λ (ts : Terms). plus text_cmp ts other) (more (table_bit form 0))
        ∙ sym (plus_append (plus text_cmp [] (rest constant)) one other)
        ∙ ap (plus text_cmp (plus text_cmp [] (rest constant))) (sym (append-nil (products (of_bits [], c) sets) ∙ are_products))
        ∙ ap (λ (ts : Terms). plus text_cmp ts (all_products ((of_bits [], c) ∷ []) sets)) left

    pub line_put : (form : ℕ) → table_bit form 1 ≡ true
        → HasSetsPutIn rank (monomials form [] (by ∷ []) 0 1) whole (cut_polynomial (with_constant (bit_xor constant (cond (table_bit form 0) c 0)) new)).terms
    line_put form bit = record {
      part = (of_bits [], c) ∷ [];
      each = (record { no_words = refl; rising = no_bits_rise; some = old_entry.some }, tt);
      part_is = cofactor;
      new_is = sum form bit;
    }
