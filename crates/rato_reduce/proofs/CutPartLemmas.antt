-- What loops take from a cut, and what they add to it.
use Rattle.std.proofs.Common.{◌≡◌, ℕ, reverse, Bool, true, false, cond, not, List, [], ◌∷◌, ◌++◌, map, bit_xor, refl, sym, ◌∙◌, ap, subst, append-nil}
use lib.Bits.{xor_zero_r, xor_comm}
use Rattle.std.specs.List.{AllByRecursion}
use Rattle.std.proofs.lemmas.List.{append_assoc, map-append, reverse-append}
use Rattle.lists.specs.laws.ListLaws.{all_append}
use mathlib.Core.List.{reverse-cons}
use Rattle.poly_mixed.specs.Monomial.{Monomial, has_bit, text_cmp, text_cmp_total}
use Rattle.poly_mixed.specs.Polynomial.{Terms, IsTerm}
use Rattle.poly_mixed.specs.Cofactor.{LacksBit, lacking, cofactors, without_bit}
use Rattle.poly_mixed.specs.Sum.{xor_sum, plus}
use Rattle.poly_mixed.proofs.CofactorLemmas.{lacking_all, lacking_map, none_of_absent, absent_of_none, all_lacking, cofactor_terms}
use Rattle.poly_mixed.proofs.MonomialLemmas.{text_cmp-same}
use Rattle.poly_mixed.proofs.SumLemmas.{at, at_additive, found_is_sum, xor_sum-plus}
use Rattle.poly_mixed.proofs.ValueLemmas.{same_map}
use Rattle.rato_reduce.specs.private.CutKey.{CutKey}
use Rattle.rato_reduce.specs.private.CutTerms.{of_bits, ArePutIn, IsBitTerm, term_of, IsTaken, products, all_products}
use Rattle.poly_mixed.specs.Product.{union, with_rank}
use Rattle.poly_mixed.specs.Table.{table_bit}
use Rattle.rato_reduce.specs.Monomials.{monomials}
use Rattle.rato_reduce.proofs.CutLemmas.{coefficient_sum, sum_map_is, nothing_map, all_unit}
use Rattle.rato_reduce.proofs.ProductLemmas.{sum_append}
use Rattle.rato_reduce.proofs.CutBitLemmas.{cofactors_of_sum, lacking_of_sum}
use Rattle.stage_model.proofs.SharedLemmas.{plus_append}

-- ---- the end of the entries was taken, its terms without the bit were put back

pub lacking_append : (bit : ℕ) (ts us : Terms) → lacking bit (ts ++ us) ≡ lacking bit ts ++ lacking bit us
lacking_append bit [] us = refl
lacking_append bit (t ∷ ts) us = ap (λ rest. cond (not (has_bit bit t.0)) (t ∷ rest) rest) (lacking_append bit ts us)
    ∙ elim (has_bit bit t.0) as (λ b. cond (not b) (t ∷ (lacking bit ts ++ lacking bit us)) (lacking bit ts ++ lacking bit us) ≡ cond (not b) (t ∷ lacking bit ts) (lacking bit ts) ++ lacking bit us) [ true ↦ refl | false ↦ refl ]

pub cofactors_append : (bit : ℕ) (ts us : Terms) → cofactors bit (ts ++ us) ≡ cofactors bit ts ++ cofactors bit us
cofactors_append bit [] us = refl
cofactors_append bit (t ∷ ts) us = ap (λ rest. cond (has_bit bit t.0) ((without_bit bit t.0, t.1) ∷ rest) rest) (cofactors_append bit ts us)
    ∙ elim (has_bit bit t.0) as (λ b. cond b ((without_bit bit t.0, t.1) ∷ (cofactors bit ts ++ cofactors bit us)) (cofactors bit ts ++ cofactors bit us) ≡ cond b ((without_bit bit t.0, t.1) ∷ cofactors bit ts) (cofactors bit ts) ++ cofactors bit us) [ true ↦ refl | false ↦ refl ]

all_front : (P : Monomial × ℕ → Type 0) (ts us : Terms) → AllByRecursion P (ts ++ us) → AllByRecursion P ts
all_front P [] us all = tt
all_front P (t ∷ ts) us all = (all.0, all_front P ts us all.1)

all_end : (P : Monomial × ℕ → Type 0) (ts us : Terms) → AllByRecursion P (ts ++ us) → AllByRecursion P us
all_end P [] us all = all
all_end P (t ∷ ts) us all = all_end P ts us all.1

sum_reversed : (f : Monomial × ℕ → ℕ) (ts : Terms) → xor_sum f (reverse ts) ≡ xor_sum f ts
sum_reversed f [] = refl
sum_reversed f (t ∷ ts) =
    ap (xor_sum f) (reverse-cons t ts)
    ∙ sum_append f (reverse ts) (t ∷ [])
    ∙ (λ i. bit_xor (sum_reversed f ts i) (xor_zero_r (f t) i))
    ∙ xor_comm (xor_sum f ts) (f t)

all_reversed : (P : Monomial × ℕ → Type 0) (ts : Terms) → AllByRecursion P (reverse ts) → AllByRecursion P ts
all_reversed P [] all = tt
all_reversed P (t ∷ ts) all =
    let Q : Terms → Type 0 = AllByRecursion P in
    let both = subst Q (reverse-cons t ts) all in
    ((all_end P (reverse ts) (t ∷ []) both).0, all_reversed P ts (all_front P (reverse ts) (t ∷ []) both))

-- what was taken from the end, the last first, before the rest: the same terms
pub all_taken : (P : Monomial × ℕ → Type 0) (taken rest : Terms) → AllByRecursion P (rest ++ reverse taken) → AllByRecursion P (taken ++ rest)
all_taken P taken rest all = all_append P taken rest (all_reversed P taken (all_end P rest (reverse taken) all)) (all_front P rest (reverse taken) all)

pub sum_taken : (taken rest : Terms) → AllByRecursion IsBitTerm (rest ++ reverse taken) → plus text_cmp [] (taken ++ rest) ≡ plus text_cmp [] (rest ++ reverse taken)
sum_taken taken rest each =
    let other = all_taken IsBitTerm taken rest each in
    same_map (plus text_cmp [] (taken ++ rest)) (plus text_cmp [] (rest ++ reverse taken)) (sum_map_is [] (taken ++ rest) nothing_map other) (sum_map_is [] (rest ++ reverse taken) nothing_map each)
    (λ q.
    coefficient_sum (taken ++ rest) q
    ∙ sum_append (at text_cmp q) taken rest
    ∙ xor_comm (xor_sum (at text_cmp q) taken) (xor_sum (at text_cmp q) rest)
    ∙ ap (bit_xor (xor_sum (at text_cmp q) rest)) (sym (sum_reversed (at text_cmp q) taken))
    ∙ sym (sum_append (at text_cmp q) rest (reverse taken))
    ∙ sym (coefficient_sum (rest ++ reverse taken) q))

-- whole are the terms of all entries, front those taken, rest those of the others
module _ (bit : ℕ) (whole front rest : Terms) (are : whole ≡ front ++ rest) (each : AllByRecursion IsBitTerm whole) (lacks : LacksBit bit rest) where
  both : AllByRecursion IsBitTerm (front ++ rest)
  both = (let P : Terms → Type 0 = AllByRecursion IsBitTerm in subst P are each)

  pub front_terms : AllByRecursion IsBitTerm front
  front_terms = all_front IsBitTerm front rest both

  pub put_back : plus text_cmp (plus text_cmp [] rest) (lacking bit front) ≡ lacking bit (plus text_cmp [] whole)
  put_back =
      let few = plus text_cmp [] rest in
      let rest_terms = all_end IsBitTerm front rest both in
      let few_map = sum_map_is [] rest nothing_map rest_terms in
      let others = lacking_all IsBitTerm bit front front_terms in
      let all_map = sum_map_is few (lacking bit front) few_map others in
      same_map (plus text_cmp few (lacking bit front)) (lacking bit (plus text_cmp [] whole)) all_map (lacking_map bit (plus text_cmp [] whole) (sum_map_is [] whole nothing_map each))
      (λ q.
      found_is_sum text_cmp text_cmp_total (plus text_cmp few (lacking bit front)) q all_map.sorted
      ∙ xor_sum-plus text_cmp text_cmp-same (λ _. Unit {0}) (at text_cmp q) (at_additive text_cmp q) (λ x y _ _. tt) few (lacking bit front) (all_unit few) (all_unit (lacking bit front))
      ∙ ap (λ n. bit_xor n (xor_sum (at text_cmp q) (lacking bit front))) (sym (found_is_sum text_cmp text_cmp_total few q few_map.sorted) ∙ coefficient_sum rest q ∙ ap (xor_sum (at text_cmp q)) (sym (all_lacking bit rest lacks)))
      ∙ xor_comm (xor_sum (at text_cmp q) (lacking bit rest)) (xor_sum (at text_cmp q) (lacking bit front))
      ∙ sym (sum_append (at text_cmp q) (lacking bit front) (lacking bit rest))
      ∙ ap (xor_sum (at text_cmp q)) (sym (lacking_append bit front rest) ∙ ap (lacking bit) (sym are))
      ∙ sym (lacking_of_sum bit q whole each))

  pub part_is : plus text_cmp [] (cofactors bit front) ≡ cofactors bit (plus text_cmp [] whole)
  part_is =
      ap (plus text_cmp []) (sym (append-nil (cofactors bit front)) ∙ ap (λ us. cofactors bit front ++ us) (sym (none_of_absent bit rest lacks)) ∙ sym (cofactors_append bit front rest) ∙ ap (cofactors bit) (sym are))
      ∙ sym (cofactors_of_sum bit whole each)

  pub part_over : (k : ℕ) → AllByRecursion (IsTerm k) whole → AllByRecursion (IsTerm k) (cofactors bit front)
  part_over k over = (let P : Terms → Type 0 = AllByRecursion (IsTerm k) in cofactor_terms k bit front (all_front (IsTerm k) front rest (subst P are over)))

  pub none_without : LacksBit bit whole → cofactors bit front ≡ []
  none_without none = (let P : Terms → Type 0 = LacksBit bit in none_of_absent bit front (all_front (λ t. has_bit bit t.0 ≡ false) front rest (subst P are none)))

  pub without_none : cofactors bit front ≡ [] → LacksBit bit (plus text_cmp [] whole)
  without_none none = absent_of_none bit (plus text_cmp [] whole) (sym part_is ∙ ap (plus text_cmp []) none)

-- ---- turns of loops

-- one entry more was taken
pub take_step : (rank : ℕ) (whole before after : List (CutKey × ℕ)) (part others new_part new_others : Terms) (e : CutKey × ℕ) → IsTaken rank whole before part others → before ≡ after ++ e ∷ []
    → new_part ≡ part ++ cofactors rank (term_of e ∷ []) → new_others ≡ others ++ lacking rank (term_of e ∷ []) → IsTaken rank whole after new_part new_others
take_step rank whole before after part others new_part new_others e so_far are part_is others_are = record {
  taken = so_far.taken ++ term_of e ∷ [];
  all =
      so_far.all
      ∙ ap (λ es. map term_of es ++ reverse so_far.taken) are
      ∙ ap (λ us. us ++ reverse so_far.taken) (map-append term_of after (e ∷ []))
      ∙ append_assoc (map term_of after) (term_of e ∷ []) (reverse so_far.taken)
      ∙ ap (λ us. map term_of after ++ us) (sym (reverse-append so_far.taken (term_of e ∷ [])));
  part_is = part_is ∙ ap (λ us. us ++ cofactors rank (term_of e ∷ [])) so_far.part_is ∙ sym (cofactors_append rank so_far.taken (term_of e ∷ []));
  others_are = others_are ∙ ap (λ us. us ++ lacking rank (term_of e ∷ [])) so_far.others_are ∙ sym (lacking_append rank so_far.taken (term_of e ∷ []));
}

pub nothing_taken : (rank : ℕ) (entries : List (CutKey × ℕ)) (part others : Terms) → part ≡ [] → others ≡ [] → IsTaken rank entries entries part others
nothing_taken rank entries part others none nothing = record { taken = []; all = sym (append-nil (map term_of entries)); part_is = none; others_are = nothing }

pub step_terms : (old new goal : Terms) (t : Monomial × ℕ) (rest ts : Terms) → rest ≡ t ∷ ts → plus text_cmp old rest ≡ goal → new ≡ plus text_cmp old (t ∷ []) → plus text_cmp new ts ≡ goal
step_terms old new goal t rest ts next so_far step = ap (λ us. plus text_cmp us ts) step ∙ ap (plus text_cmp old) (sym next) ∙ so_far

-- the products of a term and the form of a table of one bit
pub line_products : (form rank : ℕ) (t : Monomial × ℕ)
    → products t (monomials form [] (rank ∷ []) 0 1) ≡ cond (table_bit form 0) ((of_bits t.0.bits, t.1) ∷ []) [] ++ cond (table_bit form 1) ((of_bits (with_rank t.0.bits rank), t.1) ∷ []) []
line_products form rank t =
    elim (table_bit form 0) as (λ a. products t (cond a ([] ∷ []) [] ++ cond (table_bit form 1) ((rank ∷ []) ∷ []) []) ≡ cond a ((of_bits t.0.bits, t.1) ∷ []) [] ++ cond (table_bit form 1) ((of_bits (with_rank t.0.bits rank), t.1) ∷ []) []) [
      | true ↦ elim (table_bit form 1) as (λ b. products t (([] ∷ []) ++ cond b ((rank ∷ []) ∷ []) []) ≡ ((of_bits t.0.bits, t.1) ∷ []) ++ cond b ((of_bits (with_rank t.0.bits rank), t.1) ∷ []) []) [ true ↦ refl | false ↦ refl ]
      | false ↦ elim (table_bit form 1) as (λ b. products t (cond b ((rank ∷ []) ∷ []) []) ≡ cond b ((of_bits (with_rank t.0.bits rank), t.1) ∷ []) []) [ true ↦ refl | false ↦ refl ]
    ]

pub line_added : (old mid new : Terms) (form rank : ℕ) (t : Monomial × ℕ) → mid ≡ plus text_cmp old (cond (table_bit form 0) ((of_bits t.0.bits, t.1) ∷ []) []) → new ≡ plus text_cmp mid (cond (table_bit form 1) ((of_bits (with_rank t.0.bits rank), t.1) ∷ []) [])
    → new ≡ plus text_cmp old (products t (monomials form [] (rank ∷ []) 0 1))
line_added old mid new form rank t first second =
    second
    ∙ ap (λ us. plus text_cmp us (cond (table_bit form 1) ((of_bits (with_rank t.0.bits rank), t.1) ∷ []) [])) first
    ∙ sym (plus_append old (cond (table_bit form 0) ((of_bits t.0.bits, t.1) ∷ []) []) (cond (table_bit form 1) ((of_bits (with_rank t.0.bits rank), t.1) ∷ []) []))
    ∙ ap (plus text_cmp old) (sym (line_products form rank t))

products_append : (t : Monomial × ℕ) (ms ns : List (List ℕ)) → products t (ms ++ ns) ≡ products t ms ++ products t ns
products_append t [] ns = refl
products_append t (m ∷ ms) ns = ap (λ us. (of_bits (union t.0.bits m), t.1) ∷ us) (products_append t ms ns)

-- the product of a term and of a set, if it is to be added
abbrev chosen_product : Bool → List ℕ → Monomial × ℕ → Terms
chosen_product b n t = cond b ((of_bits (union t.0.bits n), t.1) ∷ []) []

one_set : (b : Bool) (n : List ℕ) (t : Monomial × ℕ) → products t (cond b (n ∷ []) []) ≡ chosen_product b n t
one_set b n t = elim b as (λ v. products t (cond v (n ∷ []) []) ≡ cond v ((of_bits (union t.0.bits n), t.1) ∷ []) []) [ true ↦ refl | false ↦ refl ]

two_sets : (a b : Bool) (m n : List ℕ) (t : Monomial × ℕ) → products t (cond a (m ∷ []) [] ++ cond b (n ∷ []) []) ≡ chosen_product a m t ++ chosen_product b n t
two_sets a b m n t = products_append t (cond a (m ∷ []) []) (cond b (n ∷ []) []) ∙ (λ i. one_set a m t i ++ one_set b n t i)

-- the products of a term and of at most four sets
four_products : (a b c d : Bool) (k l m n : List ℕ) (t : Monomial × ℕ)
    → products t ((cond a (k ∷ []) [] ++ cond b (l ∷ []) []) ++ (cond c (m ∷ []) [] ++ cond d (n ∷ []) [])) ≡ (chosen_product a k t ++ chosen_product b l t) ++ (chosen_product c m t ++ chosen_product d n t)
four_products a b c d k l m n t =
    products_append t (cond a (k ∷ []) [] ++ cond b (l ∷ []) []) (cond c (m ∷ []) [] ++ cond d (n ∷ []) [])
    ∙ (λ i. two_sets a b k l t i ++ two_sets c d m n t i)

pub four_added : (old one two three new : Terms) (a b c d : Bool) (k l m n : List ℕ) (t : Monomial × ℕ) → one ≡ plus text_cmp old (chosen_product a k t) → two ≡ plus text_cmp one (chosen_product b l t)
    → three ≡ plus text_cmp two (chosen_product c m t) → new ≡ plus text_cmp three (chosen_product d n t)
    → new ≡ plus text_cmp old (products t ((cond a (k ∷ []) [] ++ cond b (l ∷ []) []) ++ (cond c (m ∷ []) [] ++ cond d (n ∷ []) [])))
four_added old one two three new a b c d k l m n t one_is two_is three_is new_is =
    let v = chosen_product a k t in
    let w = chosen_product b l t in
    let x = chosen_product c m t in
    let y = chosen_product d n t in
    new_is
    ∙ ap (λ us. plus text_cmp us y) (three_is ∙ ap (λ us. plus text_cmp us x) (two_is ∙ ap (λ us. plus text_cmp us w) one_is ∙ sym (plus_append old v w)))
    ∙ sym (plus_append (plus text_cmp old (v ++ w)) x y)
    ∙ sym (plus_append old (v ++ w) (x ++ y))
    ∙ ap (plus text_cmp old) (sym (four_products a b c d k l m n t))

-- the products of a term and the form of a table of two bits
pub pair_added : (old one high low new : Terms) (form first second : ℕ) (t : Monomial × ℕ) → one ≡ plus text_cmp old (chosen_product (table_bit form 0) [] t) → high ≡ plus text_cmp one (chosen_product (table_bit form 2) (second ∷ []) t)
    → low ≡ plus text_cmp high (chosen_product (table_bit form 1) (first ∷ []) t) → new ≡ plus text_cmp low (chosen_product (table_bit form 3) (with_rank (first ∷ []) second) t)
    → new ≡ plus text_cmp old (products t (monomials form [] (first ∷ second ∷ []) 0 1))
pair_added old one high low new form first second t = four_added old one high low new (table_bit form 0) (table_bit form 2) (table_bit form 1) (table_bit form 3) [] (second ∷ []) (first ∷ []) (with_rank (first ∷ []) second) t

pub step_products : (old new goal : Terms) (t : Monomial × ℕ) (rest ts : Terms) (sets : List (List ℕ)) → rest ≡ t ∷ ts → plus text_cmp old (all_products rest sets) ≡ goal → new ≡ plus text_cmp old (products t sets)
    → plus text_cmp new (all_products ts sets) ≡ goal
step_products old new goal t rest ts sets next so_far step =
    ap (λ us. plus text_cmp us (all_products ts sets)) step
    ∙ sym (plus_append old (products t sets) (all_products ts sets))
    ∙ ap (λ r. plus text_cmp old (all_products r sets)) (sym next)
    ∙ so_far

-- ---- the terms with a bit, without it

all_products_append : (ts us : Terms) (sets : List (List ℕ)) → all_products (ts ++ us) sets ≡ all_products ts sets ++ all_products us sets
all_products_append [] us sets = refl
all_products_append (t ∷ ts) us sets = ap (λ vs. products t sets ++ vs) (all_products_append ts us sets) ∙ sym (append_assoc (products t sets) (all_products ts sets) (all_products us sets))

-- one term more was put in
pub step_put : (old new goal : Terms) (rank : ℕ) (t : Monomial × ℕ) (rest ts : Terms) (sets : List (List ℕ)) → rest ≡ t ∷ ts → plus text_cmp old (all_products (cofactors rank rest) sets) ≡ goal → ArePutIn rank (t ∷ []) sets old new
    → plus text_cmp new (all_products (cofactors rank ts) sets) ≡ goal
step_put old new goal rank t rest ts sets next so_far put =
    let one = cofactors rank (t ∷ []) in
    ap (λ us. plus text_cmp us (all_products (cofactors rank ts) sets)) put.sum
    ∙ sym (plus_append old (all_products one sets) (all_products (cofactors rank ts) sets))
    ∙ ap (plus text_cmp old) (sym (all_products_append one (cofactors rank ts) sets) ∙ ap (λ us. all_products us sets) (sym (cofactors_append rank (t ∷ []) ts) ∙ ap (cofactors rank) (sym next)))
    ∙ so_far

pub step_others : (old new : Terms) (rank : ℕ) (t : Monomial × ℕ) (rest ts goal : Terms) (sets : List (List ℕ)) → rest ≡ t ∷ ts → lacking rank rest ≡ goal → ArePutIn rank (t ∷ []) sets old new → lacking rank ts ≡ goal
step_others old new rank t rest ts goal sets next so_far put =
    sym (ap (lacking rank) next ∙ lacking_append rank (t ∷ []) ts ∙ ap (λ us. us ++ lacking rank ts) put.no_others) ∙ so_far

-- a term was put in
pub one_put_in : (old new : Terms) (rank : ℕ) (t u : Monomial × ℕ) (sets : List (List ℕ)) → u ∷ [] ≡ cofactors rank (t ∷ []) → lacking rank (t ∷ []) ≡ [] → new ≡ plus text_cmp old (products u sets) → ArePutIn rank (t ∷ []) sets old new
one_put_in old new rank t u sets without has sum = record {
  sum = sum ∙ ap (plus text_cmp old) (sym (append-nil (products u sets)) ∙ ap (λ us. all_products us sets) without);
  no_others = has;
}
