-- Lemmas that several crates above cite.
use Rattle.std.proofs.Common.{◌≡◌, ◌≢◌, ◌∙◌, ap, sym, refl, subst, inl, inr, ℕ, zero, suc, ◌+◌, ◌*◌, ◌<◌, ◌≤◌, Bool, cond, not, List, [], ◌∷◌, ◌++◌, Some, arith}
use Rattle.std.specs.List.{AllByRecursion}
use Rattle.std.specs.Prelude.{slice_get}
use Rattle.std.proofs.lemmas.Bool.{eq-eqb, ne_eqb, cases_lt, true≢false}
use Rattle.lists.specs.Lists.{Has}
use Rattle.lists.specs.laws.ListLaws.{any_equal, all_below}
use Rattle.lists.specs.laws.NumberLaws.{nat_eq_or}
use Rattle.net_core.specs.Value.{bit_of, index_of}
use Rattle.poly_mixed.specs.Cofactor.{LacksBit}
use Rattle.poly_mixed.specs.Monomial.{text_cmp}
use Rattle.poly_mixed.specs.Polynomial.{Terms}
use Rattle.poly_mixed.specs.Sum.{plus, plus_term}
use Rattle.poly_mixed.specs.Table.{index}
use Rattle.stage_model.specs.Variables.{rank_in}

pub index_same : (bits : List Bool) (f : ℕ → Bool) (ns : List ℕ) → ((n : ℕ) → Has ns n → bit_of bits n ≡ f n) → index_of bits ns ≡ index f ns
index_same bits f [] same = refl
index_same bits f (n ∷ ns) same = (λ i. cond (same n (0, refl) i) 1 0 + 2 * index_same bits f ns (λ m has. same m (suc has.0, has.1)) i)

-- a net that stands in the list stands at its rank
pub at_rank : (variables : List ℕ) (n : ℕ) → Has variables n → slice_get variables (rank_in variables n) ≡ Some n
at_rank [] n has = let got = has.1 in absurd (cc)
at_rank (m ∷ ms) n has = elim (nat_eq_or m n) [
  | inl same ↦ ap (λ b. slice_get (m ∷ ms) (cond (not b) (1 + rank_in ms n) 0)) (eq-eqb m n same) ∙ ap Some same
  | inr other ↦ ap (λ b. slice_get (m ∷ ms) (cond (not b) (1 + rank_in ms n) 0)) (ne_eqb m n other) ∙ (next (rank_in ms n) ∙ at_rank ms n (rest other has))
]
  where
    rest : m ≢ n → Has (m ∷ ms) n → Has ms n
    rest other (zero, got) = absurd (other (cc))
    rest other (suc k, got) = (k, got)

    next : (r : ℕ) → slice_get (m ∷ ms) (1 + r) ≡ slice_get ms r
    next r = let same : 1 + r ≡ suc r = omega arith in ap (λ k. slice_get (m ∷ ms) k) same

-- two nets of the list have different ranks
pub rank_apart : (variables : List ℕ) (n m : ℕ) → Has variables n → Has variables m → n ≢ m → rank_in variables n ≢ rank_in variables m
rank_apart variables n m has_n has_m apart same =
    let at_n : slice_get variables (rank_in variables n) ≡ Some n = at_rank variables n has_n in
    let at_m : slice_get variables (rank_in variables m) ≡ Some m = at_rank variables m has_m in
    let both : Some n ≡ Some m = sym at_n ∙ (ap (λ r. slice_get variables r) same ∙ at_m) in
    apart (cc)

-- the sum of terms, one list after the other
pub plus_append : (old ts us : Terms) → plus text_cmp old (ts ++ us) ≡ plus text_cmp (plus text_cmp old ts) us
plus_append old [] us = refl
plus_append old (t ∷ ts) us = plus_append (plus_term text_cmp old t) ts us

-- where no rank from a bound on stands in the terms, all of their bits are below it
pub named_terms : (count : ℕ) (ts : Terms) → ((rank : ℕ) → count ≤ rank → LacksBit rank ts) → AllByRecursion (λ t. AllByRecursion (λ r. r < count) t.0.bits) ts
named_terms count [] lack = tt
named_terms count (t ∷ ts) lack = (all_below count t.0.bits below, named_terms count ts (λ rank high. (lack rank high).1))
  where
    below : (k r : ℕ) → slice_get t.0.bits k ≡ Some r → r < count
    below k r got = elim (cases_lt r count) [
      | inl less ↦ less
      | inr high ↦ absurd (true≢false (sym (any_equal r t.0.bits k got) ∙ (lack r high).0))
    ]

-- where no term has a bit, all of its bits are below any bound
pub no_names : (count : ℕ) (ts : Terms) → AllByRecursion (λ t. t.0.bits ≡ []) ts → AllByRecursion (λ t. AllByRecursion (λ r. r < count) t.0.bits) ts
no_names count [] none = tt
no_names count (t ∷ ts) none = (let P : List ℕ → Type 0 = AllByRecursion (λ r. r < count) in subst P (sym none.0) tt, no_names count ts none.1)
