use Rattle.std.proofs.Common.{◌≡◌, ℕ, List, [], sym, ◌∙◌, ap, subst}
use Rattle.std.specs.List.{AllByRecursion}
use Rattle.std.proofs.lemmas.List.{nil_from_length}
use Rattle.std.proofs.lemmas.Result.{on_ok_weaker}
use Rattle.poly_mixed.specs.Cofactor.{cofactors, lacking}
use Rattle.poly_mixed.specs.Monomial.{text_cmp}
use Rattle.poly_mixed.specs.Polynomial.{Terms}
use Rattle.poly_mixed.specs.Sum.{plus}
use Rattle.rato_reduce.specs.private.CutTerms.{all_products, ArePutIn, IsBitTerm}
use Rattle.rato_reduce.specs.private.Pairs.{pair_sets}
use Rattle.rato_reduce.specs.BoundVariables.{ranks_of_inputs}
use Rattle.rato_reduce.specs.Monomials.{monomials}
use Rattle.rato_reduce.proofs.in_buckets.add_form.Goals as goal

pub returns-then-len-eq0 : goal.returns-then-len-eq0
returns-then-len-eq0 c =
    let sets = monomials c.args.form [] (ranks_of_inputs c.args.circuit.now c.args.gate.now) 0 1 in
    let nothing : c.args.part.now ≡ [] = nil_from_length c.args.part.now (sym c.len.ensures ∙ c.if-len-eq0.true) in
    record {
      sum = ap (λ (ts : Terms). plus text_cmp c.args.cut.now.terms (all_products (cofactors c.args.rank ts) sets)) (sym nothing);
      no_others = ap (lacking c.args.rank) nothing;
    }

pub add_rows-requires-clause-terms : goal.add_rows-requires-clause-terms
add_rows-requires-clause-terms c = let P : Terms → Type 0 = AllByRecursion IsBitTerm in subst P (sym c.parts.ensures) c.requires.part

pub add_all_products-requires : goal.add_all_products-requires
add_all_products-requires c = let P : Terms → Type 0 = AllByRecursion IsBitTerm in subst P (sym c.parts.ensures) c.requires.part

pub returns-in-Some : goal.returns-in-Some
returns-in-Some c =
    let old = c.args.cut.now.terms in
    let P : Terms → Type 0 = λ ts. ArePutIn c.args.rank ts (pair_sets c.in-Some.pair) old c.add_rows.new.cut.terms in
    let Q : List (List ℕ) → Type 0 = λ sets. ArePutIn c.args.rank c.args.part.now sets old c.add_rows.new.cut.terms in
    on_ok_weaker c.add_rows.result (λ e. subst Q c.in-Some.ensures.sets (subst P c.parts.ensures e)) c.add_rows.ensures

pub returns : goal.returns
returns c =
    let old = c.args.cut.now.terms in
    let new = c.add_all_products.new.cut.terms in
    let sets : c.deref.result.now ≡ monomials c.args.form [] (ranks_of_inputs c.args.circuit.now c.args.gate.now) 0 1 = c.deref.ensures.value ∙ c.in_ok-sets.ensures in
    let P : Terms → Type 0 = λ ts. ArePutIn c.args.rank ts c.deref.result.now old new in
    let Q : List (List ℕ) → Type 0 = λ ss. ArePutIn c.args.rank c.args.part.now ss old new in
    on_ok_weaker c.add_all_products.result (λ e. subst Q sets (subst P c.parts.ensures e)) c.add_all_products.ensures
