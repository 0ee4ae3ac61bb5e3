use Rattle.std.proofs.Common.{◌≡◌, ◌∷◌, [], ℕ, List, true, cond, bit_xor, sym, ◌∙◌, ap, subst}
use Rattle.poly_mixed.specs.Polynomial.{Terms}
use Rattle.poly_mixed.specs.Table.{table_bit}
use Rattle.rato_reduce.specs.Monomials.{monomials}
use Rattle.rato_reduce.specs.private.CutKey.{CutKey}
use Rattle.rato_reduce.specs.private.CutTerms.{AreBitEntries, CutPolynomial, HasSetsPutIn, cut_polynomial, with_constant}
use Rattle.rato_reduce.specs.private.EntryList.{IsExchanged}
use Rattle.rato_reduce.proofs.LineLemmas.{exchanged_entries, line_put}
use Rattle.rato_reduce.proofs.cut.Cut.put_line.Goals as goal

pub invariant_of-self : goal.invariant_of-self
invariant_of-self c =
    let M : List ℕ → Type 0 = λ places. IsExchanged places c.args.rank c.args.by c.in-Some.c c.self.inside.map.entries c.exchange.new.self.entries in
    let made : IsExchanged c.self.inside.places.items c.args.rank c.args.by c.in-Some.c c.self.inside.map.entries c.exchange.new.self.entries = subst M c.as_slice.ensures.value c.in-Some.ensures.some in
    exchanged_entries c.self.inside.places.items c.args.rank c.args.by c.in-Some.c c.self.inside.map.entries c.exchange.new.self.entries c.self.invariant made

pub invariant_of-self-in-None : goal.invariant_of-self-in-None
invariant_of-self-in-None c = let P : List (CutKey × ℕ) → Type 0 = AreBitEntries c.self.inside.places.items in subst P (sym c.in-None.ensures.none) c.self.invariant

pub returns-in-Some-clause-put : goal.returns-in-Some-clause-put
returns-in-Some-clause-put c said =
    let M : List ℕ → Type 0 = λ places. IsExchanged places c.args.rank c.args.by c.in-Some.c c.self.inside.map.entries c.exchange.new.self.entries in
    let made : IsExchanged c.self.inside.places.items c.args.rank c.args.by c.in-Some.c c.self.inside.map.entries c.exchange.new.self.entries = subst M c.as_slice.ensures.value c.in-Some.ensures.some in
    let sets = monomials c.args.form [] (c.args.by ∷ []) 0 1 in
    let entries = c.exchange.new.self.entries in
    let bit : table_bit c.args.form 1 ≡ true = sym c.has_place-bit.ensures ∙ c.if-not-bit.false in
    let put = line_put c.self.inside.places.items c.args.rank c.args.by c.in-Some.c c.self.inside.map.entries entries c.self.invariant made c.self.inside.constant c.args.form bit in
    let P : Terms → Type 0 = λ new. HasSetsPutIn c.args.rank sets c.args.self.now.terms new in
    let Q : CutPolynomial → Type 0 = λ old. HasSetsPutIn c.args.rank sets old.terms (cut_polynomial (with_constant (bit_xor c.self.inside.constant (cond (table_bit c.args.form 0) c.in-Some.c 0)) entries)).terms in
    let added : cond (table_bit c.args.form 0) c.in-Some.c 0 ≡ c.chosen.result = ap (λ b. cond b c.in-Some.c 0) (sym c.has_place-one.ensures) ∙ sym c.chosen.ensures in
    subst P (ap (λ n. (cut_polynomial (with_constant (bit_xor c.self.inside.constant n) entries)).terms) added) (subst Q c.self.view_is put)

pub returns-in-None-clause-kept : goal.returns-in-None-clause-kept
returns-in-None-clause-kept c said = ap (λ es. (cut_polynomial (with_constant c.self.inside.constant es)).terms) c.in-None.ensures.none ∙ ap (λ (q : CutPolynomial). q.terms) c.self.view_is
