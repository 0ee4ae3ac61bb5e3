use Rattle.std.proofs.Common.{◌≡◌, List, ℕ, [], length, refl, sym, ◌∙◌, ap, subst}
use Rattle.std.proofs.lemmas.Bool.{eqb-true, eqb-false}
use Rattle.std.specs.declared.cmp.Ordering.TheVariants.{Less}
use Rattle.std.proofs.lemmas.List.{nil_from_length}
use Rattle.poly_mixed.specs.Monomial.{text_cmp}
use Rattle.poly_mixed.specs.Sum.{plus_term}
use Rattle.rato_reduce.specs.private.CutKey.{CutKey, key_of, no_bits, key_cmp}
use Rattle.rato_reduce.specs.private.CutTerms.{CutPolynomial, IsEntry, AreBitEntries, cut_polynomial, with_constant, of_bits}
use Rattle.rato_reduce.proofs.ConstantLemmas.{before_bits, bit_entries_more, bit_terms_more, kept_entries}
use Rattle.rato_reduce.proofs.cut.Cut.add.Goals as goal

-- the new entry
entry : (c : goal.In_ok-add) → IsEntry c.self.inside.places.items (c.new-key.result, c.args.c)
entry c =
    let places : c.as_slice.result.now ≡ c.self.inside.places.items = c.as_slice.ensures.value in
    let key : c.new-key.result ≡ key_of c.self.inside.places.items c.args.bits = c.new-key.ensures ∙ ap (λ ps. key_of ps c.args.bits) places in
    let P : CutKey → Type 0 = λ k. IsEntry c.self.inside.places.items (k, c.args.c) in
    subst P (sym key) (record { key = refl; rising = c.requires.rising; some = c.requires.some })

before : (c : goal.In_ok-add) → key_cmp no_bits c.new-key.result ≡ Less
before c =
    let P : CutKey → Type 0 = λ k. key_cmp no_bits k ≡ Less in
    subst P (sym c.new-key.ensures) (before_bits c.as_slice.result.now c.args.bits (eqb-false (length c.args.bits) 0 (sym c.is_empty.ensures ∙ c.if-is_empty.false)))

pub invariant_of-self-2 : goal.invariant_of-self-2
invariant_of-self-2 c = let P : List (CutKey × ℕ) → Type 0 = AreBitEntries c.self.inside.places.items in
    subst P (sym c.in_ok-add.ensures.added) (bit_entries_more c.self.inside.places.items c.self.inside.map.entries (c.new-key.result, c.args.c) c.self.invariant (entry c) (before c))

pub returns-then-is_empty : goal.returns-then-is_empty
returns-then-is_empty c =
    let nothing : c.args.bits ≡ [] = nil_from_length c.args.bits (eqb-true (length c.args.bits) 0 (sym c.is_empty.ensures ∙ c.if-is_empty.true)) in
    c.add_constant.ensures ∙ ap (λ bs. plus_term text_cmp c.args.self.now.terms (of_bits bs, c.args.c)) (sym nothing)

pub returns : goal.returns
returns c =
    let bits : c.new-key.result.bits ≡ c.args.bits = ap (λ (k : CutKey). k.bits) c.new-key.ensures in
    ap (λ es. (cut_polynomial (with_constant c.self.inside.constant es)).terms) c.in_ok-add.ensures.added
    ∙ bit_terms_more c.self.inside.places.items c.self.inside.constant c.self.inside.map.entries (c.new-key.result, c.args.c) c.self.invariant (entry c) (before c)
    ∙ (λ i. plus_term text_cmp (ap (λ (q : CutPolynomial). q.terms) c.self.view_is i) (of_bits (bits i), c.args.c))

pub invariant_of-self : goal.invariant_of-self
invariant_of-self c = let P : List (CutKey × ℕ) → Type 0 = AreBitEntries c.self.inside.places.items in
    kept_entries c.self.inside.places.items c.self.inside.map.entries c.add.new.self.entries c.self.invariant c.in_err-add.ensures.kept
