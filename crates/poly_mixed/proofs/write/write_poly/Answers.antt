use Rattle.std.proofs.Common.{◌≡◌, map, codes, [], sym, ◌∙◌, ap}
use Rattle.std.proofs.lemmas.Map.Iter.{rest_all}
use Rattle.std.specs.Map.Iter.{deref_pair}
use Rattle.poly_mixed.specs.Parts.{parts_after}
use Rattle.poly_mixed.specs.Polynomial.{Terms}
use Rattle.poly_mixed.specs.Text.{term_text}
use Rattle.poly_mixed.specs.private.Indexed.{terms_in}
use Rattle.poly_mixed.proofs.TextLemmas.{all_parts, some_text}
use Rattle.poly_mixed.proofs.write.write_poly.Goals as goal

pub returns : goal.returns
returns c =
    let none : c.loop-mono.mono-iterator ≡ [] = rest_all deref_pair _ _ _ c.in-None.is c.next.ensures.steps in
    ap (λ (ts : Terms). parts_after (codes " + ") c.loop-mono.is_first c.loop-mono.out.items (map (term_text c.args.labels.now) ts)) (ap terms_in (sym none))
    ∙ c.loop-mono.invariant.text
    ∙ all_parts (codes " + ") [] (map (term_text c.args.labels.now) c.args.poly.now.terms)
    ∙ some_text c.args.labels.now c.args.poly.now.terms (λ e. c.if-len-eq0.false (c.len.ensures ∙ e))
