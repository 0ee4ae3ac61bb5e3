use Rattle.std.proofs.Common.{List, ℕ, ◌==◌, ◌&&◌, not, map, codes, string_bytes, ◌∙◌, ap}
use Rattle.poly_mixed.specs.Parts.{parts_after}
use Rattle.poly_mixed.specs.Text.{is_none}
use Rattle.poly_mixed.proofs.TextLemmas.{factor_parts}
use Rattle.poly_mixed.proofs.write.term_text.Goals as goal

pub returns : goal.returns
returns c =
    let tested = ap (map (λ s. string_bytes s)) c.deref.ensures.value ∙ c.in_ok-variables.ensures in
    let written = ap (map (λ s. string_bytes s)) c.deref-2.ensures.value ∙ c.in_ok-variables.ensures in
    c.in_ok-add_parts.ensures
    ∙ ap (λ (xs : List (List ℕ)). parts_after (codes "*") c.is_bare-bare.result c.in_ok-out.out.items xs) written
    ∙ factor_parts c.args.c c.is_bare-bare.result _ _ (c.is_bare-bare.ensures ∙ ap (λ (xs : List (List ℕ)). (c.args.c == 1) && not (is_none xs)) tested) c.in_ok-out.ensures
