use Rattle.std.proofs.Common.{◌∙◌, ap, sym, ℕ, Option, None, [], ◌∷◌}
use Rattle.cert_make.specs.private.Kept.{monomial_kept}
use Rattle.cert_make.specs.private.Keys.{key_by}
use Rattle.cert_make.proofs.KeyLemmas.{key_of_constant, term_kept}
use Rattle.cert_make.proofs.copy.key_of_entry.Goals as goal

pub returns-in-None : goal.returns-in-None
returns-in-None c =
    let e = c.args.entry.now in
    c.short.ensures
    ∙ key_of_constant c.args.labels.now e.coefficient
    ∙ ap (key_by c.args.labels.now) (sym (term_kept e.coefficient e.rank e.terms.items ((monomial_kept None, e.coefficient) ∷ []) (ap (λ (r : Option ℕ). (monomial_kept r, e.coefficient) ∷ []) (sym c.in-None.is)) c.if-entry-eq0.false))
