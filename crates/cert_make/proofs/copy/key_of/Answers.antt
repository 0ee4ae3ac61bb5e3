use Rattle.std.proofs.Common.{◌∙◌, ap, sym, Some, None}
use Rattle.cert_make.specs.private.Keys.{short_form}
use Rattle.cert_make.proofs.KeyLemmas.{key_made}
use Rattle.cert_make.proofs.copy.key_of.Goals as goal

pub returns-in-Some : goal.returns-in-Some
returns-in-Some c =
    c.short.ensures ∙ key_made c.args.labels.now c.args.terms.now (Some c.in-Some.form) (sym c.in-Some.is ∙ c.short_of.ensures ∙ ap (λ b. short_form b c.args.terms.now) c.requires.bits)

pub returns-in_ok-bytes-in-None : goal.returns-in_ok-bytes-in-None
returns-in_ok-bytes-in-None c =
    c.long.ensures ∙ ap (λ t. record { coefficient = 0; place = 0; bytes = t }) c.in_ok-bytes-in-None.ensures ∙ key_made c.args.labels.now c.args.terms.now None (sym c.in-None.is ∙ c.short_of.ensures ∙ ap (λ b. short_form b c.args.terms.now) c.requires.bits)
