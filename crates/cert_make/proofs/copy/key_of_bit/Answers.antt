use Rattle.std.proofs.Common.{◌∙◌, ap, sym, Some, None}
use Rattle.poly_mixed.specs.Text.{text}
use Rattle.cert_make.specs.private.Keys.{place_below}
use Rattle.cert_make.proofs.KeyLemmas.{key_with_rank}
use Rattle.cert_make.proofs.copy.key_of_bit.Goals as goal

pub returns-in-Some : goal.returns-in-Some
returns-in-Some c =
    c.short.ensures
    ∙ key_with_rank c.args.labels.now c.args.coefficient c.args.rank (Some c.in-Some.place) (sym c.in-Some.is ∙ c.place_below.ensures ∙ ap (λ b. place_below b c.args.rank) c.requires.bits)

pub returns-in_ok-bytes-in-None : goal.returns-in_ok-bytes-in-None
returns-in_ok-bytes-in-None c =
    c.long.ensures
    ∙ ap (λ t. record { coefficient = 0; place = 0; bytes = t }) (c.in_ok-bytes-in-None.ensures ∙ ap (text c.args.labels.now) c.in_ok-poly-in-None.ensures)
    ∙ key_with_rank c.args.labels.now c.args.coefficient c.args.rank None (sym c.in-None.is ∙ c.place_below.ensures ∙ ap (λ b. place_below b c.args.rank) c.requires.bits)
