use Rattle.std.proofs.Common.{refl}
use Rattle.net_signature.proofs.FeedLemmas.{no_upper}
use Rattle.job_input.specs.Setting.{field_value}
use Rattle.job_input.proofs.FieldLemmas.{field_made}
use Rattle.job_input.proofs.SettingWordLemmas.{text_said}
use Rattle.job_input.proofs.SignedLemmas.{named_by, signed_is, text_fails, field_fails}
use Rattle.job_input.proofs.signed.signed_of.Goals as goal

pub new-requires : goal.new-requires
new-requires c = record { steps = rw (c.tower.ensures, c.upper.ensures) (no_upper c.args.text.now c.in-Ok.signature c.in-Ok.ensures) }

pub returns-in-Err-clause-gives : goal.returns-in-Err-clause-gives
returns-in-Err-clause-gives c = rw c.text_stop.ensures (text_fails c.args.text.now c.in-Err.fault c.in-Err.ensures)

pub returns-in-Err-new-clause-gives : goal.returns-in-Err-new-clause-gives
returns-in-Err-new-clause-gives c =
    rw (c.refused.ensures, c.field_fault.ensures)
    (field_fails c.args.text.now c.in-Ok.signature c.in-Ok.ensures c.in-Err-new.fault (rw (c.modulus.ensures, c.tower.ensures, c.upper.ensures) at c.in-Err-new.ensures.fault))

pub returns-in-Ok-new-clause-gives : goal.returns-in-Ok-new-clause-gives
returns-in-Ok-new-clause-gives c =
    let said = c.in-Ok.signature in
    let field = c.in-Ok-new.field in
    let is_name = rw (c.modulus.ensures, c.tower.ensures, c.upper.ensures) at (c.in-Ok-new.ensures.accepted.0 refl) in
    let made = rw (c.modulus.ensures, c.tower.ensures, c.upper.ensures) at c.in-Ok-new.ensures.made in
    signed_is c.args.text.now said (field_value field) c.in-Ok.ensures (field_made field said.modulus said.tower said.upper is_name made)

pub returns-in-Ok-new-clause-said : goal.returns-in-Ok-new-clause-said
returns-in-Ok-new-clause-said c = text_said c.args.text.now c.in-Ok.signature c.in-Ok.ensures

pub returns-in-Ok-new-clause-named : goal.returns-in-Ok-new-clause-named
returns-in-Ok-new-clause-named c =
    named_by c.in-Ok.signature c.in-Ok-new.field (rw (c.modulus.ensures, c.tower.ensures, c.upper.ensures) at c.in-Ok-new.ensures.made)
