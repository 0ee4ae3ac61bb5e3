use Rattle.std.proofs.Common.{◌≡◌, ap, refl, inl, inr, false}
use Rattle.answer_core.proofs.FieldNameLemmas.{is_base, not_base}
use Rattle.answer_tables.proofs.iso.reply.Goals as goal

pub returns-in-Tower : goal.returns-in-Tower
returns-in-Tower c =
    let other : is_base c.args.field.now ≡ false = elim c.in-Tower.is [
      | inl tower ↦ ap is_base tower.1
      | inr upper ↦ ap is_base upper.1
    ] in
    ((refl, λ big base fit. not_base c.args.first.now c.args.field.now c.requires.first other fit.no_tower), λ m. m)
