use Rattle.std.proofs.Common.{◌≡◌, ap, refl, inl, inr, false}
use Rattle.answer_core.proofs.FieldNameLemmas.{is_tower, not_tower}
use Rattle.answer_tables.proofs.iso.beside.Goals as goal

pub returns-in-Base : goal.returns-in-Base
returns-in-Base c =
    let none : is_tower c.args.other.now ≡ false = elim c.in-Base.is [
      | inl base ↦ ap is_tower base.1
      | inr upper ↦ ap is_tower upper.1
    ] in
    ((refl, λ big base fit. not_tower c.args.second.now c.args.other.now c.requires.second none base fit.tower fit.one_step), λ m. m)
