use Rattle.std.proofs.Common.{◌≡◌, ◌∙◌, ap, sym, subst, ℕ, Ok}
use Rattle.std.specs.Prelude.{IfErr, OnOk, string_bytes}
use Rattle.net_blif.specs.Table.{Numbers}
use Rattle.net_flat.specs.Steps.{Mention}
use Rattle.net_flat.specs.private.KnownNumbers.{known_in}
use Rattle.net_flat.specs.private.LocalWalk.{local_step, state_with, Inside, IsFaultOf}
use Rattle.net_flat.proofs.walker.mention_inside.Goals as goal

pub add_inside-requires-clause-new : goal.add_inside-requires-clause-new
add_inside-requires-clause-new c = ap (λ (f : Numbers). f c.args.name.now) c.get.ensures.kept ∙ sym c.in-None.ensures.number

pub returns-in-Some-clause-number : goal.returns-in-Some-clause-number
returns-in-Some-clause-number c = ap (λ (f : Numbers). f c.args.name.now) c.get.ensures.kept ∙ sym c.in-Some.ensures.number

pub returns-in-None-clause-made : goal.returns-in-None-clause-made
returns-in-None-clause-made c =
    let P : Numbers → Type 0 = λ f. (i : ℕ) → OnOk c.add_inside.result (local_step (state_with c.args.maker.now i (Inside (string_bytes c.args.prefix.now) f)) (Mention c.args.name.now) ≡ Ok (state_with c.add_inside.new.maker i (Inside (string_bytes c.args.prefix.now) (known_in c.add_inside.new.numbers)))) in
    subst P c.get.ensures.kept c.add_inside.ensures.made

pub returns-in-None-clause-fault : goal.returns-in-None-clause-fault
returns-in-None-clause-fault c =
    let P : Numbers → Type 0 = λ f. (i : ℕ) → IfErr c.add_inside.result (IsFaultOf (local_step (state_with c.args.maker.now i (Inside (string_bytes c.args.prefix.now) f)) (Mention c.args.name.now))) in
    subst P c.get.ensures.kept c.add_inside.ensures.fault
