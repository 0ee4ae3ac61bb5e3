use Rattle.std.proofs.Common.{subst, ℕ, Option}
use Rattle.std.specs.Prelude.{IfSome}
use Rattle.net_flat.specs.private.Marking.{StandsAt}
use Rattle.net_flat.proofs.MarkLemmas.{written}
use Rattle.net_flat.proofs.marks.put.Goals as goal

pub returns-in-Some-clause-made : goal.returns-in-Some-clause-made
returns-in-Some-clause-made c =
    let P : Option ℕ → Type 0 = λ place. IfSome place (λ p. StandsAt c.args.marks.now p c.args.name.now) in
    written c.args.marks.now c.in-Some.place c.args.name.now c.args.mark c.pair_mut-old.ensures.unique (subst P c.in-Some.is c.requires.place)
