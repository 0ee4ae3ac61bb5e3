use Rattle.net_aiger.specs.Reading.{driven}
use Rattle.std.proofs.Common.{drop, subst, sym, List, ℕ}
use Rattle.net_aiger.specs.private.Making.{Awaits}
use Rattle.net_aiger.proofs.KeepLemmas.{ands_keep, awaits_kept, latches_keep}
use Rattle.net_aiger.proofs.make.make_rest.Goals as goal

pub make_outputs-requires-clause-awaits : goal.make_outputs-requires-clause-awaits
make_outputs-requires-clause-awaits c =
    let reading = c.args.reader.now in
    let port = driven reading.header in
    let left = drop port reading.ports in
    let ands = awaits_kept reading port left c.args.maker.now c.make_ands.new.maker (ands_keep reading c.ands.result.now c.args.maker.now c.make_ands.new.maker c.in_ok-make_ands.ensures.made) c.requires.awaits in
    let latches = awaits_kept reading port left c.make_ands.new.maker c.make_latches.new.maker (latches_keep reading c.latches.result.now c.make_ands.new.maker c.make_latches.new.maker c.in_ok-make_latches.ensures.made) ands in
    let P : List ℕ → Type 0 = λ xs. Awaits reading c.driven-first.result xs c.make_latches.new.maker in
    let Q : ℕ → Type 0 = λ p. Awaits reading p left c.make_latches.new.maker in
    subst P (sym c.outputs.ensures) (subst Q (sym (rw c.header.ensures at c.driven-first.ensures.count)) latches)
