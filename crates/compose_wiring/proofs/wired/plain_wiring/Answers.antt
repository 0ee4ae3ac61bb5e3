use Rattle.std.proofs.Common.{sym, subst, ℕ, List, Option, Global, Vec, map}
use Rattle.std.specs.Prelude.{IfNone}
use Rattle.compose_model.specs.declared.feeder.Feeder.{Feeder}
use Rattle.compose_wiring.specs.private.Plain.{candidates_of, AreAccepted, CandidateValue, HaveSize, IsOutputFeed}
use Rattle.compose_wiring.proofs.PlainLemmas.{candidates_sized}
use Rattle.compose_wiring.proofs.RowLemmas.{rows_accepted}
use Rattle.compose_wiring.proofs.wired.plain_wiring.Goals as goal

pub all_candidates-requires-clause-sized : goal.all_candidates-requires-clause-sized
all_candidates-requires-clause-sized c =
    let P : ℕ → Type 0 = λ n. HaveSize n (candidates_of c.args.top.now c.args.placed.now) in
    subst P (sym (c.size_of.ensures c.requires.sized.0 c.requires.sized.1)) (candidates_sized c.requires.sized.0 c.args.top.now c.args.placed.now c.requires.sized.1 c.requires.sized.2)

pub rows-requires-clause-sized : goal.rows-requires-clause-sized
rows-requires-clause-sized c =
    let P : List CandidateValue → Type 0 = λ cs. HaveSize c.requires.sized.0 cs in
    (c.requires.sized.0, c.requires.sized.2, subst P (sym c.in_ok-candidates.ensures) (candidates_sized c.requires.sized.0 c.args.top.now c.args.placed.now c.requires.sized.1 c.requires.sized.2))

pub output_feed-requires : goal.output_feed-requires
output_feed-requires c =
    let P : List CandidateValue → Type 0 = λ cs. HaveSize c.requires.sized.0 cs in
    (c.requires.sized.0, c.requires.sized.1, subst P (sym c.in_ok-candidates.ensures) (candidates_sized c.requires.sized.0 c.args.top.now c.args.placed.now c.requires.sized.1 c.requires.sized.2))

pub returns-in_default-clause-fault : goal.returns-in_default-clause-fault
returns-in_default-clause-fault c =
    let cs : List CandidateValue = c.in_ok-candidates.candidates in
    let f : Vec Feeder Global → List Feeder = λ row. row.items in
    let P : List CandidateValue → Type 0 = λ xs. AreAccepted xs c.args.placed.now in
    let Q : List CandidateValue → Type 0 = λ xs. (feed : Feeder) → IsOutputFeed xs c.args.top.now feed → ⊥ in
    let N : Option Feeder → Type 0 = λ o. IfNone o ((feed : Feeder) → IsOutputFeed cs c.args.top.now feed → ⊥) in
    (subst P c.in_ok-candidates.ensures (rows_accepted cs c.args.placed.now (map f c.in_ok-rows.rows.items) c.in_ok-rows.ensures.rows), subst Q c.in_ok-candidates.ensures (subst N c.in_default.is c.in_ok-output.ensures.none))
