use Rattle.std.proofs.Common.{◌∙◌, ap, subst, refl, ℕ, Global, Vec, List, Result, map}
use Rattle.std.specs.Prelude.{IfErr, IfOk}
use Rattle.lists.specs.laws.ListLaws.{map_push as mapped_push}
use Rattle.lists.specs.laws.ReadLaws.{got_read}
use Rattle.compose_model.specs.declared.feeder.Feeder.{Feeder}
use Rattle.compose_wiring.specs.private.Plain.{IsRefusedFirst, IsRow, PlacedValue}
use Rattle.compose_wiring.proofs.RowLemmas.{rows_more, rows_refused}
use Rattle.compose_wiring.proofs.row.rows.Goals as goal

pub row_of-requires : goal.row_of-requires
row_of-requires c = (c.requires.sized.0, c.requires.sized.1 c.loop-instance.instance c.index-placed-instance.result (got_read c.args.placed.now c.loop-instance.instance c.index-placed-instance.result c.loop-instance-test.true c.index-placed-instance.is), c.requires.sized.2)

pub returns-in-Err-clause-fault : goal.returns-in-Err-clause-fault
returns-in-Err-clause-fault c =
    let instance : PlacedValue = c.index-placed-instance.result in
    let at = got_read c.args.placed.now c.loop-instance.instance instance c.loop-instance-test.true c.index-placed-instance.is in
    let P : Result (Vec Feeder Global) ℕ → Type 0 = λ r. IfErr r (λ w. IsRefusedFirst c.args.candidates.now instance w) in
    (c.loop-instance.instance, refl, rows_refused c.args.candidates.now c.args.placed.now c.loop-instance.instance c.in-Err.word instance (map (λ row. row.items) c.loop-instance.rows.items) at c.loop-instance.invariant (subst P c.in-Err.is c.in_ok-row.ensures.refused))

pub loop-instance-preserved : goal.loop-instance-preserved
loop-instance-preserved c =
    let instance : PlacedValue = c.index-placed-instance.result in
    let at = got_read c.args.placed.now c.loop-instance.instance instance c.loop-instance-test.true c.index-placed-instance.is in
    let f : Vec Feeder Global → List Feeder = λ row. row.items in
    let P : Result (Vec Feeder Global) ℕ → Type 0 = λ r. IfOk r (λ row. IsRow c.args.candidates.now instance row.items) in
    rows_more c.args.candidates.now c.args.placed.now c.loop-instance.instance instance c.in-Ok.row.items (map f c.loop-instance.rows.items) (map f c.push.new.self.items) at c.loop-instance.invariant (subst P c.in-Ok.is c.in_ok-row.ensures.row)
    (ap (map f) c.in_ok-push-in-Ok.ensures.items ∙ mapped_push f c.loop-instance.rows.items c.in-Ok.row)
