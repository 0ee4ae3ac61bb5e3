use Rattle.std.proofs.Common.{subst, Bool, arith}
use Rattle.lists.specs.laws.ReadLaws.{get_below}
use Rattle.compose_wiring.specs.private.Plain.{ComesOf}
use Rattle.compose_wiring.proofs.RowLemmas.{row_more, row_refused}
use Rattle.compose_wiring.proofs.row.row_of.Goals as goal

pub returns-then-not-fed-clause-refused : goal.returns-then-not-fed-clause-refused
returns-then-not-fed-clause-refused c =
    let word = get_below c.args.placed.now.words c.loop-word.word (omega (arith, c.loop-word-test.true, c.count-word-end.ensures)) in
    let P : Bool → Type 0 = λ b. ComesOf c.args.candidates.now c.args.placed.now word.0 b c.loop-word.row.items c.add_word.new.row.items in
    row_refused c.args.candidates.now c.args.placed.now c.loop-word.word word.0 c.loop-word.row.items word.1 c.loop-word.invariant (subst P c.if-not-fed.true (c.in_ok-fed.ensures word.0 word.1))

pub loop-word-preserved : goal.loop-word-preserved
loop-word-preserved c =
    let word = get_below c.args.placed.now.words c.loop-word.word (omega (arith, c.loop-word-test.true, c.count-word-end.ensures)) in
    let P : Bool → Type 0 = λ b. ComesOf c.args.candidates.now c.args.placed.now word.0 b c.loop-word.row.items c.add_word.new.row.items in
    row_more c.args.candidates.now c.args.placed.now c.loop-word.word word.0 c.loop-word.row.items c.add_word.new.row.items word.1 c.loop-word.invariant (subst P c.if-not-fed.false (c.in_ok-fed.ensures word.0 word.1))
