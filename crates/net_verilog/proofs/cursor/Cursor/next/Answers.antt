use Rattle.std.proofs.Common.{rules, ◌∙◌, ◌∷◌, ap, sym, take}
use Rattle.net_verilog.proofs.PieceLemmas.{part_prints}
use Rattle.net_verilog.proofs.TokenLemmas.{after_other, token_part, white_part}
use Rattle.net_verilog.specs.private.Places.{left}
use Rattle.net_verilog.proofs.cursor.Cursor.next.Goals as goal

pub loop-kind-preserved : goal.loop-kind-preserved
loop-kind-preserved c = record { shorter = search rules; same = c.loop-kind.invariant.same ∙ (white_part c.loop-kind.place.line c.loop-kind.place.first c.loop-kind.place.rest.now c.piece-kind.result c.piece-kind.ensures.same c.in-None.is (search rules) (c.piece-kind.ensures.some (search rules)) ∙ sym c.after-place.ensures.left) }

pub returns-in-Some-clause-next : goal.returns-in-Some-clause-next
returns-in-Some-clause-next c = c.loop-kind.invariant.same ∙ token_part c.loop-kind.place.line c.loop-kind.place.first c.loop-kind.place.rest.now c.in-Some.kind c.piece-kind.result _ c.after.ensures.left c.piece-kind.ensures.same c.in-Some.is (search rules) (c.piece-kind.ensures.some (search rules))

pub returns-in-Some-clause-more : goal.returns-in-Some-clause-more
returns-in-Some-clause-more c = λ other. (c.loop-kind.invariant.same ∙ token_part c.loop-kind.place.line c.loop-kind.place.first c.loop-kind.place.rest.now c.in-Some.kind c.piece-kind.result _ c.after.ensures.left c.piece-kind.ensures.same c.in-Some.is (search rules) (c.piece-kind.ensures.some (search rules))) ∙ ap (λ rest. record { kind = c.in-Some.kind; text = take c.piece-kind.result.1 c.loop-kind.place.rest.now; line = c.loop-kind.place.line } ∷ rest) (after_other c.in-Some.kind (left c.after.result) other)

pub returns-in-Some-clause-prints : goal.returns-in-Some-clause-prints
returns-in-Some-clause-prints c = part_prints c.loop-kind.place.first c.loop-kind.place.rest.now c.piece-kind.result c.in-Some.kind c.piece-kind.ensures.same c.in-Some.is
