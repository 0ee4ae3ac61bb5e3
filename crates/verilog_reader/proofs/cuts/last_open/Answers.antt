use Rattle.std.proofs.Common.{◌≡◌, ◌∙◌, ap, subst, ℕ, suc, ◌-◌, Some, drop, arith}
use Rattle.std.specs.Prelude.{slice_get}
use Rattle.std.proofs.lemmas.Option.{slice_get-get_or}
use Rattle.verilog_reader.proofs.NumeralLemmas.{NoOpen}
use Rattle.verilog_reader.proofs.OpenLemmas.{cut_found, cut_nowhere}
use Rattle.verilog_reader.proofs.cuts.last_open.Goals as goal

pub returns-then-name-cut-eq91-clause-some : goal.returns-then-name-cut-eq91-clause-some
returns-then-name-cut-eq91-clause-some c =
    let cut : ℕ = c.loop-cut.cut - 1 in
    let next : c.loop-cut.cut ≡ suc (c.loop-cut.cut - 1) = omega (arith, c.loop-cut-test.true) in
    let P : ℕ → Type 0 = λ k. NoOpen (drop k c.args.name.now) in
    let got : slice_get c.args.name.now cut ≡ Some 91 = slice_get-get_or c.args.name.now cut 0 (omega (arith, c.loop-cut-test.true, c.loop-cut.invariant.within)) ∙ ap Some c.if-name-cut-eq91.true in
    cut_found c.args.name.now cut got (subst P next c.loop-cut.invariant.none)

pub returns-clause-none : goal.returns-clause-none
returns-clause-none c =
    let end : c.loop-cut.cut ≡ 0 = omega (arith, c.loop-cut-test.false) in
    let P : ℕ → Type 0 = λ k. NoOpen (drop k c.args.name.now) in
    cut_nowhere c.args.name.now (subst P end c.loop-cut.invariant.none)
