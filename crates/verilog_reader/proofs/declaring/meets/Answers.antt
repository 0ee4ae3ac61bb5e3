use Rattle.std.proofs.Common.{rules, ◌≡◌, sym, subst, None, Some}
use Rattle.std.specs.Prelude.{IfOk}
use Rattle.std.proofs.lemmas.Result.{IfOk-weaker}
use Rattle.net_verilog.specs.Declarations.{Range}
use Rattle.verilog_reader.specs.private.Meets.{IsMet}
use Rattle.verilog_reader.proofs.CutLemmas.{met_scalar, met_vector}
use Rattle.verilog_reader.proofs.declaring.meets.Goals as goal

pub returns-in_ok-met-in-None : goal.returns-in_ok-met-in-None
returns-in_ok-met-in-None c =
    let P : Range → Type 0 = λ r. IsMet c.args.declared.now r c.args.name.now (Some c.in_ok-met-in-None.met) in
    let is : c.args.range ≡ None = search rules in
    subst P (sym is) (met_scalar c.args.declared.now c.args.name.now c.in_ok-met-in-None.met c.requires.name.1 c.in_ok-met-in-None.ensures)

pub returns-in-Some : goal.returns-in-Some
returns-in-Some c =
    let P : Range → Type 0 = λ r. IfOk c.bits_found.result (λ found. IsMet c.args.declared.now r c.args.name.now found) in
    let is : c.args.range ≡ Some (c.in-Some.low, c.in-Some.high) = search rules in
    subst P (sym is) (IfOk-weaker c.bits_found.result _ _ (λ found. met_vector c.args.declared.now c.args.name.now c.in-Some.low c.in-Some.high found) c.bits_found.ensures)
