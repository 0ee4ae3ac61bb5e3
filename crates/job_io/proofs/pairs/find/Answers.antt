use Rattle.std.proofs.Common.{◌≡◌, ◌∙◌, ap, sym, Some, true, false, string_bytes}
use Rattle.std.specs.Str.{bytes_eq}
use Rattle.job_io.proofs.FilesLemmas.{get-drop_same, get-drop_other, get-drop_end}
use Rattle.job_io.proofs.pairs.find.Goals as goal

pub returns-then-eq : goal.returns-then-eq
returns-then-eq c =
    let same : bytes_eq c.args.name.now (string_bytes c.pair-item.result.0) ≡ true = cc in
    ap Some c.as_slice.ensures.value ∙ sym (c.loop-pair.invariant ∙ get-drop_same c.args.pairs.now c.loop-pair.pair-index c.pair-item.result c.args.name.now c.loop-pair-test.true c.pair-item.is same)

pub loop-pair-preserved : goal.loop-pair-preserved
loop-pair-preserved c =
    let other : bytes_eq c.args.name.now (string_bytes c.pair-item.result.0) ≡ false = cc in
    c.loop-pair.invariant ∙ get-drop_other c.args.pairs.now c.loop-pair.pair-index c.pair-item.result c.args.name.now c.loop-pair-test.true c.pair-item.is other

pub returns : goal.returns
returns c =
    sym (c.loop-pair.invariant ∙ get-drop_end c.args.pairs.now c.loop-pair.pair-index c.args.name.now c.loop-pair-test.false)
