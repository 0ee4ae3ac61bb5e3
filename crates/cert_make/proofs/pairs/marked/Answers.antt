use Rattle.std.proofs.Common.{◌≡◌, ◌∙◌, ap, sym, subst, List, [], take, take_all, length, arith}
use Rattle.std.proofs.lemmas.List.{length-map}
use Rattle.poly_mixed.specs.Steps.{Step}
use Rattle.cert_make.specs.private.Keys.{key_by}
use Rattle.cert_make.specs.private.TextSharing.{AreMarks}
use Rattle.cert_make.proofs.CopyLemmas.{next_is}
use Rattle.cert_make.proofs.SharingLemmas.{marks_seen}
use Rattle.cert_make.proofs.pairs.marked.Goals as goal

pub loop-key-preserved : goal.loop-key-preserved
loop-key-preserved c labels pairs are =
    let next = next_is labels pairs c.args.list.now c.loop-key.key-index c.key-item.result are c.loop-key-test.true c.key-item.is in
    let P : List Step → Type 0 = λ xs. AreMarks labels xs [] c.see.new.self in
    subst P (sym next.taken)
    (marks_seen labels (take c.loop-key.key-index pairs) next.pair c.loop-key.marks c.see.new.self c.key-item.result (c.loop-key.invariant labels pairs are) next.told c.in_ok-see.ensures)

pub returns : goal.returns
returns c labels pairs are =
    let P : List Step → Type 0 = λ xs. AreMarks labels xs [] c.loop-key.marks in
    let long : length c.args.list.now ≡ length pairs = ap length are ∙ length-map pairs (λ (s : Step). key_by labels s.1) in
    subst P (take_all c.loop-key.key-index pairs (omega (arith, c.loop-key-test.false, long))) (c.loop-key.invariant labels pairs are)
