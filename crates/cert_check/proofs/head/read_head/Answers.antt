use Rattle.std.proofs.Common.{◌∙◌, ◌<◌, ◌≤◌, ◌≡◌, ap, ℕ, List, length, drop, drop-drop, arith}
use Rattle.std.specs.Str.Lines.{lines}
use Rattle.std.proofs.lemmas.Result.{IfOk-weaker}
use Rattle.cert_check.specs.declared.head.Head.{Head}
use Rattle.cert_check.proofs.HeadLemmas.{head_read}
use Rattle.cert_check.proofs.head.read_head.Goals as goal

pub returns-clause-value : goal.returns-clause-value
returns-clause-value c =
    head_read c.args.k c.args.labels.now (lines c.args.bytes.now) (lines c.in-Ok.found.1.now) c.in-Ok.found.0 c.second_line.result c.in-Ok.ensures.value c.in-Ok.ensures.rest c.second_line.ensures.value c.second_line.ensures.version

pub returns-clause-rest : goal.returns-clause-rest
returns-clause-rest c =
    let more : drop 1 (lines c.in-Ok.found.1.now) ≡ drop 2 (lines c.args.bytes.now) = ap (λ (ls : List (List ℕ)). drop 1 ls) c.in-Ok.ensures.rest ∙ drop-drop 1 1 (lines c.args.bytes.now) in
    IfOk-weaker c.second_line.result (λ (h : Head). lines h.rest.now ≡ drop 1 (lines c.in-Ok.found.1.now)) (λ (h : Head). lines h.rest.now ≡ drop 2 (lines c.args.bytes.now)) (λ head is. is ∙ more) c.second_line.ensures.rest

pub returns-clause-shorter : goal.returns-clause-shorter
returns-clause-shorter c =
    IfOk-weaker c.second_line.result (λ (h : Head). length h.rest.now < length c.in-Ok.found.1.now) (λ (h : Head). length h.rest.now ≤ length c.args.bytes.now) (λ head less. omega (arith, less, c.in-Ok.ensures.shorter)) c.second_line.ensures.shorter
