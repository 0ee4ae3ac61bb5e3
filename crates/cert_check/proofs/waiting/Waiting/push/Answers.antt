use Rattle.std.proofs.Common.{◌∙◌}
use Rattle.std.proofs.lemmas.Result.{on_ok_weaker}
use Rattle.cert_check.proofs.WaitingLemmas.{pushed}
use Rattle.cert_check.proofs.waiting.Waiting.push.Goals as goal

pub returns-then-len : goal.returns-then-len
returns-then-len c =
    on_ok_weaker c.tidy.result
    (λ same q. same q ∙ pushed c.args.self.now c.self.inside.list.items c.push.new.self.items (c.args.mono, c.args.c) c.new.result c.self.view_is c.new.ensures c.in_ok-push.ensures.items q)
    c.tidy.ensures

pub returns : goal.returns
returns c = pushed c.args.self.now c.self.inside.list.items c.push.new.self.items (c.args.mono, c.args.c) c.new.result c.self.view_is c.new.ensures c.in_ok-push.ensures.items
