use Rattle.std.proofs.lemmas.Result.{on_ok_weaker}
use Rattle.cert_make.specs.private.TextSharing.{mark_at}
use Rattle.cert_make.proofs.MarkLemmas.{often_stays, seen_more}
use Rattle.cert_make.proofs.marks.Marks.see.Goals as goal

pub returns-then-is_often : goal.returns-then-is_often
returns-then-is_often c = λ q. often_stays c.args.key.now q (mark_at c.args.self.now) c.at-known.result c.at-known.ensures (c.is_often.ensures c.if-is_often.true)

pub returns : goal.returns
returns c = on_ok_weaker c.put.result (λ put q. seen_more c.in_ok-copied.copied c.args.key.now q (mark_at c.args.self.now) _ c.at-known.result c.seen.result c.in_ok-copied.ensures c.at-known.ensures c.seen.ensures (put q)) c.put.ensures
