use Rattle.std.proofs.lemmas.Result.{IfOk-weaker}
use Rattle.net_simplify.proofs.SettleLemmas.{unit_added}
use Rattle.net_simplify.proofs.settling.shared_unit.Goals as goal

pub returns-in-None : goal.returns-in-None
returns-in-None c = IfOk-weaker c.keep.result _ _ (λ unit kept. unit_added c.args.known.now c.args.form.now c.args.net c.args.catalog.now c.keep.new.catalog unit c.in_ok-key.key c.net.result c.in_ok-key.ensures c.net.ensures c.in-None.is kept) c.keep.ensures
