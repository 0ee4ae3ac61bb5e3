use Rattle.std.proofs.Common.{◌∙◌, sym, true≢false}
use Rattle.std.proofs.lemmas.Result.{on_ok_weaker}
use Rattle.net_simplify.proofs.MadeLemmas.{fresh_added, label_name, name_added}
use Rattle.net_simplify.proofs.rebuilding.add_net.Goals as goal

pub add_named-requires : goal.add_named-requires
add_named-requires c = label_name c.args.net.now c.args.number _ c.requires.sound c.requires.within c.label.ensures (c.is_named.ensures.0 c.if-is_named.true)

pub returns-then-is_named : goal.returns-then-is_named
returns-then-is_named c = on_ok_weaker c.add_named.result (λ made. name_added c.args.net.now c.args.number _ c.args.maker.now _ c.requires.sound c.requires.within c.label.ensures (c.is_named.ensures.0 c.if-is_named.true) c.requires.before made) c.add_named.ensures

pub returns-else-is_named : goal.returns-else-is_named
returns-else-is_named c = on_ok_weaker c.add_fresh.result (λ made. fresh_added c.args.net.now c.args.number _ c.args.maker.now _ c.requires.sound c.requires.within c.label-else-is_named.ensures (λ found. true≢false (sym (c.is_named.ensures.1 found) ∙ c.if-is_named.false)) c.requires.before made) c.add_fresh.ensures
