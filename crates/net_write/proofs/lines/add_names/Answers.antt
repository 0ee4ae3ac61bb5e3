use Rattle.net_write.proofs.WriteLemmas.{names_added}
use Rattle.net_write.proofs.lines.add_names.Goals as goal

pub returns : goal.returns
returns c = names_added c.args.net.now c.args.out.now.items c.args.word.now _ _ _ c.args.numbers.now c.in_ok-extend_from_slice.ensures.items c.in_ok-add_fields.ensures c.in_ok-push.ensures.items
