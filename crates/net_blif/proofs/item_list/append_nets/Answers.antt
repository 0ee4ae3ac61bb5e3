use Rattle.std.proofs.Common.{◌∙◌, sym, append-nil, []}
use Rattle.net_blif.proofs.item_list.append_nets.Goals as goal

pub returns-in_err-first-clause-grows : goal.returns-in_err-first-clause-grows
returns-in_err-first-clause-grows c = ([], sym (append-nil c.args.tokens.now))

pub returns-in_err-push_all-clause-grows : goal.returns-in_err-push_all-clause-grows
returns-in_err-push_all-clause-grows c = c.push_all.ensures.grows

pub returns-in_err-end-clause-grows : goal.returns-in_err-end-clause-grows
returns-in_err-end-clause-grows c = c.push_all.ensures.grows

pub returns-clause-made : goal.returns-clause-made
returns-clause-made c = (c.in_ok-push_all.ensures.made, c.in_ok-first.ensures ∙ c.len.ensures, c.in_ok-end.ensures ∙ c.len-2.ensures)

pub returns-clause-grows : goal.returns-clause-grows
returns-clause-grows c = c.push_all.ensures.grows
