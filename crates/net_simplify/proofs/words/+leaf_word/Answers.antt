use Rattle.net_simplify.proofs.TableWordLemmas.{leaf_later}
use Rattle.net_simplify.proofs.words.+leaf_word.Goals as goal

pub returns-else-first-leaf : goal.returns-else-first-leaf
returns-else-first-leaf t c = leaf_later c.args.leaves.now c.args.leaf c.args.place c.leaf_word.result c.in-len1-up.len_at_least c.if-first-leaf.false c.leaf_word.ensures
