use Rattle.net_simplify.proofs.TableWordLemmas.{choice_bit}
use Rattle.net_simplify.proofs.words.chosen_word.Goals as goal

pub returns : goal.returns
returns c = choice_bit c.args.choice c.args.high c.args.low
