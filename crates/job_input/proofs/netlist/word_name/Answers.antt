use Rattle.std.proofs.Common.{◌∙◌}
use Rattle.job_input.proofs.NetlistLemmas.{name_found}
use Rattle.job_input.proofs.netlist.word_name.Goals as goal

pub returns : goal.returns
returns c = rw (c.as_str.ensures ∙ name_found c.args.words.now c.args.word c.index-words-word.result c.requires) at c.new.ensures
