use Rattle.gf_abs.proofs.TableHeadlineLemmas.{same_bytes}
use Rattle.gf_abs.proofs.headline.tables_are_lifted_to_what_abstract_prints.Goals as goal

pub returns : goal.returns
returns c = same_bytes
