use Rattle.answer_tables.proofs.ReadBackLemmas.{read_back}
use Rattle.answer_tables.proofs.laws.written_tables_are_read_back.Goals as goal

pub returns : goal.returns
returns c = read_back
