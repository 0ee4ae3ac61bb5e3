use Rattle.net_aiger.specs.private.Run.{text_read}
use Rattle.net_aiger.proofs.AigerDetermined.{text_determined}
use Rattle.net_aiger.proofs.TextLemmas.{read_is_text}
use Rattle.net_aiger.proofs.laws.each_text_has_one_reading_or_fault.Goals as goal

pub returns-clause-some : goal.returns-clause-some
returns-clause-some c = λ text. (text_read text, read_is_text text)

pub returns-clause-only : goal.returns-clause-only
returns-clause-only c = text_determined
