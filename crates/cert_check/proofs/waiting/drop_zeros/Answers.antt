use Rattle.std.proofs.Common.{rules}
use Rattle.std.proofs.lemmas.Fn.{filter_same}
use Rattle.cert_check.proofs.WaitingLemmas.{stays}
use Rattle.cert_check.proofs.waiting.drop_zeros.Goals as goal

pub returns : goal.returns
returns c = filter_same _ stays _ (λ x b g called. search rules) _ _ c.retain.ensures.filtered
