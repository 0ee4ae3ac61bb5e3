use Rattle.std.proofs.Common.{length, ◌∙◌, ap}
use Rattle.rato_reduce.specs.private.CutKey.{CutKey}
use Rattle.rato_reduce.proofs.key.Key.set_only.Goals as goal

pub set_only-requires : goal.set_only-requires
set_only-requires c = ap (λ (k : CutKey). length k.bits) c.self.view_is ∙ c.requires

pub returns : goal.returns
returns c = λ i. record { first = c.first_place-self-inside.ensures i; hash = c.hash-self-inside.ensures i; bits = c.set_only.ensures i }
