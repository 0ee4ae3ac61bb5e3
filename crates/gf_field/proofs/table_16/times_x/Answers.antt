use Rattle.gf_field.proofs.PartLaws.{element_x}
use Rattle.gf_field.proofs.TableStepLemmas.{x_then, x_else}
use Rattle.gf_field.proofs.table_16.times_x.Goals as goal

pub returns-then-a-degree-eq1-clause-product : goal.returns-then-a-degree-eq1-clause-product
returns-then-a-degree-eq1-clause-product c = x_then _ _ _ c.requires.modulus c.requires.element c.if-a-degree-eq1.true

pub returns-then-a-degree-eq1-clause-element : goal.returns-then-a-degree-eq1-clause-element
returns-then-a-degree-eq1-clause-element c = rw (returns-then-a-degree-eq1-clause-product c) (element_x _ _ _ c.requires.modulus)

pub returns-else-a-degree-eq1-clause-product : goal.returns-else-a-degree-eq1-clause-product
returns-else-a-degree-eq1-clause-product c = x_else _ _ _ c.requires.modulus c.requires.element c.if-a-degree-eq1.false

pub returns-else-a-degree-eq1-clause-element : goal.returns-else-a-degree-eq1-clause-element
returns-else-a-degree-eq1-clause-element c = rw (returns-else-a-degree-eq1-clause-product c) (element_x _ _ _ c.requires.modulus)
