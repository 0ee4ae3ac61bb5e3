use Rattle.compose_blocks.proofs.uses.found_in.Goals as goal

pub returns-clause-found : goal.returns-clause-found
returns-clause-found c = c.found_by.ensures.found

pub returns-clause-right : goal.returns-clause-right
returns-clause-right c = c.found_by.ensures.right

pub returns-clause-few : goal.returns-clause-few
returns-clause-few c = c.found_by.ensures.few

pub returns-clause-fault : goal.returns-clause-fault
returns-clause-fault c = c.found_by.ensures.fault
