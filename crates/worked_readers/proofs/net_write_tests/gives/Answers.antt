use Rattle.worked_readers.proofs.net_write_tests.gives.Goals as goal

pub write_blif-requires : goal.write_blif-requires
write_blif-requires g c = c.plain_names.ensures.0 c.if-not-plain_names.false
