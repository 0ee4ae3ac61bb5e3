use Rattle.worked_rows.proofs.stage_tests.check_over.Goals as goal

pub compare-requires : goal.compare-requires
compare-requires g c = record { bases = rw c.as_slice.ensures.value c.job-setting.ensures }
