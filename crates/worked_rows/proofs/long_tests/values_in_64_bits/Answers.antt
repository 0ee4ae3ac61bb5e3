use Rattle.worked_rows.proofs.long_tests.values_in_64_bits.Goals as goal

pub check_values-requires : goal.check_values-requires
check_values-requires g c = rw c.as_slice.ensures.value c.job-setting.ensures
