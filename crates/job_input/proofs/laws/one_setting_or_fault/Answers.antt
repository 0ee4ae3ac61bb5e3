use Rattle.job_input.proofs.SettingDetermined.{setting_determined}
use Rattle.job_input.proofs.laws.one_setting_or_fault.Goals as goal

pub returns : goal.returns
returns c = setting_determined
