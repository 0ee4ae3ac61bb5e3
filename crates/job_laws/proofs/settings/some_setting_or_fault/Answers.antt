use Rattle.job_laws.proofs.SettingExists.{some_second, some_setting, some_setting_of}
use Rattle.job_laws.proofs.settings.some_setting_or_fault.Goals as goal

pub returns-clause-signed : goal.returns-clause-signed
returns-clause-signed c = some_setting

pub returns-clause-text : goal.returns-clause-text
returns-clause-text c = some_setting_of

pub returns-clause-second : goal.returns-clause-second
returns-clause-second c = some_second
