use Rattle.job_laws.proofs.SettingExists.{some_second_signed, some_signed, some_signed_in}
use Rattle.job_laws.proofs.settings.some_signed_or_fault.Goals as goal

pub returns-clause-text : goal.returns-clause-text
returns-clause-text c = some_signed

pub returns-clause-file : goal.returns-clause-file
returns-clause-file c = some_signed_in

pub returns-clause-second : goal.returns-clause-second
returns-clause-second c = some_second_signed
