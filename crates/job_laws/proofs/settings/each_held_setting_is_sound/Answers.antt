use Rattle.job_laws.proofs.SettingExists.{held_sound}
use Rattle.job_laws.proofs.settings.each_held_setting_is_sound.Goals as goal

pub returns : goal.returns
returns c = held_sound
