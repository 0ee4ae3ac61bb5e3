use Rattle.job_input.proofs.SettingSoundLemmas.{setting_sound}
use Rattle.job_input.proofs.laws.each_setting_is_sound.Goals as goal

pub returns : goal.returns
returns c = setting_sound
