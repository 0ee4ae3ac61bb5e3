-- That the setting of a signature's file is sound. Source: this project's own.
use Rattle.std.specs.Prelude.{Option, Ok}
use Rattle.job_io.specs.Shelf.{Files}
use Rattle.job_words.specs.Operands.{Word}
use Rattle.job_input.specs.SettingOf.{SettingWith, SignedValue}
use Rattle.job_input.specs.SettingSound.{IsSoundSetting}
use Rattle.job_input.specs.SettingValue.{SettingValue}
use Rattle.job_input.specs.SignedIn.{SignedIn}

-- the setting of the signature in a file is sound, also where the shelf does not tell what it holds
abbrev pub HeldSettingsAreSound : Type 0
HeldSettingsAreSound = (held : Option Files) (file : Word) (signed : SignedValue) (setting : SettingValue) → SignedIn held file (Ok signed) → SettingWith signed (Ok setting) → IsSoundSetting setting
