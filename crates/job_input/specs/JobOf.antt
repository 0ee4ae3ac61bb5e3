-- The job of the texts of a signature and a netlist. Source: this project's own, docs/DEFINITIONS.md.
use Rattle.std.specs.Prelude.{◌≡◌, ℕ, List, Ok}
use Rattle.net_words.specs.Binding.{BoundNet}
use Rattle.circuit_model.specs.Circuit.{Circuit}
use Rattle.circuit_model.specs.JobOfBinding.{job_with}
use Rattle.job_input.specs.NetlistOf.{BoundNetOf, NetlistText}
use Rattle.job_input.specs.SettingOf.{SettingOf}
use Rattle.job_input.specs.SettingValue.{SettingValue}

-- the job of a setting and a net with bound words and feeds, over so many cycles after the first
abbrev pub job_of : SettingValue → BoundNet → ℕ → Circuit
job_of setting bound cycles = job_with setting.k setting.product bound setting.bases cycles

-- the text of a signature gives the setting, and with the text of a netlist the job over so many cycles after the first
pub record IsJobOf (signature : List ℕ) (netlist : NetlistText) (cycles : ℕ) (setting : SettingValue) (job : Circuit) : Type 0 where
  pub is_setting : SettingOf signature (Ok setting)
  pub bound : BoundNet
  pub is_bound : BoundNetOf setting.signature netlist (Ok bound)
  pub is_job : job ≡ job_of setting bound cycles
