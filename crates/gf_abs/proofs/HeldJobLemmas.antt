-- What the held files give is one job, which has one output at each input.
use Rattle.std.proofs.Common.{◌≡◌, subst, sym, ℕ, ◌<◌, ◌^◌, List}
use Rattle.job_io.specs.Shelf.{Files}
use Rattle.circuit_model.specs.Circuit.{Circuit, IsInput}
use Rattle.circuit_model.specs.Job.{IsJob}
use Rattle.circuit_model.specs.Out.{IsOut}
use Rattle.circuit_model.proofs.JobBoundLemmas.{job_well}
use Rattle.circuit_model.proofs.OutLemmas.{job_one_out, job_some_out}
use Rattle.job_words.specs.Operands.{Word}
use Rattle.job_input.specs.NetlistOf.{by_ending}
use Rattle.job_input.specs.SettingValue.{SettingValue}
use Rattle.job_input.proofs.SettingSoundLemmas.{setting_sound}
use Rattle.answer_core.specs.Printed.{AreHeld}
use Rattle.answer_core.proofs.TakenLemmas.{netlist_bases, netlist_bits, netlist_bound_to, netlist_sound}
use Rattle.gf_abs.proofs.HeadlineLemmas.{one_held, one_setting}

module _ (files : Files) (signature net : Word) (cycles : ℕ) where
  pub held_is_job : (setting : SettingValue) (job : Circuit) → AreHeld files signature net cycles setting job → IsJob job
  held_is_job setting job held =
      let is = held.is_job in
      let text = by_ending net held.text in
      let sound = setting_sound held.bytes setting is.is_setting in
      let P : Circuit → Type 0 = IsJob in
      subst P (sym is.is_job)
      (job_well setting.k setting.product is.bound setting.bases cycles (netlist_bound_to setting is.bound sound text is.is_bound) (netlist_bits setting is.bound sound text is.is_bound) (netlist_bases setting is.bound sound text is.is_bound)
      (netlist_sound setting.signature text is.bound is.is_bound) sound.ring sound.field)

  pub one_of_held : (setting other : SettingValue) (job second : Circuit) → AreHeld files signature net cycles setting job → AreHeld files signature net cycles other second → (setting ≡ other) × (job ≡ second)
  one_of_held setting other job second first more =
      let same = one_setting files signature net net cycles setting other job second first more in
      let P : SettingValue → Type 0 = λ s. AreHeld files signature net cycles s job in
      (same, one_held files signature net cycles other job second (subst P same first) more)

  pub held_output : (setting : SettingValue) (job : Circuit) (xs : List ℕ) → AreHeld files signature net cycles setting job → IsInput job xs → (e : ℕ) × IsOut job xs e × (e < 2 ^ job.k)
  held_output setting job xs held input = job_some_out job xs (held_is_job setting job held) input

  pub held_one_output : (setting : SettingValue) (job : Circuit) (xs : List ℕ) (e other : ℕ) → AreHeld files signature net cycles setting job → IsOut job xs e → IsOut job xs other → e ≡ other
  held_one_output setting job xs e other held first more = job_one_out job xs e other (held_is_job setting job held) first more
