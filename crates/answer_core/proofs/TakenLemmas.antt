-- The circuit of all cycles of texts that are taken is well-formed, and has no latches.
use Rattle.std.proofs.Common.{◌≡◌, ◌∙◌, ap, sym, subst, List, ℕ, ◌≤◌, ◌^◌, [], length, Ok}
use Rattle.net_core.specs.NetList.{NetList, nets}
use Rattle.net_core.specs.Sound.{IsSound}
use Rattle.net_words.specs.Bind.{BindingOf, bits_of}
use Rattle.net_words.specs.Binding.{Binding, BoundNet}
use Rattle.net_words.specs.BoundTo.{IsBoundTo}
use Rattle.net_words.specs.OneCycle.{IsOneCycle}
use Rattle.net_words.specs.declared.feed.FeedText.{FeedText}
use Rattle.net_words.specs.declared.word.WordText.{WordText}
use Rattle.net_signature.specs.Signature.{SignatureValue}
use Rattle.net_words.proofs.BoundLemmas.{bound_to, first_long}
use Rattle.circuit_model.specs.OfBinding.{HaveBases}
use Rattle.circuit_model.specs.WellFormed.{IsWellFormed}
use Rattle.circuit_model.proofs.BoundLemmas.{bound_well}
use Rattle.job_input.specs.CircuitOf.{CircuitOfText}
use Rattle.job_input.specs.NetlistOf.{BoundNetOf, NetlistText}
use Rattle.job_input.specs.Setting.{HaveRoles}
use Rattle.job_input.specs.SettingSound.{IsSoundSetting}
use Rattle.job_input.specs.SettingValue.{SettingValue}
use Rattle.job_input.proofs.CycleLemmas.{KeepsWords, keeps_words}
use Rattle.job_input.proofs.NetlistLemmas.{net_sound}
use Rattle.job_input.proofs.RoleLemmas.{netlist_roles, roles_long}
use Rattle.answer_core.specs.Abstraction.{taken_circuit}
use Rattle.answer_core.proofs.UnrollingLemmas.{unrolled_one_cycle}

-- ---- the netlist

pub netlist_sound : (signature : SignatureValue) (text : NetlistText) (netlist : BoundNet) → BoundNetOf signature text (Ok netlist) → IsSound netlist.net
netlist_sound signature text netlist (net, is_net, (bound, is, same)) =
    let Q : BoundNet → Type 0 = λ c. IsSound c.net in
    subst Q (sym same) (net_sound text net is_net)

pub netlist_bound : (signature : SignatureValue) (text : NetlistText) (netlist : BoundNet) → BoundNetOf signature text (Ok netlist) → BindingOf netlist.net signature.words signature.feeds (Ok netlist.binding)
netlist_bound signature text netlist (net, is_net, (bound, is, same)) =
    let P : BoundNet → Type 0 = λ c. BindingOf c.net signature.words signature.feeds (Ok c.binding) in
    subst P (sym same) is

binding_bits : (net : NetList) (words : List WordText) (feeds : List FeedText) (binding : Binding) → BindingOf net words feeds (Ok binding) → binding.k ≡ bits_of words
binding_bits net words feeds binding (bound, is, rest) = ap (λ (b : Binding). b.k) rest.2.2.2

module _ (setting : SettingValue) (netlist : BoundNet) (sound : IsSoundSetting setting) (text : NetlistText) (is : BoundNetOf setting.signature text (Ok netlist)) where
  pub netlist_bound_to : IsBoundTo netlist.net netlist.binding
  netlist_bound_to = bound_to netlist.net setting.k setting.signature.words setting.signature.feeds netlist.binding (netlist_sound setting.signature text netlist is) sound.words sound.feeds (netlist_bound setting.signature text netlist is)

  pub netlist_bits : netlist.binding.k ≡ setting.k
  netlist_bits = binding_bits netlist.net setting.signature.words setting.signature.feeds netlist.binding (netlist_bound setting.signature text netlist is) ∙ first_long setting.k setting.signature.words sound.words

  pub netlist_bases : HaveBases setting.k netlist.binding.words setting.bases
  netlist_bases = record { long = sound.long ∙ sym (roles_long setting.signature.words netlist.binding.words (netlist_roles setting.signature text netlist is)); each = sound.each }

-- ---- the circuit of its cycles

module _ (setting : SettingValue) (circuit : BoundNet) (sound : IsSoundSetting setting) (text : NetlistText) (cycles : ℕ) (is : CircuitOfText setting.signature text cycles (Ok circuit)) where
  keeps : KeepsWords is.0 circuit
  keeps = let P : BoundNet → Type 0 = λ c. KeepsWords is.0 c in subst P (sym is.2.0) (keeps_words is.0 cycles)

  pub circuit_roles : HaveRoles setting.signature.words circuit.binding.words
  circuit_roles = keeps.roles ∙ netlist_roles setting.signature text is.0 is.1

  -- there is a basis for each word
  pub bases_long : length setting.bases ≡ length circuit.binding.words
  bases_long = sound.long ∙ sym (roles_long setting.signature.words circuit.binding.words circuit_roles)

  pub one_cycle : IsSound circuit.net × IsOneCycle circuit.net circuit.binding
  one_cycle =
      let P : BoundNet → Type 0 = λ c. IsSound c.net × IsOneCycle c.net c.binding in
      subst P (sym is.2.0) (unrolled_one_cycle is.0 cycles (record { few = is.2.1; small = is.2.2 }) (netlist_sound setting.signature text is.0 is.1) (netlist_bound_to setting is.0 sound text is.1))

  pub circuit_sound : IsSound circuit.net
  circuit_sound = one_cycle.0

  pub circuit_flat : circuit.net.latches ≡ []
  circuit_flat = one_cycle.1.flat.latches

  pub circuit_bits : circuit.binding.k ≡ setting.k
  circuit_bits = keeps.bits ∙ netlist_bits setting is.0 sound text is.1

  pub circuit_few : nets circuit.net ≤ 2 ^ 20
  circuit_few = let P : BoundNet → Type 0 = λ c. nets c.net ≤ 2 ^ 20 in subst P (sym is.2.0) is.2.1

  pub circuit_well : IsWellFormed (taken_circuit setting circuit)
  circuit_well =
      bound_well setting.k setting.product circuit setting.bases one_cycle.1 circuit_bits (record { long = bases_long; each = sound.each }) sound.ring sound.field circuit_sound
