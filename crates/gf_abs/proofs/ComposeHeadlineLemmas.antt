-- What `compose` answers, out of what comes of its steps.
use Rattle.std.proofs.Common.{◌≡◌, ◌∙◌, ap, sym, refl, subst, ℕ, ◌≤◌, ◌^◌, Bool, if◌then◌else◌, List, [], ◌∷◌, length, Some, Ok, arith}
use Rattle.std.specs.Option.{unwrap_or}
use Rattle.lists.specs.laws.OptionLaws.{same_ok}
use Rattle.job_io.specs.Shelf.{Files}
use Rattle.net_core.specs.NetList.{nets, NetList}
use Rattle.net_core.specs.Sound.{IsSound}
use Rattle.net_blif.specs.Design.{ModelValue}
use Rattle.net_flat.specs.Flat.{Flattens}
use Rattle.net_flat.proofs.FlatDetermined.{flattens_once}
use Rattle.net_words.specs.Bind.{BindingOf}
use Rattle.net_words.specs.Binding.{BoundNet}
use Rattle.net_words.specs.OneCycle.{IsFlat}
use Rattle.net_words.specs.declared.feed.FeedText.{FeedText}
use Rattle.net_words.proofs.BindDetermined.{binding_determined}
use Rattle.poly_mixed.specs.Polynomial.{Terms}
use Rattle.circuit_model.specs.Circuit.{Circuit}
use Rattle.circuit_model.specs.OfBinding.{circuit_with}
use Rattle.stage_model.specs.OutputInWords.{IsOutputInWords}
use Rattle.unroll.specs.Unrolled.{in_one_cycle}
use Rattle.unroll.proofs.FlatLemmas.{flat_to}
use Rattle.compose_model.specs.Hierarchy.{bases_at, Hierarchy}
use Rattle.compose_model.proofs.InstanceLemmas.{flat_binding}
use Rattle.compose_model.proofs.NamesLemmas.{AreUnfed}
use Rattle.block_compose.specs.Composed.{ComposesIn}
use Rattle.block_compose.proofs.GivenLemmas.{unfed_words}
use Rattle.job_words.specs.Command.{Compose, Job, Over}
use Rattle.job_words.specs.Operands.{IsBlifName, Word}
use Rattle.job_words.proofs.OneCommandLemmas.{one_job}
use Rattle.job_input.specs.CircuitOf.{all_cycles, CircuitOf}
use Rattle.job_input.specs.HierarchyIn.{HierarchyOf}
use Rattle.job_input.specs.JobOf.{job_of}
use Rattle.job_input.specs.NetlistOf.{Blif, BoundNetOf, NetlistText}
use Rattle.job_input.specs.SettingOf.{BasesOf, SettingOf, SettingWith, SignedValue}
use Rattle.job_input.specs.SettingSound.{IsSoundSetting}
use Rattle.job_input.specs.SettingValue.{SettingValue}
use Rattle.job_input.proofs.SettingDetermined.{bases_determined}
use Rattle.job_input.proofs.SettingSoundLemmas.{setting_sound}
use Rattle.gf_abs.specs.Answer.{JobAnswer}
use Rattle.gf_abs.specs.ComposeHeadline.{AnswersCompose}
use Rattle.gf_abs.specs.Headline.{AnswersAbstract}
use Rattle.answer_core.specs.Printed.{IsPrinted, PrintsHeld}
use Rattle.answer_core.specs.Reply.{prints, Reply}
use Rattle.answer_core.specs.Abstraction.{taken_circuit}
use Rattle.answer_composition.specs.Compose.{hierarchy_with, ListsOf}
use Rattle.answer_composition.proofs.ComposeDetermined.{list_stays}
use Rattle.gf_abs.proofs.HeadlineLemmas.{bytes_only, held_job}
use Rattle.answer_core.proofs.JobLemmas.{printed_to, with_job, IsOneWith}
use Rattle.gf_abs.proofs.MakeHeadlineLemmas.{blif_text}
use Rattle.answer_core.proofs.PrintedLemmas.{no_bits}
use Rattle.answer_core.proofs.TakenLemmas.{netlist_bound, netlist_bound_to, netlist_sound}

-- ---- a net with nothing to unroll

module _ (setting : SettingValue) (sound : IsSoundSetting setting) (text : NetlistText) (netlist : BoundNet) (is : BoundNetOf setting.signature text (Ok netlist)) (latches : netlist.net.latches ≡ []) (unfed : AreUnfed setting.signature.words) (feeds : setting.signature.feeds ≡ []) where
  net_sound : IsSound netlist.net
  net_sound = netlist_sound setting.signature text netlist is

  bound : BindingOf netlist.net setting.signature.words [] (Ok netlist.binding)
  bound = let P : List FeedText → Type 0 = λ fs. BindingOf netlist.net setting.signature.words fs (Ok netlist.binding) in subst P feeds (netlist_bound setting.signature text netlist is)

  flat : IsFlat netlist.net netlist.binding
  flat = flat_binding setting.k setting.signature.words sound.words unfed netlist.net netlist.binding net_sound latches bound

  one_cycle : all_cycles netlist 0 ≡ netlist
  unfolding all_cycles
  one_cycle = ap (λ (b : Bool). if b then record { net = netlist.net; binding = netlist.binding } else in_one_cycle netlist.net netlist.binding 0) (flat_to netlist.net netlist.binding (netlist_bound_to setting netlist sound text is) flat)

  circuit_is : CircuitOf netlist 0 (Ok netlist)
  circuit_is =
      let P : BoundNet → Type 0 = λ b. nets b.net ≤ 2 ^ 20 in
      let Q : BoundNet → Type 0 = λ b. length b.net.gates ≤ 2 ^ 20 in
      let few = net_sound.inside.few_gates in
      let gates : length netlist.net.gates ≤ 2 ^ 20 = omega (arith, few) in
      (sym one_cycle, subst P (sym one_cycle) net_sound.inside.few_nets, subst Q (sym one_cycle) gates)

  pub one_with : IsOneWith (taken_circuit setting netlist) (job_of setting netlist 0)
  one_with = with_job setting netlist netlist 0 sound text is circuit_is

-- ---- a composition

-- the bases of a setting are those of its words
own_bases : (signed : SignedValue) (setting : SettingValue) → SettingWith signed (Ok setting) → BasesOf setting.k setting.product setting.signature.words (Ok setting.bases)
own_bases signed setting (bases, are, (u, judged, (v, within, same))) = let P : SettingValue → Type 0 = λ s. BasesOf s.k s.product s.signature.words (Ok s.bases) in subst P (sym same) are

module _ (setting : SettingValue) (sound : IsSoundSetting setting) (own : BasesOf setting.k setting.product setting.signature.words (Ok setting.bases)) (bytes : List ℕ) (design : List ModelValue) (hierarchy : HierarchyOf setting.signature bytes (Ok design)) (lists : List (List (List ℕ))) (listed : ListsOf setting.k setting.product setting.signature (Ok lists)) (terms : ℕ) (ts : Terms)
    (composed : ComposesIn setting.k setting.product setting.signature (hierarchy_with setting design lists) terms (Ok ts)) where
  abbrev h : Hierarchy
  h = hierarchy_with setting design lists

  -- the net of the whole netlist with its words
  abbrev netlist : BoundNet
  netlist = hierarchy.2.1.2.0

  is_bound : BoundNetOf setting.signature (Blif bytes) (Ok netlist)
  is_bound = (hierarchy.2.1.0, (hierarchy.0, hierarchy.1, hierarchy.2.1.1), hierarchy.2.1.2.1)

  -- nothing of the top is fed
  unfed : AreUnfed setting.signature.words
  unfed = (unfed_words setting.signature composed.1.1).0

  feeds : setting.signature.feeds ≡ []
  feeds = (unfed_words setting.signature composed.1.1).1

  abbrev top : Circuit
  top = composed.2.2.2.top

  net_same : netlist.net ≡ composed.2.2.2.top_is.net
  net_same =
      let P : List ModelValue → Type 0 = λ models. Flattens models 0 (Ok composed.2.2.2.top_is.net) in
      ap (λ (b : BoundNet). b.net) hierarchy.2.1.2.1.2 ∙ same_ok hierarchy.2.1.0 composed.2.2.2.top_is.net (flattens_once hierarchy.0 0 (Ok hierarchy.2.1.0) (Ok composed.2.2.2.top_is.net) hierarchy.2.1.1 (subst P hierarchy.2.2 composed.2.2.2.top_is.flat))

  latches : netlist.net.latches ≡ []
  latches = ap (λ (n : NetList). n.latches) net_same ∙ composed.2.2.2.top_is.latches

  bound_same : netlist.binding ≡ composed.2.2.2.top_is.binding
  bound_same =
      let P : NetList → Type 0 = λ n. BindingOf n setting.signature.words [] (Ok netlist.binding) in
      same_ok netlist.binding composed.2.2.2.top_is.binding (binding_determined composed.2.2.2.top_is.net setting.signature.words [] (Ok netlist.binding) (Ok composed.2.2.2.top_is.binding) (subst P net_same (bound setting sound (Blif bytes) netlist is_bound latches unfed feeds)) composed.2.2.2.top_is.bound)

  bases_same : setting.bases ≡ bases_at h 0
  bases_same =
      let at = list_stays setting.k setting.product (listed.0 ∷ []) lists setting.signature.blocks 0 listed.0 listed.2 refl in
      same_ok setting.bases listed.0 (bases_determined setting.k setting.product setting.signature.words (Ok setting.bases) (Ok listed.0) own listed.1) ∙ sym (ap (λ found. unwrap_or found []) at)

  circuit_same : taken_circuit setting netlist ≡ top
  circuit_same = (λ i. circuit_with setting.k setting.product (record { net = net_same i; binding = bound_same i }) (bases_same i)) ∙ composed.2.2.2.top_is.is

  output : IsOutputInWords (taken_circuit setting netlist) ts
  output = let P : Circuit → Type 0 = λ c. IsOutputInWords c ts in subst P (sym circuit_same) composed.2.2.2.output

  pub composed_one : IsOneWith (taken_circuit setting netlist) (job_of setting netlist 0)
  composed_one = one_with setting sound (Blif bytes) netlist is_bound latches unfed feeds

  pub composed_printed : (reply : Reply) → reply ≡ prints setting ts → IsPrinted setting (taken_circuit setting netlist) reply
  composed_printed reply same = record {
    polynomial = ts;
    status = ap (λ (r : Reply). r.status) same;
    line = ap (λ (r : Reply). r.text) same;
    in_words = record { reduced = output.reduced; words = record { bits = no_bits ts (λ rank. output.no_bits rank (omega arith)); words = output.words_alone } };
    values = output.values;
  }

-- ---- the answers

job_composes : (files : Files) (signature net : Word) (terms : ℕ) (reply : Reply) → IsBlifName net → JobAnswer (Some files) (Over signature (Compose net terms)) (Ok reply) → PrintsHeld files signature net 0 reply
job_composes files signature net terms reply name (signed, (text, read, is), (setting, are, (design, (bytes, read', hierarchy), (lists, listed, (ts, composed, same))))) =
    let taken : SettingOf text (Ok setting) = (signed, is, are) in
    let sound = setting_sound text setting taken in
    let own = own_bases signed setting are in
    let netlist : BoundNet = hierarchy.2.1.2.0 in
    let P : NetlistText → Type 0 = λ t. BoundNetOf setting.signature t (Ok netlist) in
    let bound = subst P (sym (blif_text net bytes name)) (is_bound setting sound own bytes design hierarchy lists listed terms ts composed) in
    record {
      setting = setting;
      job = job_of setting netlist 0;
      held = held_job files signature net 0 setting netlist text bytes read read' taken bound;
      printed = printed_to setting (taken_circuit setting netlist) (job_of setting netlist 0) (composed_one setting sound own bytes design hierarchy lists listed terms ts composed) reply (composed_printed setting sound own bytes design hierarchy lists listed terms ts composed reply same);
    }

pub compose_prints : (files : Files) (words : List Word) (signature net : Word) (reply : Reply) → AnswersCompose files words signature net reply → PrintsHeld files signature net 0 reply
compose_prints files words signature net reply is =
    let P : Job → Type 0 = λ job. JobAnswer (Some files) job (Ok reply) in
    let answer = is.answer in
    job_composes files signature net is.bound reply is.spelled.follow.in_blif (subst P (one_job words answer.0 (Over signature (Compose net is.bound)) answer.1 is.spelled) answer.2)

-- what `abstract` prints of the same files is the same
pub compose_same : (files : Files) (words words' : List Word) (signature net : Word) (reply reply' : Reply) → AnswersCompose files words signature net reply → AnswersAbstract files words' signature net 0 reply' → reply.text ≡ reply'.text
compose_same files words words' signature net reply reply' is is' =
    let p = compose_prints files words signature net reply is in
    p.printed.line ∙ sym ((bytes_only files words' signature net 0 reply' p.setting p.job p.printed.polynomial is' p.held p.printed.in_words).1 p.printed.values)
