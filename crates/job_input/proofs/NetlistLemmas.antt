-- What comes of a netlist, step by step.
use Rattle.std.proofs.Common.{◌≡◌, ◌⊎◌, inl, inr, sym, refl, subst, ℕ, zero, suc, ◌<◌, ◌+◌, Bool, true, false, cond, ◌&&◌, not, List, [], ◌∷◌, ◌++◌, length, get_or, Option, None, Some, Result, Ok, Err, arith}
use Rattle.std.specs.Prelude.{All}
use Rattle.std.proofs.lemmas.List.{length-append}
use Rattle.std.proofs.lemmas.Option.{slice_get-get_or}
use Rattle.outcome.specs.Outcome.{Outcome, ◌>>=◌, Within}
use Rattle.net_core.specs.NetList.{NetList, nets, number_of}
use Rattle.net_core.specs.Inside.{IsInside, LatchIsInside}
use Rattle.net_core.specs.LatchValue.{LatchValue}
use Rattle.net_core.specs.Sound.{IsSound}
use Rattle.net_core.specs.declared.fault.NetFault.{NetFault}
use Rattle.net_core.specs.declared.fault.NetFault.TheVariants as net_faults
use Rattle.net_aiger.specs.AigerNet.{AigerNet}
use Rattle.net_aiger.specs.declared.fault.AigerFault.{AigerFault}
use Rattle.net_aiger.specs.declared.fault.AigerFault.TheVariants as aigers
use Rattle.net_blif.specs.Design.{ModelValue}
use Rattle.net_flat.specs.Flat.{Flattens}
use Rattle.net_blif.specs.Models.{BlifDesign}
use Rattle.net_blif.specs.declared.fault.BlifFault.{BlifFault}
use Rattle.net_blif.specs.declared.fault.BlifFault.TheVariants as texts
use Rattle.net_flat.specs.declared.flat_fault.FlatFault.{FlatFault}
use Rattle.net_flat.specs.declared.flat_fault.FlatFault.TheVariants as flat_faults
use Rattle.net_flat.proofs.StateLemmas.{number_inside}
use Rattle.net_words.specs.Bind.{BindingOf, BoundOf, IsCovered, NetsOf, bound_word, is_latch, is_unknown, names_with, place_net, started, taken_with, with_role}
use Rattle.net_words.specs.BindReading.{FitsBinding}
use Rattle.net_words.specs.Binding.{Binding, BoundNet}
use Rattle.net_words.specs.Feeds.{FeedsOf, bound_feed, free_net, is_free}
use Rattle.net_words.specs.Roles.{in_word, stands_in}
use Rattle.net_words.specs.declared.binding.BindFault.{BindFault}
use Rattle.net_words.specs.declared.binding.BindFault.TheVariants as binds
use Rattle.net_words.specs.declared.bound.BoundWord.{BoundWord}
use Rattle.net_words.specs.declared.feed.Feed.{Feed}
use Rattle.net_words.specs.declared.feed.FeedText.{FeedText}
use Rattle.net_words.specs.declared.word.Role.{Role}
use Rattle.net_words.specs.declared.word.Role.TheVariants as roles
use Rattle.net_words.specs.declared.word.WordText.{WordText}
use Rattle.net_signature.specs.Signature.{SignatureValue}
use Rattle.verilog_reader.specs.Modules.{VerilogNet}
use Rattle.net_verilog.specs.declared.fault.VerilogFault.{VerilogFault}
use Rattle.net_verilog.specs.declared.fault.VerilogFault.TheVariants as verilogs
use Rattle.job_input.specs.NetlistOf.{Aiger, Blif, BoundNetOf, NetOf, NetlistText, Verilog, WordsBound, of_binding, of_model, of_text, word_name}
use Rattle.job_input.specs.private.NetlistReading.{FitsNetlist, IsNamed, IsNetlistRefusal, aiger_refusal, text_refusal, net_refusal, model_refusal, verilog_refusal}
use Rattle.job_words.specs.declared.netlist_fault.NetlistFault.{NetlistFault}
use Rattle.job_words.specs.declared.netlist_fault.NetlistFault.TheVariants as netlist
use Rattle.job_input.specs.declared.netlist.Refusal.{Refusal}
use Rattle.job_input.specs.declared.netlist.Refusal.TheVariants.{Fault, OutOfMemory}

-- the name of a word that was found
pub name_found : (words : List WordText) (w : ℕ) (d : WordText) → w < length words → (get_or words w d).name ≡ word_name words w
name_found words w d less = rw (slice_get-get_or words w d less) refl

module _ (net : NetList) (count word place : ℕ) (within : word < count) (taken : List ℕ) where
  role_named : (role : Role) (n : ℕ) (fault : BindFault) → n < nets net → with_role net word place taken role n ≡ Err fault → IsNamed count net fault
  role_named roles.Input n fault exists refused = by (stands_in net.inputs n) (stands_in taken n) refused
    where
      by : (a b : Bool) → cond (not a) (Err (binds.NotInput word place)) (cond b (Err (binds.NetTwice n)) (Ok n)) ≡ Err fault → IsNamed count net fault
      by false b e = let same : binds.NotInput word place ≡ fault = cc in rw (← same) within
      by true true e = let same : binds.NetTwice n ≡ fault = cc in rw (← same) exists
      by true false e = absurd (cc)
  role_named roles.State n fault exists refused = by (is_latch net n) (stands_in taken n) refused
    where
      by : (a b : Bool) → cond (not a) (Err (binds.NotLatch word place)) (cond b (Err (binds.NetTwice n)) (Ok n)) ≡ Err fault → IsNamed count net fault
      by false b e = let same : binds.NotLatch word place ≡ fault = cc in rw (← same) within
      by true true e = let same : binds.NetTwice n ≡ fault = cc in rw (← same) exists
      by true false e = absurd (cc)
  role_named roles.Fed n fault exists refused = let same : binds.NotInput word place ≡ fault = cc in rw (← same) within
  role_named roles.Output n fault exists refused = absurd (cc)

  place_named : (role : Role) (name : List ℕ) (fault : BindFault) → place_net net word place taken role (number_of net name) ≡ Err fault → IsNamed count net fault
  place_named role name fault refused = by (number_of net name) refl refused
    where
      by : (found : Option ℕ) → number_of net name ≡ found → place_net net word place taken role found ≡ Err fault → IsNamed count net fault
      by None is e = let same : binds.NoSuchNet word place ≡ fault = cc in rw (← same) within
      by (Some n) is e = role_named role n fault (number_inside net name n is) e

nets_named : (net : NetList) (count word : ℕ) (role : Role) (taken before : List ℕ) (names : List (List ℕ)) (fault : BindFault) → word < count → NetsOf net word role taken before names (Err fault) → IsNamed count net fault
nets_named net count word role taken before [] fault within refused = absurd refused
nets_named net count word role taken before (name ∷ names) fault within (inl here) = place_named net count word (length before) within taken role name fault (sym here)
nets_named net count word role taken before (name ∷ names) fault within (inr (n, _, later)) = nets_named net count word role (taken_with role n taken) (before ++ n ∷ []) names fault within later

words_named : (net : NetList) (count : ℕ) (taken : List ℕ) (before : List BoundWord) (words : List WordText) (fault : BindFault) → count ≡ length before + length words → BoundOf net taken before words (Err fault) → IsNamed count net fault
words_named net count taken before [] fault all refused = absurd refused
words_named net count taken before (word ∷ words) fault all (inl here) = nets_named net count (length before) word.role taken [] (names_with word.role word.nets) fault (omega arith) here
words_named net count taken before (word ∷ words) fault all (inr (list, _, later)) =
    let more : length (before ++ bound_word word list.0 ∷ []) ≡ length before + 1 = length-append before (bound_word word list.0 ∷ []) in
    words_named net count list.1 (before ++ bound_word word list.0 ∷ []) words fault (omega (arith, all, more)) later

feeds_named : (net : NetList) (count : ℕ) (words : List BoundWord) (before : List Feed) (feeds : List FeedText) (fault : BindFault) → FeedsOf net words before feeds (Err fault) → IsNamed count net fault
feeds_named net count words before [] fault refused = absurd refused
feeds_named net count words before (feed ∷ feeds) fault (inl here) = by (number_of net feed.net) here
  where
    by : (found : Option ℕ) → Err fault ≡ free_net net words feed.line found → IsNamed count net fault
    by None e = let same : fault ≡ binds.FeedNotFree feed.line = cc in rw same tt
    by (Some n) e = free (is_free net words n) e
      where
        free : (b : Bool) → Err fault ≡ cond b (Ok n) (Err (binds.FeedNotFree feed.line)) → IsNamed count net fault
        free true f = absurd (cc)
        free false f = let same : fault ≡ binds.FeedNotFree feed.line = cc in rw same tt
feeds_named net count words before (feed ∷ feeds) fault (inr (n, _, later)) = feeds_named net count words (before ++ bound_feed feed n ∷ []) feeds fault later

covered_named : (net : NetList) (count : ℕ) (words : List BoundWord) (feeds : List Feed) (fault : BindFault) → IsCovered net words feeds (Err fault) → IsNamed count net fault
covered_named net count words feeds (binds.Uncovered n) refused = refused.0
covered_named net count words feeds (binds.NoSuchNet word place) refused = absurd refused
covered_named net count words feeds (binds.NotInput word place) refused = absurd refused
covered_named net count words feeds (binds.NotLatch word place) refused = absurd refused
covered_named net count words feeds (binds.NetTwice n) refused = absurd refused
covered_named net count words feeds (binds.FeedNotFree line) refused = absurd refused
covered_named net count words feeds (binds.UnknownStart n) refused = absurd refused
covered_named net count words feeds binds.OutOfMemory refused = absurd refused

started_named : (net : NetList) (count : ℕ) (words : List BoundWord) (latches : List LatchValue) (fault : BindFault) → All (LatchIsInside (nets net)) latches → Err fault ≡ started words latches → IsNamed count net fault
started_named net count words [] fault inside refused = absurd (cc)
started_named net count words (latch ∷ latches) fault inside refused = by (started_named net count words latches fault (λ k d less. inside (suc k) d (omega arith))) (is_unknown latch.start && not (in_word roles.State words latch.out)) refused
  where
    by : (Err fault ≡ started words latches → IsNamed count net fault) → (b : Bool) → Err fault ≡ cond b (Err (binds.UnknownStart latch.out)) (started words latches) → IsNamed count net fault
    by later true e = let same : binds.UnknownStart latch.out ≡ fault = cc in rw (← same) (inside zero latch (omega arith)).1
    by later false e = later e

-- the word or the net of a fault of a binding exists
binding_named : (net : NetList) (words : List WordText) (feeds : List FeedText) (fault : BindFault) → IsInside net → BindingOf net words feeds (Err fault) → IsNamed (length words) net fault
binding_named net words feeds fault inside (inl here) = words_named net (length words) [] [] words fault (omega arith) here
binding_named net words feeds fault inside (inr (bound, _, inl here)) = feeds_named net (length words) bound.0 [] feeds fault here
binding_named net words feeds fault inside (inr (bound, _, inr (fed, _, inl here))) = covered_named net (length words) bound.0 fed fault here
binding_named net words feeds fault inside (inr (bound, _, inr (fed, _, inr (_, _, inl here)))) = started_named net (length words) bound.0 net.latches fault inside.latches here
binding_named net words feeds fault inside (inr (bound, _, inr (fed, _, inr (_, _, inr (_, _, here))))) = absurd here

pub fault_named : (net : NetList) (words : List WordText) (feeds : List FeedText) (fault : BindFault) → IsInside net → FitsBinding {A = Binding} (λ bound. bound) (Err fault) (BindingOf net words feeds) → IsNamed (length words) net fault
fault_named net words feeds (binds.NoSuchNet word place) inside fits = binding_named net words feeds (binds.NoSuchNet word place) inside fits
fault_named net words feeds (binds.NotInput word place) inside fits = binding_named net words feeds (binds.NotInput word place) inside fits
fault_named net words feeds (binds.NotLatch word place) inside fits = binding_named net words feeds (binds.NotLatch word place) inside fits
fault_named net words feeds (binds.NetTwice n) inside fits = binding_named net words feeds (binds.NetTwice n) inside fits
fault_named net words feeds (binds.FeedNotFree line) inside fits = binding_named net words feeds (binds.FeedNotFree line) inside fits
fault_named net words feeds (binds.Uncovered n) inside fits = binding_named net words feeds (binds.Uncovered n) inside fits
fault_named net words feeds (binds.UnknownStart n) inside fits = binding_named net words feeds (binds.UnknownStart n) inside fits
fault_named net words feeds binds.OutOfMemory inside fits = tt

-- a fault that is not out of memory is one that may come
fault_comes : (net : NetList) (words : List WordText) (feeds : List FeedText) (fault : BindFault) → ¬ (fault ≡ binds.OutOfMemory) → FitsBinding {A = Binding} (λ bound. bound) (Err fault) (BindingOf net words feeds) → BindingOf net words feeds (Err fault)
fault_comes net words feeds (binds.NoSuchNet word place) other fits = fits
fault_comes net words feeds (binds.NotInput word place) other fits = fits
fault_comes net words feeds (binds.NotLatch word place) other fits = fits
fault_comes net words feeds (binds.NetTwice n) other fits = fits
fault_comes net words feeds (binds.FeedNotFree line) other fits = fits
fault_comes net words feeds (binds.Uncovered n) other fits = fits
fault_comes net words feeds (binds.UnknownStart n) other fits = fits
fault_comes net words feeds binds.OutOfMemory other fits = absurd (other refl)

-- what comes of a binding that is refused
pub unbound : (net : NetList) (words : List WordText) (feeds : List FeedText) (fault : BindFault) (refusal : Refusal) → FitsBinding {A = Binding} (λ bound. bound) (Err fault) (BindingOf net words feeds) → IsNetlistRefusal (netlist.Binding (of_binding words net fault)) refusal → (fault ≡ binds.OutOfMemory → refusal ≡ OutOfMemory) → FitsNetlist (Err refusal) (WordsBound words feeds net)
unbound net words feeds fault OutOfMemory fits same memory = tt
unbound net words feeds fault (Fault other) fits same memory = inl (fault, fault_comes net words feeds fault (λ wanting. never (memory wanting)) fits, same)
  where
    never : Fault other ≡ OutOfMemory → ⊥
    never e = cc

-- what comes of the words comes of the text whose net it is
pub text_bound : (text : NetlistText) (signature : SignatureValue) (net : NetList) (result : Result BoundNet Refusal) → NetOf text (Ok net) → FitsNetlist result (WordsBound signature.words signature.feeds net) → FitsNetlist result (BoundNetOf signature text)
text_bound text signature net (Ok circuit) first then = (net, first, then)
text_bound text signature net (Err (Fault fault)) first then = inr (net, first, then)
text_bound text signature net (Err OutOfMemory) first then = tt

-- a net of a text is sound
pub net_sound : (text : NetlistText) (net : NetList) → NetOf text (Ok net) → IsSound net
net_sound (Blif text) net (design, is_design, (flat, is_flat, made)) = let P : NetList → Type 0 = λ n. IsSound n in subst P (sym made.0) made.1
net_sound (Verilog text) net (listed, is_made, made) = let P : NetList → Type 0 = λ n. IsSound n in subst P (sym made.0) made.1
net_sound (Aiger text) net (reading, is_read, (_, _, (_, _, (listed, is_made, made)))) = let P : NetList → Type 0 = λ n. IsSound n in subst P (sym made.0) made.1

-- what comes of a text that is refused
pub text_stops : {B : Type 0} (second : List ModelValue → Outcome NetlistFault B) (text : List ℕ) (fault : BlifFault) → (fault ≡ texts.OutOfMemory) ⊎ BlifDesign text (Err fault) → FitsNetlist {A = B} (Err (text_refusal fault)) (Within of_text (BlifDesign text) >>= second)
text_stops {B = B} second text fault why = by fault why
  where
    none : (fault : BlifFault) → BlifDesign text (Err fault) → (Within of_text (BlifDesign text) >>= second) (Err (of_text fault))
    none fault refused = inl (fault, refused, refl)

    wanting : (fault : BlifFault) (C : Type 0) → (fault ≡ texts.OutOfMemory → C) → (BlifDesign text (Err fault) → C) → (fault ≡ texts.OutOfMemory) ⊎ BlifDesign text (Err fault) → C
    wanting fault C f g (inl is) = f is
    wanting fault C f g (inr is) = g is

    by : (fault : BlifFault) → (fault ≡ texts.OutOfMemory) ⊎ BlifDesign text (Err fault) → FitsNetlist {A = B} (Err (text_refusal fault)) (Within of_text (BlifDesign text) >>= second)
    by texts.NoModel why = wanting texts.NoModel _ (λ e. absurd (cc)) (none texts.NoModel) why
    by (texts.Syntax line) why = wanting (texts.Syntax line) _ (λ e. absurd (cc)) (none (texts.Syntax line)) why
    by (texts.LeftOut line word) why = wanting (texts.LeftOut line word) _ (λ e. absurd (cc)) (none (texts.LeftOut line word)) why
    by (texts.TooWide line inputs) why = wanting (texts.TooWide line inputs) _ (λ e. absurd (cc)) (none (texts.TooWide line inputs)) why
    by (texts.ModelTwice line) why = wanting (texts.ModelTwice line) _ (λ e. absurd (cc)) (none (texts.ModelTwice line)) why
    by (texts.NoSuchModel line) why = wanting (texts.NoSuchModel line) _ (λ e. absurd (cc)) (none (texts.NoSuchModel line)) why
    by (texts.NoSuchFormal line) why = wanting (texts.NoSuchFormal line) _ (λ e. absurd (cc)) (none (texts.NoSuchFormal line)) why
    by (texts.FormalTwice line) why = wanting (texts.FormalTwice line) _ (λ e. absurd (cc)) (none (texts.FormalTwice line)) why
    by (texts.FormalMissing line) why = wanting (texts.FormalMissing line) _ (λ e. absurd (cc)) (none (texts.FormalMissing line)) why
    by (texts.Recursive model) why = wanting (texts.Recursive model) _ (λ e. absurd (cc)) (none (texts.Recursive model)) why
    by texts.TooDeep why = wanting texts.TooDeep _ (λ e. absurd (cc)) (none texts.TooDeep) why
    by texts.OutOfMemory why = tt

-- a text in BLIF that is refused
pub text_refused : (text : List ℕ) (fault : BlifFault) → (fault ≡ texts.OutOfMemory) ⊎ BlifDesign text (Err fault) → FitsNetlist {A = NetList} (Err (text_refusal fault)) (NetOf (Blif text))
text_refused text fault why = text_stops (λ design. Within of_model (Flattens design 0)) text fault why

module _ (text : List ℕ) (design : List ModelValue) (read : BlifDesign text (Ok design)) where
  net_refused : (fault : NetFault) → (flat_faults.Net fault ≡ flat_faults.OutOfMemory) ⊎ Flattens design 0 (Err (flat_faults.Net fault)) → FitsNetlist {A = NetList} (Err (net_refusal fault)) (NetOf (Blif text))
  net_refused fault (inl e) = absurd (cc)
  net_refused net_faults.TooManyNets (inr is) = inr (design, read, (flat_faults.Net net_faults.TooManyNets, is, refl))
  net_refused net_faults.TooManyGates (inr is) = inr (design, read, (flat_faults.Net net_faults.TooManyGates, is, refl))
  net_refused (net_faults.DrivenTwice n label) (inr is) = inr (design, read, (flat_faults.Net (net_faults.DrivenTwice n label), is, refl))
  net_refused (net_faults.Undriven n label) (inr is) = inr (design, read, (flat_faults.Net (net_faults.Undriven n label), is, refl))
  net_refused (net_faults.Loop loop label) (inr is) = inr (design, read, (flat_faults.Net (net_faults.Loop loop label), is, refl))
  net_refused net_faults.OutOfMemory (inr is) = tt

  -- what comes of a model whose net is refused
  pub model_refused : (fault : FlatFault) → (fault ≡ flat_faults.OutOfMemory) ⊎ Flattens design 0 (Err fault) → FitsNetlist {A = NetList} (Err (model_refusal fault)) (NetOf (Blif text))
  model_refused (flat_faults.Net fault) why = net_refused fault why
  model_refused flat_faults.TooManyInstances (inl e) = absurd (cc)
  model_refused flat_faults.TooManyInstances (inr is) = inr (design, read, (flat_faults.TooManyInstances, is, refl))
  model_refused flat_faults.OutOfMemory why = tt

-- what comes of a text in ASCII AIGER that is refused
pub aiger_refused : (text : List ℕ) (fault : AigerFault) → (fault ≡ aigers.OutOfMemory) ⊎ AigerNet text (Err fault) → FitsNetlist {A = NetList} (Err (aiger_refusal fault)) (NetOf (Aiger text))
aiger_refused text fault why = by fault why
  where
    wanting : (fault : AigerFault) (C : Type 0) → (fault ≡ aigers.OutOfMemory → C) → (AigerNet text (Err fault) → C) → (fault ≡ aigers.OutOfMemory) ⊎ AigerNet text (Err fault) → C
    wanting fault C f g (inl is) = f is
    wanting fault C f g (inr is) = g is

    net : (fault : NetFault) → AigerNet text (Err (aigers.Net fault)) → FitsNetlist {A = NetList} (Err (net_refusal fault)) (NetOf (Aiger text))
    net net_faults.TooManyNets is = (aigers.Net net_faults.TooManyNets, is, refl)
    net net_faults.TooManyGates is = (aigers.Net net_faults.TooManyGates, is, refl)
    net (net_faults.DrivenTwice n label) is = (aigers.Net (net_faults.DrivenTwice n label), is, refl)
    net (net_faults.Undriven n label) is = (aigers.Net (net_faults.Undriven n label), is, refl)
    net (net_faults.Loop loop label) is = (aigers.Net (net_faults.Loop loop label), is, refl)
    net net_faults.OutOfMemory is = tt

    by : (fault : AigerFault) → (fault ≡ aigers.OutOfMemory) ⊎ AigerNet text (Err fault) → FitsNetlist {A = NetList} (Err (aiger_refusal fault)) (NetOf (Aiger text))
    by (aigers.Syntax line) why = wanting (aigers.Syntax line) _ (λ e. absurd (cc)) (λ is. (aigers.Syntax line, is, refl)) why
    by (aigers.LeftOut line word) why = wanting (aigers.LeftOut line word) _ (λ e. absurd (cc)) (λ is. (aigers.LeftOut line word, is, refl)) why
    by (aigers.Literal line) why = wanting (aigers.Literal line) _ (λ e. absurd (cc)) (λ is. (aigers.Literal line, is, refl)) why
    by (aigers.DefinedTwice line) why = wanting (aigers.DefinedTwice line) _ (λ e. absurd (cc)) (λ is. (aigers.DefinedTwice line, is, refl)) why
    by (aigers.Undefined line) why = wanting (aigers.Undefined line) _ (λ e. absurd (cc)) (λ is. (aigers.Undefined line, is, refl)) why
    by (aigers.NameTwice line) why = wanting (aigers.NameTwice line) _ (λ e. absurd (cc)) (λ is. (aigers.NameTwice line, is, refl)) why
    by (aigers.Net fault) why = wanting (aigers.Net fault) _ (λ e. absurd (cc)) (net fault) why
    by aigers.OutOfMemory why = tt

-- what comes of a text in structural Verilog that is refused
pub verilog_refused : (text : List ℕ) (fault : VerilogFault) → (fault ≡ verilogs.OutOfMemory) ⊎ VerilogNet text (Err fault) → FitsNetlist {A = NetList} (Err (verilog_refusal fault)) (NetOf (Verilog text))
verilog_refused text fault why = by fault why
  where
    wanting : (fault : VerilogFault) (C : Type 0) → (fault ≡ verilogs.OutOfMemory → C) → (VerilogNet text (Err fault) → C) → (fault ≡ verilogs.OutOfMemory) ⊎ VerilogNet text (Err fault) → C
    wanting fault C f g (inl is) = f is
    wanting fault C f g (inr is) = g is

    net : (fault : NetFault) → VerilogNet text (Err (verilogs.Net fault)) → FitsNetlist {A = NetList} (Err (net_refusal fault)) (NetOf (Verilog text))
    net net_faults.TooManyNets is = (verilogs.Net net_faults.TooManyNets, is, refl)
    net net_faults.TooManyGates is = (verilogs.Net net_faults.TooManyGates, is, refl)
    net (net_faults.DrivenTwice n label) is = (verilogs.Net (net_faults.DrivenTwice n label), is, refl)
    net (net_faults.Undriven n label) is = (verilogs.Net (net_faults.Undriven n label), is, refl)
    net (net_faults.Loop loop label) is = (verilogs.Net (net_faults.Loop loop label), is, refl)
    net net_faults.OutOfMemory is = tt

    by : (fault : VerilogFault) → (fault ≡ verilogs.OutOfMemory) ⊎ VerilogNet text (Err fault) → FitsNetlist {A = NetList} (Err (verilog_refusal fault)) (NetOf (Verilog text))
    by (verilogs.Syntax line) why = wanting (verilogs.Syntax line) _ (λ e. absurd (cc)) (λ is. (verilogs.Syntax line, is, refl)) why
    by (verilogs.LeftOut line word) why = wanting (verilogs.LeftOut line word) _ (λ e. absurd (cc)) (λ is. (verilogs.LeftOut line word, is, refl)) why
    by (verilogs.Undeclared line) why = wanting (verilogs.Undeclared line) _ (λ e. absurd (cc)) (λ is. (verilogs.Undeclared line, is, refl)) why
    by (verilogs.OutOfRange line) why = wanting (verilogs.OutOfRange line) _ (λ e. absurd (cc)) (λ is. (verilogs.OutOfRange line, is, refl)) why
    by (verilogs.Redeclared line) why = wanting (verilogs.Redeclared line) _ (λ e. absurd (cc)) (λ is. (verilogs.Redeclared line, is, refl)) why
    by (verilogs.Arity line inputs) why = wanting (verilogs.Arity line inputs) _ (λ e. absurd (cc)) (λ is. (verilogs.Arity line inputs, is, refl)) why
    by (verilogs.Net fault) why = wanting (verilogs.Net fault) _ (λ e. absurd (cc)) (net fault) why
    by verilogs.OutOfMemory why = tt
