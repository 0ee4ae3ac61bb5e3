-- The circuit of words that are taken, each with a basis, is well-formed.
use Rattle.std.proofs.Common.{◌≡◌, ◌∙◌, ap, sym, ℕ, List, [], ◌∷◌, ◌++◌, ◌+◌, length, map, Ok, arith}
use Rattle.std.proofs.lemmas.List.{length-append}
use Rattle.lists.specs.Lists.{Has}
use Rattle.net_core.specs.NetList.{NetList}
use Rattle.net_core.specs.Sound.{IsSound}
use Rattle.net_words.specs.Bind.{BoundOf, BindingOf, bound_word}
use Rattle.net_words.specs.Binding.{Binding, BoundNet, AreWords}
use Rattle.net_words.specs.Feeds.{AreFeeds}
use Rattle.net_words.specs.OneCycle.{IsFlat}
use Rattle.net_words.specs.declared.bound.BoundWord.{BoundWord}
use Rattle.net_words.specs.declared.feed.FeedText.{FeedText}
use Rattle.net_words.specs.declared.word.WordText.{WordText}
use Rattle.net_words.proofs.BoundLemmas.{bound_to, first_long}
use Rattle.net_words.proofs.FlatLemmas.{flat_bound}
use Rattle.gf_field.specs.Ring.{IsRing}
use Rattle.gf_field.specs.Field.{HasNoZeroDivisors}
use Rattle.gf_basis.specs.Basis.{IsBasis}
use Rattle.circuit_model.specs.WellFormed.{IsWellFormed}
use Rattle.circuit_model.specs.OfBinding.{circuit_with}
use Rattle.circuit_model.specs.Job.{IsJob}
use Rattle.circuit_model.specs.JobOfBinding.{job_with}
use Rattle.circuit_model.proofs.BoundLemmas.{bound_well}
use Rattle.circuit_model.proofs.JobBoundLemmas.{job_well}

added_long : (net : NetList) (taken : List ℕ) (before : List BoundWord) (words : List WordText) (whole : List BoundWord × List ℕ) → BoundOf net taken before words (Ok whole) → length whole.0 ≡ length before + length words
added_long net taken before [] whole is = ap (λ (m : List BoundWord × List ℕ). length m.0) is ∙ omega arith
added_long net taken before (word ∷ words) whole (list, own, rest) =
    let more = added_long net list.1 (before ++ bound_word word list.0 ∷ []) words whole rest in
    let one = length-append before (bound_word word list.0 ∷ []) in
    omega (arith, more, one)

-- as many words are bound as there are
pub bound_long : (net : NetList) (words : List WordText) (feeds : List FeedText) (binding : Binding) → BindingOf net words feeds (Ok binding) → length binding.words ≡ length words
bound_long net words feeds binding (bound, is, rest) = ap (λ (b : Binding). length b.words) rest.2.2.2 ∙ (added_long net [] [] words bound is ∙ omega arith)

bits_are : (net : NetList) (k : ℕ) (words : List WordText) (feeds : List FeedText) (binding : Binding) → AreWords k words → BindingOf net words feeds (Ok binding) → binding.k ≡ k
bits_are net k words feeds binding are (bound, is, rest) = ap (λ (b : Binding). b.k) rest.2.2.2 ∙ first_long k words are

pub taken_well : (k : ℕ) (product : ℕ → ℕ → ℕ) (circuit : BoundNet) (words : List WordText) (feeds : List FeedText) (bases : List (List ℕ)) → IsRing k product → HasNoZeroDivisors k product → IsSound circuit.net → AreWords k words → AreFeeds k (map (λ word. word.role) words) feeds → BindingOf circuit.net words feeds (Ok circuit.binding)
    → IsFlat circuit.net circuit.binding → length bases ≡ length words → ((basis : List ℕ) → Has bases basis → IsBasis k basis) → IsWellFormed (circuit_with k product circuit bases)
taken_well k product circuit words feeds bases ring field sound are fed is flat long each =
    bound_well k product circuit bases (flat_bound circuit.net circuit.binding (bound_to circuit.net k words feeds circuit.binding sound are fed is) flat) (bits_are circuit.net k words feeds circuit.binding are is)
    (record { long = long ∙ sym (bound_long circuit.net words feeds circuit.binding is); each = each }) ring field sound

pub taken_job : (k : ℕ) (product : ℕ → ℕ → ℕ) (circuit : BoundNet) (words : List WordText) (feeds : List FeedText) (bases : List (List ℕ)) (cycles : ℕ) → IsRing k product → HasNoZeroDivisors k product → IsSound circuit.net → AreWords k words → AreFeeds k (map (λ word. word.role) words) feeds → BindingOf circuit.net words feeds (Ok circuit.binding)
    → length bases ≡ length words → ((basis : List ℕ) → Has bases basis → IsBasis k basis) → IsJob (job_with k product circuit bases cycles)
taken_job k product circuit words feeds bases cycles ring field sound are fed is long each =
    job_well k product circuit bases cycles (bound_to circuit.net k words feeds circuit.binding sound are fed is) (bits_are circuit.net k words feeds circuit.binding are is)
    (record { long = long ∙ sym (bound_long circuit.net words feeds circuit.binding is); each = each }) sound ring field
