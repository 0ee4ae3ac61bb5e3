-- What binds to a net and what its jobs compute, where the net is told by the names of its nets.
use Rattle.std.proofs.Common.{ℕ, List, Ok}
use Rattle.net_core.specs.NetList.{NetList}
use Rattle.net_core.specs.Sound.{IsSound}
use Rattle.net_words.specs.Bind.{BindingOf}
use Rattle.net_words.specs.Binding.{Binding}
use Rattle.net_words.specs.declared.feed.FeedText.{FeedText}
use Rattle.net_words.specs.declared.word.WordText.{WordText}
use Rattle.net_write.specs.Plain.{HasPlainNames}
use Rattle.net_write.specs.SameByName.{IsSameByName}
use Rattle.make_laws.specs.Renumbering.{IsRenumbering}
use Rattle.make_laws.specs.SameJob.{IsBoundAlike}
use Rattle.make_laws.proofs.BindingLemmas.{bound_under}
use Rattle.make_laws.proofs.JobLemmas.{same_output}
use Rattle.make_laws.proofs.NameLemmas.{by_name, renumbered}

module _ (net other : NetList) (sound : IsSound net) (sound' : IsSound other) (plain : HasPlainNames net) (plain' : HasPlainNames other) (same : IsSameByName net other) where
  pub is_renumbering : (f : ℕ → ℕ) × IsRenumbering f other net
  is_renumbering = (by_name net other sound sound' plain plain' same, renumbered net other sound sound' plain plain' same)

  pub bound_alike : (words : List WordText) (feeds : List FeedText) (binding : Binding) → BindingOf net words feeds (Ok binding) → IsBoundAlike net other words feeds binding
  bound_alike words feeds binding is =
      let f = by_name net other sound sound' plain plain' same in
      let re = renumbered net other sound sound' plain plain' same in
      let bound = bound_under f other net re sound'.inside words feeds binding is in
      record {
        binding = bound.binding;
        bound = bound.bound;
        outputs = λ k product bases cycles xs e out. same_output f other net re sound'.inside k product bases cycles binding bound.binding bound.under bound.words_low bound.feeds_low xs e out;
      }
