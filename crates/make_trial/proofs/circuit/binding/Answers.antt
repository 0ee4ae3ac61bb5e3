use Rattle.std.proofs.Common.{◌≡◌, ◌∙◌, ap, sym, subst, List, [], map, Ok, Err}
use Rattle.gf_field.specs.Ring2k.{degree_of, modulus_of}
use Rattle.irreducible.specs.Proved.{ring_of}
use Rattle.net_core.specs.NetList.{NetList}
use Rattle.net_signature.specs.Signature.{SignatureValue}
use Rattle.net_words.specs.Bind.{BindingOf}
use Rattle.net_words.specs.BindReading.{FitsBinding}
use Rattle.net_words.specs.Binding.{AreWords, Binding}
use Rattle.net_words.specs.Feeds.{AreFeeds}
use Rattle.net_words.specs.declared.feed.FeedText.{FeedText}
use Rattle.net_words.specs.declared.word.WordText.{WordText}
use Rattle.make_trial.specs.Trial.{trial_net, trial_words}
use Rattle.make_trial.proofs.NetLemmas.{only_binding, only_memory}
use Rattle.make_trial.proofs.OutLemmas.{no_feeds, trial_are}
use Rattle.make_trial.proofs.circuit.binding.Goals as goal

pub bind-requires : goal.bind-requires
bind-requires c =
    let k = degree_of (ring_of c.args.ring.now) in
    let ok = c.args.ring.now.ring.fits in
    let words : c.words.result.now ≡ trial_words k = c.words.ensures ∙ ap (λ (s : SignatureValue). s.words) c.requires.signature in
    let feeds : c.feeds.result.now ≡ [] = c.feeds.ensures ∙ ap (λ (s : SignatureValue). s.feeds) c.requires.signature in
    let W : List WordText → Type 0 = λ ws. AreWords k ws in
    let F : List WordText → Type 0 = λ ws. AreFeeds k (map (λ (word : WordText). word.role) ws) [] in
    let G : List FeedText → Type 0 = λ fs. AreFeeds k (map (λ (word : WordText). word.role) c.words.result.now) fs in
    record { words = (k, subst W (sym words) (trial_are k ok.some ok.small), subst G (sym feeds) (subst F (sym words) (no_feeds k))) }

pub want_of_memory-requires : goal.want_of_memory-requires
want_of_memory-requires c =
    let k = degree_of (ring_of c.args.ring.now) in
    let g = modulus_of (ring_of c.args.ring.now) in
    let words : c.words.result.now ≡ trial_words k = c.words.ensures ∙ ap (λ (s : SignatureValue). s.words) c.requires.signature in
    let feeds : c.feeds.result.now ≡ [] = c.feeds.ensures ∙ ap (λ (s : SignatureValue). s.feeds) c.requires.signature in
    let N : NetList → Type 0 = λ n. FitsBinding {A = Binding} (λ bound. bound) (Err c.in-Err.fault) (BindingOf n c.words.result.now c.feeds.result.now) in
    let W : List WordText → Type 0 = λ ws. FitsBinding {A = Binding} (λ bound. bound) (Err c.in-Err.fault) (BindingOf (trial_net k g c.args._number) ws c.feeds.result.now) in
    let F : List FeedText → Type 0 = λ fs. FitsBinding {A = Binding} (λ bound. bound) (Err c.in-Err.fault) (BindingOf (trial_net k g c.args._number) (trial_words k) fs) in
    only_memory k g c.args.ring.now.ring.fits c.args._number c.in-Err.fault (subst F feeds (subst W words (subst N c.requires.net c.in-Err.ensures.fits)))

pub returns-in-Ok-clause-value : goal.returns-in-Ok-clause-value
returns-in-Ok-clause-value c =
    let k = degree_of (ring_of c.args.ring.now) in
    let g = modulus_of (ring_of c.args.ring.now) in
    let words : c.words.result.now ≡ trial_words k = c.words.ensures ∙ ap (λ (s : SignatureValue). s.words) c.requires.signature in
    let feeds : c.feeds.result.now ≡ [] = c.feeds.ensures ∙ ap (λ (s : SignatureValue). s.feeds) c.requires.signature in
    let N : NetList → Type 0 = λ n. BindingOf n c.words.result.now c.feeds.result.now (Ok c.in-Ok.bound) in
    let W : List WordText → Type 0 = λ ws. BindingOf (trial_net k g c.args._number) ws c.feeds.result.now (Ok c.in-Ok.bound) in
    let F : List FeedText → Type 0 = λ fs. BindingOf (trial_net k g c.args._number) (trial_words k) fs (Ok c.in-Ok.bound) in
    only_binding k g c.args.ring.now.ring.fits c.args._number c.in-Ok.bound (subst F feeds (subst W words (subst N c.requires.net c.in-Ok.ensures.fits)))
