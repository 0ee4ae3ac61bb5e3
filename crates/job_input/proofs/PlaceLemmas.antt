-- Feeds whose places were judged are from places below k.
use Rattle.std.proofs.Common.{◌≡◌, refl, ℕ, ◌<◌, List, [], ◌∷◌, true, false, Result, Ok, Err, arith}
use Rattle.std.specs.Prelude.{if◌then◌else◌}
use Rattle.std.proofs.lemmas.Bool.Decides.{nat_tests}
use Rattle.net_words.specs.declared.feed.Source.{Source}
use Rattle.net_words.specs.declared.feed.Source.TheVariants.{Zero, One, Bit}
use Rattle.net_words.specs.declared.feed.FeedText.{FeedText}
use Rattle.net_signature.proofs.FeedLemmas.{ArePlacesBelow, IsPlaceBelow}
use Rattle.job_input.specs.SettingOf.{feeds_within, place_within}
use Rattle.job_words.specs.declared.signature_fault.SignatureFault.{SignatureFault}
use Rattle.job_words.specs.declared.signature_fault.SignatureFault.TheVariants as signature

place_below : (k : ℕ) (from : Source) → place_within k from ≡ true → IsPlaceBelow k from
place_below k Zero e = tt
place_below k One e = tt
place_below k (Bit word place) e = let below : place < k = grind (arith, nat_tests) in below

-- feeds that are judged are from places below k
pub places_below : (k : ℕ) (feeds : List FeedText) → ◌≡◌ {A = Result (Unit {0}) SignatureFault} (Ok tt) (feeds_within k feeds) → ArePlacesBelow k feeds
places_below k [] ok = tt
places_below k (feed ∷ feeds) ok =
    elim (place_within k feed.source) as (λ b. place_within k feed.source ≡ b → ◌≡◌ {A = Result (Unit {0}) SignatureFault} (Ok tt) (if b then feeds_within k feeds else Err (signature.Bits feed.line)) → ArePlacesBelow k (feed ∷ feeds)) [
      | true ↦ λ e h. (place_below k feed.source e, places_below k feeds h)
      | false ↦ λ e h. absurd (cc)
    ] refl ok
