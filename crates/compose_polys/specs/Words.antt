-- The polynomials of feeds. Source: Pruss, Kalla, Enescu, DAC 2014.
use Rattle.std.specs.Prelude.{◌≡◌, ℕ, ◌<◌, ◌^◌, List, [], Some, length, map, slice_get, slice_index}
use Rattle.std.specs.Option.{unwrap_or}
use Rattle.poly_mixed.specs.Polynomial.{IsPolynomialOf, IsReduced, Point, Polynomial, Terms}
use Rattle.poly_mixed.specs.laws.Uniqueness.{InFirstWords}
use Rattle.stage_model.specs.First.{InFirstRanks}
pub use Rattle.term_expand.specs.Feeds.{borrowed_terms}
use Rattle.compose_polys.specs.Instance.{feed_values}
use Rattle.compose_model.specs.declared.feeder.Feeder.{Feeder}
use Rattle.compose_model.specs.declared.feeder.Feeder.TheVariants.{InputWord, OutputOf}

-- the terms of polynomials
abbrev pub terms_of : List Polynomial → List Terms
terms_of polys = map (λ q. q.terms) polys

-- each polynomial is that of the word of its number
abbrev pub AreWordPolys : ℕ → (ℕ → ℕ → ℕ) → List Terms → Type 0
AreWordPolys k mul words = (w : ℕ) (ts : Terms) → slice_get words w ≡ Some ts → IsPolynomialOf k mul (λ p. slice_index p.words w) ts

-- the polynomial of a feed, where words and instances have these polynomials
abbrev pub feed_terms : List Terms → List Terms → Feeder → Terms
feed_terms words polys (InputWord w) = unwrap_or (slice_get words w) []
feed_terms words polys (OutputOf i) = unwrap_or (slice_get polys i) []

-- the polynomials of feeds, where words and instances have these polynomials
abbrev pub feed_polys : List Polynomial → List Polynomial → List Feeder → List Terms
feed_polys words polys feeds = map (feed_terms (terms_of words) (terms_of polys)) feeds

-- the values of feeds at a point
abbrev pub values_of : (ℕ → ℕ → ℕ) → List Terms → List Terms → List Feeder → Point → List ℕ
values_of mul words polys feeds = feed_values mul (map (feed_terms words polys) feeds)

-- the feed is one of so many words or instances
abbrev pub IsFeedAmong : ℕ → ℕ → Feeder → Type 0
IsFeedAmong words instances (InputWord w) = w < words
IsFeedAmong words instances (OutputOf i) = i < instances

-- the polynomial of a block in its input words alone, where these have such feeds
pub record IsBlockFor (k : ℕ) (feeds : List Feeder) (block : Terms) : Type 0 where
  pub reduced : IsReduced k block
  pub words : InFirstWords (length feeds) block
  pub no_bits : InFirstRanks 0 block
  pub few : length block < 2 ^ 32
