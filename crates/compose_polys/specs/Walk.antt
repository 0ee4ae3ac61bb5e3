-- The walk over the instances of a top in an order, and what they get. Source: Pruss, Kalla, Enescu, DAC 2014.
use Rattle.std.specs.Prelude.{◌≡◌, ℕ, ◌<◌, List, length}
use Rattle.lists.specs.Lists.{Has}
use Rattle.poly_mixed.specs.Polynomial.{IsPolynomialOf, Terms}
use Rattle.circuit_model.specs.Circuit.{Circuit}
use Rattle.compose_model.specs.WiredTop.{word_count, IsBuiltWithoutCycle, IsFlattened, WiredTop}
use Rattle.compose_model.specs.declared.feeder.Feeder.{Feeder}
use Rattle.compose_polys.specs.InstancePolys.{feed_at, AreInstancePolys, HaveBlockPolys}
use Rattle.compose_polys.specs.Instances.{AreDone, IsReady}
use Rattle.compose_polys.specs.Words.{feed_terms, AreWordPolys}

-- polynomials of the top's words and of the instances' blocks, the order in which the instances are taken, and the bound
pub record Walk : Type 0 where
  pub words : List Terms
  pub blocks : List Terms
  pub order : List ℕ
  pub bound : ℕ

-- a walk, and the polynomials that the instances got on it
pub record Walked : Type 0 where
  pub walk : Walk
  pub polys : List Terms

module _ (top : WiredTop) where
  -- these are the polynomials of the top's words and of the instances' blocks, and each instance of the order comes after those
  -- that feed it
  pub record IsWalk (walk : Walk) : Type 0 where
    pub blocks_are : HaveBlockPolys top.k top.product top.hierarchy walk.blocks
    pub words_are : AreWordPolys top.k top.product walk.words
    pub ready : IsReady top.k walk.words walk.blocks top.rows walk.order

  -- each instance stands in the order
  abbrev pub TakesAll : Walk → Type 0
  TakesAll walk = (i : ℕ) → i < length top.rows → Has walk.order i

  -- all instances of the order got these polynomials, and none of their stages is over the bound
  abbrev pub AllGet : Walk → List Terms → Type 0
  AllGet walk polys = AreDone top.k top.product walk.words walk.blocks top.rows walk.bound walk.order (length walk.order) polys

  -- the walk is one, and the instances of its order got these polynomials
  pub record IsWalked (done : Walked) : Type 0 where
    pub is : IsWalk done.walk
    pub get : AllGet done.walk done.polys

  -- and it has a polynomial for each word of the top and takes all instances
  pub record IsWhole (done : Walked) : Type 0 where
    pub walked : IsWalked done
    pub many : length done.walk.words ≡ word_count top
    pub all : TakesAll done.walk

  -- each instance has this polynomial
  abbrev pub HaveInstancePolys : List Terms → Type 0
  HaveInstancePolys polys = AreInstancePolys top.k top.product top.hierarchy top.rows polys

  -- the polynomial of the feed, where the instances have their polynomials
  pub record IsFeedPoly (feed : Feeder) (ts : Terms) : Type 0 where
    pub polys : List Terms
    pub are : HaveInstancePolys polys
    pub is : IsPolynomialOf top.k top.product (λ p. feed_at top.product polys p feed) ts

  -- a built top without a cycle, with its circuit and what feeds its output word
  pub record IsAcyclicWith (flat : Circuit) (feed : Feeder) : Type 0 where
    pub top_is : IsBuiltWithoutCycle top
    pub flattened : IsFlattened top flat feed

-- the polynomial of a feed after a walk
abbrev pub feed_after : Walked → Feeder → Terms
feed_after done feed = feed_terms done.walk.words done.polys feed
