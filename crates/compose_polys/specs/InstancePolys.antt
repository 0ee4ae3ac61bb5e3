-- The polynomials of instances in the top's words. Source: Pruss, Kalla, Enescu, DAC 2014.
use Rattle.std.specs.Prelude.{◌≡◌, ℕ, List, [], Some, length, map, slice_get, slice_index}
use Rattle.std.specs.Option.{unwrap_or}
use Rattle.net_blif.specs.Top.{instances_of}
use Rattle.net_blif.specs.declared.item.Item.{Item}
use Rattle.poly_mixed.specs.Polynomial.{value, IsPolynomialOf, Point, Terms}
use Rattle.circuit_model.specs.Circuit.{Circuit}
use Rattle.stage_model.specs.OutputInWords.{IsOutputInWords}
use Rattle.compose_polys.specs.Instance.{point_of, AreReduced}
use Rattle.compose_model.specs.Hierarchy.{Hierarchy}
use Rattle.compose_model.specs.Values.{IsBlockOf}
use Rattle.compose_model.specs.declared.feeder.Feeder.{Feeder}
use Rattle.compose_model.specs.declared.feeder.Feeder.TheVariants.{InputWord, OutputOf}

-- the polynomial of an instance, among those of all instances by their numbers
abbrev pub poly_at : List Terms → ℕ → Terms
poly_at polys i = unwrap_or (slice_get polys i) []

-- the value of a feed at a point of the top's words, where the instances have these polynomials
abbrev pub feed_at : (ℕ → ℕ → ℕ) → List Terms → Point → Feeder → ℕ
feed_at mul polys p (InputWord w) = slice_index p.words w
feed_at mul polys p (OutputOf i) = value mul p (poly_at polys i)

-- each instance has a polynomial over the field: that of its block's output in words, at what feeds the instance
pub record AreInstancePolys (k : ℕ) (mul : ℕ → ℕ → ℕ) (h : Hierarchy) (rows : List (List Feeder)) (polys : List Terms) : Type 0 where
  pub long : length polys ≡ length (instances_of h.design)
  pub reduced : AreReduced k polys
  pub each : (i : ℕ) (poly : Terms) (item : Item) (feeds : List Feeder) (circuit : Circuit) → slice_get polys i ≡ Some poly → slice_get (instances_of h.design) i ≡ Some item → slice_get rows i ≡ Some feeds → IsBlockOf k mul h item circuit
      → (block : Terms) × IsOutputInWords circuit block × IsPolynomialOf k mul (λ p. value mul (point_of (map (feed_at mul polys p) feeds)) block) poly

-- each instance has the polynomial in words of its block's output
abbrev pub HaveBlockPolys : ℕ → (ℕ → ℕ → ℕ) → Hierarchy → List Terms → Type 0
HaveBlockPolys k mul h blocks = (i : ℕ) (block : Terms) (item : Item) (circuit : Circuit) → slice_get blocks i ≡ Some block → slice_get (instances_of h.design) i ≡ Some item → IsBlockOf k mul h item circuit → IsOutputInWords circuit block
