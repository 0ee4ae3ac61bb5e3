-- Signatures of which the multiplier is made, and the net that is made. Source: this project's own, docs/FORMATS.md.
use Rattle.std.specs.Prelude.{◌≡◌, ◌≢◌, ℕ, ◌*◌, ◌^◌, List, [], take, drop}
use Rattle.gf_basis.specs.Basis.{first_values}
use Rattle.gf_field.specs.Bit.{bit_mul}
use Rattle.gf_field.specs.Quotient.{product}
use Rattle.gf_field.specs.declared.rings.Ring.{Ghosts}
use Rattle.gf_field.specs.declared.ring_2k.Ring2k.{Ring2k}
use Rattle.irreducible.specs.declared.proved_rings.Proved.{Proved}
use Rattle.gf_tower.specs.TowerParts.{size_of}
use Rattle.gf_tower.specs.declared.towers.Tower.{Tower}
use Rattle.net_core.specs.NetList.{NetList}
use Rattle.make_laws.specs.TowerParts.{base_degree, base_modulus, polynomial_in}
use Rattle.make_nets.specs.Computes.{ComputesOfTwo}
use Rattle.make_nets.specs.Plan.{Plan}
use Rattle.net_words.specs.declared.word.WordText.{WordText}
use Rattle.net_signature.specs.Signature.{SignatureValue}
use Rattle.make_nets.specs.Form.{AllPoly}
use Rattle.make_nets.specs.Made.{made_of}
use Rattle.mult_gen.specs.Form.{HasPorts, inputs_in, outer_of, outputs_in}
use Rattle.mult_composite.specs.Composite.{composite_plan}

-- two inputs in the basis of powers of a field with one tower
pub record HasCompositeForm (signature : SignatureValue) : Type 0 where
  pub tower : signature.tower ≢ []
  pub upper : signature.upper ≡ []
  pub bases : AllPoly signature.words
  pub ports : HasPorts 2 signature

-- the gates, over the nets of the words
abbrev pub plan_of_words : (n g m t : ℕ) → List WordText → Plan
plan_of_words n g m t words = composite_plan (outer_of words) n g m t (take (n * m) (inputs_in words)) (drop (n * m) (inputs_in words)) (outputs_in words)

-- the multiplier of the tower by t, of degree m, over the field of degree n with the modulus g
abbrev pub made_composite : (n g m t : ℕ) → List WordText → NetList
made_composite n g m t words = made_of words [] [] (plan_of_words n g m t words)

-- it computes the product of two words in this tower
abbrev pub MultipliesInTower : (n g m t : ℕ) → NetList → List WordText → Type 0
MultipliesInTower n g m t net words = ComputesOfTwo (n * m) (product n m (product 1 n bit_mul g) t) net words (first_values (n * m) (λ i. 2 ^ i)) 0 (product n m (product 1 n bit_mul g) t)

-- the net list is that of a tower over polynomials over 0 and 1
abbrev pub IsMadeIn : {T U : Type 0} {H : Ghosts Ring2k T} {G : Ghosts (Proved Ring2k T H) U} → Tower (Proved Ring2k T H) U G → List WordText → NetList → Type 0
IsMadeIn tower words net = net ≡ made_composite (base_degree tower) (base_modulus tower) (size_of tower) (polynomial_in (base_degree tower) tower) words

-- and computes the product in it
abbrev pub MultipliesIn : {T U : Type 0} {H : Ghosts Ring2k T} {G : Ghosts (Proved Ring2k T H) U} → Tower (Proved Ring2k T H) U G → List WordText → NetList → Type 0
MultipliesIn tower words net = MultipliesInTower (base_degree tower) (base_modulus tower) (size_of tower) (polynomial_in (base_degree tower) tower) net words
