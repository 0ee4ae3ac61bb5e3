-- The net of an instance's model as a part of the net of the whole. Source: the Berkeley Logic Interchange Format (BLIF), University of
-- California, Berkeley.
use Rattle.std.specs.Prelude.{◌≡◌, ℕ, ◌+◌, Bool, true, List, [], ◌∷◌, length, Some, Ok, slice_get}
use Rattle.net_core.specs.NetList.{number_of}
use Rattle.net_core.specs.Value.{bit_of}
use Rattle.net_blif.specs.Statement.{Token}
use Rattle.net_blif.specs.Design.{ModelValue, model_named}
use Rattle.net_blif.specs.Chains.{AreWithinDepth}
use Rattle.net_blif.specs.Top.{connections_in, instances_of, model_in}
use Rattle.net_blif.specs.declared.item.Item.{Item}
use Rattle.net_flat.specs.Paths.{inner, path_in, top, At, Path}
use Rattle.net_flat.specs.Walk.{walk_of}
use Rattle.net_flat.specs.Flat.{net_list, nothing, number, walked, was_mentioned, Flat}

-- the net of the whole that a net of the model by itself is, where the instance has this number and these connections: a connected
-- formal is its actual, and every other net is the one of the instance
abbrev pub path_in_whole : ℕ → List Token → Path → Path
path_in_whole i connections (At [] name) = path_in (inner top i connections) name
path_in_whole i connections (At (n ∷ ns) name) = At (i ∷ n ∷ ns) name

-- each net of the model by itself has the bit of the net of the whole that it is
pub record IsPart (whole alone : Flat) (i : ℕ) (connections : List Token) (bits part : List Bool) : Type 0 where
  pub long : length part ≡ length alone.paths
  pub same : (path : Path) → was_mentioned alone path ≡ true → bit_of part (number alone path) ≡ bit_of bits (number whole (path_in_whole i connections path))

-- each net that the model by itself finds by its name has the bit of the net of the whole that this name is in the instance
abbrev pub HasNamedBits : (whole alone : Flat) (i : ℕ) (connections : List Token) (bits part : List Bool) → Type 0
HasNamedBits whole alone i connections bits part = (n : ℕ) (name : Token) → number_of (net_list alone) name ≡ Some n → bit_of part n ≡ bit_of bits (number whole (path_in (inner top i connections) name))

-- the lines of a model of the design, with those of its instances, give this net
abbrev pub IsFlatOf : List ModelValue → ℕ → Flat → Type 0
IsFlatOf design model flat = walked nothing (walk_of design model) ≡ Ok flat

-- the net of a design with few enough models one inside another
abbrev pub IsWholeOf : List ModelValue → Flat → Type 0
IsWholeOf design whole = AreWithinDepth design (Ok tt) × IsFlatOf design 0 whole

-- an instance of the top of a design, the net of the whole, and that of the instance's model by itself
pub record InstanceOfTop : Type 0 where
  pub design : List ModelValue
  pub place : ℕ
  pub item : Item
  pub is_item : slice_get (instances_of design) place ≡ Some item
  pub model : ℕ
  pub is_model : model_named design (model_in item) ≡ Some model
  pub whole : Flat
  pub is_whole : IsWholeOf design whole
  pub alone : Flat
  pub is_alone : IsFlatOf design model alone

-- the bits of the instance's model by itself, where the whole has these
abbrev pub IsPartOf : InstanceOfTop → List Bool → List Bool → Type 0
IsPartOf one bits part = IsPart one.whole one.alone (one.place + 1) (connections_in one.item) bits part

-- the models of the instances of the top by themselves have no latch
abbrev pub InstancesHaveNoLatch : List ModelValue → Type 0
InstancesHaveNoLatch design = (i model : ℕ) (item : Item) → slice_get (instances_of design) i ≡ Some item → model_named design (model_in item) ≡ Some model → (alone : Flat) × (walked nothing (walk_of design model) ≡ Ok alone) × (alone.latches ≡ [])
