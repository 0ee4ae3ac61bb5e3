-- Tops in which each instance has a block. Source: this project's own.
use Rattle.std.specs.Global.{Global}
use Rattle.std.specs.Prelude.{◌≡◌, ℕ, ◌+◌, List, Some, Vec, length, map, slice_get}
use Rattle.net_words.specs.declared.word.WordText.{WordText}
use Rattle.net_signature.specs.Body.{BlockValue}
use Rattle.net_blif.specs.Design.{ModelValue}
use Rattle.net_blif.specs.Top.{instances_of, model_in}
use Rattle.net_blif.specs.declared.item.Item.{Item}
use Rattle.gf_basis.specs.BasisParts.{elements_of}
use Rattle.gf_basis.specs.declared.bases.Basis.{Basis}
use Rattle.compose_model.specs.Given.{HaveBasesOf}
use Rattle.compose_model.specs.Hierarchy.{bases_at, block_of, Hierarchy}

-- the elements of lists of bases
abbrev pub elements_in : List (Vec Basis Global) → List (List (List ℕ))
elements_in lists = map (λ list. map elements_of list.items) lists

-- a top with its words, the blocks, and the lists of bases: list 0 is that of the top, and list b + 1 that of block b
abbrev pub hierarchy : List ModelValue → List WordText → List BlockValue → List (Vec Basis Global) → Hierarchy
hierarchy design words blocks bases = record { design = design; words = words; blocks = blocks; bases = elements_in bases }

-- the words of the top and of each block have k bits each and their bases, and each instance has a block, by these numbers
pub record IsInstanced (k : ℕ) (h : Hierarchy) (numbers : List ℕ) : Type 0 where
  pub top : HaveBasesOf k h.words (bases_at h 0)
  pub blocks : (number : ℕ) (block : BlockValue) → slice_get h.blocks number ≡ Some block → HaveBasesOf k block.words (bases_at h (number + 1))
  pub long : length numbers ≡ length (instances_of h.design)
  pub each : (i : ℕ) (item : Item) → slice_get (instances_of h.design) i ≡ Some item → slice_get numbers i ≡ block_of h (model_in item)
