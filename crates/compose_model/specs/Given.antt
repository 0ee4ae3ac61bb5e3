-- What is known of a top of instances before their values are spoken of. Source: this project's own.
use Rattle.std.specs.Prelude.{◌≡◌, ◌≢◌, ℕ, ◌+◌, List, Ok, Some, length, slice_get}
use Rattle.std.specs.List.{AllByRecursion}
use Rattle.lists.specs.Lists.{Has}
use Rattle.net_words.specs.Binding.{AreWords}
use Rattle.net_words.specs.declared.word.Role.TheVariants.{Fed}
use Rattle.net_words.specs.declared.word.WordText.{WordText}
use Rattle.net_signature.specs.Body.{BlockValue}
use Rattle.net_blif.specs.Chains.{AreWithinDepth}
use Rattle.net_blif.specs.Statement.{Token}
use Rattle.net_blif.specs.Top.{instances_of}
use Rattle.net_blif.specs.declared.item.Item.{Item}
use Rattle.gf_field.specs.Field.{HasNoZeroDivisors}
use Rattle.gf_field.specs.Ring.{IsRing}
use Rattle.gf_basis.specs.Basis.{IsBasis}
use Rattle.compose_model.specs.Hierarchy.{bases_at, Hierarchy}
use Rattle.compose_model.specs.Feeds.{IsOutputOf}

-- words of k bits that can be bound, none of them fed, with one basis of the field of 2 to the k elements for each
pub record HaveBasesOf (k : ℕ) (words : List WordText) (bases : List (List ℕ)) : Type 0 where
  pub words_are : AreWords k words
  pub unfed : AllByRecursion (λ (word : WordText). word.role ≢ Fed) words
  pub long : length bases ≡ length words
  pub each : (basis : List ℕ) → Has bases basis → IsBasis k basis

-- no chain of instances is too deep, the words of the top and of each block have their bases, and each instance has an output word
-- whose bits are connected
pub record IsGiven (k : ℕ) (h : Hierarchy) : Type 0 where
  pub depth : AreWithinDepth h.design (Ok tt)
  pub top : HaveBasesOf k h.words (bases_at h 0)
  pub blocks : (number : ℕ) (block : BlockValue) → slice_get h.blocks number ≡ Some block → HaveBasesOf k block.words (bases_at h (number + 1))
  pub outputs : (i : ℕ) (item : Item) → slice_get (instances_of h.design) i ≡ Some item → (nets : List Token) × (basis : List ℕ) × IsOutputOf h i nets basis

-- that is known of the top, over a field
pub record IsGivenOver (k : ℕ) (mul : ℕ → ℕ → ℕ) (h : Hierarchy) : Type 0 where
  pub ring : IsRing k mul
  pub no_zero_divisors : HasNoZeroDivisors k mul
  pub given : IsGiven k h
