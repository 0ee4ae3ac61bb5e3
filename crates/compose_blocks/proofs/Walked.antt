-- What the walk over the lines of the top has found so far.
use Rattle.std.specs.Prelude.{◌≡◌, ℕ, List, ◌++◌, drop, filter}
use Rattle.net_signature.specs.Body.{BlockValue}
use Rattle.net_blif.specs.Design.{ModelValue}
use Rattle.net_blif.specs.Top.{is_instance}
use Rattle.net_blif.specs.declared.item.Item.{Item}
use Rattle.compose_blocks.specs.declared.uses.Found.{Found}
use Rattle.compose_blocks.specs.private.Found.{AreFound}

module _ (design : List ModelValue) (blocks : List BlockValue) where
  -- what is found of the instances among the first n lines, where the whole goes on with those among the rest
  pub record IsWalked (items : List Item) (n : ℕ) (list : List Found) : Type 0 where
    pub front : List Item
    pub whole : filter is_instance items ≡ front ++ filter is_instance (drop n items)
    pub found : AreFound design blocks front list
