-- What a top that only wires instances of blocks is made of, and the refusals of one that is not.
-- Source: Pruss, Kalla, Enescu, DAC 2014; the refusals are this project's own.
use Rattle.std.specs.Prelude.{ℕ, ◌||◌, Bool, true, false, List, [], ◌∷◌, Option, None, Some, Result, Ok, Err, if◌then◌else◌}
use Rattle.std.specs.List.{list_any}
use Rattle.outcome.specs.Outcome.{Outcome, Returns}
use Rattle.net_words.specs.declared.feed.FeedText.{FeedText}
use Rattle.net_signature.specs.Body.{is_fed, BlockValue}
use Rattle.net_signature.specs.Signature.{SignatureValue}
use Rattle.net_blif.specs.Design.{ModelValue}
use Rattle.net_blif.specs.Statement.{Token}
use Rattle.net_blif.specs.Top.{gate_line, model_in}
use Rattle.net_blif.specs.declared.item.Item.{Item}
use Rattle.compose_model.specs.Hierarchy.{block_from}
use Rattle.compose_blocks.specs.declared.plan_fault.PlanFault.{PlanFault}
use Rattle.compose_blocks.specs.declared.plan_fault.PlanFault.TheVariants.{FedInTop, GateInTop, NoBlock}

-- a line feeds a net
abbrev pub is_fed_by_line : List FeedText → Bool
is_fed_by_line [] = false
is_fed_by_line (feed ∷ feeds) = true

-- a word of the top is fed, or a line feeds a net
abbrev pub has_feed : SignatureValue → Bool
has_feed signature = list_any is_fed signature.words || is_fed_by_line signature.feeds

-- nothing of the top is fed
abbrev pub IsUnfed : SignatureValue → Outcome PlanFault (Unit {0})
IsUnfed signature = Returns (if has_feed signature then Err FedInTop else Ok tt)

-- the first line is refused, if there is one
abbrev pub gate_refused : Option ℕ → Result (Unit {0}) PlanFault
gate_refused None = Ok tt
gate_refused (Some line) = Err (GateInTop line)

-- the top has neither gate nor latch, or the line of the first is refused
abbrev pub HasInstancesAlone : List ModelValue → Outcome PlanFault (Unit {0})
HasInstancesAlone design = Returns (gate_refused (gate_line design))

-- a number of a block, or a model that has none
abbrev pub numbered : Token → Option ℕ → Result ℕ PlanFault
numbered model None = Err (NoBlock model)
numbered model (Some number) = Ok number

-- the number of the block of an instance, or its model where no block is of it
abbrev pub NumberOf : List BlockValue → Item → Outcome PlanFault ℕ
NumberOf blocks item = Returns (numbered (model_in item) (block_from 0 blocks (model_in item)))
