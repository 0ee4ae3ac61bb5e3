-- Faults of flattening and binding as those of a block.
use Rattle.std.proofs.Common.{◌≡◌, refl, ℕ, List, [], Ok, Err}
use Rattle.net_core.specs.NetList.{NetList}
use Rattle.net_words.specs.Bind.{BindingOf}
use Rattle.net_words.specs.BindReading.{FitsBinding}
use Rattle.net_words.specs.Binding.{Binding}
use Rattle.net_words.specs.declared.binding.BindFault.{BindFault}
use Rattle.net_words.specs.declared.binding.BindFault.TheVariants as binds
use Rattle.net_words.specs.declared.word.WordText.{WordText}
use Rattle.net_blif.specs.Design.{ModelValue}
use Rattle.net_flat.specs.Flat.{Flattens}
use Rattle.net_flat.specs.declared.flat_fault.FlatFault.TheVariants as flats
use Rattle.compose_blocks.specs.Block.{IsBlockFault}
use Rattle.compose_blocks.specs.declared.block_fault.BlockFault.TheVariants.{NotBound}
use Rattle.compose_blocks.specs.private.Refusals.{bind_refusal_of}

module _ (design : List ModelValue) (model : ℕ) (words : List WordText) where
  pub bind_refused : (net : NetList) → Flattens design model (Ok net) → net.latches ≡ [] → (fault : BindFault) → FitsBinding {X = Binding} {A = Binding} (λ b. b) (Err fault) (BindingOf net words []) → IsBlockFault design model words (bind_refusal_of fault)
  bind_refused net flat none (binds.NoSuchNet word place) is = record { net = net; flat = flat; latches = none; fault = binds.NoSuchNet word place; refused = is }
  bind_refused net flat none (binds.NotInput word place) is = record { net = net; flat = flat; latches = none; fault = binds.NotInput word place; refused = is }
  bind_refused net flat none (binds.NotLatch word place) is = record { net = net; flat = flat; latches = none; fault = binds.NotLatch word place; refused = is }
  bind_refused net flat none (binds.NetTwice n) is = record { net = net; flat = flat; latches = none; fault = binds.NetTwice n; refused = is }
  bind_refused net flat none (binds.FeedNotFree line) is = record { net = net; flat = flat; latches = none; fault = binds.FeedNotFree line; refused = is }
  bind_refused net flat none (binds.Uncovered n) is = record { net = net; flat = flat; latches = none; fault = binds.Uncovered n; refused = is }
  bind_refused net flat none (binds.UnknownStart n) is = record { net = net; flat = flat; latches = none; fault = binds.UnknownStart n; refused = is }
  bind_refused net flat none binds.OutOfMemory is = tt

-- all faults of binding but out of memory
pub not_bound : (fault : BindFault) → (fault ≡ binds.OutOfMemory → ⊥) → NotBound ≡ bind_refusal_of fault
not_bound (binds.NoSuchNet word place) other = refl
not_bound (binds.NotInput word place) other = refl
not_bound (binds.NotLatch word place) other = refl
not_bound (binds.NetTwice n) other = refl
not_bound (binds.FeedNotFree line) other = refl
not_bound (binds.Uncovered n) other = refl
not_bound (binds.UnknownStart n) other = refl
not_bound binds.OutOfMemory other = absurd (other refl)
