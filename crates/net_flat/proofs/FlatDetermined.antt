-- At most one net or fault comes of a model.
use Rattle.std.proofs.Common.{sym, ℕ, List}
use Rattle.outcome.proofs.DeterminedLemmas.{determined_after, determined_returns, determined_within}
use Rattle.outcome.specs.Outcome.{Returns, Within, Determined}
use Rattle.net_core.specs.Finish.{Settles}
use Rattle.net_core.proofs.SettleLemmas.{settles_determined}
use Rattle.net_blif.specs.Design.{ModelValue}
use Rattle.net_flat.specs.Walk.{walk_of}
use Rattle.net_flat.specs.Flat.{nothing, walked, net_list, Flattens}
use Rattle.net_flat.specs.declared.flat_fault.FlatFault.TheVariants.{Net}
use Rattle.net_flat.proofs.DriveLemmas.{walk_drives}

pub flattens_once : (design : List ModelValue) (model : ℕ) → Determined (Flattens design model)
flattens_once design model =
    let walk = walked nothing (walk_of design model) in
    determined_after (Returns walk) (λ flat. Within Net (Settles (net_list flat))) (determined_returns walk)
    (λ flat made. determined_within Net (Settles (net_list flat)) (settles_determined (net_list flat) (walk_drives design model flat (sym made))))
