-- A written text is read and flattened into a net that is the same by name.
use Rattle.std.proofs.Common.{◌≡◌, ◌∙◌, ap, sym, refl, subst, List, Result, Ok, Err}
use Rattle.net_core.specs.NetList.{NetList}
use Rattle.net_core.specs.Sound.{IsSound}
use Rattle.net_blif.specs.Design.{ModelValue}
use Rattle.net_blif.specs.Models.{BlifDesign}
use Rattle.net_blif.specs.declared.fault.BlifFault.{BlifFault}
use Rattle.net_blif.proofs.OutcomeLemmas.{determined_design}
use Rattle.net_flat.specs.Flat.{Flattens, net_list, nothing, walked}
use Rattle.net_flat.specs.declared.flat_fault.FlatFault.{FlatFault}
use Rattle.net_flat.proofs.FlatDetermined.{flattens_once}
use Rattle.net_write.specs.Plain.{HasPlainNames}
use Rattle.net_write.specs.SameByName.{IsSameByName}
use Rattle.net_write.specs.Written.{written}
use Rattle.net_write.proofs.AgainLemmas.{plain_again, same_by_name, sound_again}
use Rattle.net_write.proofs.MakeLemmas.{designed, make_of, make_walk}
use Rattle.net_write.proofs.PlaceLemmas.{walk_met}
use Rattle.net_write.proofs.SaidLemmas.{net_walk}

module _ (net : NetList) (sound : IsSound net) (plain : HasPlainNames net) where
  -- the net of the design of the text
  again : (design : List ModelValue) × (other : NetList) × BlifDesign (written net) (Ok design) × Flattens design 0 (Ok other) × IsSameByName net other × HasPlainNames other
  again =
      let made = designed net sound plain in
      let walk = walk_met net sound plain in (
        make_of made.0,
        net_list walk.1,
        made.1,
        (walk.1, sym (ap (walked nothing) (make_walk made.0 (net_walk net) made.2) ∙ walk.2), (refl, sound_again net sound plain walk.0 walk.1 walk.3)),
        same_by_name net sound plain walk.0 walk.1 walk.3,
        plain_again net sound plain walk.0 walk.1 walk.3,
      )

  one_design : (a b : List ModelValue) → ◌≡◌ {A = Result (List ModelValue) BlifFault} (Ok a) (Ok b) → a ≡ b
  one_design a b e = cc

  one_net : (a b : NetList) → ◌≡◌ {A = Result NetList FlatFault} (Ok a) (Ok b) → a ≡ b
  one_net a b e = cc

  pub is_read : (design : List ModelValue) × BlifDesign (written net) (Ok design)
  is_read = (again.0, again.2)

  pub no_fault : (fault : BlifFault) → BlifDesign (written net) (Err fault) → ⊥
  no_fault fault wrong = never again.0 (determined_design (written net) (Ok again.0) (Err fault) again.2 wrong)
    where
      never : (a : List ModelValue) → ◌≡◌ {A = Result (List ModelValue) BlifFault} (Ok a) (Err fault) → ⊥
      never a e = cc

  -- the design that is read is that one
  design_is : (design : List ModelValue) → BlifDesign (written net) (Ok design) → again.0 ≡ design
  design_is design read = one_design again.0 design (determined_design (written net) (Ok again.0) (Ok design) again.2 read)

  pub is_flat : (design : List ModelValue) → BlifDesign (written net) (Ok design) → (other : NetList) × Flattens design 0 (Ok other)
  is_flat design read = let P : List ModelValue → Type 0 = λ d. Flattens d 0 (Ok again.1) in (again.1, subst P (design_is design read) again.3)

  pub no_flat_fault : (design : List ModelValue) (fault : FlatFault) → BlifDesign (written net) (Ok design) → Flattens design 0 (Err fault) → ⊥
  no_flat_fault design fault read wrong =
      let flat = is_flat design read in never flat.0 (flattens_once design 0 (Ok flat.0) (Err fault) flat.1 wrong)
    where
      never : (a : NetList) → ◌≡◌ {A = Result NetList FlatFault} (Ok a) (Err fault) → ⊥
      never a e = cc

  pub is_same : (design : List ModelValue) (other : NetList) → BlifDesign (written net) (Ok design) → Flattens design 0 (Ok other) → IsSameByName net other × HasPlainNames other
  is_same design other read flat =
      let P : List ModelValue → Type 0 = λ d. Flattens d 0 (Ok again.1) in
      let same : again.1 ≡ other = one_net again.1 other (flattens_once design 0 (Ok again.1) (Ok other) (subst P (design_is design read) again.3) flat) in
      let Q : NetList → Type 0 = λ n. IsSameByName net n × HasPlainNames n in
      subst Q same (again.4, again.5)
