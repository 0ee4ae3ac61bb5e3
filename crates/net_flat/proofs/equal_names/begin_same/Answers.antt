use Rattle.std.proofs.Common.{◌∙◌, sym}
use Rattle.std.proofs.lemmas.Slice.Eq.{slice_eq-Decides}
use Rattle.std.proofs.lemmas.Bool.Decides.{Decides-eqb}
use Rattle.net_flat.proofs.equal_names.begin_same.Goals as goal

pub returns : goal.returns
returns c =
    let decides = slice_eq-Decides Decides-eqb _ _ _ c.eq.ensures in (
      λ same. sym c.first_four.ensures ∙ (decides.0 same ∙ c.first_four-2.ensures),
      λ same. decides.1 (c.first_four.ensures ∙ (same ∙ sym c.first_four-2.ensures)),
    )
