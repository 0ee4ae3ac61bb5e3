use Rattle.std.proofs.Common.{◌≡◌, ◌∙◌, ◌^◌, ◌<◌, subst, sym, arith, length, take}
use Rattle.std.proofs.lemmas.List.{length-take-le, get_or-take}
use Rattle.gf_basis.specs.Basis.{AreBits}
use Rattle.gf_basis.specs.BasisParts.{elements_of}
use Rattle.gf_basis.proofs.BasisLaws.{AreBits-coordinates}
use Rattle.gf_basis.proofs.bases.Basis.bits_of.Goals as goal

pub returns : goal.returns
returns g c =
    let self = c.args.self.now in
    let rows = take self.count self.coordinates in
    let count : length (elements_of self) ≡ self.count = length-take-le _ _ (omega (arith, self.few)) in
    let size : length rows ≡ self.count = length-take-le _ _ (omega (arith, self.few)) in
    let short : c.args.element < 2 ^ length (elements_of self) = rw (c.requires.over.elements.size) c.requires.element in
    subst (AreBits (elements_of self) c.args.element) (sym c.combined.ensures)
    (AreBits-coordinates (elements_of self) rows c.args.element (size ∙ sym count)
    (λ j h. subst (AreBits (elements_of self) (2 ^ j)) (sym (get_or-take self.count self.coordinates j 0 (omega (arith, count)))) (self.cached j h)) short)
