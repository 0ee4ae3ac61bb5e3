use Rattle.std.proofs.Common.{refl, sym, ◌∙◌, ap, subst, bit_xor}
use lib.Bits.{xor_zero_l}
use Rattle.poly_mixed.specs.Cofactor.{lacking, cofactors}
use Rattle.poly_mixed.specs.Polynomial.{Polynomial, Terms, IsMap, coefficient}
use Rattle.poly_mixed.proofs.CofactorLemmas.{all_lacking}
use Rattle.poly_mixed.proofs.TakenLemmas.{part_turn, part_whole, map_taken, fewer_taken, nonzero_taken, lacking_left}
use Rattle.poly_mixed.proofs.ValueLemmas.{nothing_map}
use Rattle.poly_mixed.proofs.poly.Poly.take_bit.Goals as goal

pub loop-mono-init : goal.loop-mono-init
loop-mono-init c =
    let M : Polynomial → Type 0 = λ p. IsMap p.terms in
    let P : Terms → Type 0 = IsMap in
    record {
      map = subst M c.self.view_is c.self.invariant.is_map;
      part_map = subst P (sym c.zero-part.ensures) nothing_map;
      left = refl;
      sum = λ q. ap (λ (ts : Terms). bit_xor (coefficient ts q) (coefficient (cofactors c.args.bit c.args.self.now.terms) q)) c.zero-part.ensures ∙ xor_zero_l (coefficient (cofactors c.args.bit c.args.self.now.terms) q);
    }

pub add_term-requires : goal.add_term-requires
add_term-requires c = nonzero_taken c.loop-mono.self.terms c.take_last.new.self.terms (c.in-Some.mono, c.in-Some.c) c.loop-mono.invariant.map c.in-Some.ensures.taken.0

pub loop-mono-smaller : goal.loop-mono-smaller
loop-mono-smaller c = fewer_taken c.loop-mono.self.terms c.take_last.new.self.terms (c.in-Some.mono, c.in-Some.c) c.in-Some.ensures.taken.0

pub loop-mono-preserved : goal.loop-mono-preserved
loop-mono-preserved c =
    let i = c.loop-mono.invariant in
    let r = part_turn c.args.bit c.loop-mono.self.terms c.take_last.new.self.terms c.loop-mono.part.terms c.add_term.new.self.terms c.args.self.now.terms (c.in-Some.mono, c.in-Some.c) c.drop_bit.new.self
    i.map c.in-Some.ensures.taken.0 c.in-Some.ensures.taken.1 c.drop_bit.ensures i.part_map c.in_ok-add_term.ensures i.sum in
    record {
      map = map_taken c.loop-mono.self.terms c.take_last.new.self.terms (c.in-Some.mono, c.in-Some.c) i.map c.in-Some.ensures.taken.0;
      part_map = r.0;
      left = ap (lacking c.args.bit) c.in-Some.ensures.taken.0.left ∙ lacking_left c.args.bit c.in-Some.mono c.loop-mono.self.terms c.in-Some.ensures.taken.1 ∙ i.left;
      sum = r.1;
    }

pub returns-in_err-add_term-clause-map : goal.returns-in_err-add_term-clause-map
returns-in_err-add_term-clause-map c = let M : Polynomial → Type 0 = λ p. IsMap p.terms in subst M c.self.view_is c.self.invariant.is_map

pub returns-clause-map : goal.returns-clause-map
returns-clause-map c = let M : Polynomial → Type 0 = λ p. IsMap p.terms in subst M c.self.view_is c.self.invariant.is_map

pub returns-clause-terms : goal.returns-clause-terms
returns-clause-terms c =
    let M : Polynomial → Type 0 = λ p. IsMap p.terms in
    let i = c.loop-mono.invariant in
    part_whole c.args.bit c.loop-mono.self.terms c.loop-mono.part.terms c.args.self.now.terms c.in_default.ensures.none.0 i.part_map (subst M c.self.view_is c.self.invariant.is_map) i.sum

pub returns-clause-left : goal.returns-clause-left
returns-clause-left c =
    let none = c.in_default.ensures.none in
    none.1 ∙ sym (all_lacking c.args.bit c.loop-mono.self.terms none.0) ∙ c.loop-mono.invariant.left
