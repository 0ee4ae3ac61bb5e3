use Rattle.std.proofs.Common.{◌∙◌, ℕ, ap, sym, subst, arith}
use Rattle.std.proofs.lemmas.Result.{IfOk-weaker}
use Rattle.mult_gen.specs.Form.{AreWide, made_adder}
use Rattle.mult_gen.proofs.FormLemmas.{with_form}
use Rattle.mult_gen.proofs.ComputeLemmas.{adder_adds, adder_plain, adder_sound}
use Rattle.mult_gen.proofs.adders.adder.Goals as goal

pub adder_of-requires : goal.adder_of-requires
adder_of-requires g c =
    let P : ℕ → Type 0 = λ k. AreWide k c.args.signature.now.words in
    record { small = omega (arith, c.k.ensures, (g.met.F.Ring.laws c.args.field.now).small); wide = subst P (sym c.k.ensures) c.requires.wide }

pub returns : goal.returns
returns g c = record {
  made = IfOk-weaker c.adder_of.result _ _ (λ net is. is ∙ ap (λ k. made_adder k c.args.signature.now.words) c.k.ensures) c.adder_of.ensures.made;
  sound = with_form c.adder_of.result _ _ _ (λ net is form. adder_sound (g.F.Ring.degree c.args.field.now) (g.met.F.Ring.laws c.args.field.now).small c.args.signature.now form c.requires.wide net (is ∙ ap (λ k. made_adder k c.args.signature.now.words) c.k.ensures)) c.adder_of.ensures.made c.adder_of.ensures.form;
  plain = with_form c.adder_of.result _ _ _ (λ net is form. adder_plain (g.F.Ring.degree c.args.field.now) (g.met.F.Ring.laws c.args.field.now).small c.args.signature.now form c.requires.wide net (is ∙ ap (λ k. made_adder k c.args.signature.now.words) c.k.ensures)) c.adder_of.ensures.made c.adder_of.ensures.form;
  computes = with_form c.adder_of.result _ _ _ (λ net is form. adder_adds (g.F.Ring.degree c.args.field.now) (g.met.F.Ring.laws c.args.field.now).small c.args.signature.now form c.requires.wide net (is ∙ ap (λ k. made_adder k c.args.signature.now.words) c.k.ensures) (g.F.Ring.product c.args.field.now) (g.met.F.Ring.laws c.args.field.now) (g.met.F.Field.no_zero_divisors c.args.field.now)) c.adder_of.ensures.made c.adder_of.ensures.form;
  form = c.adder_of.ensures.form;
  unfit = c.adder_of.ensures.unfit;
}
