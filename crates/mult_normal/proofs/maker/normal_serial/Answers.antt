use Rattle.std.proofs.Common.{◌∙◌, ap, sym, subst, List, []}
use Rattle.net_core.specs.NetList.{NetList}
use Rattle.net_words.specs.declared.word.WordText.{WordText}
use Rattle.net_write.specs.Plain.{HasPlainNames}
use Rattle.gf_basis.specs.BasisParts.{elements_of}
use Rattle.make_nets.specs.Computes.{ComputesOfTwo}
use Rattle.make_nets.specs.Form.{AllWide, HasWords}
use Rattle.make_nets.specs.MadeNet.{outer_net}
use Rattle.make_nets.specs.MakerNames.{AreMakerNames}
use Rattle.make_nets.specs.Ports.{outer_names}
use Rattle.net_words.specs.declared.word.Role.TheVariants.{State}
use Rattle.mult_gen.proofs.FormLemmas.{states_wide}
use Rattle.mult_normal.specs.NormalForm.{HasNormalForm}
use Rattle.mult_normal.specs.NormalNet.{normal_net}
use Rattle.mult_normal.proofs.FormLemmas.{outer_names_fit, plain, computes_form}
use Rattle.mult_normal.proofs.maker.normal_serial.Goals as goal

pub made-requires : goal.made-requires
made-requires g c =
    let k = g.F.Ring.degree c.args.field.now in
    let mul = g.F.Ring.product c.args.field.now in
    let signature = c.args.signature.now in
    let form : HasNormalForm signature = c.in-Ok.ensures.form in
    let wide : AllWide k signature.words = states_wide k 2 signature.words form.words c.requires.wide in
    let P : List WordText → Type 0 = λ words. AllWide k words in
    let Q : List WordText → Type 0 = λ words. HasWords State 2 words in
    let R : List WordText → Type 0 = λ words. AreMakerNames (outer_names words []) in
    record {
      over = c.requires.over;
      form = subst Q (sym c.words.ensures) form.words;
      bits = subst P (sym c.words.ensures) wide;
      names = subst R (sym c.words.ensures) (outer_names_fit k mul (g.met.F.Ring.laws c.args.field.now) (g.met.F.Field.no_zero_divisors c.args.field.now) (elements_of c.args.basis.now) c.requires.over.elements signature form wide);
      maker = c.in-Ok.ensures.maker ∙ ap (λ words. outer_net (outer_names words [])) (sym c.words.ensures);
    }

pub returns-clause-made : goal.returns-clause-made
returns-clause-made g c = c.in_ok-net.ensures ∙ ap (normal_net (g.F.Ring.degree c.args.field.now) (g.F.Ring.product c.args.field.now) (elements_of c.args.basis.now)) c.words.ensures

pub returns-clause-plain : goal.returns-clause-plain
returns-clause-plain g c =
    let k = g.F.Ring.degree c.args.field.now in
    let mul = g.F.Ring.product c.args.field.now in
    let signature = c.args.signature.now in
    let form : HasNormalForm signature = c.in-Ok.ensures.form in
    let P : NetList → Type 0 = λ net. HasPlainNames net in
    subst P (sym (c.in_ok-net.ensures ∙ ap (normal_net k mul (elements_of c.args.basis.now)) c.words.ensures))
    (plain k mul (g.met.F.Ring.laws c.args.field.now) (g.met.F.Field.no_zero_divisors c.args.field.now) (elements_of c.args.basis.now) c.requires.over.elements signature form (states_wide k 2 signature.words form.words c.requires.wide))

pub returns-clause-computes : goal.returns-clause-computes
returns-clause-computes g c =
    let k = g.F.Ring.degree c.args.field.now in
    let mul = g.F.Ring.product c.args.field.now in
    let signature = c.args.signature.now in
    let form : HasNormalForm signature = c.in-Ok.ensures.form in
    let P : NetList → Type 0 = λ net. ComputesOfTwo k mul net signature.words (elements_of c.args.basis.now) k mul in
    subst P (sym (c.in_ok-net.ensures ∙ ap (normal_net k mul (elements_of c.args.basis.now)) c.words.ensures))
    (computes_form k mul (g.met.F.Ring.laws c.args.field.now) (g.met.F.Field.no_zero_divisors c.args.field.now) (elements_of c.args.basis.now) c.requires.over.elements signature form (states_wide k 2 signature.words form.words c.requires.wide) (c.requires.basis form))
