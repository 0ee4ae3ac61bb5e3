use Rattle.std.proofs.Common.{◌∙◌, ap₂, arith, take, drop}
use Rattle.mult_normal.proofs.WordLemmas.{half_low, names_few}
use Rattle.mult_normal.proofs.maker.made.Goals as goal

pub role_nets-requires : goal.role_nets-requires
role_nets-requires g c = omega (arith, names_few (g.F.Ring.degree c.args.field.now) c.args.words.now c.requires.form c.requires.bits (g.met.F.Ring.laws c.args.field.now).small)

pub role_nets-requires-2 : goal.role_nets-requires-2
role_nets-requires-2 g c = omega (arith, names_few (g.F.Ring.degree c.args.field.now) c.args.words.now c.requires.form c.requires.bits (g.met.F.Ring.laws c.args.field.now).small)

pub split_at-requires : goal.split_at-requires
split_at-requires g c =
    half_low (g.F.Ring.degree c.args.field.now) c.args.words.now c.requires.form c.requires.bits c.k.result c.deref.result.now c.in_ok-states.states.items c.k.ensures c.deref.ensures.value c.in_ok-states.ensures

pub assembled-requires : goal.assembled-requires
assembled-requires g c = record {
  over = c.requires.over;
  form = c.requires.form;
  bits = c.requires.bits;
  names = c.requires.names;
  maker = c.requires.maker;
  a = c.split_at.ensures.front ∙ ap₂ take c.k.ensures (c.deref.ensures.value ∙ c.in_ok-states.ensures);
  b = c.split_at.ensures.back ∙ ap₂ drop c.k.ensures (c.deref.ensures.value ∙ c.in_ok-states.ensures);
  z = c.deref-2.ensures.value ∙ c.in_ok-outputs.ensures;
}

pub returns : goal.returns
returns g c = c.assembled.ensures
