use Rattle.std.proofs.Common.{◌∙◌}
use Rattle.std.proofs.lemmas.Result.{IfOk-weaker}
use Rattle.mult_gen.proofs.FormLemmas.{fits_for, made_for, maker_for, names_for}
use Rattle.mult_gen.proofs.nets.net_of.Goals as goal

pub make-requires : goal.make-requires
make-requires c = record {
  maker = maker_for c.args.signature.now.words c.words.result.now c.feeds.result.now c.deref.result.now c.words.ensures (c.feeds.ensures ∙ c.requires.ports.feeds) (c.deref.ensures.value ∙ c.new-latches.ensures.items) c.args.maker c.requires.maker;
  names = names_for c.args.signature.now.words c.words.result.now c.feeds.result.now c.deref.result.now c.words.ensures (c.feeds.ensures ∙ c.requires.ports.feeds) (c.deref.ensures.value ∙ c.new-latches.ensures.items) c.requires.ports.names;
  fits = (c.requires.fits.0, fits_for c.args.signature.now.words c.words.result.now c.feeds.result.now c.deref.result.now c.words.ensures (c.feeds.ensures ∙ c.requires.ports.feeds) (c.deref.ensures.value ∙ c.new-latches.ensures.items) c.requires.fits.0 c.args.plan.now c.requires.fits.1);
}

pub returns : goal.returns
returns c = IfOk-weaker c.make.result _ _ (λ net is. is ∙ made_for c.args.signature.now.words c.words.result.now c.feeds.result.now c.deref.result.now c.words.ensures (c.feeds.ensures ∙ c.requires.ports.feeds) (c.deref.ensures.value ∙ c.new-latches.ensures.items) c.args.plan.now) c.make.ensures
