use Rattle.std.proofs.Common.{◌∙◌, sym, inl, inr, refl, List, Vec, Global}
use Rattle.std.proofs.lemmas.List.{length-map}
use Rattle.outcome.specs.Outcome.{Within}
use Rattle.gf_basis.specs.BasisParts.{elements_of}
use Rattle.gf_basis.specs.declared.bases.Basis.{Basis}
use Rattle.job_words.specs.declared.fault.Fault.TheVariants.{Signature}
use Rattle.job_words.proofs.StepLemmas.{gives_fault}
use Rattle.job_input.specs.SettingOf.{BasesOf, BlocksHaveBases}
use Rattle.job_input.specs.SignedIn.{SettingOver}
use Rattle.job_input.specs.Setting.{elements_of_each, setting_value}
use Rattle.job_input.proofs.SettingWordLemmas.{bases_words, bases_long, block_binds}
use Rattle.job_input.proofs.setting.setting_over.Goals as goal

pub returns-in-Err : goal.returns-in-Err
returns-in-Err g c =
    let k = g.F.Ring.degree c.args.field.now in
    let product = g.F.Ring.product c.args.field.now in
    record {
      gives = gives_fault (λ (bases : Vec Basis Global). elements_of_each bases.items) (setting_value k product) c.in-Err.stop (Within Signature (BasesOf k product c.args.signature.words)) (SettingOver k product c.args.signature)
          (λ fault fails. (fails.0, inl fails.1, fails.2)) (rw c.words.ensures at c.in-Err.ensures.gives);
      ready = tt;
      own = tt;
    }

pub returns-in-Err-judge_blocks : goal.returns-in-Err-judge_blocks
returns-in-Err-judge_blocks g c =
    let k = g.F.Ring.degree c.args.field.now in
    let product = g.F.Ring.product c.args.field.now in
    let are = rw c.words.ensures at c.in-Ok.ensures.gives in
    record {
      gives = gives_fault (λ (u : Unit {0}). tt) (setting_value k product) c.in-Err-judge_blocks.stop (Within Signature (BlocksHaveBases k product c.args.signature.blocks)) (SettingOver k product c.args.signature)
          (λ fault fails. (fails.0, inr (elements_of_each c.in-Ok.bases.items, are, inl fails.1), fails.2)) (rw c.blocks-2.ensures at c.in-Err-judge_blocks.ensures);
      ready = tt;
      own = tt;
    }

pub returns-in-Ok-judge_feeds : goal.returns-in-Ok-judge_feeds
returns-in-Ok-judge_feeds g c =
    let k = g.F.Ring.degree c.args.field.now in
    let product = g.F.Ring.product c.args.field.now in
    let ring = g.met.F.Ring.laws c.args.field.now in
    let words = c.args.signature.words in
    let bases = c.in-Ok.bases.items in
    let are = rw c.words.ensures at c.in-Ok.ensures.gives in
    let judged = rw c.blocks-2.ensures at c.in-Ok-judge_blocks.ensures in
    let fed = rw (c.k.ensures, c.feeds.ensures) at c.in-Ok-judge_feeds.ensures in
    record {
      gives = (elements_of_each bases, are, (tt, judged, (tt, fed, refl)));
      ready = record {
        over = c.in-Ok.ensures.over;
        long = sym (length-map bases elements_of) ∙ bases_long k product words (elements_of_each bases) are;
        words = bases_words k product ring.some ring.small words (elements_of_each bases) c.requires.said.output c.requires.said.others are;
        names = c.requires.said.names;
        feeds = c.requires.said.feeds k fed;
        blocks = λ block has. block_binds k product ring.some ring.small c.args.signature.blocks judged c.requires.said.blocks block has;
      };
      own = refl;
    }

pub returns-in-Err-judge_feeds : goal.returns-in-Err-judge_feeds
returns-in-Err-judge_feeds g c =
    let are = rw c.words.ensures at c.in-Ok.ensures.gives in
    let judged = rw c.blocks-2.ensures at c.in-Ok-judge_blocks.ensures in
    let wrong = rw (c.k.ensures, c.feeds.ensures) at c.in-Err-judge_feeds.ensures in
    record {
      gives = rw c.refused.ensures ((c.in-Err-judge_feeds.fault, inr (elements_of_each c.in-Ok.bases.items, are, inr (tt, judged, inl wrong)), refl), λ miss. miss);
      ready = tt;
      own = tt;
    }
