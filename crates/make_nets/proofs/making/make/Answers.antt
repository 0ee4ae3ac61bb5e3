use Rattle.std.proofs.Common.{◌≡◌, ◌∙◌, ◌+◌, ℕ, List, arith, length, map, refl, sym}
use Rattle.std.proofs.lemmas.Result.{IfOk-weaker}
use Rattle.lists.specs.laws.ListLaws.{length_map as map_long}
use Rattle.net_words.specs.declared.feed.FeedText.{FeedText}
use Rattle.make_nets.specs.Ports.{inputs_of, outer_names, outputs_of}
use Rattle.make_nets.specs.Prefix.{prefix_of}
use Rattle.make_nets.proofs.MakeLemmas.{inputs_at, maker_at, makeable_at, made_at, outer_at, outer_few}
use Rattle.make_nets.proofs.making.make.Goals as goal

pub count_of-count-requires : goal.count_of-count-requires
count_of-count-requires c = omega (arith, outer_few c.args.words.now (map (λ (f : FeedText). f.net) c.args.feeds.now) c.args.latches.now c.requires.fits.0 c.args.plan.now c.requires.names c.requires.fits.1)

pub prefix_for-requires : goal.prefix_for-requires
prefix_for-requires c = c.requires.names

pub role_nets-requires : goal.role_nets-requires
role_nets-requires c = omega (arith, outer_few c.args.words.now (map (λ (f : FeedText). f.net) c.args.feeds.now) c.args.latches.now c.requires.fits.0 c.args.plan.now c.requires.names c.requires.fits.1)

pub push_range-requires : goal.push_range-requires
push_range-requires c = omega (arith, outer_few c.args.words.now (map (λ (f : FeedText). f.net) c.args.feeds.now) c.args.latches.now c.requires.fits.0 c.args.plan.now c.requires.names c.requires.fits.1, c.count_of-count.ensures, map_long (λ (f : FeedText). f.net) c.args.feeds.now)

pub role_nets-requires-2 : goal.role_nets-requires-2
role_nets-requires-2 c = omega (arith, outer_few c.args.words.now (map (λ (f : FeedText). f.net) c.args.feeds.now) c.args.latches.now c.requires.fits.0 c.args.plan.now c.requires.names c.requires.fits.1)

pub overflow_cast-outer : goal.overflow_cast-outer
overflow_cast-outer c = omega (arith, outer_few c.args.words.now (map (λ (f : FeedText). f.net) c.args.feeds.now) c.args.latches.now c.requires.fits.0 c.args.plan.now c.requires.names c.requires.fits.1, map_long (λ (f : FeedText). f.net) c.args.feeds.now)

pub overflow_add-outer : goal.overflow_add-outer
overflow_add-outer c = omega (arith, outer_few c.args.words.now (map (λ (f : FeedText). f.net) c.args.feeds.now) c.args.latches.now c.requires.fits.0 c.args.plan.now c.requires.names c.requires.fits.1, c.count_of-count.ensures, map_long (λ (f : FeedText). f.net) c.args.feeds.now)

pub finish-requires : goal.finish-requires
finish-requires c =
    let fed : List (List ℕ) = map (λ (f : FeedText). f.net) c.args.feeds.now in
    let long : length c.args.feeds.now ≡ length fed = sym (map_long (λ (f : FeedText). f.net) c.args.feeds.now) in
    let prefixed : c.as_str.result.now ≡ prefix_of (outer_names c.args.words.now fed) = c.as_str.ensures.value ∙ c.in_ok-prefix.ensures in
    let ins : c.deref.result.now ≡ inputs_of c.args.words.now fed = c.deref.ensures.value ∙ inputs_at c.args.words.now fed c.in_ok-inputs.inputs.items c.push_range.new.list.items c.count_of-count.result (length c.args.feeds.now) c.in_ok-inputs.ensures c.count_of-count.ensures long c.in_ok-push_range.ensures in
    let outs : c.deref-2.result.now ≡ outputs_of c.args.words.now = c.deref-2.ensures.value ∙ c.in_ok-outputs.ensures in
    record {
      names = maker_at c.args.words.now fed c.args.latches.now c.args.plan.now c.args.maker c.as_str.result.now c.deref.result.now c.deref-2.result.now c.requires.maker prefixed ins outs;
      outer = outer_at c.args.words.now fed c.args.latches.now c.args.plan.now c.args.maker c.as_str.result.now c.deref.result.now c.deref-2.result.now c.requires.maker prefixed ins outs c.count_of-count.result (length c.args.feeds.now) (c.count_of-count.result + length c.args.feeds.now) c.count_of-count.ensures long refl;
      fits = (c.requires.fits.0, makeable_at c.args.words.now fed c.args.latches.now c.args.plan.now c.args.maker c.as_str.result.now c.deref.result.now c.deref-2.result.now c.requires.maker prefixed ins outs c.requires.fits.0 c.requires.names c.requires.fits.1);
    }

pub returns : goal.returns
returns c =
    let fed : List (List ℕ) = map (λ (f : FeedText). f.net) c.args.feeds.now in
    let long : length c.args.feeds.now ≡ length fed = sym (map_long (λ (f : FeedText). f.net) c.args.feeds.now) in
    let prefixed : c.as_str.result.now ≡ prefix_of (outer_names c.args.words.now fed) = c.as_str.ensures.value ∙ c.in_ok-prefix.ensures in
    let ins : c.deref.result.now ≡ inputs_of c.args.words.now fed = c.deref.ensures.value ∙ inputs_at c.args.words.now fed c.in_ok-inputs.inputs.items c.push_range.new.list.items c.count_of-count.result (length c.args.feeds.now) c.in_ok-inputs.ensures c.count_of-count.ensures long c.in_ok-push_range.ensures in
    let outs : c.deref-2.result.now ≡ outputs_of c.args.words.now = c.deref-2.ensures.value ∙ c.in_ok-outputs.ensures in
    IfOk-weaker c.finish.result _ _ (λ net is. is ∙ made_at c.args.words.now fed c.args.latches.now c.args.plan.now c.args.maker c.as_str.result.now c.deref.result.now c.deref-2.result.now c.requires.maker prefixed ins outs) c.finish.ensures
