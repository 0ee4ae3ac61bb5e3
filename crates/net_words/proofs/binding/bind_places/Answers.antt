use Rattle.std.proofs.Common.{◌∙◌, rules, ℕ, List, [], Err}
use Rattle.outcome.specs.Outcome.{Returns}
use Rattle.net_core.specs.NetList.{number_of}
use Rattle.net_words.specs.Bind.{NetsOf, place_net}
use Rattle.net_words.proofs.BindLemmas.{nets_fail, nets_step, step_fails}
use Rattle.net_words.proofs.binding.bind_places.Goals as goal

pub loop-i-preserved : goal.loop-i-preserved
loop-i-preserved c = (
  search rules,
  λ outcome rest. c.loop-i.invariant.1 outcome
      (nets_step c.args.net.now c.args.number c.args.role c.loop-i.taken.items c.bind_place.new.taken.items c.loop-i.nets.items c.push.new.self.items c.args.names.now c.loop-i.i c.index-names-i.result c.as_str-text.result.now c.in-Ok.found outcome c.loop-i-test.true c.loop-i.invariant.0 (c.as_str-text.ensures ∙ c.index-names-i.is) c.in-Ok.ensures.fits c.in-Ok.ensures.taken c.in_ok-push.ensures.items rest),
)

pub returns-in-Err : goal.returns-in-Err
returns-in-Err c =
    let one : ℕ → ℕ = λ n. n in
    let all : List ℕ × List ℕ → List ℕ × List ℕ = λ nets. nets in
    record {
      fits = step_fails one all c.in-Err.fault (Returns (place_net c.args.net.now c.args.number c.loop-i.i c.loop-i.taken.items c.args.role (number_of c.args.net.now c.as_str-text.result.now))) (NetsOf c.args.net.now c.args.number c.args.role c.args.taken.now.items [] c.args.names.now)
          (λ e fails. c.loop-i.invariant.1 (Err e) (nets_fail c.args.net.now c.args.number c.args.role c.loop-i.taken.items c.loop-i.nets.items c.args.names.now c.loop-i.i c.index-names-i.result c.as_str-text.result.now e c.loop-i-test.true c.loop-i.invariant.0 (c.as_str-text.ensures ∙ c.index-names-i.is) fails)) c.in-Err.ensures.fits;
    }
