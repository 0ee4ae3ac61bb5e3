use Rattle.std.proofs.Common.{◌≡◌, ◌∙◌, ◌<◌, ◌^◌, ap, arith, length, refl, subst, sym}
use Rattle.std.proofs.lemmas.Bool.{false≢true}
use Rattle.std.specs.Prelude.{◌↔◌, Err, IfOk, IsErrOf}
use Rattle.net_core.specs.NetList.{nets}
use Rattle.net_words.specs.Binding.{BoundNet}
use Rattle.net_words.proofs.FlatLemmas.{flat_bound}
use Rattle.unroll.specs.declared.fault.UnrollFault.TheVariants.{TooManyGates, TooManyNets}
use Rattle.unroll.proofs.FlatLemmas.{unrolled_flat}
use Rattle.unroll.proofs.PlanLemmas.{laid_same}
use Rattle.unroll.proofs.unrolling.unroll.Goals as goal

pub new-requires : goal.new-requires
new-requires c = λ flat. flat_bound c.args.net c.args.binding c.requires.binding flat

pub returns-in-Ok-clause-made : goal.returns-in-Ok-clause-made
returns-in-Ok-clause-made c = c.in-Ok.ensures.made ∙ sym (unrolled_flat c.args.net c.args.binding c.args.cycles c.requires.binding (c.in-Ok.ensures.flat.0 refl))

pub returns-in-Ok-clause-nets : goal.returns-in-Ok-clause-nets
returns-in-Ok-clause-nets c =
    let flat = ap (λ (n : BoundNet). nets n.net) (unrolled_flat c.args.net c.args.binding c.args.cycles c.requires.binding (c.in-Ok.ensures.flat.0 refl)) in
    ((λ same. absurd (cc)), (λ more. absurd (omega (arith, more, flat, c.new.ensures.sound.inside.few_nets))))

pub returns-in-Ok-clause-room : goal.returns-in-Ok-clause-room
returns-in-Ok-clause-room c =
    let flat = ap (λ (n : BoundNet). length n.net.gates) (unrolled_flat c.args.net c.args.binding c.args.cycles c.requires.binding (c.in-Ok.ensures.flat.0 refl)) in
    omega (arith, flat, c.new.ensures.sound.inside.few_gates)

pub returns-in-Err-clause-made : goal.returns-in-Err-clause-made
returns-in-Err-clause-made c =
    let back = c.in-Err.ensures.back in
    let one : c.in-Err.net ≡ c.args.net = cc in
    let two : c.in-Err.binding ≡ c.args.binding = cc in
    let P : BoundNet → Type 0 = λ n. IfOk c.all_cycles.result (λ circuit. circuit ≡ n) in
    subst P (laid_same c.args.net c.in-Err.net c.args.binding c.in-Err.binding c.args.cycles one two c.requires.binding (λ flat. false≢true (c.in-Err.ensures.flat.1 flat))) c.all_cycles.ensures.made

pub returns-in-Err-clause-nets : goal.returns-in-Err-clause-nets
returns-in-Err-clause-nets c =
    let back = c.in-Err.ensures.back in
    let one : c.in-Err.net ≡ c.args.net = cc in
    let two : c.in-Err.binding ≡ c.args.binding = cc in
    let P : BoundNet → Type 0 = λ n. (c.all_cycles.result ≡ Err TooManyNets) ↔ (2 ^ 20 < nets n.net) in
    subst P (laid_same c.args.net c.in-Err.net c.args.binding c.in-Err.binding c.args.cycles one two c.requires.binding (λ flat. false≢true (c.in-Err.ensures.flat.1 flat))) c.all_cycles.ensures.nets

pub returns-in-Err-clause-gates : goal.returns-in-Err-clause-gates
returns-in-Err-clause-gates c =
    let back = c.in-Err.ensures.back in
    let one : c.in-Err.net ≡ c.args.net = cc in
    let two : c.in-Err.binding ≡ c.args.binding = cc in
    let P : BoundNet → Type 0 = λ n. IsErrOf c.all_cycles.result TooManyGates → 2 ^ 20 < length n.net.gates in
    subst P (laid_same c.args.net c.in-Err.net c.args.binding c.in-Err.binding c.args.cycles one two c.requires.binding (λ flat. false≢true (c.in-Err.ensures.flat.1 flat))) c.all_cycles.ensures.gates
