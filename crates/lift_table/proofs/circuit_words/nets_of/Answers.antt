use Rattle.std.proofs.Common.{◌≡◌, ◌<◌, ◌∙◌, ◌++◌, ◌∷◌, [], ap, sym, length, List, ℕ, get_or, take, take_all, arith}
use Rattle.std.specs.Prelude.{slice_get}
use Rattle.std.proofs.lemmas.List.{take_more}
use Rattle.lists.specs.laws.HasLaws.{All_has}
use Rattle.net_words.specs.Binding.{Binding}
use Rattle.net_words.specs.declared.bound.BoundWord.{BoundWord}
use Rattle.lift_table.proofs.circuit_words.nets_of.Goals as goal

pub loop-place-preserved : goal.loop-place-preserved
loop-place-preserved c word got =
    let bound = c.args.circuit.now.binding in
    let place = c.loop-place.place in
    let long : length word.nets ≡ bound.k = All_has (λ (u : BoundWord). length u.nets ≡ bound.k) bound.words word c.binding-binding.ensures.is_bound.flat.named (c.args.w, got) in
    let bits : c.k-place-end.result ≡ bound.k = c.k-place-end.ensures.bits ∙ ap (λ (b : Binding). b.k) c.binding-binding.ensures.binding in
    let less : place < length word.nets = omega (arith, long, bits, c.loop-place-test.true) in
    let net : c.net.result ≡ get_or word.nets place 0 = c.net.ensures word (ap (λ (b : Binding). slice_get b.words c.args.w) c.binding-binding.ensures.binding ∙ got) in
    c.in_ok-push.ensures.items
    ∙ (ap (λ (ns : List ℕ). ns ++ c.net.result ∷ []) (c.loop-place.invariant word got)
    ∙ (ap (λ (n : ℕ). take place word.nets ++ n ∷ []) net ∙ sym (take_more word.nets place 0 less)))

pub returns : goal.returns
returns c word got =
    let bound = c.args.circuit.now.binding in
    let long : length word.nets ≡ bound.k = All_has (λ (u : BoundWord). length u.nets ≡ bound.k) bound.words word c.binding-binding.ensures.is_bound.flat.named (c.args.w, got) in
    let bits : c.k-place-end.result ≡ bound.k = c.k-place-end.ensures.bits ∙ ap (λ (b : Binding). b.k) c.binding-binding.ensures.binding in
    c.loop-place.invariant word got ∙ take_all c.loop-place.place word.nets (omega (arith, long, bits, c.loop-place-test.false))
