use Rattle.std.proofs.Common.{◌≡◌, ℕ, List, [], ◌∷◌, ◌++◌, take, get_or, length, ap, sym, ◌∙◌, arith, take_all}
use Rattle.std.proofs.lemmas.List.{append_assoc}
use Rattle.lists.specs.laws.HasLaws.{All_has}
use Rattle.net_words.specs.declared.bound.BoundWord.{BoundWord}
use Rattle.circuit_model.proofs.OutputNetsLemmas.{take_more}
use Rattle.net_simplify.proofs.circuit.add_word.Goals as goal

pub loop-place-preserved : goal.loop-place-preserved
loop-place-preserved c word at =
    let long : length word.nets ≡ c.args.binding.now.k = All_has (λ (w : BoundWord). length w.nets ≡ c.args.binding.now.k) c.args.binding.now.words word c.requires.named (c.args.w, at) in
    let before = c.args.list.now.items in
    let place = c.loop-place.place in
    let net : c.net.result ≡ get_or word.nets place 0 = c.net.ensures word at in
    c.in_ok-push.ensures.items
    ∙ (ap (λ (xs : List ℕ). xs ++ c.net.result ∷ []) (c.loop-place.invariant word at)
    ∙ (append_assoc before (take place word.nets) (c.net.result ∷ [])
    ∙ (ap (λ (n : ℕ). before ++ (take place word.nets ++ n ∷ [])) net
    ∙ ap (λ (xs : List ℕ). before ++ xs) (sym (take_more word.nets place (omega arith))))))

pub returns : goal.returns
returns c word at =
    let long : length word.nets ≡ c.args.binding.now.k = All_has (λ (w : BoundWord). length w.nets ≡ c.args.binding.now.k) c.args.binding.now.words word c.requires.named (c.args.w, at) in
    c.loop-place.invariant word at ∙ ap (λ (xs : List ℕ). c.args.list.now.items ++ xs) (take_all c.loop-place.place word.nets (omega arith))

pub net-requires-clause-nets : goal.net-requires-clause-nets
net-requires-clause-nets c word at = All_has (λ (w : BoundWord). length w.nets ≡ c.args.binding.now.k) c.args.binding.now.words word c.requires.named (c.args.w, at)
