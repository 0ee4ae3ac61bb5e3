use Rattle.std.proofs.Common.{◌≡◌, ℕ, List, [], ◌∷◌, ◌++◌, take, get_or, length, ap, sym, ◌∙◌, arith, take_all}
use Rattle.std.proofs.lemmas.List.{append_assoc}
use Rattle.lists.specs.laws.HasLaws.{All_has}
use Rattle.net_words.specs.Binding.{HasWidth}
use Rattle.net_words.specs.BoundTo.{output_bits_with}
use Rattle.net_words.specs.declared.word.Role.{Role}
use Rattle.net_words.proofs.MemberLemmas.{output_width}
use Rattle.circuit_model.proofs.OutputNetsLemmas.{take_more}
use Rattle.circuit_model.proofs.output_word.add_word.Goals as goal

pub loop-place-preserved : goal.loop-place-preserved
loop-place-preserved c word at =
    let long : length word.nets ≡ c.args.binding.now.k = output_width c.args.binding.now.k word (All_has (HasWidth c.args.binding.now.k) c.args.binding.now.words word c.k-place-end.ensures.is_binding.each (c.args.w, at)) (sym (c.role.ensures word at) ∙ c.in-Output.is) in
    let before = c.args.list.now.items in
    let place = c.loop-place.place in
    let net : c.net.result ≡ get_or word.nets place 0 = c.net.ensures word at in
    c.in_ok-push-in-Output.ensures.items
    ∙ (ap (λ (xs : List ℕ). xs ++ c.net.result ∷ []) (c.loop-place.invariant word at)
    ∙ (append_assoc before (take place word.nets) (c.net.result ∷ [])
    ∙ (ap (λ (n : ℕ). before ++ (take place word.nets ++ n ∷ [])) net
    ∙ ap (λ (xs : List ℕ). before ++ xs) (sym (take_more word.nets place (omega arith))))))

pub returns-after-loop-place : goal.returns-after-loop-place
returns-after-loop-place c word at =
    let long : length word.nets ≡ c.args.binding.now.k = output_width c.args.binding.now.k word (All_has (HasWidth c.args.binding.now.k) c.args.binding.now.words word c.k-place-end.ensures.is_binding.each (c.args.w, at)) (sym (c.role.ensures word at) ∙ c.in-Output.is) in
    let before = c.args.list.now.items in
    let role : word.role ≡ Role.Output = sym (c.role.ensures word at) ∙ c.in-Output.is in
    c.loop-place.invariant word at
    ∙ (ap (λ (xs : List ℕ). before ++ xs) (take_all c.loop-place.place word.nets (omega arith))
    ∙ ap (λ (r : Role). before ++ output_bits_with r word.nets) (sym role))

pub net-requires-clause-nets : goal.net-requires-clause-nets
net-requires-clause-nets c word at = output_width c.args.binding.now.k word (All_has (HasWidth c.args.binding.now.k) c.args.binding.now.words word c.k-place-end.ensures.is_binding.each (c.args.w, at)) (sym (c.role.ensures word at) ∙ c.in-Output.is)
