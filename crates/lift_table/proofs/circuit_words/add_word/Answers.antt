use Rattle.std.proofs.Common.{◌∙◌, ◌++◌, ◌∷◌, [], ap, map, List}
use Rattle.std.specs.Prelude.{slice_get}
use Rattle.std.proofs.lemmas.List.{map-append}
use Rattle.net_words.specs.Binding.{Binding}
use Rattle.gf_basis.specs.BasisParts.{elements_of}
use Rattle.circuit_model.specs.Flat.{word_of}
use Rattle.circuit_model.specs.Word.{Word}
use Rattle.circuit_model.specs.declared.circuit_word.CircuitWord.{CircuitWord}
use Rattle.net_words.specs.declared.word.Role.TheVariants.{Input}
use Rattle.lift_table.proofs.CircuitWordLemmas.{added_word, pushed_over}
use Rattle.lift_table.proofs.circuit_words.add_word.Goals as goal

pub returns-in_ok-push-in-Input : goal.returns-in_ok-push-in-Input
returns-in_ok-push-in-Input g c =
    let old = c.args.list.now.items in
    let new : CircuitWord = record { role = Input; nets = c.in_ok-nets-in-Input.nets; basis = c.args.basis.now } in
    record {
      added = λ word got.
          let role = c.role.ensures word (ap (λ (b : Binding). slice_get b.words c.args.w) c.binding.ensures.binding ∙ got) in
          ap (λ (ws : List CircuitWord). map word_of ws) c.in_ok-push-in-Input.ensures.items
          ∙ (map-append word_of old (new ∷ [])
          ∙ ap (λ (ws : List Word). map word_of old ++ ws)
          (added_word c.role.result word c.in_ok-nets-in-Input.nets.items (elements_of c.args.basis.now) c.in-Input.is role (c.in_ok-nets-in-Input.ensures word got)));
      over = λ each. pushed_over (g.F.Ring.degree c.args._field.now) (g.F.Ring.product c.args._field.now) old c.push.new.self.items new c.in_ok-push-in-Input.ensures.items each c.requires.basis;
    }
