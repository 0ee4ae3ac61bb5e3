use Rattle.std.proofs.Common.{◌≡◌, ◌⊎◌, sym, subst, ⊎_elim, refl, rules, ℕ, List, [], length, Err, arith}
use Rattle.net_words.specs.Bind.{BoundOf, NetsOf, names_with}
use Rattle.net_words.specs.declared.bound.BoundWord.{BoundWord}
use Rattle.net_words.specs.declared.word.Role.TheVariants.{Fed}
use Rattle.net_words.specs.declared.word.WordText.{WordText}
use Rattle.net_words.proofs.BindLemmas.{step_fails, words_fail, words_step}
use Rattle.net_words.proofs.binding.bind_words.Goals as goal

pub bind_word-requires-clause-few : goal.bind_word-requires-clause-few
bind_word-requires-clause-few c =
    let word : WordText = c.index-words-i.result in
    let P : WordText → Type 0 = λ w. (length w.nets ≡ c.args._k) ⊎ (w.role ≡ Fed) in
    let own : P word = subst P (sym c.index-words-i.is) (c.requires.words.each c.loop-i.i word c.loop-i-test.true) in
    λ other. ⊎_elim (λ long. omega (arith, long, c.requires.words.most)) (λ fed. absurd (other fed)) own

pub loop-i-preserved : goal.loop-i-preserved
loop-i-preserved c =
    let word = c.index-words-i.result in
    let bound : BoundWord = record { name = c.in_ok-new.field-0; role = word.role; nets = c.new-in-loop-i.result } in (
      search rules,
      λ outcome rest. c.loop-i.invariant.1 outcome
          (words_step c.args.net.now c.loop-i.taken.items c.bind_word.new.taken.items c.loop-i.bound.items c.push.new.self.items c.args.words.now c.loop-i.i word word bound c.in-Ok.nets.items outcome c.loop-i-test.true c.loop-i.invariant.0 c.index-words-i.is c.in-Ok.ensures.fits (rw (c.in_ok-new.ensures, c.as_str.ensures, c.new-in-loop-i.ensures) refl) c.in_ok-push.ensures.items rest),
    )

pub returns-in-Err : goal.returns-in-Err
returns-in-Err c =
    let word : WordText = c.index-words-i.result in
    let one : List ℕ × List ℕ → List ℕ × List ℕ = λ nets. nets in
    let all : List BoundWord × List ℕ → List BoundWord × List ℕ = λ bound. bound in
    record {
      fits = step_fails one all c.in-Err.fault (NetsOf c.args.net.now c.loop-i.i word.role c.loop-i.taken.items [] (names_with word.role word.nets)) (BoundOf c.args.net.now c.args.taken.now.items [] c.args.words.now)
          (λ e fails. c.loop-i.invariant.1 (Err e) (words_fail c.args.net.now c.loop-i.taken.items c.loop-i.bound.items c.args.words.now c.loop-i.i word word e c.loop-i-test.true c.loop-i.invariant.0 c.index-words-i.is fails)) c.in-Err.ensures.fits;
    }
