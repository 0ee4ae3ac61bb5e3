use Rattle.std.proofs.Common.{rules, ◌≡◌, ◌∙◌, ◌≤◌, ◌++◌, subst, sym, ap, append_assoc, true, false, List, length, arith}
use Rattle.std.specs.Prelude.{All}
use Rattle.std.proofs.lemmas.Option.{IfSome_then}
use Rattle.text_core.specs.Lines.{is_blank}
use Rattle.net_blif.specs.Lines.{goes_on}
use Rattle.net_blif.specs.Statement.{IsToken, Token}
use Rattle.net_blif.specs.private.FirstLine.{as_word, StandsAlone}
use Rattle.net_blif.proofs.InPlaceLemmas.{with_word, word_before, word_last}
use Rattle.net_blif.proofs.in_place.line_in_place.Goals as goal

pub returns-then-not-is_blank-clause-line : goal.returns-then-not-is_blank-clause-line
returns-then-not-is_blank-clause-line c =
    let front = c.in-Some.front in
    let ends : goes_on front.word.now ≡ false = search rules in
    IfSome_then c.after_end.result c.after_end.ensures.line (λ after end. let P : List Token → Type 0 = λ words. StandsAlone c.args.text.now words after.now in subst P (sym c.in_ok-push_word.ensures) (c.loop-front.invariant.line (as_word front.word.now) after.now (word_last c.loop-front.rest.now front.word.now front.byte front.rest.now after.now c.in-Some.ensures.is c.in-Some.ensures.word ends end)))

pub returns-then-not-is_blank-clause-tokens : goal.returns-then-not-is_blank-clause-tokens
returns-then-not-is_blank-clause-tokens c =
    let front = c.in-Some.front in
    let short : length front.word.now ≤ 255 = search rules in
    let P : List Token → Type 0 = All IsToken in
    let all : All IsToken c.push_word.new.words.items = subst P (sym c.in_ok-push_word.ensures) (with_word c.loop-front.words.items front.word.now c.loop-front.invariant.tokens c.in-Some.ensures.word short) in
    IfSome_then c.after_end.result c.after_end.ensures.within (λ after within. all)

pub returns-then-not-is_blank-clause-shorter : goal.returns-then-not-is_blank-clause-shorter
returns-then-not-is_blank-clause-shorter c =
    IfSome_then c.after_end.result c.after_end.ensures.within (λ after within. omega (arith, within, c.in-Some.ensures.shorter, c.loop-front.invariant.within))

pub loop-front-preserved : goal.loop-front-preserved
loop-front-preserved c =
    let front = c.in-Some.front in
    let ends : goes_on front.word.now ≡ false = search rules in
    let short : length front.word.now ≤ 255 = search rules in
    let blank : is_blank front.byte ≡ true = search rules in
    let P : List Token → Type 0 = All IsToken in
    record {
      line = λ more after alone.
          let S : List Token → Type 0 = λ words. StandsAlone c.args.text.now words after in
          subst S (sym (append_assoc c.loop-front.words.items (as_word front.word.now) more) ∙ ap (λ (ws : List Token). ws ++ more) (sym c.in_ok-push_word.ensures)) (c.loop-front.invariant.line (as_word front.word.now ++ more) after (word_before c.loop-front.rest.now front.word.now front.byte front.rest.now more after c.in-Some.ensures.is c.in-Some.ensures.word ends blank alone));
      tokens = subst P (sym c.in_ok-push_word.ensures) (with_word c.loop-front.words.items front.word.now c.loop-front.invariant.tokens c.in-Some.ensures.word short);
      within = omega (arith, c.in-Some.ensures.shorter, c.loop-front.invariant.within);
    }
