use Rattle.std.proofs.Common.{◌≡◌, ◌∙◌, ap, sym, refl, subst, false, true, get_or, string_bytes, arith, rules}
use Rattle.job_words.specs.Operands.{IsValue, Word}
use Rattle.job_words.proofs.ValueLemmas.{value_fails, values_all, values_more}
use Rattle.job_words.proofs.operands.are_values.Goals as goal

pub returns-then-not-is_value : goal.returns-then-not-is_value
returns-then-not-is_value c =
    let words = c.args.words.now in
    let item = c.index-words-i.result in
    let P : Word → Type 0 = IsValue in
    let path : string_bytes (get_or words c.loop-i.i item) ≡ c.as_str.result.now = ap (λ w. string_bytes w) (sym c.index-words-i.is) ∙ sym c.as_str.ensures.value in
    let off : c.is_value.result ≡ false = search rules in
    let none : IsValue (string_bytes (get_or words c.loop-i.i item)) → ⊥ = λ v. let yes = c.is_value.ensures.1 (subst P path v) in absurd (cc) in (
      (λ t. absurd (cc)),
      λ all. absurd (value_fails string_bytes words c.loop-i.i item (omega arith) none all),
    )

pub loop-i-preserved : goal.loop-i-preserved
loop-i-preserved c =
    let words = c.args.words.now in
    let item = c.index-words-i.result in
    let P : Word → Type 0 = IsValue in
    let path : string_bytes (get_or words c.loop-i.i item) ≡ c.as_str.result.now = ap (λ w. string_bytes w) (sym c.index-words-i.is) ∙ sym c.as_str.ensures.value in
    let on : c.is_value.result ≡ true = search rules in
    values_more string_bytes words c.loop-i.i item (omega arith) c.loop-i.invariant (subst P (sym path) (c.is_value.ensures.0 on))

pub returns : goal.returns
returns c = ((λ t. values_all string_bytes c.args.words.now c.loop-i.i (omega arith) c.loop-i.invariant), (λ all. refl))
