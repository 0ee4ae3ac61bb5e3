use Rattle.std.proofs.Common.{◌^◌, inl, inr, sym, ◌∙◌, arith}
use Rattle.std.proofs.lemmas.Bool.{lt-ltb, le-ltb, cases_lt, le-leb, lt-leb}
use Rattle.std.proofs.lemmas.Nat.{pow_pos}
use Rattle.poly_mixed.proofs.ExponentLemmas.{top}
use Rattle.poly_mixed.proofs.numbers.is_below.Goals as goal

pub returns : goal.returns
returns c =
    let e = top c.args.k c.requires.0 c.requires.1 in
    let pos = pow_pos c.args.k in
    elim (cases_lt c.args.n (2 ^ c.args.k)) [
      | inl l ↦ le-leb _ _ (omega arith) ∙ sym (lt-ltb _ _ l)
      | inr g ↦ lt-leb _ _ (omega arith) ∙ sym (le-ltb _ _ g)
    ]
