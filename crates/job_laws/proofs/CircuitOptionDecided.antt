-- Whether words set the three options of a circuit, in any order, and whether they are values with an option behind them.
use Rattle.std.proofs.Common.{◌⊎◌, inl, inr, ℕ, Bool, List}
use Rattle.std.specs.Prelude.{All}
use Rattle.job_words.specs.Operands.{Word, IsValue}
use Rattle.job_words.specs.Options.{AreCircuitOptions, AreInAnyOrder, IsSimplifyOption}
use Rattle.job_words.specs.Shapes.{AreValues}
use Rattle.reader_laws.proofs.DecidedLemmas.{IsDecided, all_decided, moved_decided, one_decided}
use Rattle.job_laws.proofs.OptionDecided.{AreBoth, IsCycles, IsTerms, both_orders, cycles_option_decided, simplify_decided, terms_option_decided}
use Rattle.job_laws.proofs.Searches.{AreAppended, appended_decided}
use Rattle.job_laws.proofs.WordDecided.{value_decided}

-- ---- three options

abbrev Terms : List Word → Type 0
Terms = IsTerms 262144 65536

abbrev Cycles : List Word → Type 0
Cycles = IsCycles 262144 65536

abbrev Simplify : List Word → Type 0
Simplify words = (simple : Bool) × IsSimplifyOption words simple

-- one of them, and then the two others in either order
abbrev AreThree : List Word → Type 0
AreThree words =
    AreAppended Terms (AreBoth Cycles Simplify) words ⊎ AreAppended Cycles (AreBoth Terms Simplify) words ⊎ AreAppended Simplify (AreBoth Terms Cycles) words

three_decided : (words : List Word) → IsDecided (AreThree words)
three_decided words =
    one_decided (appended_decided (AreBoth Cycles Simplify) (both_orders Cycles Simplify cycles simplify_decided) Terms terms words)
    (one_decided (appended_decided (AreBoth Terms Simplify) (both_orders Terms Simplify terms simplify_decided) Cycles cycles words)
    (appended_decided (AreBoth Terms Cycles) (both_orders Terms Cycles terms cycles) Simplify simplify_decided words))
  where
    terms : (list : List Word) → IsDecided (Terms list)
    terms = terms_option_decided 262144 65536

    cycles : (list : List Word) → IsDecided (Cycles list)
    cycles = cycles_option_decided

-- what they set
abbrev AreSetBy : List Word → Type 0
AreSetBy words = (r : ℕ × ℕ × Bool) × AreCircuitOptions words r.0 r.1 r.2

module _ (words : List Word) where
  set_by : (a b c : List Word) → Terms a → Cycles b → Simplify c → AreInAnyOrder a b c words → AreSetBy words
  set_by a b c t d s are = ((t.0, d.0, s.0), record { of_terms = a; of_cycles = b; of_simplify = c; words_are = are; terms_set = t.1; cycles_set = d.1; simplify_set = s.1 })

  of_three : AreThree words → AreSetBy words
  of_three (inl (a, rest, e, t, inl (b, c, f, d, s))) = set_by a b c t d s (inl (rest, e, inl f))
  of_three (inl (a, rest, e, t, inr (c, b, f, s, d))) = set_by a b c t d s (inl (rest, e, inr f))
  of_three (inr (inl (b, rest, e, d, inl (a, c, f, t, s)))) = set_by a b c t d s (inr (inl (rest, e, inl f)))
  of_three (inr (inl (b, rest, e, d, inr (c, a, f, s, t)))) = set_by a b c t d s (inr (inl (rest, e, inr f)))
  of_three (inr (inr (c, rest, e, s, inl (a, b, f, t, d)))) = set_by a b c t d s (inr (inr (rest, e, inl f)))
  of_three (inr (inr (c, rest, e, s, inr (b, a, f, d, t)))) = set_by a b c t d s (inr (inr (rest, e, inr f)))

  module _ (a b c : List Word) (t : Terms a) (d : Cycles b) (s : Simplify c) where
    to_three : AreInAnyOrder a b c words → AreThree words
    to_three (inl (rest, e, inl f)) = inl (a, rest, e, t, inl (b, c, f, d, s))
    to_three (inl (rest, e, inr f)) = inl (a, rest, e, t, inr (c, b, f, s, d))
    to_three (inr (inl (rest, e, inl f))) = inr (inl (b, rest, e, d, inl (a, c, f, t, s)))
    to_three (inr (inl (rest, e, inr f))) = inr (inl (b, rest, e, d, inr (c, a, f, s, t)))
    to_three (inr (inr (rest, e, inl f))) = inr (inr (c, rest, e, s, inl (a, b, f, t, d)))
    to_three (inr (inr (rest, e, inr f))) = inr (inr (c, rest, e, s, inr (b, a, f, d, t)))

pub circuit_options_decided : (words : List Word) → IsDecided (AreSetBy words)
circuit_options_decided words =
    moved_decided (of_three words) (λ is. to_three words is.1.of_terms is.1.of_cycles is.1.of_simplify (is.0.0, is.1.terms_set) (is.0.1, is.1.cycles_set) (is.0.2, is.1.simplify_set) is.1.words_are) (three_decided words)

-- ---- values

pub values_decided : (words : List Word) → IsDecided ((r : List Word × ℕ) × AreValues words r.0 r.1)
values_decided words =
    moved_decided (λ is. ((is.0, is.4.0), record { options = is.1; words_are = is.2; values_are = is.3; set = is.4.1 })) (λ is. (is.0.0, is.1.options, is.1.words_are, is.1.values_are, (is.0.1, is.1.set)))
    (appended_decided Cycles cycles_option_decided (All IsValue) (all_decided IsValue value_decided) words)
