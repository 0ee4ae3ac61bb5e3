-- Small worked examples of the definitions of specs/, which the check computes: lines of faults, words of the command line.
use Rattle.std.proofs.Common.{◌≡◌, ◌≢◌, ℕ, zero, suc, ◌<◌, ◌≤◌, [], ◌∷◌, codes, get_or, slice_index, inl, inr, refl, arith, true, false}
use Rattle.std.specs.Fmt.{digits}
use Rattle.text_core.specs.Numbers.{IsDigit}
use Rattle.poly_mixed.specs.declared.stage.Stage.TheVariants as stages
use Rattle.job_words.specs.Command.{Bits, Abstract, Same, Iso, Over, IsSpelled}
use Rattle.job_words.specs.Fault.{fault_line, fault_status}
use Rattle.job_words.specs.OneLine.{IsOneLine, repeated}
use Rattle.job_words.specs.Operands.{IsOperand, is_aiger, is_verilog}
use Rattle.job_words.specs.Options.{AreCircuitOptions}
use Rattle.job_words.specs.StageFault.{stage_text}
use Rattle.job_words.specs.declared.fault.Fault.{Fault}
use Rattle.job_words.specs.declared.fault.Fault.TheVariants as faults
use Rattle.job_words.specs.declared.netlist_fault.NetlistFault.TheVariants as netlist
use Rattle.job_words.specs.declared.signature_fault.SignatureFault.TheVariants as signature
use Rattle.job_words.proofs.OneLineLemmas.{clean_kept}

-- the line where the net y of n.blif has two drivers
line_of_driven_twice : fault_line (faults.Netlist (codes "n.blif") (netlist.DrivenTwice (codes "y"))) ≡ codes "fault 34: net y is driven twice in n.blif\n"
line_of_driven_twice = refl

-- it repeats the file's name and the net's
repeated_of_driven_twice : repeated (faults.Netlist (codes "n.blif") (netlist.DrivenTwice (codes "y"))) ≡ codes "n.blif" ∷ codes "y" ∷ []
repeated_of_driven_twice = refl

-- the line of fault 01 is one line
words_on_one_line : IsOneLine (codes "fault 01: words\n")
words_on_one_line = record { before = codes "fault 01: words"; ends = refl; only = clean_kept (codes "fault 01: words") refl }

abbrev over : Fault
over = faults.Stage (record { stage = codes "word A term 1 bit 2"; terms = 70000; bound = 65536 })

-- the line where a stage has 70,000 terms and the bound is 65,536
line_of_too_many : fault_line over ≡ codes "fault 03: word A term 1 bit 2 has 70000 terms, bound 65536\n"
unfolding digits
line_of_too_many = refl

-- where the modulus of a second signature has a factor, its fault has the word before its text
line_of_second : fault_line (faults.SecondSignature signature.Modulus) ≡ codes "fault 22: second the modulus is not irreducible\n"
line_of_second = refl

-- it ends with the status 3
status_of_too_many : fault_status over ≡ 3
status_of_too_many = refl

-- where the words are A and B, the sum of 3 terms of word 1 is called by B
text_of_sum : stage_text (record { output = codes "Z"; words = (codes "A", 2) ∷ (codes "B", 2) ∷ []; nets = [] }) (stages.WordSum 1 3) ≡ codes "word B sum 3"
unfolding digits
text_of_sum = refl

operand_s : IsOperand (codes "s")
operand_s = record { not_empty = λ e. absurd (cc); no_option = refl; plain = plain }
  where
    plain : (k d : ℕ) → k < 1 → (32 ≤ get_or (codes "s") k d) × (get_or (codes "s") k d ≢ 127)
    plain zero d h = (omega arith, λ e. absurd (omega arith))
    plain (suc k) d h = absurd (omega arith)

operand_n : IsOperand (codes "n")
operand_n = record { not_empty = λ e. absurd (cc); no_option = refl; plain = plain }
  where
    plain : (k d : ℕ) → k < 1 → (32 ≤ get_or (codes "n") k d) × (get_or (codes "n") k d ≢ 127)
    plain zero d h = (omega arith, λ e. absurd (omega arith))
    plain (suc k) d h = absurd (omega arith)

no_options : AreCircuitOptions [] 65536 0 false
no_options = record { of_terms = []; of_cycles = []; of_simplify = []; words_are = inl ([], refl, inl refl); terms_set = inl (refl, refl); cycles_set = inl (refl, refl); simplify_set = inl (refl, refl) }

-- `bits s n` is the command `bits` with the signature s, the netlist n, the bound 65,536 and no cycle but the first
spelled_bits : IsSpelled (codes "bits" ∷ codes "s" ∷ codes "n" ∷ []) (Over (codes "s") (Bits (codes "n") 65536 0 false))
spelled_bits = record {
  rest = codes "s" ∷ codes "n" ∷ [];
  words_are = refl;
  follow = record { rest = []; words_are = refl; signature_is = operand_s; file_is = operand_n; follow = no_options };
}

-- `same s n n` is the command `same` with the netlist n twice
spelled_same : IsSpelled (codes "same" ∷ codes "s" ∷ codes "n" ∷ codes "n" ∷ []) (Over (codes "s") (Same (codes "n") (codes "n") 65536 0 false))
spelled_same = record {
  rest = codes "s" ∷ codes "n" ∷ codes "n" ∷ [];
  words_are = refl;
  follow = record { rest = []; words_are = refl; signature_is = operand_s; file_is = operand_n; other_is = operand_n; follow = no_options };
}

-- `iso s n` is the command `iso` with the signatures s and n
spelled_iso : IsSpelled (codes "iso" ∷ codes "s" ∷ codes "n" ∷ []) (Over (codes "s") (Iso (codes "n")))
spelled_iso = record {
  rest = codes "s" ∷ codes "n" ∷ [];
  words_are = refl;
  follow = record { rest = []; words_are = refl; signature_is = operand_s; file_is = operand_n; follow = refl };
}

-- `abstract s n --cycles 3 --simplify --terms 10` sets the bound 10 and 3 cycles, and asks for a simpler circuit
spelled_abstract : IsSpelled (codes "abstract" ∷ codes "s" ∷ codes "n" ∷ codes "--cycles" ∷ codes "3" ∷ codes "--simplify" ∷ codes "--terms" ∷ codes "10" ∷ []) (Over (codes "s") (Abstract (codes "n") 10 3 true))
spelled_abstract = record {
  rest = codes "s" ∷ codes "n" ∷ codes "--cycles" ∷ codes "3" ∷ codes "--simplify" ∷ codes "--terms" ∷ codes "10" ∷ [];
  words_are = refl;
  follow = record {
    rest = codes "--cycles" ∷ codes "3" ∷ codes "--simplify" ∷ codes "--terms" ∷ codes "10" ∷ [];
    words_are = refl;
    signature_is = operand_s;
    file_is = operand_n;
    follow = record {
      of_terms = codes "--terms" ∷ codes "10" ∷ [];
      of_cycles = codes "--cycles" ∷ codes "3" ∷ [];
      of_simplify = codes "--simplify" ∷ [];
      words_are = inr (inl (codes "--simplify" ∷ codes "--terms" ∷ codes "10" ∷ [], refl, inr refl));
      terms_set = inr (codes "10", refl, record { decimal = ((omega arith, each), refl); no_zero = λ e. absurd (omega arith); some = omega arith; most = omega arith });
      cycles_set = inr (codes "3", refl, record { decimal = ((omega arith, digit), refl); no_zeros = λ e. absurd (omega arith); most = omega arith });
      simplify_set = inr (refl, refl);
    };
  };
}
  where
    digit : (k : ℕ) → k < 1 → IsDigit 10 (slice_index (codes "3") k)
    digit zero h = (inl (omega arith, omega arith), omega arith)
    digit (suc k) h = absurd (omega arith)

    each : (k : ℕ) → k < 2 → IsDigit 10 (slice_index (codes "10") k)
    each zero h = (inl (omega arith, omega arith), omega arith)
    each (suc zero) h = (inl (omega arith, omega arith), omega arith)
    each (suc (suc k)) h = absurd (omega arith)

-- a netlist whose name ends in `.v` is in Verilog
verilog_by_ending : is_verilog (codes "m.v") ≡ true
verilog_by_ending = refl

-- one whose name ends in `.aag` is in ASCII AIGER
aiger_by_ending : is_aiger (codes "m.aag") ≡ true
aiger_by_ending = refl
