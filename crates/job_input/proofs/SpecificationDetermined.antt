-- At most one specification or fault comes of a text.
use Rattle.std.proofs.Common.{◌≡◌, ◌∙◌, ap, sym, refl, ℕ, List, Result, Ok, Err}
use Rattle.outcome.specs.Outcome.{Determined}
use Rattle.poly_mixed.specs.Labels.{Labelling}
use Rattle.spec_text.specs.Fault.{IsOfText}
use Rattle.spec_expand.specs.Specification.{SpecTerms}
use Rattle.spec_text.specs.declared.fault.SpecFault.{SpecFault}
use Rattle.spec_text.specs.declared.fault.SpecFault.TheVariants as text
use Rattle.spec_text.proofs.OneOutcomeLemmas.{one_outcome}
use Rattle.job_words.specs.declared.specification_fault.SpecificationFault.{SpecificationFault}
use Rattle.job_words.specs.declared.specification_fault.SpecificationFault.TheVariants as specification
use Rattle.job_input.specs.SpecificationIn.{SpecificationOf, text_fault_of}

-- the fault of a specification that a fault of its text is; out of memory is taken as any other
back_fault : SpecFault → SpecificationFault
back_fault (text.Syntax place) = specification.Syntax place
back_fault (text.UnknownWord place) = specification.UnknownWord place
back_fault (text.BadNumber place) = specification.BadNumber place
back_fault text.OutOfMemory = specification.Syntax 0

there_and_back : (fault : SpecificationFault) → back_fault (text_fault_of fault) ≡ fault
unfolding back_fault
there_and_back (specification.Syntax place) = refl
there_and_back (specification.UnknownWord place) = refl
there_and_back (specification.BadNumber place) = refl

of_text : (fault : SpecificationFault) → IsOfText (Err (text_fault_of fault))
of_text (specification.Syntax place) = tt
of_text (specification.UnknownWord place) = tt
of_text (specification.BadNumber place) = tt

back_result : Result SpecTerms SpecFault → Result SpecTerms SpecificationFault
back_result (Ok terms) = Ok terms
back_result (Err fault) = Err (back_fault fault)

pub specification_determined : (labels : Labelling) (k : ℕ) (product : ℕ → ℕ → ℕ) (bytes : List ℕ) → Determined (SpecificationOf labels k product bytes)
unfolding back_result
specification_determined labels k product bytes (Ok a) (Ok b) p q = ap back_result (one_outcome labels k product bytes (Ok a) (Ok b) p q tt tt)
specification_determined labels k product bytes (Ok a) (Err e) p q = ap back_result (one_outcome labels k product bytes (Ok a) (Err (text_fault_of e)) p q tt (of_text e)) ∙ ap Err (there_and_back e)
specification_determined labels k product bytes (Err d) (Ok b) p q = sym (ap Err (there_and_back d)) ∙ ap back_result (one_outcome labels k product bytes (Err (text_fault_of d)) (Ok b) p q (of_text d) tt)
specification_determined labels k product bytes (Err d) (Err e) p q =
    sym (ap Err (there_and_back d)) ∙ (ap back_result (one_outcome labels k product bytes (Err (text_fault_of d)) (Err (text_fault_of e)) p q (of_text d) (of_text e)) ∙ ap Err (there_and_back e))
