use Rattle.std.proofs.Common.{◌-◌, sym, subst, ℕ, List, [], length, take, drop, Ok, arith}
use Rattle.text_core.proofs.LineLemmas.{rest_of}
use Rattle.poly_mixed.specs.Labels.{Labelling}
use Rattle.spec_expand.specs.Specification.{SpecTerms, IsOverWords}
use Rattle.spec_text.specs.Fault.{SpecOutcome}
use Rattle.spec_text.specs.declared.reader.Next.TheVariants.{Output}
use Rattle.spec_text.specs.private.Progress.{Progress, progress}
use Rattle.spec_text.proofs.ReadLemmas.{IsReading, reading_start, reading_few, turned, failed, stuck_here, within_here, reading_end, reading_unended, end_over, end_few}
use Rattle.spec_text.proofs.reader.read_spec.Goals as goal

pub loop-at-init : goal.loop-at-init
loop-at-init g c =
    let l : Labelling = c.args.labels.now in
    let k : ℕ = g.F.Ring.degree c.args.field.now in
    let mul : ℕ → ℕ → ℕ = g.F.Ring.product c.args.field.now in
    let ring = g.met.F.Ring.laws c.args.field.now in
    let bytes : List ℕ = c.args.bytes.now in
    let P : SpecTerms → Type 0 = λ ts. IsReading l k mul ring bytes c.white_at-at.result (progress Output ts 1 []) in
    let Q : List (ℕ × ℕ) → Type 0 = λ ps. IsReading l k mul ring bytes c.white_at-at.result (progress Output c.new.result.items 1 ps) in
    subst Q (sym c.new-2.ensures.items) (subst P (sym c.new.ensures.items) (reading_start l k mul ring bytes c.white_at-at.result c.white_at-at.ensures))

pub step-requires-clause-few : goal.step-requires-clause-few
step-requires-clause-few g c =
    let l : Labelling = c.args.labels.now in
    let k : ℕ = g.F.Ring.degree c.args.field.now in
    let mul : ℕ → ℕ → ℕ = g.F.Ring.product c.args.field.now in
    let ring = g.met.F.Ring.laws c.args.field.now in
    let bytes : List ℕ = c.args.bytes.now in
    let at : ℕ = c.loop-at.at in
    let p : Progress = progress c.loop-at.next c.loop-at.reading.terms.items c.loop-at.reading.coefficient c.loop-at.reading.powers.items in
    reading_few l k mul ring bytes at p c.loop-at.invariant c.requires

pub step-requires-clause-element : goal.step-requires-clause-element
step-requires-clause-element g c = c.loop-at.invariant.over.element

pub end-requires : goal.end-requires
end-requires g c =
    let l : Labelling = c.args.labels.now in
    let k : ℕ = g.F.Ring.degree c.args.field.now in
    let mul : ℕ → ℕ → ℕ = g.F.Ring.product c.args.field.now in
    let ring = g.met.F.Ring.laws c.args.field.now in
    let bytes : List ℕ = c.args.bytes.now in
    let at : ℕ = c.loop-at.at in
    let p : Progress = progress c.loop-at.next c.loop-at.reading.terms.items c.loop-at.reading.coefficient c.loop-at.reading.powers.items in
    record { few = reading_few l k mul ring bytes at p c.loop-at.invariant c.requires }

pub returns-in-None-clause-outcome : goal.returns-in-None-clause-outcome
returns-in-None-clause-outcome g c =
    let l : Labelling = c.args.labels.now in
    let k : ℕ = g.F.Ring.degree c.args.field.now in
    let mul : ℕ → ℕ → ℕ = g.F.Ring.product c.args.field.now in
    let ring = g.met.F.Ring.laws c.args.field.now in
    let bytes : List ℕ = c.args.bytes.now in
    let at : ℕ = c.loop-at.at in
    let p : Progress = progress c.loop-at.next c.loop-at.reading.terms.items c.loop-at.reading.coefficient c.loop-at.reading.powers.items in
    let text : List ℕ = take (length bytes - at) (drop at bytes) in
    stuck_here l k mul ring bytes at p c.loop-at.invariant text (rest_of bytes at) c.loop-at-test.true c.in-None.ensures

pub returns-in-Err-clause-outcome : goal.returns-in-Err-clause-outcome
returns-in-Err-clause-outcome g c =
    let l : Labelling = c.args.labels.now in
    let k : ℕ = g.F.Ring.degree c.args.field.now in
    let mul : ℕ → ℕ → ℕ = g.F.Ring.product c.args.field.now in
    let ring = g.met.F.Ring.laws c.args.field.now in
    let bytes : List ℕ = c.args.bytes.now in
    let at : ℕ = c.loop-at.at in
    let p : Progress = progress c.loop-at.next c.loop-at.reading.terms.items c.loop-at.reading.coefficient c.loop-at.reading.powers.items in
    let text : List ℕ = take (length bytes - at) (drop at bytes) in
    failed l k mul ring bytes at p c.loop-at.invariant text (rest_of bytes at) c.in-Some.found c.in-Err.fault c.in-Some.ensures c.in-Err.ensures

pub overflow_add-at : goal.overflow_add-at
overflow_add-at g c =
    let l : Labelling = c.args.labels.now in
    let k : ℕ = g.F.Ring.degree c.args.field.now in
    let mul : ℕ → ℕ → ℕ = g.F.Ring.product c.args.field.now in
    let ring = g.met.F.Ring.laws c.args.field.now in
    let bytes : List ℕ = c.args.bytes.now in
    let at : ℕ = c.loop-at.at in
    let p : Progress = progress c.loop-at.next c.loop-at.reading.terms.items c.loop-at.reading.coefficient c.loop-at.reading.powers.items in
    let text : List ℕ = take (length bytes - at) (drop at bytes) in
    let within = within_here l k mul ring bytes at p c.loop-at.invariant text (rest_of bytes at) c.in-Some.found c.in-Some.ensures in
    omega (arith, within.1, c.requires)

pub white_at-at-requires-in-loop-at : goal.white_at-at-requires-in-loop-at
white_at-at-requires-in-loop-at g c =
    let l : Labelling = c.args.labels.now in
    let k : ℕ = g.F.Ring.degree c.args.field.now in
    let mul : ℕ → ℕ → ℕ = g.F.Ring.product c.args.field.now in
    let ring = g.met.F.Ring.laws c.args.field.now in
    let bytes : List ℕ = c.args.bytes.now in
    let at : ℕ = c.loop-at.at in
    let p : Progress = progress c.loop-at.next c.loop-at.reading.terms.items c.loop-at.reading.coefficient c.loop-at.reading.powers.items in
    let text : List ℕ = take (length bytes - at) (drop at bytes) in
    (within_here l k mul ring bytes at p c.loop-at.invariant text (rest_of bytes at) c.in-Some.found c.in-Some.ensures).1

pub overflow_add-at-in-loop-at : goal.overflow_add-at-in-loop-at
overflow_add-at-in-loop-at g c =
    let l : Labelling = c.args.labels.now in
    let k : ℕ = g.F.Ring.degree c.args.field.now in
    let mul : ℕ → ℕ → ℕ = g.F.Ring.product c.args.field.now in
    let ring = g.met.F.Ring.laws c.args.field.now in
    let bytes : List ℕ = c.args.bytes.now in
    let at : ℕ = c.loop-at.at in
    let p : Progress = progress c.loop-at.next c.loop-at.reading.terms.items c.loop-at.reading.coefficient c.loop-at.reading.powers.items in
    let text : List ℕ = take (length bytes - at) (drop at bytes) in
    let next = turned l k mul ring bytes at p c.loop-at.invariant text (rest_of bytes at) c.in-Some.found c.in-Ok.next c.step.new.self.terms.items c.step.new.self.coefficient c.step.new.self.powers.items c.white_at-at-in-loop-at.result c.in-Some.ensures c.in-Ok.ensures c.white_at-at-in-loop-at.ensures in
    omega (arith, next.within, c.requires)

pub loop-at-smaller : goal.loop-at-smaller
loop-at-smaller g c =
    let l : Labelling = c.args.labels.now in
    let k : ℕ = g.F.Ring.degree c.args.field.now in
    let mul : ℕ → ℕ → ℕ = g.F.Ring.product c.args.field.now in
    let ring = g.met.F.Ring.laws c.args.field.now in
    let bytes : List ℕ = c.args.bytes.now in
    let at : ℕ = c.loop-at.at in
    let p : Progress = progress c.loop-at.next c.loop-at.reading.terms.items c.loop-at.reading.coefficient c.loop-at.reading.powers.items in
    let text : List ℕ = take (length bytes - at) (drop at bytes) in
    let within = within_here l k mul ring bytes at p c.loop-at.invariant text (rest_of bytes at) c.in-Some.found c.in-Some.ensures in
    omega (arith, within.0, c.loop-at-test.true)

pub loop-at-preserved : goal.loop-at-preserved
loop-at-preserved g c =
    let l : Labelling = c.args.labels.now in
    let k : ℕ = g.F.Ring.degree c.args.field.now in
    let mul : ℕ → ℕ → ℕ = g.F.Ring.product c.args.field.now in
    let ring = g.met.F.Ring.laws c.args.field.now in
    let bytes : List ℕ = c.args.bytes.now in
    let at : ℕ = c.loop-at.at in
    let p : Progress = progress c.loop-at.next c.loop-at.reading.terms.items c.loop-at.reading.coefficient c.loop-at.reading.powers.items in
    let text : List ℕ = take (length bytes - at) (drop at bytes) in
    turned l k mul ring bytes at p c.loop-at.invariant text (rest_of bytes at) c.in-Some.found c.in-Ok.next c.step.new.self.terms.items c.step.new.self.coefficient c.step.new.self.powers.items c.white_at-at-in-loop-at.result c.in-Some.ensures c.in-Ok.ensures c.white_at-at-in-loop-at.ensures

pub new-requires-in-Ok-end : goal.new-requires-in-Ok-end
new-requires-in-Ok-end g c =
    let l : Labelling = c.args.labels.now in
    let k : ℕ = g.F.Ring.degree c.args.field.now in
    let mul : ℕ → ℕ → ℕ = g.F.Ring.product c.args.field.now in
    let ring = g.met.F.Ring.laws c.args.field.now in
    let bytes : List ℕ = c.args.bytes.now in
    let at : ℕ = c.loop-at.at in
    let p : Progress = progress c.loop-at.next c.loop-at.reading.terms.items c.loop-at.reading.coefficient c.loop-at.reading.powers.items in
    end_few l k mul ring bytes at p c.loop-at.invariant (omega (arith, c.loop-at-test.false)) c.end.new.self.terms.items c.in-Ok-end.ensures c.requires

pub returns-in-Ok-end-clause-outcome : goal.returns-in-Ok-end-clause-outcome
returns-in-Ok-end-clause-outcome g c =
    let l : Labelling = c.args.labels.now in
    let k : ℕ = g.F.Ring.degree c.args.field.now in
    let mul : ℕ → ℕ → ℕ = g.F.Ring.product c.args.field.now in
    let ring = g.met.F.Ring.laws c.args.field.now in
    let bytes : List ℕ = c.args.bytes.now in
    let at : ℕ = c.loop-at.at in
    let p : Progress = progress c.loop-at.next c.loop-at.reading.terms.items c.loop-at.reading.coefficient c.loop-at.reading.powers.items in
    let P : SpecTerms → Type 0 = λ ts. SpecOutcome l k mul bytes (Ok ts) in
    subst P (sym c.new-in-Ok-end.ensures) (reading_end l k mul ring bytes at p c.loop-at.invariant (omega (arith, c.loop-at-test.false)) c.end.new.self.terms.items c.in-Ok-end.ensures)

pub returns-in-Ok-end-clause-over : goal.returns-in-Ok-end-clause-over
returns-in-Ok-end-clause-over g c =
    let l : Labelling = c.args.labels.now in
    let k : ℕ = g.F.Ring.degree c.args.field.now in
    let mul : ℕ → ℕ → ℕ = g.F.Ring.product c.args.field.now in
    let ring = g.met.F.Ring.laws c.args.field.now in
    let bytes : List ℕ = c.args.bytes.now in
    let at : ℕ = c.loop-at.at in
    let p : Progress = progress c.loop-at.next c.loop-at.reading.terms.items c.loop-at.reading.coefficient c.loop-at.reading.powers.items in
    let P : SpecTerms → Type 0 = λ ts. IsOverWords k (length l.words) ts in
    subst P (sym c.new-in-Ok-end.ensures) (end_over l k mul ring bytes at p c.loop-at.invariant (omega (arith, c.loop-at-test.false)) c.end.new.self.terms.items c.in-Ok-end.ensures)

pub returns-in-Err-end-clause-outcome : goal.returns-in-Err-end-clause-outcome
returns-in-Err-end-clause-outcome g c =
    let l : Labelling = c.args.labels.now in
    let k : ℕ = g.F.Ring.degree c.args.field.now in
    let mul : ℕ → ℕ → ℕ = g.F.Ring.product c.args.field.now in
    let ring = g.met.F.Ring.laws c.args.field.now in
    let bytes : List ℕ = c.args.bytes.now in
    let at : ℕ = c.loop-at.at in
    let p : Progress = progress c.loop-at.next c.loop-at.reading.terms.items c.loop-at.reading.coefficient c.loop-at.reading.powers.items in
    reading_unended l k mul ring bytes at p c.loop-at.invariant (omega (arith, c.loop-at-test.false)) c.in-Err-end.fault c.in-Err-end.ensures
