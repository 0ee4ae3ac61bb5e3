use Rattle.std.proofs.Common.{◌≡◌, ℕ, List, [], ◌∷◌, ◌++◌, sym, subst}
use Rattle.rato_reduce.specs.private.CutKey.{CutKey}
use Rattle.rato_reduce.specs.private.CutTerms.{AreBitEntries}
use Rattle.rato_reduce.proofs.CutPartLemmas.{take_step, nothing_taken}
use Rattle.rato_reduce.proofs.ConstantLemmas.{bit_entries_rest}
use Rattle.rato_reduce.proofs.cut.take_up_to.Goals as goal

pub loop-key-init : goal.loop-key-init
loop-key-init c = record { taken = nothing_taken c.args.rank c.args.entries.now.entries c.args.part.now.items c.new-others.result.items c.requires c.new-others.ensures.items; entries = λ places held. held }

pub loop-key-preserved : goal.loop-key-preserved
loop-key-preserved c =
    let e : CutKey × ℕ = (c.in-Some.key, c.in-Some.c) in
    let before = c.loop-key.entries.entries in
    let after = c.pop_up_to.new.self.entries in
    let are : before ≡ after ++ e ∷ [] = c.in-Some.ensures.some in
    record {
      taken = take_step c.args.rank _ before after c.loop-key.part.items c.loop-key.others.items c.sort_out.new.part.items c.sort_out.new.others.items e c.loop-key.invariant.taken are c.in_ok-sort_out.ensures.part c.in_ok-sort_out.ensures.others;
      entries = λ places held. (let P : List (CutKey × ℕ) → Type 0 = AreBitEntries places in bit_entries_rest places e after (subst P are (c.loop-key.invariant.entries places held)));
    }

pub returns-in_err-sort_out-clause-entries : goal.returns-in_err-sort_out-clause-entries
returns-in_err-sort_out-clause-entries c places held =
    let e : CutKey × ℕ = (c.in-Some.key, c.in-Some.c) in
    let after = c.pop_up_to.new.self.entries in
    let are : c.loop-key.entries.entries ≡ after ++ e ∷ [] = c.in-Some.ensures.some in
    let P : List (CutKey × ℕ) → Type 0 = AreBitEntries places in
    bit_entries_rest places e after (subst P are (c.loop-key.invariant.entries places held))

pub returns-clause-entries : goal.returns-clause-entries
returns-clause-entries c places held = let P : List (CutKey × ℕ) → Type 0 = AreBitEntries places in subst P (sym c.in_default.ensures.none.0) (c.loop-key.invariant.entries places held)
