use Rattle.std.proofs.Common.{rules, ◌≡◌, inr, true, false, None}
use Rattle.std.specs.Prelude.{is_some}
use Rattle.std.proofs.lemmas.Result.{on_ok_weaker, IfErr-weaker}
use Rattle.net_blif.specs.Spelling.{cover_of}
use Rattle.net_blif.specs.declared.fault.BlifFault.TheVariants.{OutOfMemory}
use Rattle.net_blif.proofs.NamesLemmas.{cover_added, cover_misplaced, cover_refused, nets_are_tokens, no_nets}
use Rattle.net_blif.proofs.reader.Reader.read_cover.Goals as goal

pub cover-requires-clause-inputs : goal.cover-requires-clause-inputs
cover-requires-clause-inputs c = (nets_are_tokens c.args.self.now c.args.line c.args.nets.now c.requires c.in-Some.parts.inputs.now c.in-Some.parts.out.now c.in-Some.ensures.some).0

pub cover-requires-clause-out : goal.cover-requires-clause-out
cover-requires-clause-out c = (nets_are_tokens c.args.self.now c.args.line c.args.nets.now c.requires c.in-Some.parts.inputs.now c.in-Some.parts.out.now c.in-Some.ensures.some).1

pub returns-in_default-clause-fault : goal.returns-in_default-clause-fault
returns-in_default-clause-fault c =
    let none : cover_of c.args.nets.now ≡ None = search rules in
    inr (no_nets c.args.self.now c.args.line c.args.nets.now c.requires none)

pub returns-then-not-is_open-clause-fault : goal.returns-then-not-is_open-clause-fault
returns-then-not-is_open-clause-fault c =
    let closed : is_some c.args.self.now.model ≡ false = search rules in
    inr (cover_misplaced c.args.self.now c.args.line c.args.nets.now c.requires c.in-Some.parts.inputs.now c.in-Some.parts.out.now c.in-Some.ensures.some closed)

pub returns-clause-read : goal.returns-clause-read
returns-clause-read c =
    let open_now : is_some c.args.self.now.model ≡ true = search rules in
    on_ok_weaker c.cover.result (cover_added c.args.self.now c.args.line c.args.nets.now c.requires c.in-Some.parts.inputs.now c.in-Some.parts.out.now c.in-Some.ensures.some c.cover.new.self open_now) c.cover.ensures.read

pub returns-clause-fault : goal.returns-clause-fault
returns-clause-fault c =
    let open_now : is_some c.args.self.now.model ≡ true = search rules in
    IfErr-weaker c.cover.result _ _ (λ fault why. cover_refused c.args.self.now c.args.line c.args.nets.now c.requires c.in-Some.parts.inputs.now c.in-Some.parts.out.now c.in-Some.ensures.some fault OutOfMemory open_now why) c.cover.ensures.fault
