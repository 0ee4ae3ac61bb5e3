use Rattle.std.proofs.Common.{rules, ◌≡◌, inr, refl, true, false, length, None, Some}
use Rattle.std.proofs.lemmas.Result.{on_ok_weaker, IfErr-weaker}
use Rattle.net_blif.specs.Spelling.{statement_of}
use Rattle.net_blif.specs.Models.{may_stand}
use Rattle.net_blif.specs.declared.fault.BlifFault.TheVariants.{OutOfMemory}
use Rattle.net_blif.proofs.ItemLemmas.{read_names}
use Rattle.net_blif.proofs.ReadLemmas.{no_statement, misplaced, added, refused_or}
use Rattle.net_blif.proofs.reader.Reader.read_words.Goals as goal

pub next-requires : goal.next-requires
next-requires c =
    let said : statement_of c.args.words.now ≡ Some c.in-Some.statement = search rules in
    read_names c.args.words.now c.in-Some.statement c.requires said

pub returns-in_default-clause-fault : goal.returns-in_default-clause-fault
returns-in_default-clause-fault c =
    let some : length c.args.words.now ≡ 0 → ⊥ = search rules in
    let none : statement_of c.args.words.now ≡ None = search rules in
    inr (no_statement c.args.self.now c.args.line c.args.words.now c.requires some none)

pub returns-then-not-may_stand-clause-fault : goal.returns-then-not-may_stand-clause-fault
returns-then-not-may_stand-clause-fault c =
    let said : statement_of c.args.words.now ≡ Some c.in-Some.statement = search rules in
    let stands : may_stand c.args.self.now c.in-Some.statement ≡ false = search rules in
    inr (misplaced c.args.self.now c.args.line c.args.words.now c.in-Some.statement c.requires said stands)

pub returns-clause-read : goal.returns-clause-read
returns-clause-read c =
    let said : statement_of c.args.words.now ≡ Some c.in-Some.statement = search rules in
    let stands : may_stand c.args.self.now c.in-Some.statement ≡ true = search rules in
    on_ok_weaker c.next.result (added c.args.self.now c.args.line c.args.words.now c.in-Some.statement c.next.new.self c.requires said stands) c.next.ensures.read

pub returns-clause-fault : goal.returns-clause-fault
returns-clause-fault c =
    let said : statement_of c.args.words.now ≡ Some c.in-Some.statement = search rules in
    let stands : may_stand c.args.self.now c.in-Some.statement ≡ true = search rules in
    IfErr-weaker c.next.result _ _ (λ fault why. refused_or c.args.self.now c.args.line c.args.words.now c.args.words.now c.in-Some.statement fault OutOfMemory refl c.requires said stands why) c.next.ensures.fault
