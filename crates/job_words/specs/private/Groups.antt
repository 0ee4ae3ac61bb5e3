-- Groups of commands, each of which is read by a function of its own: for the clauses of private functions.
-- Source: this project's own.
use Rattle.job_words.specs.Command.{Action, Eval, Iso, Lift, Table, Certify, Verify, Upgrade, Make, Compose, Job, Over, Trial}

-- a command of tables or isomorphisms
abbrev pub IsTableAction : Action → Type 0
IsTableAction (Iso other) = Unit {0}
IsTableAction (Lift table) = Unit {0}
IsTableAction (Table net cycles) = Unit {0}
IsTableAction action = ⊥

abbrev pub IsOfTables : Job → Type 0
IsOfTables (Over signature action) = IsTableAction action
IsOfTables (Trial number modulus terms) = ⊥

-- a command of certificates, or of tables or isomorphisms
abbrev pub IsLaterAction : Action → Type 0
IsLaterAction (Certify net terms cycles) = Unit {0}
IsLaterAction (Verify net certificate terms cycles) = Unit {0}
IsLaterAction (Upgrade net certificate cycles) = Unit {0}
IsLaterAction action = IsTableAction action

abbrev pub IsLater : Job → Type 0
IsLater (Over signature action) = IsLaterAction action
IsLater (Trial number modulus terms) = ⊥

-- a command of values, of kinds or of blocks, or one of those above
abbrev pub IsFurtherAction : Action → Type 0
IsFurtherAction (Eval net values cycles) = Unit {0}
IsFurtherAction (Make kind) = Unit {0}
IsFurtherAction (Compose net terms) = Unit {0}
IsFurtherAction action = IsLaterAction action

-- a job of such a command
abbrev pub IsFurther : Job → Type 0
IsFurther (Over signature action) = IsFurtherAction action
IsFurther (Trial number modulus terms) = ⊥

-- any command over a signature
abbrev pub IsOverSignature : Job → Type 0
IsOverSignature (Over signature action) = Unit {0}
IsOverSignature (Trial number modulus terms) = ⊥
