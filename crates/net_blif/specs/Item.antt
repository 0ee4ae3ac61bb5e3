-- What the lines of a model place, and which names and tables these have. Source: the Berkeley Logic Interchange Format (BLIF), University of California, Berkeley.
use Rattle.std.specs.Prelude.{◌<◌, ◌≤◌, ◌^◌, length, All, IsTrue, ⊤}
use Rattle.std.specs.List.{list_all}
use Rattle.text_core.specs.Lines.{IsPrinting}
use Rattle.net_blif.specs.Connection.{is_connection}
use Rattle.net_blif.specs.Statement.{IsToken}
use Rattle.net_blif.specs.Cover.{CoverValue}
use Rattle.net_blif.specs.declared.item.Item.{Item}
use Rattle.net_blif.specs.declared.item.Item.TheVariants.{Inputs, Outputs, Gate, Latch, Instance}
use Rattle.net_blif.specs.declared.statement.Statement.{Statement}
use Rattle.net_blif.specs.declared.statement.Statement.TheVariants as statements

-- names are tokens, a gate has at most 6 inputs, its table has bits for these inputs alone, and an instance has connections
abbrev pub IsSoundItem : Item → Type 0
IsSoundItem (Inputs nets) = All IsToken nets
IsSoundItem (Outputs nets) = All IsToken nets
IsSoundItem (Gate line inputs out table) = All IsToken inputs × IsToken out × (length inputs ≤ 6) × (table < 2 ^ (2 ^ length inputs))
IsSoundItem (Latch line next out start) = IsToken next × IsToken out
IsSoundItem (Instance line model connections) = IsToken model × All IsToken connections × IsTrue (list_all is_connection connections)

-- a cover on at most 6 inputs, whose names are tokens
abbrev pub IsSoundCover : CoverValue → Type 0
IsSoundCover cover = (length cover.inputs ≤ 6) × All IsToken cover.inputs × IsToken cover.out

-- the names of a statement's nets are tokens, and those of models and of words that are left out print
abbrev pub HasPrintingNames : Statement → Type 0
HasPrintingNames (statements.Model name) = IsPrinting name
HasPrintingNames (statements.Inputs nets) = All IsToken nets
HasPrintingNames (statements.Outputs nets) = All IsToken nets
HasPrintingNames (statements.Cover inputs out) = All IsToken inputs × IsToken out
HasPrintingNames (statements.Latch next out rest) = IsToken next × IsToken out
HasPrintingNames (statements.Instance model connections) = IsToken model × All IsToken connections × IsTrue (list_all is_connection connections)
HasPrintingNames (statements.Other word rest) = IsPrinting word
HasPrintingNames _ = ⊤
