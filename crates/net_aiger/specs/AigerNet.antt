-- The net of a text in ASCII AIGER. Source: Armin Biere, The AIGER And-Inverter Graph (AIG) Format, Johannes Kepler University,
-- Linz, 2007.
use Rattle.std.specs.Prelude.{ℕ, List, []}
use Rattle.std.specs.Str.Lines.{lines}
use Rattle.outcome.specs.Outcome.{Outcome, ◌>>=◌, Within, Returns}
use Rattle.net_core.specs.Finish.{Settles}
use Rattle.net_core.specs.NetList.{NetList}
use Rattle.net_aiger.specs.Checks.{apart, known}
use Rattle.net_aiger.specs.Sections.{Text}
use Rattle.net_aiger.specs.Nets.{net_made}
use Rattle.net_aiger.specs.Reading.{Reading}
use Rattle.net_aiger.specs.declared.fault.AigerFault.{AigerFault}
use Rattle.net_aiger.specs.declared.fault.AigerFault.TheVariants.{Net}

-- The net of what was read: each variable that is used is defined, no two ports have a name, and then the net keeps the limits
-- and is sound. The first fault counts.
abbrev pub NetOf : Reading → Outcome AigerFault NetList
NetOf reading = do
  _ ← Returns (known reading.defined reading.uses)
  _ ← Returns (apart reading 0 [] reading.ports)
  made ← Within Net (Returns (net_made reading))
  Within Net (Settles made)

-- The net of a text: what its sections say, and the net of that.
abbrev pub AigerNet : List ℕ → Outcome AigerFault NetList
AigerNet text = do
  reading ← Text (lines text)
  NetOf reading
