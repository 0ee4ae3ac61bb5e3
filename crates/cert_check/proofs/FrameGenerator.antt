-- Frames whose generator is one of the net list.
use Rattle.net_core.specs.NetList.{NetList}
use Rattle.poly_mixed.specs.Labels.{Labelling}
use Rattle.cert_check.specs.Frame.{Frame, pair_of, share_of, end_of}
use Rattle.cert_check.specs.private.Reading.{IsGenerator}

abbrev pub HasGenerator : NetList → Labelling → Frame → Type 0
HasGenerator net labels (pair_of g text) = IsGenerator net labels g
HasGenerator net labels (share_of text) = Unit {0}
HasGenerator net labels end_of = Unit {0}
