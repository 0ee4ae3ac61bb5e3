-- Lines with each port once, one after another and all at once.
use Rattle.std.proofs.Common.{◌≡◌, ◌∙◌, ap, sym, append_assoc, append-nil, Bool, true, false, cond, List, [], ◌∷◌, ◌++◌}
use Rattle.std.specs.Prelude.{is_some}
use Rattle.net_blif.specs.Statement.{Token}
use Rattle.net_blif.specs.Table.{no_numbers, with_number, Numbers}
use Rattle.net_blif.specs.Ports.{lines_once, new_ports, ports_once, with_ports}
use Rattle.net_blif.specs.private.Connecting.{after}
use Rattle.net_blif.specs.private.Once.{no_lines, with_line, with_one_port, OnceValue}
use Rattle.net_blif.specs.declared.item.Item.{Item}
use Rattle.net_blif.specs.declared.item.Item.TheVariants.{Inputs, Outputs, Gate, Latch, Instance}

abbrev value : Numbers → List Item → OnceValue
value stood lines = record { stood = stood; lines = lines }

-- the ports of a line
ports_after : (names : List Token) (stood : Numbers) (lines : List Item) → after with_one_port (value stood lines) names ≡ value (with_ports stood names) (lines ++ new_ports stood names)
ports_after [] stood lines = ap (value stood) (sym (append-nil lines))
ports_after (name ∷ names) stood lines = by (is_some (stood name)) (ports_after names stood lines) (ports_after names (with_number stood name 0) (lines ++ Outputs (name ∷ []) ∷ []))
  where
    by : (b : Bool) → after with_one_port (value stood lines) names ≡ value (with_ports stood names) (lines ++ new_ports stood names) → after with_one_port (value (with_number stood name 0) (lines ++ Outputs (name ∷ []) ∷ [])) names ≡ value (with_ports (with_number stood name 0) names) ((lines ++ Outputs (name ∷ []) ∷ []) ++ new_ports (with_number stood name 0) names) → after with_one_port (cond b (value stood lines) (value (with_number stood name 0) (lines ++ Outputs (name ∷ []) ∷ []))) names ≡ value (with_ports (cond b stood (with_number stood name 0)) names) (lines ++ cond b (new_ports stood names) (Outputs (name ∷ []) ∷ new_ports (with_number stood name 0) names))
    by true known new = known
    by false known new = new ∙ ap (value (with_ports (with_number stood name 0) names)) (append_assoc lines (Outputs (name ∷ []) ∷ []) (new_ports (with_number stood name 0) names))

lines_after : (items : List Item) (stood : Numbers) (lines : List Item) → (after with_line (value stood lines) items).lines ≡ lines ++ lines_once stood items
lines_after [] stood lines = sym (append-nil lines)
lines_after (Inputs nets ∷ items) stood lines =
    ap (λ (once : OnceValue). (after with_line once items).lines) (ports_after nets stood lines)
    ∙ (lines_after items (with_ports stood nets) (lines ++ new_ports stood nets) ∙ append_assoc lines (new_ports stood nets) (lines_once (with_ports stood nets) items))
lines_after (Outputs nets ∷ items) stood lines =
    ap (λ (once : OnceValue). (after with_line once items).lines) (ports_after nets stood lines)
    ∙ (lines_after items (with_ports stood nets) (lines ++ new_ports stood nets) ∙ append_assoc lines (new_ports stood nets) (lines_once (with_ports stood nets) items))
lines_after (Gate line inputs out table ∷ items) stood lines = lines_after items stood (lines ++ Gate line inputs out table ∷ []) ∙ append_assoc lines (Gate line inputs out table ∷ []) (lines_once stood items)
lines_after (Latch line next out start ∷ items) stood lines = lines_after items stood (lines ++ Latch line next out start ∷ []) ∙ append_assoc lines (Latch line next out start ∷ []) (lines_once stood items)
lines_after (Instance line name connections ∷ items) stood lines = lines_after items stood (lines ++ Instance line name connections ∷ []) ∙ append_assoc lines (Instance line name connections ∷ []) (lines_once stood items)

-- the lines of a model
pub once_is : (items : List Item) → (after with_line no_lines items).lines ≡ ports_once items
once_is items = lines_after items no_numbers []
