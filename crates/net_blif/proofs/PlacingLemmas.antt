-- What a statement adds that belongs to a model and begins no cover.
use Rattle.std.proofs.Common.{◌≡◌, ◌∙◌, ap, sym, refl, ℕ, true, None, Ok}
use Rattle.net_blif.specs.Models.{Reading, in_model, next, with_items}
use Rattle.net_blif.specs.private.Placing.{items_said, is_placed}
use Rattle.net_blif.specs.declared.statement.Statement.{Statement}
use Rattle.net_blif.specs.declared.statement.Statement.TheVariants.{Model, Inputs, Outputs, Clock, Cover, Latch, Instance, Row, End, Other}

placed_next : (reading : Reading) (n : ℕ) (s : Statement) → is_placed s ≡ true → next reading n s ≡ Ok (in_model (with_items (items_said n s) None) reading)
placed_next reading n (Model name) is = absurd (cc)
placed_next reading n (Inputs nets) is = refl
placed_next reading n (Outputs nets) is = refl
placed_next reading n (Clock nets) is = refl
placed_next reading n (Cover inputs out) is = absurd (cc)
placed_next reading n (Latch first out rest) is = refl
placed_next reading n (Instance model connections) is = refl
placed_next reading n (Row pattern output) is = absurd (cc)
placed_next reading n End is = absurd (cc)
placed_next reading n (Other word rest) is = absurd (cc)

pub placed_read : (reading more : Reading) (n : ℕ) (s : Statement) → is_placed s ≡ true → more ≡ in_model (with_items (items_said n s) None) reading → next reading n s ≡ Ok more
placed_read reading more n s is made = placed_next reading n s is ∙ ap Ok (sym made)
