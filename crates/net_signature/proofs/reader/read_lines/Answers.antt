use Rattle.std.proofs.Common.{ℕ, List, Vec, Global, Err}
use Rattle.net_signature.specs.Lines.{Line}
use Rattle.net_signature.specs.Body.{BodyValue}
use Rattle.net_signature.specs.Reading.{left, end_of}
use Rattle.net_signature.proofs.SignatureLemmas.{version_step, field_step, tower_step, upper_step, body_step, field_fails, tower_fails, upper_fails, body_fails}
use Rattle.net_signature.proofs.reader.read_lines.Goals as goal

pub returns-in-Err-read_field : goal.returns-in-Err-read_field
returns-in-Err-read_field c =
    let end = end_of c.args.lines.now in
    let first = left c.read_version.new.lines in
    let version = c.in-Ok.version in
    let result = Err c.in-Err-read_field.fault in
    let view : ℕ → ℕ × List Line = λ m. (m, left c.read_field.new.lines) in
    version_step result end (left c.args.lines.now) first version c.in-Ok.ensures.says
    (field_fails c.in-Err-read_field.fault view version end first (rw c.read_version.ensures.end at c.in-Err-read_field.ensures.says))

pub returns-in-Err-read_tower : goal.returns-in-Err-read_tower
returns-in-Err-read_tower c =
    let end = end_of c.args.lines.now in
    let first = left c.read_version.new.lines in
    let version = c.in-Ok.version in
    let second = left c.read_field.new.lines in
    let modulus = c.in-Ok-read_field.modulus in
    let result = Err c.in-Err-read_tower.fault in
    let view : Vec ℕ Global → List ℕ × List Line = λ v. (v.items, left c.read_tower.new.lines) in
    version_step result end (left c.args.lines.now) first version c.in-Ok.ensures.says
    (field_step result version end first second modulus (rw c.read_version.ensures.end at c.in-Ok-read_field.ensures.says)
    (tower_fails c.in-Err-read_tower.fault view version end modulus second (rw (c.read_field.ensures.end, c.read_version.ensures.end) at c.in-Err-read_tower.ensures.says)))

pub returns-in-Err-read_tower-2 : goal.returns-in-Err-read_tower-2
returns-in-Err-read_tower-2 c =
    let end = end_of c.args.lines.now in
    let first = left c.read_version.new.lines in
    let version = c.in-Ok.version in
    let second = left c.read_field.new.lines in
    let modulus = c.in-Ok-read_field.modulus in
    let third = left c.read_tower.new.lines in
    let tower = c.in-Ok-read_tower.tower.items in
    let result = Err c.in-Err-read_tower-2.fault in
    let view : Vec ℕ Global → List ℕ × List Line = λ v. (v.items, left c.read_tower-2.new.lines) in
    version_step result end (left c.args.lines.now) first version c.in-Ok.ensures.says
    (field_step result version end first second modulus (rw c.read_version.ensures.end at c.in-Ok-read_field.ensures.says)
    (tower_step result version end modulus second third tower (rw (c.read_field.ensures.end, c.read_version.ensures.end) at c.in-Ok-read_tower.ensures.says)
    (upper_fails c.in-Err-read_tower-2.fault view version end modulus tower third (rw (c.read_tower.ensures.end, c.read_field.ensures.end, c.read_version.ensures.end, c.has_feeds.ensures) at c.in-Err-read_tower-2.ensures.says))))

pub returns-in-Err-read_body : goal.returns-in-Err-read_body
returns-in-Err-read_body c =
    let end = end_of c.args.lines.now in
    let first = left c.read_version.new.lines in
    let version = c.in-Ok.version in
    let second = left c.read_field.new.lines in
    let modulus = c.in-Ok-read_field.modulus in
    let third = left c.read_tower.new.lines in
    let tower = c.in-Ok-read_tower.tower.items in
    let fourth = left c.read_tower-2.new.lines in
    let upper = c.in-Ok-read_tower-2.upper.items in
    let result = Err c.in-Err-read_body.fault in
    let view : BodyValue → BodyValue = λ b. b in
    version_step result end (left c.args.lines.now) first version c.in-Ok.ensures.says
    (field_step result version end first second modulus (rw c.read_version.ensures.end at c.in-Ok-read_field.ensures.says)
    (tower_step result version end modulus second third tower (rw (c.read_field.ensures.end, c.read_version.ensures.end) at c.in-Ok-read_tower.ensures.says)
    (upper_step result version end modulus tower third fourth upper (rw (c.read_tower.ensures.end, c.read_field.ensures.end, c.read_version.ensures.end, c.has_feeds.ensures) at c.in-Ok-read_tower-2.ensures.says)
    (body_fails c.in-Err-read_body.fault view version modulus tower upper fourth c.in-Err-read_body.ensures))))

pub returns : goal.returns
returns c =
    let end = end_of c.args.lines.now in
    let first = left c.read_version.new.lines in
    let version = c.in-Ok.version in
    let second = left c.read_field.new.lines in
    let modulus = c.in-Ok-read_field.modulus in
    let third = left c.read_tower.new.lines in
    let tower = c.in-Ok-read_tower.tower.items in
    let fourth = left c.read_tower-2.new.lines in
    let upper = c.in-Ok-read_tower-2.upper.items in
    let result = c.signature_of.result in
    version_step result end (left c.args.lines.now) first version c.in-Ok.ensures.says
    (field_step result version end first second modulus (rw c.read_version.ensures.end at c.in-Ok-read_field.ensures.says)
    (tower_step result version end modulus second third tower (rw (c.read_field.ensures.end, c.read_version.ensures.end) at c.in-Ok-read_tower.ensures.says)
    (upper_step result version end modulus tower third fourth upper (rw (c.read_tower.ensures.end, c.read_field.ensures.end, c.read_version.ensures.end, c.has_feeds.ensures) at c.in-Ok-read_tower-2.ensures.says)
    (body_step result version modulus tower upper fourth c.in-Ok-read_body.body c.in-Ok-read_body.ensures (rw (c.new.ensures, c.new-2.ensures) at c.signature_of.ensures)))))
