use Rattle.std.proofs.Common.{◌≡◌, ◌+◌, ◌*◌, ◌≤◌, ℕ, length, refl, ap, sym, ◌∙◌, arith}
use Rattle.m2v_model.specs.Units.{Units}
use Rattle.m2v_model.specs.Buffering.{before_picture}
use Rattle.m2v_decode.specs.declared.pass.Pass.{Pass}
use Rattle.m2v_decode.specs.Decoding.{whole_of}
use Rattle.m2v_decode.proofs.EndLaws.{whole_length}
use Rattle.m2v_decode.proofs.Following.{leads_on, refuses}
use Rattle.m2v_decode.proofs.reader.Reader.piece.Goals as goal

pub returns-in-Ok-clause-ok : goal.returns-in-Ok-clause-ok
returns-in-Ok-clause-ok c =
    let p = c.args.piece.now in
    let going = rw (← c.self.view_is) at c.requires.going in
    let before = rw (← c.self.view_is) at c.requires.before in
    let old = c.self.inside.pass in
    let mid : Pass = record old { notes = c.nothing_noted.result; code_end = 8 * p.place + c.code_bits.result } in
    let first = rw (c.deref.ensures.value, c.len.ensures) at c.new.ensures.value in
    let is = rw (c.deref-2.ensures.value, c.len.ensures) at c.new-units.ensures.value in
    let code = ap (λ (n : ℕ). 8 * p.place + n) (c.code_bits.ensures.value ∙ ap (λ (us : Units). 8 * before_picture us + 32) (first ∙ sym is)) in
    let long : length (whole_of p) ≡ p.length = whole_length p c.requires.piece in
    let count : 4 * length c.new-units.result ≤ length (whole_of p) = omega (arith, c.new-units.ensures.count, c.len.ensures, c.requires.piece.kept, c.deref-2.ensures.len, p.bytes.ok.0) in
    rw (← c.self.view_is) (rw (before, going)
    (leads_on old mid c.units.new.self c.new-units.result p.place (whole_of p) c.replace.result c.in-Ok.ensures.ok refl refl refl refl c.nothing_noted.ensures code c.replace.ensures.value is count (omega (arith, long, c.requires.piece.some))))

pub returns-in-Err-Fault-clause-err : goal.returns-in-Err-Fault-clause-err
returns-in-Err-Fault-clause-err c =
    let p = c.args.piece.now in
    let going = rw (← c.self.view_is) at c.requires.going in
    let before = rw (← c.self.view_is) at c.requires.before in
    let old = c.self.inside.pass in
    let mid : Pass = record old { notes = c.nothing_noted.result; code_end = 8 * p.place + c.code_bits.result } in
    let is = rw (c.deref-2.ensures.value, c.len.ensures) at c.new-units.ensures.value in
    let stops = rw c.in-Err-Fault.field-0-is at c.in-Err-Fault.ensures.err in
    rw (← c.self.view_is) (rw (before, going) (rw c.in-Err-Fault.field-0-is
    (refuses old mid c.new-units.result c.in-Err-Fault.stop.left p.place p.length c.saturating_sub.result c.in-Err-Fault.stop.kind (whole_of p) stops refl is (whole_length p c.requires.piece) (rw c.in-Err-Fault.field-0-is at c.saturating_sub.ensures))))
