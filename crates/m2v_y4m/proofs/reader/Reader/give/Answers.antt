use Rattle.std.proofs.Common.{◌≡◌, [], sym, subst, arith, ap, Ok}
use Rattle.std.proofs.lemmas.List.{length-take-le}
use Rattle.m2v_port.specs.Port.{Moves}
use Rattle.m2v_port.proofs.Runs.{moves_nothing, on_err}
use Rattle.m2v_y4m.specs.Sources.{Standing}
use Rattle.m2v_y4m.proofs.Steps.{gives_held, ended_same, ended_over, gives_read}
use Rattle.m2v_y4m.proofs.Spots.{held_on, read_now, read_none, ended_on, ended_broke}
use Rattle.m2v_y4m.proofs.reader.Reader.give.Goals as goal

pub returns-then-not-is_drained-clause-gave : goal.returns-then-not-is_drained-clause-gave
returns-then-not-is_drained-clause-gave g c =
    let e = c.give_held.ensures in
    rw e.value (gives_held c.args.self.now c.give_held.result _ _ c.requires.inside.unbroken e.least e.rest e.most e.ahead e.given)

pub returns-then-n-eq0-clause-same : goal.returns-then-n-eq0-clause-same
returns-then-n-eq0-clause-same g c =
    let none = c.is_drained.ensures.none c.if-not-is_drained.false in
    let zero : c.in_ok-n.n ≡ 0 = omega arith in
    let moved = rw zero at c.in_ok-n.ensures.moved in
    ended_same c.end_inside.result c.args.self.now _ _ _ c.requires.inside.unbroken none c.end_inside.ensures.some moved (c.in_ok-n.ensures.end (ap Ok zero)) c.end_inside.ensures.err

pub returns-then-n-eq0-clause-over : goal.returns-then-n-eq0-clause-over
returns-then-n-eq0-clause-over g c =
    let none = c.is_drained.ensures.none c.if-not-is_drained.false in
    let zero : c.in_ok-n.n ≡ 0 = omega arith in
    λ is. ended_over c.end_inside.result c.args.self.now _ _ 0 c.requires.inside.unbroken none (c.in_ok-n.ensures.end (ap Ok zero)) c.end_inside.ensures.ok is

pub returns-clause-gave : goal.returns-clause-gave
returns-clause-gave g c =
    let none = c.is_drained.ensures.none c.if-not-is_drained.false in
    let e = c.in_ok-n.ensures in
    rw c.advance.ensures.value (gives_read c.args.self.now c.in_ok-n.n _ _ _ c.requires.inside.unbroken none (omega arith) (omega (arith, e.most, ap (λ (s : Standing). s.rest) c.self.view_is)) c.advance.ensures.most
    (length-take-le c.in_ok-n.n c.read_part.new.buf (omega (arith, e.within, c.read_part.auto))) e.moved)

pub returns-then-not-is_drained-clause-read : goal.returns-then-not-is_drained-clause-read
returns-then-not-is_drained-clause-read g c =
    let e = c.give_held.ensures in
    rw e.value (held_on c.args.self.now c.give_held.result _ _ c.requires.inside.unbroken e.least e.rest e.most e.ahead e.given)

pub returns-in_err-n-clause-stood : goal.returns-in_err-n-clause-stood
returns-in_err-n-clause-stood g c =
    on_err c.from_residual.result (λ none. read_none c.args.self.now _ _ none (subst (Moves _ []) (sym c.in_err-n.ensures.err) (moves_nothing _)))

pub returns-then-n-eq0-clause-read : goal.returns-then-n-eq0-clause-read
returns-then-n-eq0-clause-read g c =
    let zero : c.in_ok-n.n ≡ 0 = omega arith in
    let moved = rw zero at c.in_ok-n.ensures.moved in
    ended_on c.end_inside.result c.args.self.now _ c.read_part.new.buf _ _ c.requires.inside.unbroken moved c.end_inside.ensures.zero c.end_inside.ensures.ok

pub returns-then-n-eq0-clause-stood : goal.returns-then-n-eq0-clause-stood
returns-then-n-eq0-clause-stood g c = ended_broke c.end_inside.result c.args.self.now _ _ _ _ c.end_inside.ensures.err

pub returns-clause-read : goal.returns-clause-read
returns-clause-read g c =
    let none = c.is_drained.ensures.none c.if-not-is_drained.false in
    let e = c.in_ok-n.ensures in
    rw c.advance.ensures.value (read_now c.args.self.now c.in_ok-n.n _ _ _ c.requires.inside.unbroken none (omega arith) (omega (arith, e.most, ap (λ (s : Standing). s.rest) c.self.view_is)) c.advance.ensures.most
    (length-take-le c.in_ok-n.n c.read_part.new.buf (omega (arith, e.within, c.read_part.auto))) e.moved)
