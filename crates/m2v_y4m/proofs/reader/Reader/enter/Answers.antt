use Rattle.std.proofs.Common.{refl, ap, ◌∙◌, arith, length, []}
use Rattle.m2v_y4m.specs.Header.{fault_at}
use Rattle.m2v_y4m.specs.Sources.{Standing}
use Rattle.m2v_y4m.proofs.Steps.{edge_over, took_line, broke_line}
use Rattle.m2v_y4m.proofs.Spots.{read_here, line_on, read_on, broke_on}
use Rattle.m2v_y4m.proofs.reader.Reader.enter.Goals as goal

pub returns-then-is_drained-clause-over : goal.returns-then-is_drained-clause-over
returns-then-is_drained-clause-over g c = λ same.
    let e = c.in_ok-look_ahead.ensures in
    let empty = c.if-is_drained.ensures.none refl in
    edge_over c.look_ahead.new.self _ (ap (λ (s : Standing). s.rest) e.else_same ∙ omega (arith, ap (λ (s : Standing). s.rest) c.self.view_is)) (ap (λ (s : Standing). s.fault) e.else_same ∙ c.requires.unbroken)
    empty (e.ahead (omega (arith, ap length empty)))

pub returns-in_err-take_line-clause-same : goal.returns-in_err-take_line-clause-same
returns-in_err-take_line-clause-same g c =
    let e = c.in_ok-look_ahead.ensures in
    broke_line c.look_ahead.new.self _ _ (ap (λ (s : Standing). s.rest) e.else_same ∙ omega (arith, ap (λ (s : Standing). s.rest) c.self.view_is)) (ap (λ (s : Standing). s.fault) e.else_same ∙ c.requires.unbroken)
    (c.if-is_drained.ensures.some refl) e.ahead c.in_err-take_line.ensures.broke ∙ e.same

pub returns-clause-same : goal.returns-clause-same
returns-clause-same g c =
    let e = c.in_ok-look_ahead.ensures in
    took_line c.look_ahead.new.self _ _ (ap (λ (s : Standing). s.rest) e.else_same ∙ omega (arith, ap (λ (s : Standing). s.rest) c.self.view_is)) (ap (λ (s : Standing). s.fault) e.else_same ∙ c.requires.unbroken)
    c.take_line.ensures.some (c.if-is_drained.ensures.some refl) e.ahead c.in_ok-take_line.ensures.took ∙ e.same

pub returns-in_err-take_line-clause-read : goal.returns-in_err-take_line-clause-read
returns-in_err-take_line-clause-read g c = λ none.
    let broke = c.in_err-take_line.ensures.broke in
    absurd (broke_on c.look_ahead.new.self c.take_line.new.self (fault_at broke.kind c.look_ahead.new.self.place) broke.after none)

pub returns-clause-read : goal.returns-clause-read
returns-clause-read g c = λ none.
    let e = c.in_ok-look_ahead.ensures in
    read_on _ _ _ [] [] (e.read c.requires.unbroken)
    (line_on c.look_ahead.new.self _ _ (ap (λ (s : Standing). s.rest) e.else_same ∙ omega (arith, ap (λ (s : Standing). s.rest) c.self.view_is)) (ap (λ (s : Standing). s.fault) e.else_same ∙ c.requires.unbroken)
    c.take_line.ensures.some (c.if-is_drained.ensures.some refl) c.in_ok-take_line.ensures.took)

pub returns-then-self-gt0-clause-read : goal.returns-then-self-gt0-clause-read
returns-then-self-gt0-clause-read g c = λ none. read_here c.args.self.now _ none
