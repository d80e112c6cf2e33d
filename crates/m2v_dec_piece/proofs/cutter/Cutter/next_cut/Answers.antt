use Rattle.std.proofs.Common.{ap, sym, refl, ◌∙◌, ◌++◌, false, arith}
use Rattle.m2v_dec_piece.specs.Cutting.{Cutting, prefix, taken_by}
use Rattle.m2v_dec_piece.proofs.Stands.{at_piece_fits, keeps_read}
use Rattle.m2v_dec_piece.proofs.cutter.Cutter.next_cut.Goals as goal

pub look_on-requires : goal.look_on-requires
look_on-requires g c = record { fits = at_piece_fits c.self.inside.hand (c.self.invariant (ap (λ x. x.failed) c.self.view_is ∙ c.requires)) }

pub returns-in_ok-piece-in-Ok-Boundary-clause-taken : goal.returns-in_ok-piece-in-Ok-Boundary-clause-taken
returns-in_ok-piece-in-Ok-Boundary-clause-taken g c =
    let h = c.self.inside.hand in
    let then = c.hand_out.new.self in
    let ended = c.look_on.new in
    let at = c.self.invariant (ap (λ x. x.failed) c.self.view_is ∙ c.requires) in
    let next : Cutting = record { place = then.place; unread = prefix then.ahead ++ ended.chunk; begun = false; ended = false; failed = false } in
    keeps_read h ended.hand then c.self.inside.chunk ended.chunk (g.S.Source.left c.args.input.now) (g.S.Source.left ended.input) c.args.self.now next at
    (omega (arith, c.ahead-held.ensures.value, c.ahead-held.ensures.most)) (sym (ap (λ x. x.place) c.self.view_is)) (sym (ap (λ x. x.unread) c.self.view_is)) refl refl
    c.in-Ok-Boundary.ensures.taken (omega (arith, ap taken_by c.in_ok-piece-in-Ok-Boundary.ensures.next))

pub returns-in_ok-piece-in-Ok-Ending-clause-taken : goal.returns-in_ok-piece-in-Ok-Ending-clause-taken
returns-in_ok-piece-in-Ok-Ending-clause-taken g c =
    let h = c.self.inside.hand in
    let then = c.hand_out-in-Ok-Ending.new.self in
    let ended = c.look_on.new in
    let at = c.self.invariant (ap (λ x. x.failed) c.self.view_is ∙ c.requires) in
    let next : Cutting = record { place = then.place; unread = prefix then.ahead ++ ended.chunk; begun = false; ended = false; failed = false } in
    keeps_read h ended.hand then c.self.inside.chunk ended.chunk (g.S.Source.left c.args.input.now) (g.S.Source.left ended.input) c.args.self.now next at
    (omega (arith, c.ahead-held.ensures.value, c.ahead-held.ensures.most)) (sym (ap (λ x. x.place) c.self.view_is)) (sym (ap (λ x. x.unread) c.self.view_is)) refl refl
    c.in-Ok-Ending.ensures.taken (omega (arith, ap taken_by c.in_ok-piece-in-Ok-Ending.ensures.next))

pub returns-in_ok-piece-in-Ok-Over-clause-taken : goal.returns-in_ok-piece-in-Ok-Over-clause-taken
returns-in_ok-piece-in-Ok-Over-clause-taken g c =
    let h = c.self.inside.hand in
    let then = c.last.new.hand in
    let ended = c.look_on.new in
    let at = c.self.invariant (ap (λ x. x.failed) c.self.view_is ∙ c.requires) in
    let next : Cutting = record { place = then.place; unread = prefix then.ahead ++ ended.chunk; begun = false; ended = false; failed = false } in
    keeps_read h ended.hand then c.self.inside.chunk ended.chunk (g.S.Source.left c.args.input.now) (g.S.Source.left ended.input) c.args.self.now next at
    (omega (arith, c.ahead-held.ensures.value, c.ahead-held.ensures.most)) (sym (ap (λ x. x.place) c.self.view_is)) (sym (ap (λ x. x.unread) c.self.view_is)) refl refl
    c.in-Ok-Over.ensures.taken c.in_ok-piece-in-Ok-Over.ensures.taken
