use Rattle.std.proofs.Common.{ap, ◌∙◌, sym, ◌≡◌, ◌<◌, ◌⊎◌, Some, Option, arith, ℕ}
use Rattle.std.specs.Prelude.{unwrap_or}
use mathlib.Core.Option.{some, some-injective}
use mathlib.Core.Logic.{⊎_elim, inl, inr}
use Rattle.m2v_board.specs.Rule.{times, past}
use Rattle.m2v_board.specs.Slots.{jobs_in}
use Rattle.m2v_board.specs.Passes.{jobs_of}
use Rattle.m2v_board.proofs.Sums.{times_of}
use Rattle.m2v_board.proofs.Slots.{none_open}
use Rattle.m2v_board.proofs.Tallies.{all_published}
use Rattle.m2v_board.proofs.Joins.{ends}
use Rattle.m2v_board.proofs.board.Board.close.Goals as goal

same_some : {A : Type 0} {x y : A} → Some x ≡ Some y → x ≡ y
same_some {A} {x} {y} e = ap (λ (o : Option A). unwrap_or o x) e

pub emptied-requires-clause-values : goal.emptied-requires-clause-values
emptied-requires-clause-values g c = λ j lt.
    let seat = c.into_parts-seat.ensures.0 in
    let pass = c.args.pass in
    let n = jobs_of c.args.self in
    let done : ((i : ℕ) → i < n → 0 < times i pass.seat.me.0.published) ⊎ ((0 < past n pass.seat.me.0.drawn) × ((i : ℕ) → i < n → times i pass.seat.me.0.published ≡ times i pass.seat.me.0.drawn)) = ⊎_elim
    (λ f. inl (λ i l. times_of i _ (f i l)))
    (λ t. inr (t.0, λ i l. let none = sym pass.order ∙ ap jobs_in (none_open _ t.1) in all_published _ i _ _ _ (pass.tally i) (ap (times i) none) (omega (arith, c.requires.pass.1)))) c.requires.published in
    let t = ends _ _ _ _ _ c.close_with.ensures.values.2 (rw seat c.requires.all) (rw seat pass.at_rest) (rw seat done) j (omega (arith, c.args.self.sized.2)) in
    (t.2.0, t.1 ∙ ap some t.2.1)

pub returns-clause-ready : goal.returns-clause-ready
returns-clause-ready g c = λ j d lt.
    let seat = c.into_parts-seat.ensures.0 in
    let pass = c.args.pass in
    let n = jobs_of c.args.self in
    let done : ((i : ℕ) → i < n → 0 < times i pass.seat.me.0.published) ⊎ ((0 < past n pass.seat.me.0.drawn) × ((i : ℕ) → i < n → times i pass.seat.me.0.published ≡ times i pass.seat.me.0.drawn)) = ⊎_elim
    (λ f. inl (λ i l. times_of i _ (f i l)))
    (λ t. inr (t.0, λ i l. let none = sym pass.order ∙ ap jobs_in (none_open _ t.1) in all_published _ i _ _ _ (pass.tally i) (ap (times i) none) (omega (arith, c.requires.pass.1)))) c.requires.published in
    let t = ends _ _ _ _ _ c.close_with.ensures.values.2 (rw seat c.requires.all) (rw seat pass.at_rest) (rw seat done) j lt in
    let there = c.emptied.ensures.items j d (omega (arith, c.args.self.sized.2)) in
    rw (same_some (some-injective _ _ (sym there ∙ t.1) ∙ t.2.1)) t.2.2
