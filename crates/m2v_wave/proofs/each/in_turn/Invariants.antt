use Rattle.std.proofs.Common.{ℕ, ◌<◌, ◌≤◌, ◌≡◌, get_or}
use Rattle.m2v_wave.specs.Each.{WasLeft}
use Rattle.m2v_wave.proofs.each.in_turn.Given as goal

abbrev pub invariant-loop-k : goal.invariant-loop-k
invariant-loop-k g l =
    ((j : ℕ) (d : g.row.T.Denot) → l.k ≤ j → get_or l.s j d ≡ get_or l.initial.s j d)
    × ((j : ℕ) (d : g.row.T.Denot) → j < l.k → WasLeft g.F.Fn l.f (get_or l.s j d))
