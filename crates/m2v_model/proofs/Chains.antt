-- Units one behind another, each a part of the stream.
use Rattle.std.proofs.Common.{◌≡◌, ℕ, true, List, [], ◌∷◌, ◌++◌, Some, refl, sym, subst, append_assoc, append-nil}
use Rattle.m2v_bits.specs.Syntax.{seq, done, here, rule, repeated, Rounds, more}
use Rattle.m2v_model.specs.declared.state.State.{State}
use Rattle.m2v_model.specs.Units.{Units, unit_at, unit_bits}
use Rattle.m2v_model.specs.States.{at_first, none_waits}
use Rattle.m2v_model.specs.Streams.{Part, Sofar, after, next_unit, unit_round, units_from, stream_from, stream_at}
use Rattle.m2v_model.specs.Chains.{Reads, Chain, nothing, link, sofar}

pub chain_then : {a b c : State} {ps qs : List Part} {us vs : Units} → Chain a ps us b → Chain b qs vs c → Chain a (ps ++ qs) (us ++ vs) c
chain_then nothing g = g
chain_then {a} {b} {c} {ps} {qs} {us} {vs} (link {p = p} {ps = later} {u = u} {others = others} {us = ws} r h) g =
    subst (λ (xs : Units). Chain a (p ∷ (later ++ qs)) (u ∷ xs) c) (sym (append_assoc others ws vs)) (link r (chain_then h g))

round_stands : (st : State) (p : Part) (u : List ℕ) (others us : Units) (xs : List Part) → Reads st p u others
    → (unit_round (record { state = st; parts = xs })).Stands (true, record { state = after st p; parts = xs ++ p ∷ [] }) (u ∷ (others ++ us)) us
unfolding unit_round seq here unit_at next_unit done
round_stands st p u others us xs r = (
  unit_bits (u ∷ (others ++ us)),
  u ∷ (others ++ us),
  (refl, refl),
  (
    Some u,
    others ++ us,
    refl,
    ((true, p), us, r.stands (unit_bits (u ∷ (others ++ us))) us, (refl, refl)),
  ),
)

-- units that are parts are read in as many rounds
pub rounds_of : {a b : State} {ps : List Part} {us : Units} → Chain a ps us b → (xs : List Part) (vs rest : Units) (z : Sofar)
    → Rounds unit_round (record { state = b; parts = xs ++ ps }) z vs rest → Rounds unit_round (record { state = a; parts = xs }) z (us ++ vs) rest
rounds_of {a} {b} nothing xs vs rest z h = subst (λ (ys : List Part). Rounds unit_round (sofar a ys) z vs rest) (append-nil xs) h
rounds_of {a} {b} (link {p = p} {ps = later} {u = u} {others = others} {us = us} r c) xs vs rest z h =
    let same : Rounds unit_round (sofar b ((xs ++ p ∷ []) ++ later)) z vs rest = subst (λ (ys : List Part). Rounds unit_round (sofar b ys) z vs rest) (sym (append_assoc xs (p ∷ []) later)) h in
    subst (λ (ws : Units). Rounds unit_round (sofar a xs) z (u ∷ ws) rest) (sym (append_assoc others us vs))
    (more (round_stands a p u others (us ++ vs) xs r) (rounds_of c (xs ++ p ∷ []) vs rest z same))

-- rounds from the first state on are a stream, where no second field is due behind them
pub stream_of : (us rest : Units) (z : Sofar) → Rounds unit_round (sofar at_first []) z us rest → none_waits z.state.waiting ≡ true → stream_at.Stands z us rest
unfolding stream_at stream_from units_from repeated seq rule done
stream_of us rest z h none = (z, rest, h, (tt, rest, (none, refl), (refl, refl)))
