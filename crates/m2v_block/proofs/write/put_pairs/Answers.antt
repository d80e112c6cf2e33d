use Rattle.std.proofs.Common.{arith, rules, ℕ, ◌+◌, ◌≡◌, ◌<◌, ◌≤◌, List, Bool, get_or, length, pos, sym, subst}
use Rattle.std.proofs.lemmas.Int.{to_z-of_z}
use mir.Syntax.{w32}
use mir.Val.{SFits, to_z, of_z}
use Rattle.m2v_bits.proofs.Outputs.{gains_but_all, gains_but_less, gains_but_none, room_for_next, room_for_last}
use Rattle.m2v_bits.specs.Outputs.{Gains}
use Rattle.m2v_block.proofs.Written.{next_pair, at_zeros}
use Rattle.m2v_block.proofs.Marking.{none_marked}
use Rattle.m2v_block.proofs.write.put_pairs.Goals as goal

pub loop-rest-init : goal.loop-rest-init
loop-rest-init g c = record { text = gains_but_all; marks = c.marks_from-rest.ensures; inside = c.requires.from }

pub put_pair-requires-clause-room : goal.put_pair-requires-clause-room
put_pair-requires-clause-room g c =
    let levels = c.args.levels.now.at in
    let at = c.loop-rest.at in
    let run = c.run_at-run.result in
    let len : length levels ≡ 64 = search rules in
    let fits : SFits w32 (get_or levels (at + run) (pos 0)) = search rules in
    room_for_next _ _ c.loop-rest.invariant.text
    (next_pair c.loop-rest.none c.args.one levels at run (to_z w32 (of_z w32 (get_or levels (at + run) (pos 0)))) (omega (arith, len, c.run_at-run.ensures.within)) c.run_at-run.ensures.zeros (to_z-of_z w32 (get_or levels (at + run) (pos 0)) fits) c.run_at-run.ensures.some)
    c.requires.room

pub loop-rest-preserved : goal.loop-rest-preserved
loop-rest-preserved g c =
    let levels = c.args.levels.now.at in
    let at = c.loop-rest.at in
    let run = c.run_at-run.result in
    let len : length levels ≡ 64 = search rules in
    let fits : SFits w32 (get_or levels (at + run) (pos 0)) = search rules in
    record {
      text = gains_but_less c.loop-rest.invariant.text
          (next_pair c.loop-rest.none c.args.one levels at run (to_z w32 (of_z w32 (get_or levels (at + run) (pos 0)))) (omega (arith, len, c.run_at-run.ensures.within)) c.run_at-run.ensures.zeros (to_z-of_z w32 (get_or levels (at + run) (pos 0)) fits) c.run_at-run.ensures.some)
          c.put_pair.ensures;
      marks = c.marks_behind-rest.ensures;
      inside = omega (arith, c.run_at-run.ensures.within);
    }

pub put_code-requires : goal.put_code-requires
put_code-requires g c =
    let levels = c.args.levels.now.at in
    let rest = λ (k : ℕ) (le : c.loop-rest.at ≤ k) (lt : k < length levels). none_marked levels c.loop-rest.at c.loop-rest.rest c.loop-rest.invariant.marks (omega arith) k le in
    subst (λ (text : List Bool). length text ≤ g.O.BitOutput.space c.loop-rest.out) (at_zeros c.loop-rest.none c.args.one 0 levels c.loop-rest.at rest) (room_for_last c.loop-rest.invariant.text c.requires.room)

pub returns : goal.returns
returns g c =
    let levels = c.args.levels.now.at in
    let rest = λ (k : ℕ) (le : c.loop-rest.at ≤ k) (lt : k < length levels). none_marked levels c.loop-rest.at c.loop-rest.rest c.loop-rest.invariant.marks (omega arith) k le in
    gains_but_none c.loop-rest.invariant.text (subst (λ (text : List Bool). Gains g.O.BitOutput.took g.O.BitOutput.space c.loop-rest.out text c.put_code.new.out) (sym (at_zeros c.loop-rest.none c.args.one 0 levels c.loop-rest.at rest)) c.put_code.ensures)
