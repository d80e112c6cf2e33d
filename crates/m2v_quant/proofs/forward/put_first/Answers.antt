use Rattle.std.proofs.Common.{◌∙◌, sym, w32}
use Rattle.std.proofs.lemmas.Int.{to_z-of_z}
use mir.Val.{SFits}
use Rattle.m2v_quant.proofs.Placed.{one_placed, apart_from}
use Rattle.m2v_quant.proofs.forward.put_first.Goals as goal

pub returns-clause-placed : goal.returns-clause-placed
returns-clause-placed c =
    let kind = c.args.kind.now in
    let place = c.first_place-place.result in
    let fits : SFits w32 c.place_level.result = record { sfits = c.place_level.type_inv } in
    rw (to_z-of_z w32 c.place_level.result fits)
    (one_placed c.args.f.now kind c.args.left c.behind_first.result place c.args.levels.now c.place_level.result c.position.result
    c.told-levels c.first_place-place.ensures.below (λ is. apart_from c.args.left place 0 (c.requires.later (sym c.requires.intra ∙ is)) c.first_place-place.ensures.here)
    (simp c.requires.alternate c.position.ensures.value) c.place_level.ensures.value c.place_level.ensures.within c.behind_first.ensures.others c.requires.before)

pub returns-clause-later : goal.returns-clause-later
returns-clause-later c = λ is.
    let none = c.requires.later is in
    c.behind_first.ensures.others 0 (λ e. apart_from c.args.left c.first_place-place.result 0 none c.first_place-place.ensures.here (sym e)) ∙ none
