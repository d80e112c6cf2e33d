use Rattle.std.proofs.Common.{ℕ, List, ◌+◌, ◌-◌, drop, length, refl, sym, subst, ◌∙◌, arith}
use Rattle.std.proofs.lemmas.List.{length-take, length-drop}
use Rattle.m2v_dec_unit.specs.Texts.{text_of}
use Rattle.m2v_mend.specs.Editing.{IsWhole}
use Rattle.m2v_mend.proofs.EditLaws.{edited_start, rest_whole, whole_slice, slice_least, edited_at, length_at}
use Rattle.m2v_mend.proofs.edits.edit_units.Goals as goal

pub loop-at-init : goal.loop-at-init
loop-at-init c = record { edited = edited_start c.args.edit c.args.bytes.now c.args.zeros c.requires.units c.requires.ended c.requires.room; length = refl }

pub unit_length-n-requires-clause-ended : goal.unit_length-n-requires-clause-ended
unit_length-n-requires-clause-ended c = rw (whole_slice c.loop-at.bytes c.loop-at.at) ((c.loop-at.invariant.edited.going c.loop-at-test.true).1)

pub unit_length-n-requires-clause-units : goal.unit_length-n-requires-clause-units
unit_length-n-requires-clause-units c =
    subst (λ (l : List ℕ). IsWhole (text_of l c.args.zeros)) (sym (whole_slice c.loop-at.bytes c.loop-at.at)) (rest_whole c.args.edit _ c.args.zeros c.loop-at.bytes c.loop-at.at c.loop-at.invariant.edited c.loop-at-test.true)

pub edit_unit-requires : goal.edit_unit-requires
edit_unit-requires c =
    let n = c.unit_length-n.result in
    let least = slice_least c.args.edit _ c.args.zeros c.loop-at.bytes c.loop-at.at n _ (whole_slice c.loop-at.bytes c.loop-at.at) c.loop-at.invariant.edited c.loop-at-test.true c.unit_length-n.ensures.first in
    let at = c.loop-at.at in
    let bytes = c.loop-at.bytes in
    omega (arith, least, c.unit_length-n.ensures.within, length-take (at + n - at) (drop at bytes), length-take (length bytes - at) (drop at bytes), length-drop at bytes)

pub loop-at-smaller : goal.loop-at-smaller
loop-at-smaller c =
    let n = c.unit_length-n.result in
    let at = c.loop-at.at in
    let bytes = c.loop-at.bytes in
    let least = slice_least c.args.edit _ c.args.zeros bytes at n _ (whole_slice bytes at) c.loop-at.invariant.edited c.loop-at-test.true c.unit_length-n.ensures.first in
    let len = length_at bytes at n (at + n - at) _ c.edit_unit.new.unit (whole_slice bytes at) (omega arith) c.loop-at-test.true c.unit_length-n.ensures.within c.edit_unit.ensures.length in
    omega (arith, least, len, c.loop-at-test.true)

pub loop-at-preserved : goal.loop-at-preserved
loop-at-preserved c =
    let n = c.unit_length-n.result in
    let at = c.loop-at.at in
    let bytes = c.loop-at.bytes in
    record {
      edited = edited_at c.args.edit _ c.args.zeros bytes at n (at + n - at) _ c.edit_unit.new.unit (whole_slice bytes at) (omega arith) c.loop-at.invariant.edited c.loop-at-test.true c.unit_length-n.ensures.first c.unit_length-n.ensures.within c.edit_unit.ensures.length c.edit_unit.ensures.value c.edit_unit.ensures.ended;
      length = length_at bytes at n (at + n - at) _ c.edit_unit.new.unit (whole_slice bytes at) (omega arith) c.loop-at-test.true c.unit_length-n.ensures.within c.edit_unit.ensures.length ∙ c.loop-at.invariant.length;
    }
