use Rattle.std.proofs.Common.{refl, sym, arith}
use Rattle.std.proofs.lemmas.List.{with_items_is}
use Rattle.m2v_mend.proofs.EditLaws.{piece_edited}
use Rattle.m2v_mend.proofs.edits.edit_piece.Goals as goal

pub returns-clause-edited : goal.returns-clause-edited
returns-clause-edited c =
    piece_edited c.args.edit c.args.piece.now _ c.deref_mut.result.now c.edit_units.new.bytes c.zeros_of-zeros.result (sym c.deref_mut.ensures.value)
    (with_items_is c.args.piece.now.bytes c.edit_units.new.bytes (omega (arith, c.edit_units.ensures.length, c.deref_mut.ensures.len))) refl refl refl c.zeros_of-zeros.ensures c.edit_units.ensures.bytes
