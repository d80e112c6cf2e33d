-- What a row that was read is.
use Rattle.std.proofs.Common.{◌≡◌, ℕ, ◌+◌, ◌*◌, ◌<◌, true, false, Option, Some, None, refl, sym, ap, subst, ◌∙◌}
use Rattle.std.specs.Prelude.{is_some}
use Rattle.m2v_plane.specs.Samples.{Samples, blank}
use Rattle.m2v_model.specs.declared.setup.SliceSetup.{SliceSetup}
use Rattle.m2v_model.specs.Samples.{References, put_in_row}
use Rattle.m2v_dec_piece.specs.declared.answer.Fault.{Fault}
use Rattle.m2v_dec_rows.specs.Rows.{Slices, row_read, row_fault, slices_painted}
use Rattle.m2v_dec_rows.specs.Reads.{TellsRow}
use Rattle.m2v_dec_rows.specs.Opened.{IsOpened, setup_of, slices_of, ending_by, ending}
use Rattle.m2v_dec_rows.proofs.OwnLaws.{row_end}
use Rattle.m2v_dec_rows.proofs.ByRowLaws.{row_whole}
use Rattle.m2v_dec_batch.specs.declared.picture.BatchPicture.{BatchPicture}
use Rattle.m2v_dec_batch.specs.declared.pieces.DecodePiece.TheVariants.{After, Faulty, Rebuilt}
use Rattle.m2v_dec_batch.specs.Values.{row_painted, outcome_by, outcome_in}

module _ (x : BatchPicture) (refs : References) (r : ℕ) (opened : IsOpened x.piece x.opened) (lt : r < x.opened.rows) where
  abbrev s : SliceSetup
  s = setup_of x.opened

  abbrev us : Slices
  us = slices_of x.piece x.opened

  -- a fault of the row
  pub faulty_is : (old now : Samples) (f : Fault) → TellsRow s refs r us (ending x.piece x.opened) old (Some f) now → Faulty f ≡ outcome_in x refs r
  unfolding outcome_in outcome_by
  faulty_is old now f t = ap (outcome_by s refs r us x.opened.fault) (sym t)

  none_some : (o : Option Fault) → is_some o ≡ true → After ≡ outcome_by s refs r us o None
  unfolding outcome_by
  none_some None e = absurd (cc e)
  none_some (Some f) e = refl

  -- a fault of the headers behind it
  pub after_is : (old now : Samples) → TellsRow s refs r us (ending x.piece x.opened) old None now → is_some x.opened.fault ≡ true → After ≡ outcome_in x refs r
  unfolding outcome_in
  after_is old now t e = none_some x.opened.fault e ∙ ap (outcome_by s refs r us x.opened.fault) (sym t.0)

  no_fault : (o : Option Fault) → is_some o ≡ false → o ≡ None
  no_fault None e = refl
  no_fault (Some f) e = absurd (cc e)

  -- no fault
  pub rebuilt_is : (old now : Samples) → old ≡ blank x.opened.dims 1 → TellsRow s refs r us (ending x.piece x.opened) old None now → is_some x.opened.fault ≡ false → Rebuilt now ≡ outcome_in x refs r
  unfolding outcome_in outcome_by row_painted row_fault
  rebuilt_is old now is t e =
      let none = no_fault x.opened.fault e in
      let end = 8 * (x.piece.place + x.piece.length) in
      let fault : row_fault s r us (Some end) ≡ None = subst (λ (o : Option Fault). row_fault s r us (ending_by o end) ≡ None) none t.0 in
      let small = row_end s r opened.setup (subst (λ (n : ℕ). r < n) opened.rows lt) in
      let whole = row_whole s r us end (row_read s r us) small refl fault in
      let painted : now ≡ row_painted s refs (row_read s r us) =
      t.1 whole.0 whole.1 ∙ ap (λ (o : Samples). slices_painted put_in_row s refs o whole.0) is ∙ ap (row_painted s refs) (sym whole.1) in
      ap (λ (y : Samples). Rebuilt y) painted
      ∙ ap (λ (o : Option Fault). outcome_by s refs r us o None) (sym none)
      ∙ ap (outcome_by s refs r us x.opened.fault) (sym t.0)
