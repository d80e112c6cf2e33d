-- A piece is read, audited and told: what its calls make of it.
use Rattle.std.proofs.Common.{◌≡◌, inl, inr, ℕ, ◌+◌, List, length, Option, None, Result, Ok, Err, OnOk, refl, sym, ap, subst, ◌∙◌, arith}
use Rattle.std.specs.Prelude.{IfErr, IfSome}
use Rattle.m2v_port.specs.Ends.{Change, change}
use Rattle.m2v_port.specs.Port.{Grows, GrowsByPrefix}
use Rattle.m2v_model.specs.declared.notes.Notes.{Notes}
use Rattle.m2v_model.specs.PieceNotes.{noted}
use Rattle.m2v_dec_piece.specs.declared.answer.Piece.{Piece}
use Rattle.m2v_dec_piece.specs.declared.answer.DecodeError.{DecodeError}
use Rattle.m2v_dec_piece.specs.declared.answer.DecodeError.TheVariants as errors
use Rattle.m2v_dec_piece.specs.Sound.{IsSoundPiece}
use Rattle.m2v_model.specs.declared.state.State.{State}
use Rattle.m2v_strict.specs.m2v_check.m2v_decode.Decoding.{Decoding, at_start, whole_of, Refuses}
use Rattle.m2v_strict.proofs.m2v_check.m2v_decode.EndLaws.{whole_length}
use Rattle.m2v_strict.specs.m2v_check.Judging.{IsPlaced}
use Rattle.m2v_strict.proofs.m2v_check.Checking.{note_placed, shut_behind}
use Rattle.m2v_strict.specs.m2v_check.m2v_decode.Reading.{Reading, Follows, LeadsOn}
use Rattle.m2v_strict.specs.m2v_check.m2v_decode.Progress.{Cuts}
use Rattle.m2v_audit.specs.Auditing.{Auditing, cleared, after_piece}
use Rattle.m2v_audit.proofs.Counted.{bytes_after}
use Rattle.m2v_audit.specs.Leading.{PieceTold, PieceCut, PieceFails}

-- a decoder that has come as far as a reader, with no frame at hand
leader : Reading → Decoding
leader r = record at_start { state = r.state; ended = r.ended; failed = r.failed; pictures = r.pictures; dropped = r.dropped; shown = r.frames }

follows_leader : (r : Reading) → Follows r (leader r)
unfolding leader
follows_leader r = record { state = refl; pictures = refl; dropped = refl; frames = omega arith; ended = refl; failed = refl; reading = refl }

-- where the picture stands that is noted of a piece
pub placed : (r r' : Reading) (p : Piece) (notes : Notes) → IsSoundPiece p → r.state.picture ≡ None → ((d : Decoding) → Follows r d → LeadsOn d p.place (whole_of p) notes r') → IfSome notes.picture (λ n. IsPlaced n p.place p.length)
unfolding leader
placed r r' p notes sound shut leads =
    let led = leads (leader r) (follows_leader r) in
    note_placed (leader r) p.place p.length (whole_of p) notes led.behind led.advanced (sym (whole_length p sound)) shut

-- no picture is open behind it
pub shut_then : (r r' : Reading) (p : Piece) (notes : Notes) (d : Decoding) → Follows r d → r.state.picture ≡ None → LeadsOn d p.place (whole_of p) notes r' → r'.state.picture ≡ None
shut_then r r' p notes d f shut led =
    let before : d.state.picture ≡ None = ap (λ (s : State). s.picture) f.state ∙ shut in
    ap (λ (s : State). s.picture) (sym led.follows.state) ∙ shut_behind d p.place (whole_of p) notes led.behind led.advanced before

-- its bytes are counted
pub bytes_then : (r r' : Reading) (a a' : Auditing) (p : Piece) (h : Change) → PieceTold r a p h r' a' → a'.bytes ≡ a.bytes + length (whole_of p)
bytes_then r r' a a' p h t = ap (λ (x : Auditing). x.bytes) t.auditing ∙ bytes_after a p.place (whole_of p) (noted t.notes)

module _ {K : Type 0} (held : K → Option (List ℕ)) (faults : K → ℕ) (r : Reading) (a : Auditing) (p : Piece) where
  abbrev output : K → K → Change
  output = change held faults

  -- the piece was refused
  pub refused : (o : K) (d : Decoding) (e : DecodeError) → Refuses d p.place (whole_of p) e → PieceFails d a p (output o o) a e
  refused o d errors.Read h = h
  refused o d errors.Write h = absurd h
  refused o d (errors.Stream f) h = (h, refl, refl)
  refused o d errors.TooLong h = h
  refused o d errors.PictureTooLarge h = h
  refused o d errors.Memory h = inl refl

  -- it was read and audited, and what it tells was put
  pub told : (result : Result (Unit {0}) DecodeError) (o o' : K) (notes : Notes) (r' : Reading) (b a' : Auditing) → ((d : Decoding) → Follows r d → LeadsOn d p.place (whole_of p) notes r')
      → b ≡ after_piece a p.place (whole_of p) (noted notes) → OnOk result (Grows (held o) b.report.text (held o')) → OnOk result (a' ≡ cleared b) → OnOk result (PieceTold r a p (output o o') r' a')
  told (Ok done) o o' notes r' b a' leads is grown clear = record {
    notes = notes;
    leads = leads;
    grown = subst (λ (x : Auditing). Grows (held o) x.report.text (held o')) is grown;
    auditing = clear ∙ ap cleared is;
  }
  told (Err e) o o' notes r' b a' leads is grown clear = tt

  cut : (o o' : K) (d : Decoding) (notes : Notes) (r' : Reading) (b : Auditing) → LeadsOn d p.place (whole_of p) notes r' → b ≡ after_piece a p.place (whole_of p) (noted notes) → GrowsByPrefix (held o) b.report.text (held o') → PieceCut d a p (output o o')
  cut o o' d notes r' b leads is grown = record {
    notes = notes;
    behind = r';
    leads = leads;
    grown = subst (λ (x : Auditing). GrowsByPrefix (held o) x.report.text (held o')) is grown;
  }

  cut_by : (o o' : K) (d : Decoding) (notes : Notes) (r' : Reading) (b a' : Auditing) (e : DecodeError) → LeadsOn d p.place (whole_of p) notes r' → b ≡ after_piece a p.place (whole_of p) (noted notes)
      → Cuts b.report.text (output o o') e → PieceFails d a p (output o o') a' e
  cut_by o o' d notes r' b a' errors.Read leads is c = c
  cut_by o o' d notes r' b a' errors.Write leads is c = (c.0, cut o o' d notes r' b leads is c.1)
  cut_by o o' d notes r' b a' (errors.Stream f) leads is c = absurd c
  cut_by o o' d notes r' b a' errors.TooLong leads is c = c
  cut_by o o' d notes r' b a' errors.PictureTooLarge leads is c = c
  cut_by o o' d notes r' b a' errors.Memory leads is c = inr (cut o o' d notes r' b leads is c)

  -- or a prefix of it
  pub cut_off : (result : Result (Unit {0}) DecodeError) (o o' : K) (notes : Notes) (r' : Reading) (b a' : Auditing) → ((d : Decoding) → Follows r d → LeadsOn d p.place (whole_of p) notes r')
      → b ≡ after_piece a p.place (whole_of p) (noted notes) → IfErr result (Cuts b.report.text (output o o')) → IfErr result (λ e. (d : Decoding) → Follows r d → PieceFails d a p (output o o') a' e)
  cut_off (Ok done) o o' notes r' b a' leads is c = tt
  cut_off (Err e) o o' notes r' b a' leads is c = λ d f. cut_by o o' d notes r' b a' e (leads d f) is c
