-- Of pictures whose delays tell no rate nothing is remarked of the arrival of their bits.
use Rattle.std.proofs.Common.{◌≡◌, ℕ, ◌+◌, ◌*◌, Bool, true, not, List, [], ◌∷◌, ◌++◌, length, Option, Some, None, refl, ap, subst, ◌∙◌}
use Rattle.std.specs.Prelude.{nat_eq, ◌&&◌}
use Rattle.std.proofs.Math.Bool.{and-false}
use Rattle.m2v_model.specs.declared.state.Sequence.{Sequence}
use Rattle.m2v_model.specs.Streams.{Sofar}
use Rattle.m2v_model.specs.Pictures.{Events, sequence_header, group_header, coded_picture, pictures_in}
use Rattle.m2v_model.specs.Pieces.{pieces}
use Rattle.m2v_model.specs.PieceNotes.{first_note, notes_of}
use Rattle.m2v_model.specs.Decoding.{Stream, events}
use Rattle.m2v_model.specs.ByPieces.{Between, at_start}
use Rattle.m2v_model.specs.Buffering.{code_bits}
use Rattle.m2v_model.specs.declared.notes.PictureNote.{PictureNote}
use Rattle.m2v_audit.specs.m2v_check.declared.coded.CodedPicture.{CodedPicture}
use Rattle.m2v_audit.specs.m2v_strict.declared.preceding.Arrival.{Arrival}
use Rattle.m2v_audit.specs.m2v_strict.Remarks.{Remarks, looked_at}
use Rattle.m2v_audit.specs.m2v_strict.ArrivalRules.{arrival_rule}
use Rattle.m2v_audit.specs.declared.asked.Asked.{Asked}
use Rattle.m2v_audit.specs.declared.auditing.Auditing.{Auditing}
use Rattle.m2v_audit.specs.Auditing.{nothing, longer, fronted}
use Rattle.m2v_law_audit.specs.Sequences.{first_byte}
use Rattle.m2v_law_audit.specs.Found.{all_along}
use Rattle.m2v_law_audit.proofs.AccountReading.{Turns, in_pieces, behind_piece, one_piece}
use Rattle.m2v_law_audit.proofs.CleanArrivals.{arrivals_by, piece_arrivals, all_arrivals}

-- no picture tells a rate by its delay
abbrev pub TellNoRate : Events → Type 0
TellNoRate [] = Unit {0}
TellNoRate (sequence_header s ∷ es) = TellNoRate es
TellNoRate (group_header g ∷ es) = TellNoRate es
TellNoRate (coded_picture p ∷ es) = (p.info.vbv_delay ≡ 65535) × TellNoRate es

parts_tell_none : (own rest : Events) → TellNoRate (own ++ rest) → TellNoRate own × TellNoRate rest
parts_tell_none [] rest h = (tt, h)
parts_tell_none (sequence_header s ∷ own) rest h = parts_tell_none own rest h
parts_tell_none (group_header g ∷ own) rest h = parts_tell_none own rest h
parts_tell_none (coded_picture p ∷ own) rest h = let more = parts_tell_none own rest h.1 in ((h.0, more.0), more.1)

-- ---- a picture

unlooked : (b c : Bool) (ms : Remarks) → c ≡ true → looked_at (b && not c) ms ≡ []
unlooked b c ms e = rw (e, and-false b) refl

no_rate : (rate : ℕ) (o : Option Arrival) (p : CodedPicture) → p.note.info.vbv_delay ≡ 65535 → arrival_rule rate o p ≡ []
unfolding arrival_rule
no_rate rate None p e = refl
no_rate rate (Some d) p e = unlooked _ _ _ (ap (λ (n : ℕ). nat_eq n 65535) e)

noted_none : (a : Auditing) (o : Option Sequence) (n : PictureNote) → n.info.vbv_delay ≡ 65535 → arrivals_by a o (Some n) ≡ []
noted_none a None n e = refl
noted_none a (Some s) n e = no_rate _ _ _ e

own_none : (a : Auditing) (o : Option Sequence) (end : ℕ) (es : Events) → TellNoRate es → arrivals_by a o (first_note end (pictures_in es)) ≡ []
own_none a o end [] h = refl
own_none a o end (sequence_header s ∷ es) h = own_none a o end es h
own_none a o end (group_header g ∷ es) h = own_none a o end es h
own_none a o end (coded_picture p ∷ es) h = noted_none a o _ h.0

-- ---- pieces

piece_none : (a : Auditing) (at : ℕ) (p : List ℕ) (es : Events) → TellNoRate es → piece_arrivals a at p (notes_of at p es) ≡ []
unfolding notes_of
piece_none a at p es h =
    let front = fronted (longer (length p) a) at p (notes_of at p es) in
    own_none front front.sequence (8 * at + code_bits p) es h

pieces_none : (ps : List (List ℕ)) (a : Auditing) (b : Between) (at : ℕ) (es : Events) → TellNoRate es → Turns b ps es
    → all_arrivals a b at ps ≡ []
unfolding all_along
pieces_none [] a b at es h turns = refl
pieces_none (p ∷ ps) a b at es h turns =
    let u = turns.0 in
    let parts = parts_tell_none u.own u.rest (subst TellNoRate u.are h) in
    let here = piece_none a at p u.own parts.0 in
    let later = pieces_none ps (behind_piece a at p u.own) u.next (at + length p) u.rest parts.1 turns.1 in
    one_piece piece_arrivals (λ z. []) a b at p ps es u ∙ (λ i. here i ++ later i)

pub no_arrivals : (text : List ℕ) (tree : Sofar) → Stream text tree → TellNoRate (events tree) → (asked : Asked) (number start : ℕ)
    → all_arrivals (nothing number asked start) at_start (first_byte start text) (pieces text) ≡ []
no_arrivals text tree stream h asked number start =
    pieces_none (pieces text) (nothing number asked start) at_start (first_byte start text) (events tree) h (in_pieces text tree stream).turns
