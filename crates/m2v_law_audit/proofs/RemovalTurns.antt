-- The removals that are told of a stream, piece by piece and at its end, are those of all its pictures once each of them is whole.
use Rattle.std.proofs.Common.{◌≡◌, ℕ, ◌+◌, ◌<◌, Bool, false, List, [], ◌∷◌, ◌++◌, length, Option, Some, None, option_map, inl, inr, refl, sym, ap, subst, ◌∙◌, arith}
use Rattle.std.specs.Prelude.{nat_eq, slice_get, if◌then◌else◌}
use Rattle.std.proofs.lemmas.Bool.{ne_eqb}
use Rattle.m2v_vbv.specs.Buffer.{Buffer}
use Rattle.m2v_model.specs.m2v_macroblock.m2v_head.declared.sequence.SequenceInfo.{SequenceInfo}
use Rattle.m2v_model.specs.m2v_macroblock.m2v_head.declared.sequence.SequenceExtension.{SequenceExtension}
use Rattle.m2v_model.specs.declared.state.Sequence.{Sequence}
use Rattle.m2v_model.specs.declared.notes.PictureNote.{PictureNote}
use Rattle.m2v_model.specs.Streams.{Sofar}
use Rattle.m2v_model.specs.Pictures.{Picture, Events, pictures_in}
use Rattle.m2v_model.specs.Pieces.{pieces}
use Rattle.m2v_model.specs.PieceNotes.{notes_of}
use Rattle.m2v_model.specs.Decoding.{Stream, events}
use Rattle.m2v_model.specs.Lawful.{Numbered, numbered, all_numbered}
use Rattle.m2v_model.specs.Buffering.{bits_of_piece, code_bits}
use Rattle.m2v_model.specs.ByPieces.{Between, at_start}
use Rattle.m2v_audit.specs.declared.account.Due.{Due}
use Rattle.m2v_audit.specs.declared.auditing.Auditing.{Auditing}
use Rattle.m2v_audit.specs.declared.report.Rate.{Rate}
use Rattle.m2v_audit.specs.Account.{Told, all_told, Account, opened, with_picture, with_more, settled, settled_of, behind_settled, after_settled, reported}
use Rattle.m2v_audit.specs.Auditing.{nothing, longer, begun, begun_by, opened_by, account_by}
use Rattle.m2v_audit.specs.HeaderRecords.{rate_with}
use Rattle.m2v_audit.specs.Opening.{first_buffer}
use Rattle.m2v_audit.specs.Times.{Times, opened as first_times, after}
use Rattle.m2v_audit.proofs.Reports.{told_in_all}
use Rattle.m2v_audit.proofs.m2v_check.Telling.{first_in, last_in, AreHeaded}
use Rattle.m2v_audit.proofs.m2v_check.Onward.{none_or_one}
use Rattle.m2v_audit.specs.declared.asked.Asked.{Asked}
use Rattle.m2v_law_audit.specs.Found.{all_along, all_removals, piece_removals, settled_in, left_in}
use Rattle.m2v_law_audit.specs.Sequences.{first_byte}
use Rattle.m2v_law_audit.specs.Accounts.{due_at, dues_from, dues_by, dues_in, with_buffer, beginning_by, beginning_in, numbered_in, removals_by}
use Rattle.m2v_law_audit.proofs.AccountReading.{Turn, Turns, in_pieces, begun_at, behind_piece, one_piece, first_header, first_begun}
use Rattle.m2v_law_audit.proofs.EventsPieces.{BeginWith, text_begins}
use Rattle.m2v_law_audit.proofs.RemovalEvents.{note_at, bits_of, dues_read, rest_one, none_left, none_numbered, first_so}
use Rattle.m2v_law_audit.proofs.RemovalPieces.{Stands, Moves, more_moves, picture_moves}

-- ---- piece by piece

abbrev left_told : Auditing → List Told
left_told a = left_in a.account

-- the sequence was told already
pub later_begun : (a : Auditing) (at : ℕ) (p : List ℕ) (es : Events) (f : Sequence) (o : Option Sequence) (k : ℕ) (t : Times) (x : Option Account) → Stands a (Some f) o k t x → Stands (begun_at a at p es) (Some f) o k t x
later_begun a at p es f o k t x h =
    let b = longer (length p) a in
    let is : begun_at a at p es ≡ b = ap (λ (z : Option Sequence). begun z b at (notes_of at p es)) h.first_is in
    subst (λ (z : Auditing). Stands z (Some f) o k t x) (sym is) (record { first_is = h.first_is; last_is = h.last_is; number_is = h.number_is; times_are = h.times_are; account_is = h.account_is })

-- without an account nothing is told, whatever pictures come behind the first one
none_from : (ps : List (List ℕ)) (b : Between) (es : Events) (a : Auditing) (at : ℕ) (f : Sequence) (o : Option Sequence) (k : ℕ) (t : Times) → Turns b ps es → Stands a (Some f) o k t None → b.state.sequence ≡ o → 0 < k
    → all_removals a b at ps ≡ []
unfolding all_along
none_from [] b es a at f o k t turns h so some = ap left_in h.account_is
none_from (p ∷ ps) b es a at f o k t turns h so some =
    let u = turns.0 in
    let starts = later_begun a at p u.own f o k t None h in
    let stays : u.next.state.sequence ≡ last_in o u.own = u.sequence ∙ ap (λ (z : Option Sequence). last_in z u.own) so in
    elim (none_or_one u.own u.last) [
      | inl none ↦
          let m = more_moves a at p u.own (Some f) o k t None (u.fronts at) starts none in
          let rest = none_from ps u.next u.rest (behind_piece a at p u.own) (at + length p) f (last_in o u.own) k t turns.1 m.behind stays some in
          one_piece piece_removals left_told a b at p ps es u ∙ (λ i. m.told i ++ rest i)
      | inr one ↦
          let r = rest_one o 0 false k 0 u.own [] one.0 u.last (subst (λ (z : Option Sequence). AreHeaded z u.own) so u.headed) one.1 in
          let n = r.first in
          let d = due_at t at (bits_of_piece p) p n in
          let m = picture_moves a at p u.own n (Some f) o k t None (u.fronts at) starts (one.1 ∙ ap (λ (q : Picture). q ∷ []) r.same) r.headed r.number_is in
          let later : nat_eq n.number 0 ≡ false = ne_eqb n.number 0 (λ e. omega (arith, e, r.number_is, some)) in
          let none : account_by None (Some f) (note_at at p n) d ≡ None = ap (λ (w : Bool). if w then opened_by (Some f) (note_at at p n) d else None) later in
          let stands = subst (λ (x : Option Account). Stands (behind_piece a at p u.own) (Some f) (last_in o u.own) (k + 1) (after t n.sequence (note_at at p n)) (option_map after_settled x)) none m.behind in
          let told = m.told ∙ ap settled_in none in
          let rest = none_from ps u.next u.rest (behind_piece a at p u.own) (at + length p) f (last_in o u.own) (k + 1) (after t n.sequence (note_at at p n)) turns.1 stands stays (omega arith) in
          one_piece piece_removals left_told a b at p ps es u ∙ (λ i. told i ++ rest i)
    ]

-- with an account, what is told is what it tells while the bits of these pieces come, and at their end
on_from : (ps : List (List ℕ)) (b : Between) (es : Events) (a : Auditing) (at : ℕ) (f : Sequence) (o : Option Sequence) (k : ℕ) (t : Times) (x : Account) (group : ℕ) (first_in_group : Bool) (frames : ℕ) → Turns b ps es
    → Stands a (Some f) o k t (Some x) → b.state.sequence ≡ o → all_removals a b at ps ≡ reported x (bits_of t at ps (numbered o group first_in_group k frames es))
unfolding all_along reported
on_from [] b es a at f o k t x group first_in_group frames turns h so = ap left_in h.account_is
on_from (p ∷ ps) b es a at f o k t x group first_in_group frames turns h so =
    let u = turns.0 in
    let end = at + length p in
    let starts = later_begun a at p u.own f o k t (Some x) h in
    let stays : u.next.state.sequence ≡ last_in o u.own = u.sequence ∙ ap (λ (z : Option Sequence). last_in z u.own) so in
    elim (none_or_one u.own u.last) [
      | inl none ↦
          let m = more_moves a at p u.own (Some f) o k t (Some x) (u.fronts at) starts none in
          let y : Account = with_more x (bits_of_piece p) in
          let left = none_left (length (pictures_in u.own)) u.next ps u.rest (ap length none) u.one turns.1 in
          let all : numbered o group first_in_group k frames es ≡ [] = none_numbered o group first_in_group k frames u.own u.rest es u.are left.1 none in
          let rest = on_from ps u.next u.rest (behind_piece a at p u.own) end f (last_in o u.own) k t (after_settled y) 0 false 0 turns.1 m.behind stays in
          let ended : numbered (last_in o u.own) 0 false k 0 u.rest ≡ [] = none_numbered (last_in o u.own) 0 false k 0 [] u.rest u.rest refl left.1 refl in
          one_piece piece_removals left_told a b at p ps es u
          ∙ (λ i. m.told i ++ rest i)
          ∙ ap (λ (ns : List Numbered). settled y ++ reported (after_settled y) (bits_of t end ps ns)) ended
          ∙ ap (λ (ns : List Numbered). reported x (bits_of t at (p ∷ ps) ns)) (sym all)
      | inr one ↦
          let r = rest_one o group first_in_group k frames u.own u.rest one.0 u.last (subst (λ (z : Option Sequence). AreHeaded z u.own) so u.headed) one.1 in
          let n = r.first in
          let y : Account = with_picture x (due_at t at (bits_of_piece p) p n) in
          let m = picture_moves a at p u.own n (Some f) o k t (Some x) (u.fronts at) starts (one.1 ∙ ap (λ (q : Picture). q ∷ []) r.same) r.headed r.number_is in
          let rest = on_from ps u.next u.rest (behind_piece a at p u.own) end f (last_in o u.own) (k + 1) (after t n.sequence (note_at at p n)) (after_settled y) r.group r.first_in_group r.frames turns.1 m.behind stays in
          one_piece piece_removals left_told a b at p ps es u
          ∙ (λ i. m.told i ++ rest i)
          ∙ ap (λ (ns : List Numbered). reported x (bits_of t at (p ∷ ps) ns)) (sym (ap (numbered o group first_in_group k frames) u.are ∙ r.is))
    ]

-- ---- the first piece

-- whatever it tells, no account began before it
no_account : (a : Auditing) (at : ℕ) (s : Option (SequenceInfo × SequenceExtension)) (n : Option PictureNote) → (begun_by a at s n).account ≡ a.account
no_account a at None n = refl
no_account a at (Some s) n = refl

-- without pieces, or without a picture, nothing is told
no_pieces : (o : Option Sequence) (at : ℕ) (ns : List Numbered) (ds : List Due) → [] ≡ removals_by (beginning_by o at [] ns) ds
no_pieces None at ns ds = refl
no_pieces (Some s) at ns ds = refl

no_pictures : (o : Option Sequence) (at : ℕ) (p : List ℕ) (ps : List (List ℕ)) (ds : List Due) → [] ≡ removals_by (beginning_by o at (p ∷ ps) []) ds
no_pictures None at p ps ds = refl
no_pictures (Some s) at p ps ds = refl

-- the first picture, by the buffer with which the account is opened, or there is none
first_told : (p : List ℕ) (ps : List (List ℕ)) (es : Events) → (u : Turn at_start p ps es) → Turns u.next ps u.rest → (a : Auditing) (at : ℕ) (s : Sequence) (n : Numbered) (group : ℕ) (first_in_group : Bool) (frames : ℕ) (t : Times) (rate : Rate)
    (first : Option Buffer) → let d : Due = due_at t at (bits_of_piece p) p n in
    Moves a at p (notes_of at p u.own) (Some s) (last_in None u.own) 1 (after t n.sequence (note_at at p n)) (option_map (λ (b : Buffer). opened b d) first)
    → all_removals a at_start at (p ∷ ps) ≡ removals_by (with_buffer rate first) (dues_from t at (p ∷ ps) (n ∷ numbered (last_in None u.own) group first_in_group 1 frames u.rest))
unfolding settled_of behind_settled
first_told p ps es u turns a at s n group first_in_group frames t rate None m =
    let rest = none_from ps u.next u.rest (behind_piece a at p u.own) (at + length p) s (last_in None u.own) 1 (after t n.sequence (note_at at p n)) turns m.behind u.sequence (omega arith) in
    one_piece piece_removals left_told a at_start at p ps es u ∙ (λ i. m.told i ++ rest i)
first_told p ps es u turns a at s n group first_in_group frames t rate (Some b) m =
    let d : Due = due_at t at (bits_of_piece p) p n in
    let next : Times = after t n.sequence (note_at at p n) in
    let ns : List Numbered = numbered (last_in None u.own) group first_in_group 1 frames u.rest in
    let rest = on_from ps u.next u.rest (behind_piece a at p u.own) (at + length p) s (last_in None u.own) 1 next (opened b d) group first_in_group frames turns m.behind u.sequence in
    one_piece piece_removals left_told a at_start at p ps es u
    ∙ (λ i. m.told i ++ rest i)
    ∙ told_in_all b d (bits_of next (at + length p) ps ns)
    ∙ ap (all_told b) (dues_read t at p ps n ns)

-- what is told of pieces, by the first sequence header and the pictures of what they tell
abbrev AllTold : Auditing → ℕ → List (List ℕ) → Option Sequence → List Numbered → Type 0
AllTold a at ps o ns = all_removals a at_start at ps ≡ removals_by (beginning_by o at ps ns) (dues_by o at ps ns)

-- a first piece without a picture
none_at_first : (p : List ℕ) (ps : List (List ℕ)) (es : Events) (asked : Asked) (number start at : ℕ) → (u : Turn at_start p ps es) → Turns u.next ps u.rest → pictures_in u.own ≡ []
    → AllTold (nothing number asked start) at (p ∷ ps) (first_in None es) (all_numbered es)
unfolding all_along
none_at_first p ps es asked number start at u turns none =
    let a : Auditing = nothing number asked start in
    let o : Option Sequence = first_in None es in
    let c : Auditing = begun_at a at p u.own in
    let notes = notes_of at p u.own in
    let stands : Stands c c.first c.sequence c.pictures c.times None = record {
      first_is = refl;
      last_is = refl;
      number_is = refl;
      times_are = refl;
      account_is = no_account (longer (length p) a) at (slice_get notes.sequences 0) notes.picture;
    } in
    let m = more_moves a at p u.own c.first c.sequence c.pictures c.times None (u.fronts at) stands none in
    let left = none_left (length (pictures_in u.own)) u.next ps u.rest (ap length none) u.one turns in
    let rest : all_removals (behind_piece a at p u.own) u.next (at + length p) ps ≡ [] =
    ap (all_removals (behind_piece a at p u.own) u.next (at + length p)) left.0 ∙ ap left_in (m.behind).account_is in
    let all : all_numbered es ≡ [] = none_numbered None 0 false 0 0 u.own u.rest es u.are left.1 none in
    subst (AllTold a at (p ∷ ps) o) (sym all) (one_piece piece_removals left_told a at_start at p ps es u ∙ (λ i. m.told i ++ rest i) ∙ no_pictures o at p ps (dues_by o at (p ∷ ps) []))

-- a first piece with a picture
one_at_first : (p : List ℕ) (ps : List (List ℕ)) (es : Events) (asked : Asked) (number start at : ℕ) → BeginWith 0xB3 (p ∷ ps) → (u : Turn at_start p ps es) → Turns u.next ps u.rest → (q : Picture) → pictures_in u.own ≡ q ∷ []
    → AllTold (nothing number asked start) at (p ∷ ps) (first_in None es) (all_numbered es)
one_at_first p ps es asked number start at begins u turns q one =
    let a : Auditing = nothing number asked start in
    let c : Auditing = begun_at a at p u.own in
    let f = first_so u.own u.rest es q (first_header at p u.own begins (u.fronts at)) u.are u.last u.headed one in
    let r = f.one in
    let s : Sequence = (f.has).header in
    let t : Times = first_times s.extension.low_delay s.info.frame_rate_code in
    let n : Numbered = r.first in
    let note : PictureNote = note_at at p n in
    let d : Due = due_at t at (bits_of_piece p) p n in
    let buffer : Option Buffer = first_buffer s note (code_bits p) in
    let starts : Stands c (Some s) None 0 t None =
    subst (λ (z : Auditing). Stands z (Some s) None 0 t None) (sym (first_begun a at p u.own refl f.has)) (record { first_is = refl; last_is = refl; number_is = refl; times_are = refl; account_is = refl }) in
    let m = picture_moves a at p u.own n (Some s) None 0 t None (u.fronts at) starts (one ∙ ap (λ (p : Picture). p ∷ []) r.same) r.headed r.number_is in
    let account : account_by None (Some s) note d ≡ option_map (λ (b : Buffer). opened b d) buffer = ap (λ (z : ℕ). if nat_eq z 0 then opened_by (Some s) note d else None) r.number_is in
    let moves = subst (Moves a at p (notes_of at p u.own) (Some s) (last_in None u.own) 1 (after t n.sequence note)) account m in
    let first = f.first in
    let all = r.is in
    subst (λ (x : Option Sequence × List Numbered). AllTold a at (p ∷ ps) x.0 x.1) (λ i. (sym first i, sym all i))
    (first_told p ps es u turns a at s n r.group r.first_in_group r.frames t (rate_with s (Some note)) buffer moves)

from_start : (ps : List (List ℕ)) (es : Events) (asked : Asked) (number start at : ℕ) → BeginWith 0xB3 ps → Turns at_start ps es → AllTold (nothing number asked start) at ps (first_in None es) (all_numbered es)
unfolding all_along
from_start [] es asked number start at begins turns = no_pieces (first_in None es) at (all_numbered es) (dues_by (first_in None es) at [] (all_numbered es))
from_start (p ∷ ps) es asked number start at begins turns =
    let u = turns.0 in
    elim (none_or_one u.own u.last) [
      | inl none ↦ none_at_first p ps es asked number start at u turns.1 none
      | inr one ↦ one_at_first p ps es asked number start at begins u turns.1 one.0 one.1
    ]

-- the removals that are told of a stream
pub removals_in : (text : List ℕ) (tree : Sofar) → Stream text tree → (asked : Asked) (number start : ℕ)
    → all_removals (nothing number asked start) at_start (first_byte start text) (pieces text) ≡ removals_by (beginning_in start text tree) (dues_in start text tree)
removals_in text tree stream asked number start =
    let r = in_pieces text tree stream in
    subst (λ (o : Option Sequence). AllTold (nothing number asked start) (first_byte start text) (pieces text) o (numbered_in tree)) (sym r.first)
    (from_start (pieces text) (events tree) asked number start (first_byte start text) (text_begins text) r.turns)
