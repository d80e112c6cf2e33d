-- The breaches of the rules 1 to 15 that the pieces of a stream tell are those that the verifier's rules define, each as often as it comes.
use Rattle.std.proofs.Common.{◌≡◌, ℕ, ◌+◌, ◌*◌, Bool, true, false, List, [], ◌∷◌, ◌++◌, length, map, Option, Some, None, refl, sym, ap, subst, ◌∙◌, arith}
use Rattle.std.specs.Prelude.{count_by}
use Rattle.std.proofs.lemmas.List.{length-map}
use Rattle.std.proofs.lemmas.List.Sums.{sum_by-cons}
use Rattle.m2v_model.specs.declared.state.Sequence.{Sequence}
use Rattle.m2v_model.specs.Pictures.{Events, pictures_in}
use Rattle.m2v_model.specs.Pieces.{zeros_last, pieces}
use Rattle.m2v_model.specs.PieceNotes.{notes_of, header_pair}
use Rattle.m2v_model.specs.Lawful.{Breach, Breaches, breaches, breaches_of, sequences_in}
use Rattle.m2v_model.specs.Buffering.{code_bits}
use Rattle.m2v_model.specs.Streams.{Sofar}
use Rattle.m2v_model.specs.Decoding.{Stream, events, low_delay_of}
use Rattle.m2v_model.specs.ByPieces.{Between, at_start}
use Rattle.m2v_audit.specs.m2v_check.Laws.{Alternates}
use Rattle.m2v_audit.proofs.m2v_check.Telling.{first_in}
use Rattle.m2v_audit.specs.declared.records.Finding.{Finding}
use Rattle.m2v_audit.specs.declared.auditing.Auditing.{Auditing}
use Rattle.m2v_audit.specs.declared.report.Rate.{Rate}
use Rattle.m2v_audit.specs.Auditing.{nothing, leading, with_headers, with_display, begun, longer}
use Rattle.m2v_audit.specs.Front.{front_of}
use Rattle.m2v_audit.specs.Others.{others_of, display_of}
use Rattle.m2v_audit.specs.Places.{told_at_close}
use Rattle.m2v_audit.specs.declared.asked.Asked.{Asked}
use Rattle.m2v_law_audit.specs.Sequences.{first_byte}
use Rattle.m2v_law_audit.specs.Breaches.{AreSame, as_judged}
use Rattle.m2v_law_audit.specs.Found.{found_misplaced, last_found, headers_found, display_found, others_found, piece_found, end_found_by, end_found, all_along, all_found, findings_of, judged_in}
use Rattle.m2v_law_audit.proofs.BreachCounts.{many, place_breaches}
use Rattle.m2v_law_audit.proofs.BreachJudged.{judged, judged-append, judged_places}
use Rattle.m2v_law_audit.proofs.BreachStricter.{last_stricter}
use Rattle.m2v_law_audit.proofs.BreachOthers.{display_stricter, others_stricter}
use Rattle.m2v_law_audit.proofs.BreachEvents.{Kept, Marked, plain, marked, at_first, told, as_many_told}
use Rattle.m2v_law_audit.proofs.BreachPieces.{beside, kept, same_left, told_beside, told_before, kept_behind, told-append, plain-append, plain_marked, Follows, follows}
use Rattle.m2v_law_audit.proofs.EventsFront.{Fronts, all_go_on}
use Rattle.m2v_law_audit.proofs.EventsPieces.{BeginWith, text_begins}
use Rattle.m2v_law_audit.proofs.AccountReading.{Turn, Turns, in_pieces, begun_at, behind_piece, one_piece, first_header, header_stays, first_begun}
use Rattle.m2v_law_audit.proofs.PartsKept.{headers_leave, kept_after}

-- ---- one piece

-- the bit where the start code of its picture ends
abbrev pub end_in : ℕ → List ℕ → ℕ
end_in place p = 8 * place + code_bits p

piece_follows : (a : Auditing) (place : ℕ) (p : List ℕ) (es : Events) → Fronts (front_of place p) es → Follows a (map header_pair (sequences_in es)) 0 (front_of place p) (end_in place p) es
piece_follows a place p es f = follows (front_of place p) es a (map header_pair (sequences_in es)) 0 (end_in place p) f (all_go_on (map header_pair (sequences_in es)))

piece_judged : (a : Auditing) (place : ℕ) (p : List ℕ) (es : Events) → Fronts (front_of place p) es
    → judged (piece_found a place p (notes_of place p es)) ≡ told_before (kept (begun_at a place p es)) (marked (end_in place p) es)
unfolding notes_of
piece_judged a place p es f =
    let b = begun_at a place p es in
    let n = notes_of place p es in
    let os = others_of place p in
    let headed = with_headers b n.sequences 0 (front_of place p) in
    let front = with_display place os headed in
    told_beside (headers_found b n.sequences 0 (front_of place p)) (display_found place os headed)
    (others_found front.report.sequence front.pictures os) headed front front.sequence n.picture refl
    (display_stricter headed.report.sequence headed.pictures (8 * place) headed.headed headed.display (display_of os))
    (others_stricter front.report.sequence front.pictures os)
    ∙ (piece_follows b place p es f).says

piece_kept : (a : Auditing) (place : ℕ) (p : List ℕ) (es : Events) → Fronts (front_of place p) es
    → kept (behind_piece a place p es) ≡ kept_behind (kept (begun_at a place p es)) (marked (end_in place p) es)
unfolding notes_of
piece_kept a place p es f =
    headers_leave kept (λ a r d last x. refl) same_left a place p (notes_of place p es)
    ∙ (piece_follows (begun_at a place p es) place p es f).leaves place (length p) (zeros_last p)

-- the first sequence header stays
pub piece_first : (a : Auditing) (place : ℕ) (p : List ℕ) (es : Events) → (behind_piece a place p es).first ≡ (begun_at a place p es).first
piece_first a place p es = ap (λ (x : Option Sequence × Rate). x.0) (kept_after a place p (notes_of place p es))

-- ---- pieces

-- what pieces tell, as told of events that are these
record ToldAs (fs : List Finding) (k : Kept) (es : Events) : Type 0 where
  marks : Marked
  are : plain marks ≡ es
  says : judged fs ≡ told k marks

-- the end of a sequence that began
end_told : (a : Auditing) (first : Sequence) → a.first ≡ Some first → ToldAs (end_found a) (kept a) []
unfolding told
end_told a first e =
    let n = a.report.sequence in
    let waits = told_at_close a.places in
    record {
      marks = [];
      are = refl;
      says =
          ap (λ (o : Option Sequence). judged (end_found_by o a)) e
          ∙ beside (found_misplaced n waits) (last_found n (leading a) a.pictures a.last) (place_breaches waits) (judged_places n waits)
          (last_stricter n (leading a) a.pictures a.last);
    }

-- a piece, and those behind it
piece_told : (a : Auditing) (b : Between) (at : ℕ) (p : List ℕ) (ps : List (List ℕ)) (es : Events) (k : Kept) → (u : Turn b p ps es) → kept (begun_at a at p u.own) ≡ k
    → ((c : Auditing) → c.first ≡ (begun_at a at p u.own).first → ToldAs (all_found c u.next (at + length p) ps) (kept c) u.rest)
    → ToldAs (all_found a b at (p ∷ ps)) k es
piece_told a b at p ps es k u begins_so later =
    let c = behind_piece a at p u.own in
    let more = later c (piece_first a at p u.own) in
    let xs = marked (end_in at p) u.own in
    let front = u.fronts at in
    record {
      marks = xs ++ more.marks;
      are = plain-append xs more.marks ∙ (λ i. plain_marked (end_in at p) u.own i ++ more.are i) ∙ sym u.are;
      says =
          ap judged (one_piece piece_found end_found a b at p ps es u)
          ∙ judged-append (piece_found a at p (notes_of at p u.own)) (all_found c u.next (at + length p) ps)
          ∙ (λ i. piece_judged a at p u.own front i ++ more.says i)
          ∙ ap (λ (x : Kept). told_before (kept (begun_at a at p u.own)) xs ++ told x more.marks) (piece_kept a at p u.own front)
          ∙ sym (told-append (kept (begun_at a at p u.own)) xs more.marks)
          ∙ ap (λ (x : Kept). told x (xs ++ more.marks)) begins_so;
    }

-- behind the first piece
later_told : (ps : List (List ℕ)) (a : Auditing) (b : Between) (at : ℕ) (es : Events) (x : Sequence) → a.first ≡ Some x → Turns b ps es → ToldAs (all_found a b at ps) (kept a) es
unfolding all_along
later_told [] a b at es x e turns = subst (ToldAs (all_found a b at []) (kept a)) (sym turns) (end_told a x e)
later_told (p ∷ ps) a b at es x e turns =
    let u = turns.0 in
    let begins_so : begun_at a at p u.own ≡ longer (length p) a = ap (λ (o : Option Sequence). begun o (longer (length p) a) at (notes_of at p u.own)) e in
    piece_told a b at p ps es (kept a) u (ap kept begins_so) (λ c first. later_told ps c u.next (at + length p) u.rest x (first ∙ ap (λ (y : Auditing). y.first) begins_so ∙ e) turns.1)

-- all pieces, of which the first begins with a sequence header
first_told : (ps : List (List ℕ)) (number start : ℕ) (asked : Asked) (low : Bool) (at : ℕ) (es : Events)
    → BeginWith 0xB3 ps → Turns at_start ps es → low ≡ low_delay_of (first_in None es)
    → ToldAs (all_found (nothing number asked start) at_start at ps) (at_first low) es
unfolding told all_along place_breaches
first_told [] number start asked low at es begins turns e =
    subst (ToldAs (all_found (nothing number asked start) at_start at []) (at_first low)) (sym turns)
    (record { marks = []; are = refl; says = refl })
first_told (p ∷ ps) number start asked low at es begins turns e =
    let a = nothing number asked start in
    let u = turns.0 in
    let h = first_header at p u.own begins (u.fronts at) in
    let is = first_begun a at p u.own refl h in
    let first : low ≡ (h.header).extension.low_delay = e ∙ ap low_delay_of (header_stays u.own u.rest es u.are h) in
    let begins_so : kept (begun_at a at p u.own) ≡ at_first low = ap kept is ∙ ap at_first (sym first) in
    piece_told a at_start at p ps es (at_first low) u begins_so (λ c same. later_told ps c u.next (at + length p) u.rest h.header (same ∙ ap (λ (x : Auditing). x.first) is) turns.1)

-- ---- the law

text_told : (text : List ℕ) (tree : Sofar) → Stream text tree → (asked : Asked) (number start : ℕ)
    → ToldAs (findings_of asked number start text) (at_first (low_delay_of tree.state.first)) (events tree)
text_told text tree s asked number start =
    let r = in_pieces text tree s in
    first_told (pieces text) number start asked (low_delay_of tree.state.first) (first_byte start text) (events tree) (text_begins text) r.turns (ap low_delay_of r.first)

-- The breaches of these rules that are told of a stream are those that it has, each as often as it comes.
pub all_told : (text : List ℕ) (tree : Sofar) → Stream text tree → (asked : Asked) (number start : ℕ)
    → AreSame (map as_judged (judged_in (findings_of asked number start text))) (breaches_of tree)
unfolding many
all_told text tree s asked number start asks =
    let t = text_told text tree s asked number start in
    let low = low_delay_of tree.state.first in
    let alternates : Alternates false (pictures_in (plain t.marks)) = subst (λ (es : Events). Alternates false (pictures_in es)) (sym t.are) (in_pieces text tree s).alternates in
    ap (many asks) t.says ∙ as_many_told asks low t.marks alternates ∙ ap (λ (es : Events). many asks (breaches low es)) t.are

-- a question that holds of all counts all
counts_all : (bs : Breaches) → count_by (λ (b : Breach). true) bs ≡ length bs
counts_all [] = refl
counts_all (b ∷ bs) = let more = counts_all bs in sum_by-cons (λ (x : Breach). 1) b bs ∙ omega (arith, more)

-- And as many are told as it has.
pub as_many : (text : List ℕ) (tree : Sofar) → Stream text tree → (asked : Asked) (number start : ℕ)
    → length (judged_in (findings_of asked number start text)) ≡ length (breaches_of tree)
as_many text tree s asked number start =
    let fs = judged_in (findings_of asked number start text) in
    sym (length-map fs as_judged) ∙ sym (counts_all (map as_judged fs)) ∙ all_told text tree s asked number start (λ (b : Breach). true) ∙ counts_all (breaches_of tree)
