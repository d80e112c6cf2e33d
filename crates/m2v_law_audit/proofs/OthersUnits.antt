-- Units that say nothing else before a first slice: of pieces of such units nothing is found of what else stands there.
use Rattle.std.proofs.Common.{◌≡◌, ℕ, ◌+◌, ◌*◌, Bool, true, false, List, [], ◌∷◌, ◌++◌, length, Option, Some, None, Ok, Err, refl, sym, ap, subst, ◌∙◌}
use Rattle.std.specs.Prelude.{nat_eq, if◌then◌else◌}
use Rattle.std.specs.List.{AllByRecursion}
use Rattle.std.proofs.ByRecursion.{All-append}
use Rattle.m2v_model.specs.Units.{Units, cut}
use Rattle.m2v_model.specs.PieceNotes.{PieceNotes, notes_of}
use Rattle.m2v_model.specs.Streams.{value_of}
use Rattle.m2v_model.specs.ByPieces.{Between, Course, piece_read}
use Rattle.m2v_audit.specs.m2v_strict.declared.display.Display.{Display}
use Rattle.m2v_audit.specs.m2v_strict.OtherRules.{extra_rule, beside_first, display_rule}
use Rattle.m2v_audit.specs.declared.auditing.Auditing.{Auditing}
use Rattle.m2v_audit.specs.declared.others.Other.{Other}
use Rattle.m2v_audit.specs.declared.others.Other.TheVariants as others
use Rattle.m2v_audit.specs.Auditing.{with_headers, with_display, begun, longer, after_piece, cleared}
use Rattle.m2v_audit.specs.Front.{front_of}
use Rattle.m2v_audit.specs.Others.{other_at, is_slice, others_from, others_of, display_of, own_remarks, own_bit, display_remarks, headed_remarks, first_display, display_behind}
use Rattle.m2v_audit.proofs.Counted.{headed_stays, shown_stays}
use Rattle.m2v_law_audit.specs.Found.{remarks_found, display_found, others_found, along, all_along}
use Rattle.m2v_law_audit.proofs.CleanOthers.{piece_others, all_others}

-- ---- units

-- of a picture header no extra information is said; and nothing of displays and matrices
abbrev pub IsSilentOther : Other → Type 0
IsSilentOther (others.Display d) = ⊥
IsSilentOther (others.Picture bit extra) = extra ≡ false
IsSilentOther (others.Matrices bit m) = ⊥

abbrev pub AreSilent : List Other → Type 0
AreSilent os = AllByRecursion IsSilentOther os

-- so of a unit, wherever it begins
pub record IsSilent (u : List ℕ) : Type 0 where
  pub each : (bit : ℕ) → AreSilent (other_at bit u)

-- a unit that is neither a picture header nor an extension says nothing
pub silent_plain : (u : List ℕ) → nat_eq (value_of u) 0x00 ≡ false → nat_eq (value_of u) 0xB5 ≡ false → IsSilent u
unfolding other_at
silent_plain u p e = record { each = λ bit. rw (p, e) tt }

up_to_slice : (slice : Bool) (os : List Other) → AreSilent os → AreSilent (if slice then [] else os)
up_to_slice true os h = tt
up_to_slice false os h = h

units_silent : (bit : ℕ) (us : Units) → AllByRecursion IsSilent us → AreSilent (others_from bit us)
unfolding others_from
units_silent bit [] h = tt
units_silent bit (u ∷ us) h =
    up_to_slice (is_slice (value_of u)) _
    (All-append IsSilentOther (other_at bit u) (others_from (bit + 8 * length u) us) (h.0.each bit) (units_silent (bit + 8 * length u) us h.1))

-- ---- what is found of them

nothing_found : (n picture bit : ℕ) → remarks_found n picture bit [] ≡ []
unfolding remarks_found
nothing_found n picture bit = refl

own_none : (o : Other) → IsSilentOther o → own_remarks o ≡ []
unfolding own_remarks extra_rule
own_none (others.Display d) e = absurd e
own_none (others.Picture bit extra) e = ap extra_rule e
own_none (others.Matrices bit m) e = absurd e

none_found : (n picture : ℕ) (os : List Other) → AreSilent os → others_found n picture os ≡ []
none_found n picture [] h = refl
none_found n picture (o ∷ os) h =
    let own : remarks_found n picture (own_bit o) (own_remarks o) ≡ [] =
    ap (remarks_found n picture (own_bit o)) (own_none o h.0) ∙ nothing_found n picture (own_bit o) in
    (λ i. own i ++ none_found n picture os h.1 i)

none_shown : (os : List Other) → AreSilent os → display_of os ≡ None
unfolding display_of
none_shown [] h = refl
none_shown (others.Display d ∷ os) h = absurd h.0
none_shown (others.Picture bit extra ∷ os) h = none_shown os h.1
none_shown (others.Matrices bit m ∷ os) h = absurd h.0

-- the first sequence header has no sequence display extension, where one came
abbrev pub IsNone : Option (Option Display) → Type 0
IsNone None = Unit {0}
IsNone (Some None) = Unit {0}
IsNone (Some (Some d)) = ⊥

headed_none : (headed : Bool) (first : Option (Option Display)) → IsNone first → headed_remarks headed first None ≡ []
unfolding display_remarks display_rule beside_first
headed_none true None h = refl
headed_none true (Some None) h = refl
headed_none true (Some (Some d)) h = absurd h
headed_none false first h = refl

none_behind : (headed : Bool) (first : Option (Option Display)) → IsNone first → IsNone (display_behind headed first None)
unfolding first_display
none_behind true None h = tt
none_behind true (Some None) h = tt
none_behind true (Some (Some d)) h = absurd h
none_behind false first h = h

-- ---- pieces

-- each unit of a piece says nothing else
abbrev pub SilentPiece : List ℕ → Type 0
SilentPiece p = AllByRecursion IsSilent (cut 0 p).1

record Passed (a : Auditing) (place : ℕ) (p : List ℕ) (notes : PieceNotes) : Type 0 where
  none : piece_others a place p notes ≡ []
  next : IsNone (cleared (after_piece a place p notes)).display

passed : (a : Auditing) (place : ℕ) (p : List ℕ) (notes : PieceNotes) → IsNone a.display → SilentPiece p → Passed a place p notes
unfolding after_piece
passed a place p notes d silent =
    let b : Auditing = longer (length p) a in
    let os : List Other = others_of place p in
    let headed : Auditing = with_headers (begun b.first b place notes) notes.sequences 0 (front_of place p) in
    let front : Auditing = with_display place os headed in
    let are : AreSilent os = units_silent (8 * place) (cut 0 p).1 silent in
    let shown : display_of os ≡ None = none_shown os are in
    let kept : IsNone headed.display =
    subst IsNone (sym (headed_stays b place p notes).display) d in
    let first : display_found place os headed ≡ [] =
    ap (λ (x : Option Display). remarks_found headed.report.sequence headed.pictures (8 * place) (headed_remarks headed.headed headed.display x)) shown
    ∙ ap (remarks_found headed.report.sequence headed.pictures (8 * place)) (headed_none headed.headed headed.display kept)
    ∙ nothing_found headed.report.sequence headed.pictures (8 * place) in
    let later : others_found front.report.sequence front.pictures os ≡ [] = none_found front.report.sequence front.pictures os are in
    let stays : IsNone front.display =
    subst (λ (x : Option Display). IsNone (display_behind headed.headed headed.display x)) (sym shown) (none_behind headed.headed headed.display kept) in
    record {
      none = (λ i. first i ++ later i);
      next = subst IsNone (sym (shown_stays front place p notes os).display) stays;
    }

-- nothing is found from here on
abbrev Onward : ℕ → List (List ℕ) → Type 0
Onward at ps = (a : Auditing) (b : Between) → IsNone a.display → all_others a b at ps ≡ []

one_on : (a : Auditing) (at : ℕ) (p : List ℕ) (ps : List (List ℕ)) (read : Course) → IsNone a.display → SilentPiece p → Onward (at + length p) ps
    → along piece_others (λ x. []) a at p read (λ a' b'. all_others a' b' (at + length p) ps) ≡ []
one_on a at p ps (Ok read) d silent rest =
    let notes = notes_of at p read.0 in
    let here = passed a at p notes d silent in
    (λ i. here.none i ++ rest (cleared (after_piece a at p notes)) read.1 here.next i)
one_on a at p ps (Err f) d silent rest = refl

-- Of pieces whose units say nothing else nothing is found.
pub all_silent : (ps : List (List ℕ)) (at : ℕ) → AllByRecursion SilentPiece ps → Onward at ps
unfolding all_along
all_silent [] at h a b d = refl
all_silent (p ∷ ps) at h a b d = one_on a at p ps (piece_read b (at + length p) p) d h.0 (all_silent ps (at + length p) h.1)
