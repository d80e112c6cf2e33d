-- What the pieces of a sequence tell of its rules is what is told of their events.
use Rattle.std.proofs.Common.{◌≡◌, ℕ, ◌+◌, Bool, true, false, List, [], ◌∷◌, ◌++◌, map, Option, Some, None, refl, sym, ap, subst, ◌∙◌, append_assoc, inl, inr, arith}
use Rattle.std.specs.Prelude.{slice_get, if◌then◌else◌}
use Rattle.std.proofs.lemmas.Bool.{cases_Bool}
use Rattle.std.proofs.lemmas.List.{append-nil}
use Rattle.m2v_model.specs.m2v_macroblock.m2v_head.declared.group.GroupInfo.{GroupInfo}
use Rattle.m2v_model.specs.declared.state.Sequence.{Sequence}
use Rattle.m2v_model.specs.declared.notes.PictureNote.{PictureNote}
use Rattle.m2v_model.specs.States.{first_or, is_b}
use Rattle.m2v_model.specs.Pictures.{Event, Events, sequence_header, group_header, coded_picture, pictures_in}
use Rattle.m2v_model.specs.PieceNotes.{note_of, first_note, header_pair}
use Rattle.m2v_model.specs.Lawful.{Breaches, sequences_in, sequence_breaches}
use Rattle.m2v_audit.specs.m2v_check.declared.coded.CodedPicture.{CodedPicture}
use Rattle.m2v_audit.specs.m2v_check.Breaking.{numbered_of}
use Rattle.m2v_audit.specs.m2v_check.Running.{ends_frame}
use Rattle.m2v_audit.specs.declared.headers.PieceHeader.{PieceHeader}
use Rattle.m2v_audit.specs.declared.headers.PieceHeader.TheVariants as headers
use Rattle.m2v_audit.specs.declared.records.Finding.{Finding}
use Rattle.m2v_audit.specs.declared.auditing.Auditing.{Auditing}
use Rattle.m2v_audit.specs.Auditing.{leading, behind, coded, preceding, counted, with_sequence, with_group, with_header, sequences_of, with_headers, with_note as noted_with, with_coded as coded_with}
use Rattle.m2v_audit.specs.HeaderRecords.{bit_of, waiting_of}
use Rattle.m2v_audit.specs.Places.{told_with_frame, told_at_close}
use Rattle.m2v_law_audit.specs.Breaches.{as_judged}
use Rattle.m2v_law_audit.specs.Found.{judged_in, found_at, found_misplaced, sequence_found, group_found, picture_found, header_found, headers_found, rules_of, places_found, coded_found, note_found}
use Rattle.m2v_law_audit.proofs.BreachCounts.{place_breaches, other_rules}
use Rattle.m2v_law_audit.proofs.BreachJudged.{judged, judged-append, judged_as, judged_places, header_of, others_of}
use Rattle.m2v_law_audit.proofs.BreachStricter.{sequence_stricter, group_stricter, picture_stricter}
use Rattle.m2v_law_audit.proofs.BreachEvents.{Kept, Marked, plain, marked, with_coded, with_note, with_event, coded_told, note_told, event_told, told}
use Rattle.m2v_law_audit.proofs.EventsFront.{Pair, Fronts, GoesOn, first_of_rest, go_on_behind}

-- what is kept for the rules
abbrev pub kept : Auditing → Kept
kept a = record { sequence = a.sequence; first_in_group = a.first_in_group; pictures = a.pictures; constant = a.constant; places = a.places }

-- what the stricter rules find is none of the verifier's
pub beside : (fs gs : List Finding) (bs : Breaches) → judged fs ≡ bs → judged_in gs ≡ [] → judged (fs ++ gs) ≡ bs
beside fs gs bs e f = judged-append fs gs ∙ (λ i. e i ++ map as_judged (f i)) ∙ append-nil bs

-- ---- events, and others behind them

-- what is told of events before their end, and what is kept behind them
abbrev pub told_before : Kept → Marked → Breaches
told_before k [] = []
told_before k (x ∷ xs) = event_told k x ++ told_before (with_event k x) xs

abbrev pub kept_behind : Kept → Marked → Kept
kept_behind k [] = k
kept_behind k (x ∷ xs) = kept_behind (with_event k x) xs

pub told-append : (k : Kept) (xs ys : Marked) → told k (xs ++ ys) ≡ told_before k xs ++ told (kept_behind k xs) ys
unfolding told
told-append k [] ys = refl
told-append k (x ∷ xs) ys =
    let rest = told_before (with_event k x) xs in
    ap (λ (bs : Breaches). event_told k x ++ bs) (told-append (with_event k x) xs ys) ∙ sym (append_assoc (event_told k x) rest (told (kept_behind (with_event k x) xs) ys))

pub plain-append : (xs ys : Marked) → plain (xs ++ ys) ≡ plain xs ++ plain ys
plain-append [] ys = refl
plain-append (x ∷ xs) ys = ap (λ (es : Events). x.1 ∷ es) (plain-append xs ys)

pub plain_marked : (end : ℕ) (es : Events) → plain (marked end es) ≡ es
plain_marked end [] = refl
plain_marked end (e ∷ es) = ap (λ (fs : Events). e ∷ fs) (plain_marked end es)

-- ---- a picture

judged_if : (b : Bool) (fs : List Finding) (bs : Breaches) → judged fs ≡ bs → judged (if b then fs else []) ≡ (if b then bs else [])
judged_if true fs bs e = e
judged_if false fs bs e = refl

coded_judged : (a : Auditing) (p : CodedPicture) → p.number ≡ a.pictures → judged (coded_found a p) ≡ coded_told (kept a) p
unfolding other_rules
coded_judged a p e =
    let c = (counted a p).constant in
    let rules = found_at a.report.sequence p.number (bit_of p.note) (rules_of c p) in
    let stricter = picture_found a.report.sequence a.rules (preceding a p.sequence) c a.runs p in
    let misplaced = told_with_frame a.places (waiting_of p) (is_b p.note.info.kind) in
    let as_told : judged (rules ++ stricter) ≡ rules_of c p =
    beside rules stricter (rules_of c p) (judged_as a.report.sequence p.number (bit_of p.note) (rules_of c p) (others_of c (numbered_of p)))
    (picture_stricter a.report.sequence a.rules (preceding a p.sequence) c a.runs p) in
    judged-append (rules ++ stricter) (places_found a.report.sequence a.places p)
    ∙ (λ i. as_told i
    ++ judged_if (ends_frame p.note) (found_misplaced a.report.sequence misplaced) (place_breaches misplaced) (judged_places a.report.sequence misplaced) i)

note_judged : (a : Auditing) (o : Option Sequence) (n : PictureNote) → judged (note_found a o (Some n)) ≡ note_told (kept a) o n
note_judged a None n = refl
note_judged a (Some s) n = coded_judged a (coded a s n) refl

coded_kept : (a : Auditing) (p : CodedPicture) (place bytes ending : ℕ) → p.number ≡ a.pictures → kept (coded_with a p place bytes ending) ≡ with_coded (kept a) p
coded_kept a p place bytes ending e = elim (cases_Bool (ends_frame p.note)) [
  | inl on ↦ rw on refl
  | inr off ↦ rw off refl
]

note_kept : (a : Auditing) (o : Option Sequence) (n : PictureNote) (place bytes ending : ℕ) → kept (noted_with a o (Some n) place bytes ending) ≡ with_note (kept a) o n
note_kept a None n place bytes ending = refl
note_kept a (Some s) n place bytes ending = coded_kept a (coded a s n) place bytes ending refl

-- ---- headers

header_judged : (a : Auditing) (bit : ℕ) (s : Sequence) →
    let n = a.report.sequence in
    let bs = sequence_breaches (s ∷ []) in
    judged (found_at n a.pictures bit bs ++ sequence_found n a.rules a.like (leading a) a.pictures bit (first_or a.first s) s) ≡ bs
header_judged a bit s =
    let n = a.report.sequence in
    let bs = sequence_breaches (s ∷ []) in
    beside (found_at n a.pictures bit bs) (sequence_found n a.rules a.like (leading a) a.pictures bit (first_or a.first s) s) bs
    (judged_as n a.pictures bit bs (header_of a.pictures s)) (sequence_stricter n a.rules a.like (leading a) a.pictures bit (first_or a.first s) s)

group_judged : (a : Auditing) (bit : ℕ) (g : GroupInfo) →
    let n = a.report.sequence in
    let ms = told_at_close a.places in
    judged (found_misplaced n ms ++ group_found n a.rules (behind a) a.pictures bit a.sequence g) ≡ place_breaches ms
group_judged a bit g =
    let n = a.report.sequence in
    let ms = told_at_close a.places in
    beside (found_misplaced n ms) (group_found n a.rules (behind a) a.pictures bit a.sequence g) (place_breaches ms)
    (judged_places n ms) (group_stricter n a.rules (behind a) a.pictures bit a.sequence g)

-- ---- headers, and then a picture

-- what headers and a picture tell, and what they leave
abbrev pub found_in : Auditing → List Pair → ℕ → List PieceHeader → Option PictureNote → List Finding
found_in a ss k hs n = let front = with_headers a ss k hs in headers_found a ss k hs ++ note_found front front.sequence n

abbrev pub left_by : Auditing → List Pair → ℕ → List PieceHeader → Option PictureNote → ℕ → ℕ → ℕ → Auditing
left_by a ss k hs n place bytes ending = let front = with_headers a ss k hs in noted_with front front.sequence n place bytes ending

pub record Follows (a : Auditing) (ss : List Pair) (k : ℕ) (hs : List PieceHeader) (end : ℕ) (es : Events) : Type 0 where
  pub says : judged (found_in a ss k hs (first_note end (pictures_in es))) ≡ told_before (kept a) (marked end es)
  pub leaves : (place bytes ending : ℕ) → kept (left_by a ss k hs (first_note end (pictures_in es)) place bytes ending) ≡ kept_behind (kept a) (marked end es)

-- one header, and then others
abbrev pub found_by : Auditing → PieceHeader → Option Pair → List Pair → ℕ → List PieceHeader → Option PictureNote → List Finding
found_by a h s ss k hs n = header_found a h s ++ found_in (with_header a h s) ss k hs n

pub header_first : (a : Auditing) (h : PieceHeader) (s : Option Pair) (ss : List Pair) (k : ℕ) (hs : List PieceHeader) (n : Option PictureNote) → slice_get ss k ≡ s
    → found_in a ss k (h ∷ hs) n ≡ found_by a h s ss (k + sequences_of h) hs n
unfolding headers_found with_headers
header_first a h s ss k hs n e =
    let b = with_header a h (slice_get ss k) in
    let front = with_headers b ss (k + sequences_of h) hs in
    append_assoc (header_found a h (slice_get ss k)) (headers_found b ss (k + sequences_of h) hs) (note_found front front.sequence n)
    ∙ ap (λ (o : Option Pair). found_by a h o ss (k + sequences_of h) hs n) e

pub header_left : (a : Auditing) (h : PieceHeader) (s : Option Pair) (ss : List Pair) (k : ℕ) (hs : List PieceHeader) (n : Option PictureNote) (place bytes ending : ℕ) → slice_get ss k ≡ s
    → left_by a ss k (h ∷ hs) n place bytes ending ≡ left_by (with_header a h s) ss (k + sequences_of h) hs n place bytes ending
unfolding with_headers
header_left a h s ss k hs n place bytes ending e = ap (λ (o : Option Pair). left_by (with_header a h o) ss (k + sequences_of h) hs n place bytes ending) e

header_more : (a b : Auditing) (h : PieceHeader) (s : Option Pair) (e : Event) (ss : List Pair) (k : ℕ) (hs : List PieceHeader) (end : ℕ) (es : Events) → slice_get ss k ≡ s → with_header a h s ≡ b → kept b ≡ with_event (kept a) (end, e)
    → judged (header_found a h s) ≡ event_told (kept a) (end, e) → first_note end (pictures_in (e ∷ es)) ≡ first_note end (pictures_in es) → Follows b ss (k + sequences_of h) hs end es → Follows a ss k (h ∷ hs) end (e ∷ es)
header_more a b h s e ss k hs end es get is next here note f =
    let n = first_note end (pictures_in es) in
    let m = k + sequences_of h in
    record {
      says =
          ap (λ (o : Option PictureNote). judged (found_in a ss k (h ∷ hs) o)) note
          ∙ ap judged (header_first a h s ss k hs n get)
          ∙ judged-append (header_found a h s) (found_in (with_header a h s) ss m hs n)
          ∙ (λ i. here i ++ judged (found_in (is i) ss m hs n))
          ∙ ap (λ (bs : Breaches). event_told (kept a) (end, e) ++ bs) (f.says ∙ ap (λ (x : Kept). told_before x (marked end es)) next);
      leaves = λ place bytes ending.
          ap (λ (o : Option PictureNote). kept (left_by a ss k (h ∷ hs) o place bytes ending)) note
          ∙ ap kept (header_left a h s ss k hs n place bytes ending get)
          ∙ ap (λ (x : Auditing). kept (left_by x ss m hs n place bytes ending)) is
          ∙ f.leaves place bytes ending ∙ ap (λ (x : Kept). kept_behind x (marked end es)) next;
    }

pub follows : (hs : List PieceHeader) (es : Events) (a : Auditing) (ss : List Pair) (k end : ℕ) → Fronts hs es → GoesOn ss k (map header_pair (sequences_in es)) → Follows a ss k hs end es
unfolding headers_found with_headers with_header sequences_of
follows [] [] a ss k end f g = record { says = refl; leaves = λ place bytes ending. refl }
follows [] (sequence_header s ∷ es) a ss k end f g = absurd f
follows [] (group_header x ∷ es) a ss k end f g = absurd f
follows [] (coded_picture p ∷ es) a ss k end f g =
    subst (λ (l : Events). Follows a ss k [] end (coded_picture p ∷ l)) (sym f) (record {
      says = note_judged a a.sequence (note_of end p) ∙ sym (append-nil (note_told (kept a) a.sequence (note_of end p)));
      leaves = λ place bytes ending. note_kept a a.sequence (note_of end p) place bytes ending;
    })
follows (headers.Sequence bit ∷ hs) [] a ss k end f g = absurd f
follows (headers.Sequence bit ∷ hs) (sequence_header s ∷ es) a ss k end f g =
    let later = map header_pair (sequences_in es) in
    header_more a (with_sequence a bit s) (headers.Sequence bit) (Some (header_pair s)) (sequence_header s) ss k hs end es (first_of_rest ss k (header_pair s) later g) refl refl
    (header_judged a bit s) refl (follows hs es (with_sequence a bit s) ss (k + 1) end f (go_on_behind ss k (header_pair s) later g))
follows (headers.Sequence bit ∷ hs) (group_header x ∷ es) a ss k end f g = absurd f
follows (headers.Sequence bit ∷ hs) (coded_picture p ∷ es) a ss k end f g = absurd f
follows (headers.Group bit x ∷ hs) [] a ss k end f g = absurd f
follows (headers.Group bit x ∷ hs) (sequence_header s ∷ es) a ss k end f g = absurd f
follows (headers.Group bit x ∷ hs) (group_header y ∷ es) a ss k end f g =
    header_more a (with_group a bit x) (headers.Group bit x) (slice_get ss k) (group_header y) ss k hs end es refl refl refl
    (group_judged a bit x) refl
    (follows hs es (with_group a bit x) ss (k + 0) end f.1
    (subst (λ (n : ℕ). GoesOn ss n (map header_pair (sequences_in es))) (omega arith) g))
follows (headers.Group bit x ∷ hs) (coded_picture p ∷ es) a ss k end f g = absurd f

-- ---- what else stands before the first slice

-- what a picture tells and leaves hangs on no more than what is kept for the rules
same_told : (a b : Auditing) (o : Option Sequence) (n : Option PictureNote) → kept a ≡ kept b → judged (note_found a o n) ≡ judged (note_found b o n)
same_told a b o None e = refl
same_told a b o (Some n) e = note_judged a o n ∙ ap (λ (x : Kept). note_told x o n) e ∙ sym (note_judged b o n)

pub same_left : (a b : Auditing) (o : Option Sequence) (n : Option PictureNote) (place bytes ending : ℕ) → kept a ≡ kept b
    → kept (noted_with a o n place bytes ending) ≡ kept (noted_with b o n place bytes ending)
same_left a b o None place bytes ending e = e
same_left a b o (Some n) place bytes ending e =
    note_kept a o n place bytes ending ∙ ap (λ (x : Kept). with_note x o n) e ∙ sym (note_kept b o n place bytes ending)

-- more findings between those of headers and those of a picture, and behind them, none of them the verifier's
pub told_beside : (hs ds os : List Finding) (a b : Auditing) (o : Option Sequence) (n : Option PictureNote) → kept b ≡ kept a → judged_in ds ≡ [] → judged_in os ≡ []
    → judged (((hs ++ ds) ++ note_found b o n) ++ os) ≡ judged (hs ++ note_found a o n)
told_beside hs ds os a b o n e d q =
    beside ((hs ++ ds) ++ note_found b o n) os (judged (hs ++ note_found a o n))
    (judged-append (hs ++ ds) (note_found b o n)
    ∙ (λ i. beside hs ds (judged hs) refl d i ++ same_told b a o n e i)
    ∙ sym (judged-append hs (note_found a o n))) q
