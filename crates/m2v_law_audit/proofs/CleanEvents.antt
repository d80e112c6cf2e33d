-- What the headers and the picture of a piece tell, by what the stricter rules remark of its events: breaches of rules that may be broken.
use Rattle.std.proofs.Common.{◌≡◌, ℕ, ◌+◌, Bool, true, false, List, [], ◌∷◌, ◌++◌, map, Option, Some, None, inl, inr, refl, sym, ap, subst, ◌∙◌, arith}
use Rattle.std.specs.Prelude.{nat_le, slice_get}
use Rattle.std.proofs.lemmas.Bool.{cases_Bool}
use Rattle.m2v_model.specs.m2v_macroblock.m2v_head.declared.group.GroupInfo.{GroupInfo}
use Rattle.m2v_model.specs.declared.state.Sequence.{Sequence}
use Rattle.m2v_model.specs.declared.notes.PictureNote.{PictureNote}
use Rattle.m2v_model.specs.States.{first_or, is_b}
use Rattle.m2v_model.specs.Pictures.{Event, Events, sequence_header, group_header, coded_picture, pictures_in}
use Rattle.m2v_model.specs.PieceNotes.{note_of, first_note, header_pair}
use Rattle.m2v_model.specs.Lawful.{sequences_in, sequence_breaches}
use Rattle.m2v_audit.specs.m2v_check.declared.coded.CodedPicture.{CodedPicture}
use Rattle.m2v_audit.specs.m2v_check.Breaking.{numbered_of}
use Rattle.m2v_audit.specs.m2v_check.Running.{ends_frame}
use Rattle.m2v_audit.specs.m2v_strict.declared.leading.Leading.{Leading}
use Rattle.m2v_audit.specs.m2v_strict.declared.rule_set.RuleSet.{RuleSet}
use Rattle.m2v_audit.specs.m2v_strict.declared.rule_set.RuleSet.TheVariants as sets
use Rattle.m2v_audit.specs.m2v_strict.ArrivalRules.{arrival_rule}
use Rattle.m2v_audit.specs.m2v_strict.OrderRules.{late_header_rule}
use Rattle.m2v_audit.specs.declared.headers.PieceHeader.{PieceHeader}
use Rattle.m2v_audit.specs.declared.headers.PieceHeader.TheVariants as headers
use Rattle.m2v_audit.specs.declared.auditing.Auditing.{Auditing}
use Rattle.m2v_audit.specs.declared.records.Finding.{Finding}
use Rattle.m2v_audit.specs.declared.remarks.Behind.{Behind}
use Rattle.m2v_audit.specs.Auditing.{with_note as noted_with, leading, behind, coded, preceding, counted, with_sequence, with_group, with_header, sequences_of, with_headers}
use Rattle.m2v_audit.specs.HeaderRecords.{bit_of, waiting_of}
use Rattle.m2v_audit.specs.Places.{told_with_frame, told_at_close}
use Rattle.m2v_law_audit.specs.Found.{found_at, found_misplaced, sequence_found, group_found, picture_found, header_found, headers_found, rules_of, coded_found, note_found, end_found, end_found_by}
use Rattle.m2v_law_audit.proofs.BreachCounts.{other_rules}
use Rattle.m2v_law_audit.proofs.BreachJudged.{header_of, others_of}
use Rattle.m2v_law_audit.proofs.BreachEvents.{Kept, Marked, at_first, coming, rate_behind, with_note, with_event, marked}
use Rattle.m2v_law_audit.proofs.BreachPieces.{kept, found_in, left_by, header_first, header_left}
use Rattle.m2v_law_audit.proofs.EventsFront.{Pair, Fronts, GoesOn, first_of_rest, go_on_behind}
use Rattle.m2v_law_audit.proofs.CleanRemarks.{MayBe, SequenceMayBe, GroupMayBe, PictureMayBe, AreOf, found_none, found_both, found_if, found_of_sequence, found_of_group, found_of_picture, found_of_end, found_judged, found_places}
use Rattle.m2v_law_audit.proofs.CleanArrivals.{arrivals_by, arrivals_in, arrivals_first}

-- ---- what came before an event

-- what is kept for the verifier's rules, and whether a sequence header stands behind the last picture
pub record Before : Type 0 where
  pub kept : Kept
  pub headed : Bool

-- a picture counts behind a sequence header
abbrev pub headed_by : Option Sequence → Bool → Bool
headed_by None headed = headed
headed_by (Some s) headed = false

abbrev pub before_with : Before → ℕ × Event → Before
before_with x (end, sequence_header s) = record { kept = with_event x.kept (end, sequence_header s); headed = true }
before_with x (end, group_header g) = record { kept = with_event x.kept (end, group_header g); headed = x.headed }
before_with x (end, coded_picture p) = record { kept = with_event x.kept (end, coded_picture p); headed = headed_by x.kept.sequence x.headed }

-- and before what stands behind events
abbrev pub before_behind : Before → Marked → Before
before_behind x [] = x
before_behind x (y ∷ ys) = before_behind (before_with x y) ys

-- nothing came yet
abbrev pub before_first : Bool → Before
before_first low = record { kept = at_first low; headed = false }

abbrev pub before : Auditing → Before
before a = record { kept = kept a; headed = a.headed }

-- which headers came since the last picture
abbrev pub leads_with : Before → Leading
leads_with x = record { sequence = x.headed; group = x.kept.first_in_group }

pub behind_both : (x : Before) (ys zs : Marked) → before_behind x (ys ++ zs) ≡ before_behind (before_behind x ys) zs
behind_both x [] zs = refl
behind_both x (y ∷ ys) zs = behind_both (before_with x y) ys zs

pub note_before : (a : Auditing) (o : Option Sequence) (n : PictureNote) (place bytes ending : ℕ)
    → before (noted_with a o (Some n) place bytes ending) ≡ record { kept = with_note (kept a) o n; headed = headed_by o a.headed }
note_before a None n place bytes ending = refl
note_before a (Some s) n place bytes ending = elim (cases_Bool (ends_frame n)) [ inl on ↦ rw on refl | inr off ↦ rw off refl ]

-- behind the headers and the picture of a piece that tells these events
pub front_before : (hs : List PieceHeader) (es : Events) (a : Auditing) (ss : List Pair) (k end place bytes ending : ℕ) → Fronts hs es
    → GoesOn ss k (map header_pair (sequences_in es))
    → before (left_by a ss k hs (first_note end (pictures_in es)) place bytes ending) ≡ before_behind (before a) (marked end es)
unfolding with_headers with_header sequences_of
front_before [] [] a ss k end place bytes ending f g = refl
front_before [] (sequence_header s ∷ es) a ss k end place bytes ending f g = absurd f
front_before [] (group_header x ∷ es) a ss k end place bytes ending f g = absurd f
front_before [] (coded_picture p ∷ es) a ss k end place bytes ending f g =
    note_before a a.sequence (note_of end p) place bytes ending
    ∙ ap (λ (l : Events). before_behind (before_with (before a) (end, coded_picture p)) (marked end l)) (sym f)
front_before (headers.Sequence bit ∷ hs) [] a ss k end place bytes ending f g = absurd f
front_before (headers.Sequence bit ∷ hs) (sequence_header s ∷ es) a ss k end place bytes ending f g =
    let later = map header_pair (sequences_in es) in
    ap before (header_left a (headers.Sequence bit) (Some (header_pair s)) ss k hs (first_note end (pictures_in es)) place bytes ending
    (first_of_rest ss k (header_pair s) later g))
    ∙ front_before hs es (with_sequence a bit s) ss (k + 1) end place bytes ending f (go_on_behind ss k (header_pair s) later g)
front_before (headers.Sequence bit ∷ hs) (group_header x ∷ es) a ss k end place bytes ending f g = absurd f
front_before (headers.Sequence bit ∷ hs) (coded_picture p ∷ es) a ss k end place bytes ending f g = absurd f
front_before (headers.Group bit x ∷ hs) [] a ss k end place bytes ending f g = absurd f
front_before (headers.Group bit x ∷ hs) (sequence_header s ∷ es) a ss k end place bytes ending f g = absurd f
front_before (headers.Group bit x ∷ hs) (group_header y ∷ es) a ss k end place bytes ending f g =
    ap before (header_left a (headers.Group bit x) (slice_get ss k) ss k hs (first_note end (pictures_in es)) place bytes ending refl)
    ∙ front_before hs es (with_group a bit x) ss (k + 0) end place bytes ending f.1
    (subst (λ (n : ℕ). GoesOn ss n (map header_pair (sequences_in es))) (omega arith) g)
front_before (headers.Group bit x ∷ hs) (coded_picture p ∷ es) a ss k end place bytes ending f g = absurd f

module _ (may : ℕ → Type 0) where
  -- ---- what may be remarked of events

  -- of a group header and of a picture, where a sequence header came
  abbrev pub MayBeGroup : Leading → Option Sequence → GroupInfo → Type 0
  MayBeGroup before None g = Unit {0}
  MayBeGroup before (Some s) g = GroupMayBe may before s.info.frame_rate_code g

  abbrev pub MayBePicture : Before → Option Sequence → PictureNote → Type 0
  MayBePicture x None n = Unit {0}
  MayBePicture x (Some s) n = let p = coming x.kept s n in PictureMayBe may x.headed (rate_behind x.kept p) p

  -- of an event, behind what came before it, in a sequence with this first header
  abbrev pub MayBeEvent : Sequence → Before → ℕ × Event → Type 0
  MayBeEvent first x (end, sequence_header s) = SequenceMayBe may (leads_with x) first s
  MayBeEvent first x (end, group_header g) = MayBeGroup (leads_with x) x.kept.sequence g
  MayBeEvent first x (end, coded_picture p) = MayBePicture x x.kept.sequence (note_of end p)

  -- of the end
  abbrev pub MayBeEnd : Before → Type 0
  MayBeEnd x = MayBe may (late_header_rule (leads_with x))

  abbrev pub MayBeAll : Sequence → Before → Marked → Type 0
  MayBeAll first x [] = Unit {0}
  MayBeAll first x (y ∷ ys) = MayBeEvent first x y × MayBeAll first (before_with x y) ys

  pub maybe_parts : (first : Sequence) (x : Before) (ys zs : Marked) → MayBeAll first x (ys ++ zs)
      → MayBeAll first x ys × MayBeAll first (before_behind x ys) zs
  maybe_parts first x [] zs h = (tt, h)
  maybe_parts first x (y ∷ ys) zs h = let more = maybe_parts first (before_with x y) ys zs h.1 in ((h.0, more.0), more.1)

  -- ---- what is found of them

  module _ (law : (rule : ℕ) → nat_le rule 15 ≡ true → may rule) (first : Sequence) where
    -- a sequence under the rules that every stream has to keep, with this first header
    pub record IsPlain (a : Auditing) : Type 0 where
      pub rules : a.rules ≡ sets.Main
      pub header : a.first ≡ Some first

    of_sequence : (a : Auditing) (bit : ℕ) (s : Sequence) → IsPlain a → SequenceMayBe may (leading a) first s →
        let n = a.report.sequence in
        AreOf may (found_at n a.pictures bit (sequence_breaches (s ∷ [])) ++ sequence_found n a.rules a.like (leading a) a.pictures bit (first_or a.first s) s)
    of_sequence a bit s is h =
        let n = a.report.sequence in
        let found : RuleSet → Option Sequence → List Finding = λ rules o. sequence_found n rules a.like (leading a) a.pictures bit (first_or o s) s in
        found_both (found_judged may law n a.pictures bit (sequence_breaches (s ∷ [])) (header_of a.pictures s))
        (subst (λ (rules : RuleSet). AreOf may (found rules a.first)) (sym is.rules)
        (subst (λ (o : Option Sequence). AreOf may (found sets.Main o)) (sym is.header)
        (found_of_sequence may n a.like (leading a) a.pictures bit first s h)))

    group_by : (n : ℕ) (before : Behind) (picture bit : ℕ) (o : Option Sequence) (g : GroupInfo) → MayBeGroup before.headers o g
        → AreOf may (group_found n sets.Main before picture bit o g)
    group_by n before picture bit None g h = found_none
    group_by n before picture bit (Some s) g h = found_of_group may n before picture bit s g h

    of_group : (a : Auditing) (bit : ℕ) (g : GroupInfo) → IsPlain a → MayBeGroup (leading a) a.sequence g →
        let n = a.report.sequence in
        AreOf may (found_misplaced n (told_at_close a.places) ++ group_found n a.rules (behind a) a.pictures bit a.sequence g)
    of_group a bit g is h =
        let n = a.report.sequence in
        found_both (found_places may law n (told_at_close a.places))
        (subst (λ (rules : RuleSet). AreOf may (group_found n rules (behind a) a.pictures bit a.sequence g)) (sym is.rules)
        (group_by n (behind a) a.pictures bit a.sequence g h))

    of_coded : (a : Auditing) (p : CodedPicture) → IsPlain a → PictureMayBe may a.headed (counted a p).constant p →
        let before = preceding a p.sequence in
        arrival_rule before.rate before.picture p ≡ [] → AreOf may (coded_found a p)
    unfolding other_rules
    of_coded a p is h arrives =
        let n = a.report.sequence in
        let c = (counted a p).constant in
        let before = preceding a p.sequence in
        found_both
        (found_both (found_judged may law n p.number (bit_of p.note) (rules_of c p) (others_of c (numbered_of p)))
        (subst (λ (rules : RuleSet). AreOf may (picture_found n rules before c a.runs p)) (sym is.rules)
        (found_of_picture may n before c a.runs p h arrives)))
        (found_if (ends_frame p.note) (found_misplaced n (told_with_frame a.places (waiting_of p) (is_b p.note.info.kind)))
        (found_places may law n (told_with_frame a.places (waiting_of p) (is_b p.note.info.kind))))

    of_note : (a : Auditing) (o : Option Sequence) (n : PictureNote) → IsPlain a → MayBePicture (before a) o n
        → arrivals_by a o (Some n) ≡ [] → AreOf may (note_found a o (Some n))
    of_note a None n is h arrives = found_none
    of_note a (Some s) n is h arrives = of_coded a (coded a s n) is h arrives

    -- at the end, where the sequence began
    pub of_end : (a : Auditing) → IsPlain a → MayBeEnd (before a) → AreOf may (end_found a)
    of_end a is h =
        let n = a.report.sequence in
        subst (λ (o : Option Sequence). AreOf may (end_found_by o a)) (sym is.header)
        (found_both (found_places may law n (told_at_close a.places)) (found_of_end may n (leading a) a.pictures a.last h))

    -- ---- headers, and then a picture

    one_more : (a : Auditing) (h : PieceHeader) (s : Option Pair) (ss : List Pair) (k : ℕ) (hs : List PieceHeader) (n : Option PictureNote) → slice_get ss k ≡ s
        → AreOf may (header_found a h s) → AreOf may (found_in (with_header a h s) ss (k + sequences_of h) hs n)
        → AreOf may (found_in a ss k (h ∷ hs) n)
    one_more a h s ss k hs n get here later = subst (AreOf may) (sym (header_first a h s ss k hs n get)) (found_both here later)

    -- in a piece that tells these events
    pub of_front : (hs : List PieceHeader) (es : Events) (a : Auditing) (ss : List Pair) (k end : ℕ) → Fronts hs es
        → GoesOn ss k (map header_pair (sequences_in es)) → IsPlain a
        → MayBeAll first (before a) (marked end es) → arrivals_in a ss k hs (first_note end (pictures_in es)) ≡ []
        → AreOf may (found_in a ss k hs (first_note end (pictures_in es)))
    unfolding headers_found with_headers with_header sequences_of
    of_front [] [] a ss k end f g is h arrives = found_none
    of_front [] (sequence_header s ∷ es) a ss k end f g is h arrives = absurd f
    of_front [] (group_header x ∷ es) a ss k end f g is h arrives = absurd f
    of_front [] (coded_picture p ∷ es) a ss k end f g is h arrives = of_note a a.sequence (note_of end p) is h.0 arrives
    of_front (headers.Sequence bit ∷ hs) [] a ss k end f g is h arrives = absurd f
    of_front (headers.Sequence bit ∷ hs) (sequence_header s ∷ es) a ss k end f g is h arrives =
        let later = map header_pair (sequences_in es) in
        let next : IsPlain (with_sequence a bit s) = record { rules = is.rules; header = is.header } in
        one_more a (headers.Sequence bit) (Some (header_pair s)) ss k hs (first_note end (pictures_in es)) (first_of_rest ss k (header_pair s) later g)
        (of_sequence a bit s is h.0)
        (of_front hs es (with_sequence a bit s) ss (k + 1) end f (go_on_behind ss k (header_pair s) later g) next h.1
        (sym (arrivals_first a (headers.Sequence bit) (Some (header_pair s)) ss k hs (first_note end (pictures_in es)) (first_of_rest ss k (header_pair s) later g))
        ∙ arrives))
    of_front (headers.Sequence bit ∷ hs) (group_header x ∷ es) a ss k end f g is h arrives = absurd f
    of_front (headers.Sequence bit ∷ hs) (coded_picture p ∷ es) a ss k end f g is h arrives = absurd f
    of_front (headers.Group bit x ∷ hs) [] a ss k end f g is h arrives = absurd f
    of_front (headers.Group bit x ∷ hs) (sequence_header s ∷ es) a ss k end f g is h arrives = absurd f
    of_front (headers.Group bit x ∷ hs) (group_header y ∷ es) a ss k end f g is h arrives =
        let next : IsPlain (with_group a bit x) = record { rules = is.rules; header = is.header } in
        one_more a (headers.Group bit x) (slice_get ss k) ss k hs (first_note end (pictures_in es)) refl
        (of_group a bit x is (subst (λ (z : GroupInfo). MayBeGroup (leading a) a.sequence z) (sym f.0) h.0))
        (of_front hs es (with_group a bit x) ss (k + 0) end f.1
        (subst (λ (n : ℕ). GoesOn ss n (map header_pair (sequences_in es))) (omega arith) g) next h.1
        (sym (arrivals_first a (headers.Group bit x) (slice_get ss k) ss k hs (first_note end (pictures_in es)) refl) ∙ arrives))
    of_front (headers.Group bit x ∷ hs) (coded_picture p ∷ es) a ss k end f g is h arrives = absurd f
