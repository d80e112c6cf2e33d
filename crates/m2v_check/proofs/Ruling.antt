-- What the judge keeps of events, piece by piece, is what stands of all events.
use Rattle.std.proofs.Common.{◌≡◌, ℕ, ◌+◌, ◌*◌, ◌≤◌, Bool, true, false, List, [], ◌∷◌, ◌++◌, length, map, Option, Some, None, refl, sym, ap, subst, ◌∙◌, arith, inl, inr}
use Rattle.std.specs.Prelude.{IsSome, if◌then◌else◌, nat_lt}
use Rattle.std.proofs.lemmas.Bool.{cases_Bool}
use Rattle.std.proofs.lemmas.List.{append-nil}
use Rattle.m2v_head.specs.declared.sequence.SequenceInfo.{SequenceInfo}
use Rattle.m2v_head.specs.declared.sequence.SequenceExtension.{SequenceExtension}
use Rattle.m2v_model.specs.declared.state.Sequence.{Sequence}
use Rattle.m2v_model.specs.declared.notes.Notes.{Notes}
use Rattle.m2v_model.specs.declared.notes.PictureNote.{PictureNote}
use Rattle.m2v_model.specs.States.{first_or}
use Rattle.m2v_model.specs.Pictures.{Picture, Events, sequence_header, group_header, coded_picture, pictures_in}
use Rattle.m2v_model.specs.PieceNotes.{PieceNotes, noted, notes_of, note_of, first_note, has_group, header_pair}
use Rattle.m2v_model.specs.Lawful.{Numbered, numbered, all_numbered, sequences_in, sequence_breaches}
use Rattle.m2v_model.specs.Buffering.{code_bits}
use Rattle.m2v_check.specs.declared.rules.Rules.{Rules}
use Rattle.m2v_check.specs.declared.broken.BrokenRule.{BrokenRule}
use Rattle.m2v_check.specs.Breaking.{found, first_some}
use Rattle.m2v_check.specs.Running.{no_rules, with_sequence, with_group, with_picture, coded_next, lesser, broken_in, all_broken}
use Rattle.m2v_check.specs.Laws.{rules_after, with_coded}
use Rattle.m2v_check.specs.Judging.{noted_rules, judged_rules, with_note, with_one}
use Rattle.m2v_check.proofs.Telling.{first_in, last_in, AreHeaded}
use Rattle.m2v_check.proofs.Ordered.{PictureLast}

-- ---- rules

abbrev by_headers : Rules → Bool → List (SequenceInfo × SequenceExtension) → Rules
by_headers r group ss = if group then with_group (noted_rules r ss) else noted_rules r ss

group_before : (r : Rules) (ss : List (SequenceInfo × SequenceExtension)) → noted_rules (with_group r) ss ≡ with_group (noted_rules r ss)
group_before r [] = refl
group_before r (s ∷ ss) = group_before (with_sequence r (record { info = s.0; extension = s.1 })) ss

group_twice : (b : Bool) (r : Rules) (ss : List (SequenceInfo × SequenceExtension)) → with_group (noted_rules r ss) ≡ by_headers (with_group r) b ss
group_twice true r ss = ap with_group (sym (group_before r ss))
group_twice false r ss = sym (group_before r ss)

-- where the start code ends is of no matter to the rules
one_picture : (r : Rules) (k : ℕ) (p : Picture) (o : Option Sequence) → with_one r o (note_of k p) ≡ with_coded r o p
one_picture r k p None = refl
one_picture r k p (Some s) = refl

headers_rules : (k : ℕ) (es : Events) (r : Rules) → PictureLast es → with_note (by_headers r (has_group es) (map header_pair (sequences_in es))) (first_note k (pictures_in es)) ≡ rules_after r es
unfolding has_group rules_after
headers_rules k [] r h = refl
headers_rules k (sequence_header s ∷ es) r h = headers_rules k es (with_sequence r s) h
headers_rules k (group_header g ∷ es) r h =
    ap (λ (x : Rules). with_note x (first_note k (pictures_in es))) (group_twice (has_group es) r (map header_pair (sequences_in es))) ∙ headers_rules k es (with_group r) h
headers_rules k (coded_picture p ∷ es) r h =
    subst (λ (l : Events). with_note (by_headers r (has_group l) (map header_pair (sequences_in l))) (Some (note_of k p)) ≡ rules_after (with_coded r r.sequence p) l) (sym h) (one_picture r k p r.sequence)

-- the rules behind a piece whose picture comes last
pub piece_rules : (place : ℕ) (piece : List ℕ) (es : Events) (notes : Notes) (r : Rules) → noted notes ≡ notes_of place piece es → PictureLast es → with_note (judged_rules r notes) notes.picture ≡ rules_after r es
unfolding notes_of
piece_rules place piece es notes r e h =
    ap (λ (n : PieceNotes). with_note (by_headers r n.group n.sequences) n.picture) e ∙ headers_rules (8 * place + code_bits piece) es r h

pub rules-append : (r : Rules) (es fs : Events) → rules_after r (es ++ fs) ≡ rules_after (rules_after r es) fs
unfolding rules_after
rules-append r [] fs = refl
rules-append r (sequence_header s ∷ es) fs = rules-append (with_sequence r s) es fs
rules-append r (group_header g ∷ es) fs = rules-append (with_group r) es fs
rules-append r (coded_picture p ∷ es) fs = rules-append (with_coded r r.sequence p) es fs

-- ---- what the headers of a piece leave

pub record Headed (r : Rules) (es : Events) (x : Rules) : Type 0 where
  pub first : x.first ≡ first_in r.first es
  pub sequence : x.sequence ≡ last_in r.sequence es
  pub pictures : x.pictures ≡ r.pictures

headed_notes : (es : Events) (r : Rules) → Headed r es (noted_rules r (map header_pair (sequences_in es)))
headed_notes [] r = record { first = refl; sequence = refl; pictures = refl }
headed_notes (sequence_header s ∷ es) r = let h = headed_notes es (with_sequence r s) in record { first = h.first; sequence = h.sequence; pictures = h.pictures }
headed_notes (group_header g ∷ es) r = let h = headed_notes es r in record { first = h.first; sequence = h.sequence; pictures = h.pictures }
headed_notes (coded_picture p ∷ es) r = let h = headed_notes es r in record { first = h.first; sequence = h.sequence; pictures = h.pictures }

headed_group : (b : Bool) (r : Rules) (es : Events) → Headed r es (by_headers r b (map header_pair (sequences_in es)))
headed_group true r es = let h = headed_notes es r in record { first = h.first; sequence = h.sequence; pictures = h.pictures }
headed_group false r es = headed_notes es r

pub headers_leave : (place : ℕ) (piece : List ℕ) (es : Events) (notes : Notes) (r : Rules) → noted notes ≡ notes_of place piece es → Headed r es (judged_rules r notes)
unfolding notes_of
headers_leave place piece es notes r e =
    subst (λ (n : PieceNotes). Headed r es (by_headers r n.group n.sequences)) (sym e) (headed_group (has_group es) r es)

-- ---- pictures, whatever notes are

noted_pictures : (r : Rules) (ss : List (SequenceInfo × SequenceExtension)) → (noted_rules r ss).pictures ≡ r.pictures
noted_pictures r [] = refl
noted_pictures r (s ∷ ss) = noted_pictures (with_sequence r (record { info = s.0; extension = s.1 })) ss

group_pictures : (b : Bool) (r : Rules) (ss : List (SequenceInfo × SequenceExtension)) → (by_headers r b ss).pictures ≡ r.pictures
group_pictures true r ss = noted_pictures r ss
group_pictures false r ss = noted_pictures r ss

one_pictures : (r : Rules) (o : Option Sequence) (n : PictureNote) → (with_one r o n).pictures ≤ r.pictures + 1
one_pictures r None n = omega arith
one_pictures r (Some s) n = omega arith

note_pictures : (r : Rules) (n : Option PictureNote) → (with_note r n).pictures ≤ r.pictures + 1
note_pictures r None = omega arith
note_pictures r (Some n) = one_pictures r r.sequence n

pub few_pictures : (r : Rules) (notes : Notes) → (with_note (judged_rules r notes) notes.picture).pictures ≤ r.pictures + 1
few_pictures r notes =
    let e = group_pictures notes.group r notes.sequences.items in
    let most = note_pictures (judged_rules r notes) notes.picture in
    omega (arith, e, most)

-- ---- rules behind all events

-- which headers are the first one and the last one
rules_headers : (r : Rules) (es : Events) → ((rules_after r es).first ≡ first_in r.first es) × ((rules_after r es).sequence ≡ last_in r.sequence es)
unfolding rules_after
rules_headers r [] = (refl, refl)
rules_headers r (sequence_header s ∷ es) = rules_headers (with_sequence r s) es
rules_headers r (group_header g ∷ es) = rules_headers (with_group r) es
rules_headers r (coded_picture p ∷ es) =
    let h = rules_headers (with_coded r r.sequence p) es in
    let k = kept r.sequence in
    (h.0 ∙ ap (λ (o : Option Sequence). first_in o es) k.0, h.1 ∙ ap (λ (o : Option Sequence). last_in o es) k.1)
  where
    kept : (o : Option Sequence) → ((with_coded r o p).first ≡ r.first) × ((with_coded r o p).sequence ≡ r.sequence)
    kept None = (refl, refl)
    kept (Some s) = (refl, refl)

pub rules_first : (r : Rules) (es : Events) → (rules_after r es).first ≡ first_in r.first es
rules_first r es = (rules_headers r es).0

pub rules_sequence : (r : Rules) (es : Events) → (rules_after r es).sequence ≡ last_in r.sequence es
rules_sequence r es = (rules_headers r es).1

pub rules_pictures : (r : Rules) (es : Events) (o : Option Sequence) (group : ℕ) (first_in_group : Bool) (number frames : ℕ) → r.sequence ≡ o
    → (rules_after r es).pictures ≡ r.pictures + length (numbered o group first_in_group number frames es)
unfolding rules_after numbered
rules_pictures r [] o group first_in_group number frames e = omega arith
rules_pictures r (sequence_header s ∷ es) o group first_in_group number frames e = rules_pictures (with_sequence r s) es (Some s) group first_in_group number frames refl
rules_pictures r (group_header g ∷ es) o group first_in_group number frames e = rules_pictures (with_group r) es o (group + 1) true number frames e
rules_pictures r (coded_picture p ∷ es) None group first_in_group number frames e =
    ap (λ (q : Option Sequence). (rules_after (with_coded r q p) es).pictures) e ∙ rules_pictures r es None group first_in_group number frames e
rules_pictures r (coded_picture p ∷ es) (Some s) group first_in_group number frames e =
    let c = coded_next r s (note_of 0 p) in
    let more = rules_pictures (with_picture r c) es (Some s) group false (number + 1) (if p.ends_frame then frames + 1 else frames) e in
    ap (λ (q : Option Sequence). (rules_after (with_coded r q p) es).pictures) e ∙ more ∙ omega arith

-- ---- a first sequence header that breaks a rule

abbrev BreaksFirst : Rules → Type 0
BreaksFirst r = (s : Sequence) → r.first ≡ Some s → IsSome (found (sequence_breaches (s ∷ []))) → IsSome r.headers

lesser_left : (a b : Option BrokenRule) → IsSome a → IsSome (lesser a b)
lesser_left None b h = absurd cc
lesser_left (Some x) None h = refl
lesser_left (Some x) (Some y) h = elim (cases_Bool (nat_lt y.rule x.rule)) [
  | inl on ↦ rw on refl
  | inr off ↦ rw off refl
]

lesser_right : (a b : Option BrokenRule) → IsSome b → IsSome (lesser a b)
lesser_right None b h = h
lesser_right (Some x) b h = lesser_left (Some x) b refl

breaks_on : (r : Rules) (t : Sequence) (o : Option Sequence) → r.first ≡ o → BreaksFirst r → (s : Sequence) → Some (first_or o t) ≡ Some s → IsSome (found (sequence_breaches (s ∷ []))) → IsSome (lesser r.headers (found (sequence_breaches (t ∷ []))))
breaks_on r t None e h s is b =
    let same : t ≡ s = cc in
    lesser_right r.headers (found (sequence_breaches (t ∷ []))) (subst (λ (x : Sequence). IsSome (found (sequence_breaches (x ∷ [])))) (sym same) b)
breaks_on r t (Some f) e h s is b = lesser_left r.headers (found (sequence_breaches (t ∷ []))) (h s (e ∙ is) b)

breaks_all : (r : Rules) (es : Events) → BreaksFirst r → BreaksFirst (rules_after r es)
unfolding rules_after
breaks_all r [] h = h
breaks_all r (sequence_header s ∷ es) h = breaks_all (with_sequence r s) es (breaks_on r s r.first refl h)
breaks_all r (group_header g ∷ es) h = breaks_all (with_group r) es h
breaks_all r (coded_picture p ∷ es) h = breaks_all (with_coded r r.sequence p) es (kept r.sequence)
  where
    kept : (o : Option Sequence) → BreaksFirst (with_coded r o p)
    kept None = h
    kept (Some s) = h

some_first : (a b : Option BrokenRule) → IsSome a → first_some a b ≡ None → ⊥
some_first None b h e = absurd cc
some_first (Some x) b h e = absurd cc

-- then a rule is broken
pub first_breaks : (es : Events) (s : Sequence) → first_in None es ≡ Some s → IsSome (found (sequence_breaches (s ∷ []))) → broken_in (rules_after no_rules es) ≡ None → ⊥
first_breaks es s e b none =
    let r = rules_after no_rules es in
    some_first r.headers (all_broken r.places) (breaks_all no_rules es (λ t is h. absurd cc) s (rules_first no_rules es ∙ e) b) none

-- ---- pictures among the others

record Behind (o : Option Sequence) (xs : List Numbered) (es fs all : Events) (l : List Numbered) : Type 0 where
  pub group : ℕ
  pub first_in_group : Bool
  pub number : ℕ
  pub frames : ℕ
  pub is : l ≡ xs ++ numbered (last_in o es) group first_in_group number frames fs

numbered-append : (o : Option Sequence) (group : ℕ) (first_in_group : Bool) (number frames : ℕ) (es fs : Events)
    → Behind o (numbered o group first_in_group number frames es) es fs (es ++ fs) (numbered o group first_in_group number frames (es ++ fs))
unfolding numbered
numbered-append o group first_in_group number frames [] fs = record { group = group; first_in_group = first_in_group; number = number; frames = frames; is = refl }
numbered-append o group first_in_group number frames (sequence_header s ∷ es) fs =
    let h = numbered-append (Some s) group first_in_group number frames es fs in
    record { group = h.group; first_in_group = h.first_in_group; number = h.number; frames = h.frames; is = h.is }
numbered-append o group first_in_group number frames (group_header g ∷ es) fs =
    let h = numbered-append o (group + 1) true number frames es fs in
    record { group = h.group; first_in_group = h.first_in_group; number = h.number; frames = h.frames; is = h.is }
numbered-append None group first_in_group number frames (coded_picture p ∷ es) fs =
    let h = numbered-append None group first_in_group number frames es fs in
    record { group = h.group; first_in_group = h.first_in_group; number = h.number; frames = h.frames; is = h.is }
numbered-append (Some s) group first_in_group number frames (coded_picture p ∷ es) fs =
    let n : Numbered = record { number = number; sequence = s; group = group; first_in_group = first_in_group; frame = frames; picture = p } in
    let h = numbered-append (Some s) group false (number + 1) (if p.ends_frame then frames + 1 else frames) es fs in
    record { group = h.group; first_in_group = h.first_in_group; number = h.number; frames = h.frames; is = ap (λ (l : List Numbered). n ∷ l) h.is }

pub numbered_none : (o : Option Sequence) (group : ℕ) (first_in_group : Bool) (number frames : ℕ) (es : Events) → pictures_in es ≡ [] → numbered o group first_in_group number frames es ≡ []
unfolding numbered
numbered_none o group first_in_group number frames [] e = refl
numbered_none o group first_in_group number frames (sequence_header s ∷ es) e = numbered_none (Some s) group first_in_group number frames es e
numbered_none o group first_in_group number frames (group_header g ∷ es) e = numbered_none o (group + 1) true number frames es e
numbered_none None group first_in_group number frames (coded_picture p ∷ es) e = absurd cc
numbered_none (Some s) group first_in_group number frames (coded_picture p ∷ es) e = absurd cc

-- one picture, behind a sequence header
pub record One (o : Option Sequence) (fs : Events) (q : Picture) (l : List Numbered) : Type 0 where
  pub picture : Numbered
  pub is : l ≡ picture ∷ []
  pub same : picture.picture ≡ q
  pub sequence : last_in o fs ≡ Some picture.sequence

numbered_one : (o : Option Sequence) (group : ℕ) (first_in_group : Bool) (number frames : ℕ) (es : Events) (q : Picture) → PictureLast es → AreHeaded o es → pictures_in es ≡ q ∷ []
    → One o es q (numbered o group first_in_group number frames es)
unfolding numbered
numbered_one o group first_in_group number frames [] q h k e = absurd cc
numbered_one o group first_in_group number frames (sequence_header s ∷ es) q h k e =
    let x = numbered_one (Some s) group first_in_group number frames es q h k e in
    record { picture = x.picture; is = x.is; same = x.same; sequence = x.sequence }
numbered_one o group first_in_group number frames (group_header g ∷ es) q h k e =
    let x = numbered_one o (group + 1) true number frames es q h k e in
    record { picture = x.picture; is = x.is; same = x.same; sequence = x.sequence }
numbered_one None group first_in_group number frames (coded_picture p ∷ es) q h k e = let none = k.0 in absurd cc
numbered_one (Some s) group first_in_group number frames (coded_picture p ∷ es) q h k e =
    let n : Numbered = record { number = number; sequence = s; group = group; first_in_group = first_in_group; frame = frames; picture = p } in
    let is : p ≡ q = cc in
    let rest : List Numbered = numbered (Some s) group false (number + 1) (if p.ends_frame then frames + 1 else frames) es in
    let none : rest ≡ [] = numbered_none (Some s) group false (number + 1) (if p.ends_frame then frames + 1 else frames) es (ap pictures_in h) in
    record { picture = n; is = ap (λ (l : List Numbered). n ∷ l) none; same = is; sequence = ap (λ (l : Events). last_in (Some s) l) h }

-- the pictures of events, and of those behind them that have none, or one
pub all_none : (es fs : Events) → pictures_in fs ≡ [] → all_numbered (es ++ fs) ≡ all_numbered es
all_none es fs e =
    let h = numbered-append None 0 false 0 0 es fs in
    h.is ∙ ap (λ (l : List Numbered). all_numbered es ++ l) (numbered_none (last_in None es) h.group h.first_in_group h.number h.frames fs e) ∙ append-nil (all_numbered es)

pub record OneMore (es fs : Events) (q : Picture) : Type 0 where
  pub picture : Numbered
  pub is : all_numbered (es ++ fs) ≡ all_numbered es ++ picture ∷ []
  pub same : picture.picture ≡ q
  pub sequence : last_in (last_in None es) fs ≡ Some picture.sequence

pub all_one : (es fs : Events) (q : Picture) → PictureLast fs → AreHeaded (last_in None es) fs → pictures_in fs ≡ q ∷ [] → OneMore es fs q
all_one es fs q h k e =
    let a = numbered-append None 0 false 0 0 es fs in
    let x = numbered_one (last_in None es) a.group a.first_in_group a.number a.frames fs q h k e in
    record { picture = x.picture; is = a.is ∙ ap (λ (l : List Numbered). all_numbered es ++ l) x.is; same = x.same; sequence = x.sequence }
