-- What is noted of events, and of those behind them.
use Rattle.std.proofs.Common.{◌≡◌, ℕ, Bool, true, false, List, [], ◌∷◌, ◌++◌, map, Option, Some, None, refl, sym, ap, ◌∙◌, append_assoc}
use Rattle.std.specs.Prelude.{◌||◌}
use Rattle.std.proofs.lemmas.List.{append-nil, map-append}
use Rattle.m2v_head.specs.declared.sequence.SequenceInfo.{SequenceInfo}
use Rattle.m2v_head.specs.declared.sequence.SequenceExtension.{SequenceExtension}
use Rattle.m2v_head.specs.declared.group.GroupInfo.{GroupInfo}
use Rattle.m2v_model.specs.declared.state.Sequence.{Sequence}
use Rattle.m2v_model.specs.declared.notes.PictureNote.{PictureNote}
use Rattle.m2v_model.specs.Pictures.{Picture, Pictures, Events, sequence_header, group_header, coded_picture, pictures_in}
use Rattle.m2v_model.specs.Lawful.{sequences_in}
use Rattle.m2v_model.specs.PieceNotes.{PieceNotes, header_pair, has_group, note_of, first_note}
use Rattle.m2v_model.proofs.EventLaws.{pictures_in-append, sequences_in-append}
use Rattle.m2v_decode.specs.Course.{note_or, with_events}

or_none : (b : Bool) → (b || false) ≡ b
or_none true = refl
or_none false = refl

or_twice : (a b c : Bool) → ((a || b) || c) ≡ (a || (b || c))
or_twice true b c = refl
or_twice false b c = refl

note_none : (a : Option PictureNote) → note_or a None ≡ a
note_none (Some n) = refl
note_none None = refl

note_twice : (a b c : Option PictureNote) → note_or (note_or a b) c ≡ note_or a (note_or b c)
note_twice (Some n) b c = refl
note_twice None b c = refl

group-append : (es fs : Events) → has_group (es ++ fs) ≡ (has_group es || has_group fs)
unfolding has_group
group-append [] fs = refl
group-append (sequence_header s ∷ es) fs = group-append es fs
group-append (group_header g ∷ es) fs = refl
group-append (coded_picture p ∷ es) fs = group-append es fs

first-append : (k : ℕ) (ps qs : Pictures) → first_note k (ps ++ qs) ≡ note_or (first_note k ps) (first_note k qs)
first-append k [] qs = refl
first-append k (p ∷ ps) qs = refl

-- nothing more was told
pub notes_same : (k : ℕ) (n : PieceNotes) → n ≡ with_events k n []
unfolding has_group
notes_same k n = λ i. record {
  sequences = sym (append-nil n.sequences) i;
  group = sym (or_none n.group) i;
  picture = sym (note_none n.picture) i;
}

-- events, and those behind them
pub notes-append : (k : ℕ) (n : PieceNotes) (es fs : Events) → with_events k (with_events k n es) fs ≡ with_events k n (es ++ fs)
notes-append k n es fs =
    let sequences : (n.sequences ++ map header_pair (sequences_in es)) ++ map header_pair (sequences_in fs) ≡ n.sequences ++ map header_pair (sequences_in (es ++ fs)) =
    append_assoc n.sequences (map header_pair (sequences_in es)) (map header_pair (sequences_in fs))
    ∙ ap (λ (l : List (SequenceInfo × SequenceExtension)). n.sequences ++ l) (sym (ap (map header_pair) (sequences_in-append es fs) ∙ map-append header_pair (sequences_in es) (sequences_in fs))) in
    let group : ((n.group || has_group es) || has_group fs) ≡ (n.group || has_group (es ++ fs)) = or_twice n.group (has_group es) (has_group fs) ∙ ap (λ (b : Bool). n.group || b) (sym (group-append es fs)) in
    let picture : note_or (note_or n.picture (first_note k (pictures_in es))) (first_note k (pictures_in fs)) ≡ note_or n.picture (first_note k (pictures_in (es ++ fs))) =
    note_twice n.picture (first_note k (pictures_in es)) (first_note k (pictures_in fs))
    ∙ ap (note_or n.picture) (sym (ap (first_note k) (pictures_in-append es fs) ∙ first-append k (pictures_in es) (pictures_in fs))) in
    λ i. record { sequences = sequences i; group = group i; picture = picture i }

-- what is noted of events, and of those behind them
pub noted_on : (k j : ℕ) (a b c : PieceNotes) (es fs : Events) → b ≡ with_events k a es → j ≡ k → c ≡ with_events j b fs → c ≡ with_events k a (es ++ fs)
noted_on k j a b c es fs first same second =
    second ∙ ap (λ (m : ℕ). with_events m b fs) same ∙ ap (λ (n : PieceNotes). with_events k n fs) first ∙ notes-append k a es fs

pub sequence_noted : (k : ℕ) (n : PieceNotes) (s : Sequence) → record n { sequences = n.sequences ++ (s.info, s.extension) ∷ [] } ≡ with_events k n (sequence_header s ∷ [])
unfolding has_group
sequence_noted k n s = λ i. record {
  sequences = n.sequences ++ (s.info, s.extension) ∷ [];
  group = sym (or_none n.group) i;
  picture = sym (note_none n.picture) i;
}

or_true : (b : Bool) → true ≡ (b || true)
or_true true = refl
or_true false = refl

pub group_noted : (k : ℕ) (n : PieceNotes) (g : GroupInfo) → record n { group = true } ≡ with_events k n (group_header g ∷ [])
unfolding has_group
group_noted k n g = λ i. record {
  sequences = sym (append-nil n.sequences) i;
  group = or_true n.group i;
  picture = sym (note_none n.picture) i;
}

-- a picture is noted where it is the first
pub picture_noted : (k : ℕ) (n : PieceNotes) (p : Picture) (x : Option PictureNote) → x ≡ note_or n.picture (Some (note_of k p)) → record n { picture = x } ≡ with_events k n (coded_picture p ∷ [])
unfolding has_group
picture_noted k n p x e = λ i. record {
  sequences = sym (append-nil n.sequences) i;
  group = sym (or_none n.group) i;
  picture = e i;
}
