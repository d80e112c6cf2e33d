-- What the flat stream tells breaks no rule.
use Rattle.std.proofs.Common.{◌≡◌, ℕ, ◌+◌, Bool, not, List, [], ◌∷◌, ◌++◌, map, refl, ap, ◌∙◌}
use Rattle.std.specs.List.{flat_map}
use Rattle.m2v_flat.specs.declared.settings.FlatSettings.{FlatSettings}
use Rattle.m2v_flat.specs.Answers.{HasPassed}
use Rattle.m2v_flat.specs.Tree.{sequence_of, stream_parts}
use Rattle.m2v_flat.proofs.Pictures.{is_flat}
use Rattle.m2v_model.specs.declared.state.Sequence.{Sequence}
use Rattle.m2v_model.specs.States.{at_first}
use Rattle.m2v_model.specs.Pictures.{Events, no_frames, sequence_header, coded_picture, events_from}
use Rattle.m2v_model.specs.Lawful.{Numbered, numbered, sequence_breaches, picture_breaches, sequences_in, all_numbered, is_variable, breaches}
use Rattle.m2v_flat.specs.Told.{decoded_from}
use Rattle.m2v_flat.specs.Numbered.{counted_from}
use Rattle.m2v_flat.proofs.Frames.{parts_are}
use Rattle.m2v_flat.proofs.Sequences.{sequence_none}
use Rattle.m2v_flat.proofs.LawfulPictures.{counted_are, pictures_none}

-- what is told of frames
abbrev told : FlatSettings → List (List ℕ) → Events
told s frames = sequence_header (sequence_of s) ∷ map coded_picture (decoded_from s 0 frames)

no_headers : (s : FlatSettings) (number : ℕ) (frames : List (List ℕ)) → sequences_in (map coded_picture (decoded_from s number frames)) ≡ []
unfolding decoded_from
no_headers s number [] = refl
no_headers s number (raw ∷ frames) = no_headers s (number + 1) frames

one_header : (s : FlatSettings) (frames : List (List ℕ)) → sequences_in (told s frames) ≡ sequence_of s ∷ []
one_header s frames = ap (λ (ss : List Sequence). sequence_of s ∷ ss) (no_headers s 0 frames)

numbered_are : (s : FlatSettings) (frames : List (List ℕ)) → all_numbered (told s frames) ≡ counted_from s 0 frames
unfolding numbered
numbered_are s frames = counted_are s 0 frames

told_none : (s : FlatSettings) (low_delay : Bool) (frames : List (List ℕ)) → HasPassed s → breaches low_delay (told s frames) ≡ []
unfolding breaches
told_none s low_delay frames passed =
    let rest = λ (ns : List Numbered). flat_map (picture_breaches low_delay (not (is_variable ns)) ns) ns in
    let ns = counted_from s 0 frames in
    ap (λ (ss : List Sequence). sequence_breaches ss ++ rest (all_numbered (told s frames))) (one_header s frames)
    ∙ ap (λ xs. xs ++ rest (all_numbered (told s frames))) (sequence_none s passed)
    ∙ ap rest (numbered_are s frames)
    ∙ pictures_none s low_delay (not (is_variable ns)) frames

-- the stream's parts break no rule, with low_delay or without
pub parts_none : (s : FlatSettings) (low_delay : Bool) (frames : List (List ℕ)) → HasPassed s
    → breaches low_delay (events_from at_first no_frames (stream_parts s frames)) ≡ []
parts_none s low_delay frames passed =
    ap (breaches low_delay) (parts_are s frames (is_flat s passed)) ∙ told_none s low_delay frames passed
